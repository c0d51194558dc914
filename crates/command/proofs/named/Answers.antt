-- The match reads the word letter by letter; the longest name is more than the search takes at once.
use Rattle.std.proofs.Common.{◌≡◌, List, [], ◌∷◌, ℕ, get_or, length, sym, ap, arith}
use Rattle.lifting.specs.Bytes.{bytes}
use Rattle.command.specs.Named.{name_of}
use Rattle.command.proofs.named.Goals as goal

six : (w : List ℕ) → length w ≡ 6 → get_or w 0 0 ≡ 98 → get_or w 1 0 ≡ 108 → get_or w 2 0 ≡ 111 → get_or w 3 0 ≡ 99 → get_or w 4 0 ≡ 107 → get_or w 5 0 ≡ 115
    → w ≡ bytes "blocks"
six (a ∷ b ∷ c ∷ d ∷ e ∷ f ∷ []) l h₀ h₁ h₂ h₃ h₄ h₅ = cc
six [] l h₀ h₁ h₂ h₃ h₄ h₅ = absurd (omega arith)
six (a ∷ []) l h₀ h₁ h₂ h₃ h₄ h₅ = absurd (omega arith)
six (a ∷ b ∷ []) l h₀ h₁ h₂ h₃ h₄ h₅ = absurd (omega arith)
six (a ∷ b ∷ c ∷ []) l h₀ h₁ h₂ h₃ h₄ h₅ = absurd (omega arith)
six (a ∷ b ∷ c ∷ d ∷ []) l h₀ h₁ h₂ h₃ h₄ h₅ = absurd (omega arith)
six (a ∷ b ∷ c ∷ d ∷ e ∷ []) l h₀ h₁ h₂ h₃ h₄ h₅ = absurd (omega arith)
six (a ∷ b ∷ c ∷ d ∷ e ∷ f ∷ g ∷ w) l h₀ h₁ h₂ h₃ h₄ h₅ = absurd (omega arith)

pub returns-in-blocks : goal.returns-in-blocks
unfolding name_of
returns-in-blocks c = sym (ap name_of (six c.args.word.now (omega arith) (omega arith) (omega arith) (omega arith) (omega arith) (omega arith) (omega arith)))
