-- Document 01, 'Blocks and their order': the roots that ctrl lines reach, in reverse post-order of a depth-first walk from the body that
-- takes targets last to first (`rev_post_order` of spirt's cfg.rs). Assumes nothing.
use Rattle.std.specs.Prelude.{Bool, true, false, ℕ, zero, suc, length}
use mathlib.Core.List.{List, [], ◌∷◌, reverse}
use Rattle.std.proofs.Math.Option.{Option, none, some}
use Rattle.std.proofs.Math.Decide.{ℕ_discrete}
use Rattle.general_laws.specs.Lists.{within}
use Rattle.lifting.specs.Ast.{ControlInst, Func}
use Rattle.lifting.specs.Parts.{ctrl_of}

-- the roots seen so far, and those that are done, the last one first
pub record Seen : Type 0 where
  pub seen : List ℕ
  pub order : List ℕ

abbrev pub targets_of : Option ControlInst → List ℕ
targets_of none = []
targets_of (some c) = c.to

-- visit one after the other
abbrev pub visits : (ℕ → Seen → Seen) → List ℕ → Seen → Seen
visits v [] s = s
visits v (t ∷ ts) s = visits v ts (v t s)

module _ (F : Func) where
  -- a root that was seen is passed over; another is done once all of its targets are
  abbrev pub visit_if : Bool → (ℕ → Seen → Seen) → ℕ → Seen → Seen
  visit_if true v r s = s
  visit_if false v r s =
      let e = visits v (reverse (targets_of (ctrl_of F r))) (record { seen = r ∷ s.seen; order = s.order }) in
      record { seen = e.seen; order = r ∷ e.order }

  -- at most k roots deep
  abbrev pub visit : ℕ → ℕ → Seen → Seen
  visit zero r s = s
  visit (suc k) r s = visit_if (within r s.seen) (λ t x. visit k t x) r s

  unfoldable pub roots : List ℕ
  unfolding ℕ_discrete
  roots = (visit (suc (length F.regions)) 0 (record { seen = []; order = [] })).order
