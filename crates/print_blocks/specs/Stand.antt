-- The work slice before the lines are put, and behind what is printed of a text. Assumes nothing.
--     shows_blocks           what the lines ask, where the blocks are laid out
--     WorkAfter, laid-..     the work slice behind what is printed of a text
use Rattle.std.specs.Prelude.{◌≡◌, refl, List, [], ◌∷◌, ℕ, ◌+◌, ◌-◌, ◌<◌, get_or, length, replicate}
use Rattle.std.proofs.Math.Path.{ap}
use Rattle.std.proofs.Common.{◌∙◌}
use native.Mathlib.Omega.{arith}
use Rattle.general_laws.specs.Compare.{lower, higher}
use Rattle.lifting.specs.Ast.{Func, Region}
use Rattle.lifting.specs.Walk.{walk_of}
use Rattle.lifting.specs.Absorb.{use_count}
use Rattle.lifting.specs.Answer.{Parsed, parsed, denied}
use Rattle.func.specs.Decode.{func_of}
use Rattle.work.specs.Layout.{lines_at, children_at, points_at, uses_at, uses_end}
use Rattle.walk_points.specs.Numbers.{point_of}
use Rattle.reader.specs.Parse.{work_after}
use Rattle.terminators.specs.Visited.{Visited}
use Rattle.blocks.specs.Words.{BlockWords, block_word, lay_word}
use Rattle.blocks.specs.Laid.{laid_blocks}
use Rattle.print_points.specs.Shows.{Shows}

module _ {w v u : List ℕ} {m : ℕ} (k : Visited w u m) (b : BlockWords (func_of w) v u) where
  counts : (q : ℕ) → q < 512 → get_or u (uses_at + q) 0 ≡ use_count (walk_of (func_of w)) (point_of q)
  unfolding block_word lay_word
  counts q h =
      let same : uses_at + q - uses_at ≡ q = omega arith in
      b.word (uses_at + q)
      ∙ higher (uses_at + q) lines_at _ _ (omega arith)
      ∙ higher (uses_at + q) children_at _ _ (omega arith)
      ∙ higher (uses_at + q) points_at _ _ (omega arith)
      ∙ higher (uses_at + q) uses_at _ _ (omega arith)
      ∙ lower (uses_at + q) uses_end _ _ (omega arith)
      ∙ ap (λ (n : ℕ). use_count (walk_of (func_of w)) (point_of n)) same

  pub shows_blocks : Shows w u m
  shows_blocks = record { visited = k; counted = record { word = counts }; absorbing = (laid_blocks k b).absorbing }

-- the work slice behind a function's lines, from the words w on: the words of its blocks, or what was there where it has no body
abbrev pub LaidOut : Func → List Region → List ℕ → List ℕ → Type 0
LaidOut F [] w u = u ≡ w
LaidOut F (r ∷ rs) w u = BlockWords F w u × (length u ≡ length w)

-- behind what is printed of a text: after a refusal as the reader leaves it, and else from zeros on
abbrev pub WorkAfter : Parsed → List ℕ → List ℕ → Type 0
WorkAfter (parsed F) w u = LaidOut F F.regions (replicate (length w) 0) u
WorkAfter (denied n) w u = u ≡ work_after (denied n) w

module _ (F : Func) (w u : List ℕ) where
  pub laid_none : (rs : List Region) → length rs ≡ 0 → LaidOut F rs w w
  laid_none [] e = refl
  laid_none (r ∷ rs) e = absurd (omega arith)

  pub laid_some : (rs : List Region) → 0 < length rs → BlockWords F w u → length u ≡ length w → LaidOut F rs w u
  laid_some [] h b l = absurd (omega arith)
  laid_some (r ∷ rs) h b l = (b, l)
