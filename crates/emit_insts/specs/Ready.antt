-- What emitting asks: the tables of the text, the laid-out blocks, and the new ids. Assumes nothing.
--     ready_visited     a text with a visited point has a walk
--     result_is         an op's result by its table word
--     label_at          a label by its table word
use Rattle.std.specs.Prelude.{◌≡◌, refl, List, get_or}
use Rattle.std.proofs.Math.Path.{ap}
use Rattle.std.proofs.Common.{◌∙◌, arith}
use Prim.Native.Nat.{ℕ, zero, suc, ◌+◌, ◌≤◌, ◌<◌}
use Rattle.lifting.specs.Limits.{highest_id}
use Rattle.lifting.specs.Points.{CfgPoint}
use Rattle.lifting.specs.Walk.{walk_of}
use Rattle.lifting.specs.Absorb.{kept}
use Rattle.lifting.specs.Ids.{id_of, label_of}
use Rattle.lifting.specs.Instructions.{result_id}
use Rattle.func.specs.Decode.{func_of}
use Rattle.work.specs.Layout.{result_ids_at, label_ids_at}
use Rattle.walk_points.specs.Numbers.{Small, point_low, point_back, point_number}
use Rattle.check_text.specs.Same.{Stands}
use Rattle.terminators.specs.Visited.{Visited}
use Rattle.blocks.specs.Laid.{Laid}
use Rattle.emit_names.specs.Ids.{Ids}

pub record EmitReady (w u : List ℕ) (m first : ℕ) : Type 0 where
  pub laid : Laid w u m
  pub stands : Stands (func_of w) w
  pub ids : Ids (func_of w) first u
  pub low : first ≤ highest_id

module _ {w u : List ℕ} {m first : ℕ} (k : EmitReady w u m first) where
  pub ready_visited : (i : ℕ) → i < m → Visited w u m
  ready_visited i h = k.laid.walked (omega arith)

  pub result_is : (o : ℕ) → o < 512 → (t : ℕ) → ¬ (t ≡ 0) → get_or u (result_ids_at + o) 0 ≡ result_id (func_of w) first (walk_of (func_of w)) (kept (walk_of (func_of w))) t o
  unfolding id_of
  result_is o h zero n = absurd (n refl)
  result_is o h (suc t) n = k.ids.result o h

  pub label_at : (p : CfgPoint) → Small p → get_or u (label_ids_at + point_number p) 0 ≡ label_of (func_of w) first (walk_of (func_of w)) (kept (walk_of (func_of w))) p
  unfolding label_of
  label_at p s =
      k.ids.label (point_number p) (point_low p s)
      ∙ ap (λ (q : CfgPoint). label_of (func_of w) first (walk_of (func_of w)) (kept (walk_of (func_of w))) q) (point_back p s)
