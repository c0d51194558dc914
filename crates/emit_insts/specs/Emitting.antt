-- What emitting asks (`EmitReady`), said so that there is at most one proof of it, as a type's invariant has to be. Assumes nothing.
--     emitting_prop               at most one proof
--     emit_ready, emitting_of     what emitting asks, from it and back
--     emit_tables                 the function stands whole
use Rattle.std.specs.Prelude.{◌≡◌, refl, true, List, ℕ, ◌≤◌, ◌<◌, length}
use Rattle.std.proofs.Common.{arith}
use denote.Struct.Props.{props}
use mathlib.Core.HLevel.{hedberg}
use Rattle.lifting.specs.Ast.{Func}
use Rattle.lifting.specs.Parts.{has_body}
use Rattle.lifting.specs.Limits.{highest_id}
use Rattle.lifting.specs.Points.{CfgPoint, Table, eq_point, points}
use Rattle.lifting.specs.Walk.{walk_of}
use Rattle.lifting_runs.proofs.EveryText.{of_walk}
use Rattle.func.specs.Decode.{func_of}
use Rattle.func.specs.Tables.{Tables}
use Rattle.work.specs.Layout.{work_need}
use Rattle.walk_roots.specs.Tables.{Indexed}
use Rattle.walk_points.specs.Numbers.{visited}
use Rattle.walk_points.specs.Parents.{Parents}
use Rattle.walk_points.specs.Walk.{walkable_checked}
use Rattle.block_absorbs.specs.Absorbs.{AbsorbWords}
use Rattle.check_control.specs.Meets.{named_refers}
use Rattle.check_text.specs.Same.{Passes}
use Rattle.emit_names.specs.Ids.{Ids}
use Rattle.emit_insts.specs.OneProof.{Whole, tables_of, whole_of, whole_prop}
use Rattle.emit_insts.specs.Ready.{EmitReady}

pub record Emitting (w u : List ℕ) (m first : ℕ) : Type 0 where
  pub whole : Whole w
  pub passes : Passes (func_of w)
  pub size : work_need ≤ length u
  pub few : m ≤ 512
  pub count : m ≡ length (walk_of (func_of w))
  pub order : 0 < m → visited u m ≡ points (walk_of (func_of w))
  pub parents : 0 < m → Parents (func_of w) u
  pub lines : 0 < m → Indexed (func_of w) u
  pub absorbing : AbsorbWords (func_of w) m u
  pub ids : Ids (func_of w) first u
  pub low : first ≤ highest_id

point_set : IsSet CfgPoint
point_set = hedberg eq_point

pub emitting_prop : (w u : List ℕ) (m first : ℕ) → IsProp (Emitting w u m first)
emitting_prop w u m first = hlevel (props, point_set, whole_prop)

-- a text with a visited point has a body
walked_body : (F : Func) → 0 < length (walk_of F) → has_body F.regions ≡ true
walked_body F = of_walk F (λ (T : Table). 0 < length T → has_body F.regions ≡ true) (λ b h. b) (λ h. absurd (omega arith))

pub emit_ready : {w u : List ℕ} {m first : ℕ} → Emitting w u m first → EmitReady w u m first
emit_ready {w} {u} {m} k =
    let t = tables_of k.whole in
    let p = k.passes in
    let walkable = λ (h : 0 < m). walkable_checked t (walked_body (func_of w) (omega (arith, k.count))) p.references p.tree p.counts p.control in
    record {
      laid = record {
        tables = t;
        size = k.size;
        few = k.few;
        count = k.count;
        walked = λ h. record { tables = t; walkable = walkable h; size = k.size; few = k.few; count = k.count; order = k.order h; parents = k.parents h; lines = k.lines h };
        absorbing = k.absorbing;
      };
      stands = record { passes = p; func = refl; tables = t; named = named_refers t p.references };
      ids = k.ids;
      low = k.low;
    }

pub emit_tables : {w u : List ℕ} {m first : ℕ} → Emitting w u m first → Tables w
emit_tables k = tables_of k.whole

pub emitting_of : {w u : List ℕ} {m first : ℕ} → EmitReady w u m first → Emitting w u m first
emitting_of k = record {
  whole = whole_of k.laid.tables;
  passes = k.stands.passes;
  size = k.laid.size;
  few = k.laid.few;
  count = k.laid.count;
  order = λ h. (k.laid.walked h).order;
  parents = λ h. (k.laid.walked h).parents;
  lines = λ h. (k.laid.walked h).lines;
  absorbing = k.laid.absorbing;
  ids = k.ids;
  low = k.low;
}
