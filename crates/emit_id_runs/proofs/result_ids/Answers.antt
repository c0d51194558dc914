-- A point in no kept block has no names (`result_none`), and of the others only a node's entry has ops, whose results are the names
-- (`results_are`, `no_results`).
use mathlib.Core.Path.{refl, sym, ap, ◌∙◌}
use native.Mathlib.Omega.{arith}
use Rattle.func.specs.Decode.{func_of}
use Rattle.std.proofs.Common.{◌≡◌, List, ℕ, ◌+◌, ◌<◌, get_or}
use Rattle.work.specs.Layout.{statuses_at}
use Rattle.terminators.specs.declared.Point.{Point}
use Rattle.terminators.specs.declared.Point.TheVariants.{RegionEntry, RegionExit, NodeEntry, NodeExit}
use Rattle.terminators.specs.At.{point_at}
use Rattle.blocks.specs.Laid.{Laid}
use Rattle.emit_names.specs.Names.{result_names}
use Rattle.emit_names.specs.Numbered.{GivesIds}
use Rattle.terminators.specs.Kinds.{as_point}
use Rattle.terminators.specs.Laws.{of_text}
use Rattle.emit_names.specs.Names.{result_none}
use Rattle.emit_names.specs.Numbered.{gives_as}
use Rattle.emit_id_runs.specs.Giving.{gives_nothing, no_results, results_are}
use Rattle.emit_names.specs.Standing.{gone_here}
use Rattle.emit_id_runs.proofs.result_ids.Goals as goal

-- no point but a node's entry has ops
elsewhere : {w u : List ℕ} {m : ℕ} (k : Laid w u m) (i : ℕ) (h : i < m) (kept : ¬ (get_or u (statuses_at + i) 0 ≡ 0)) (x : Point) → ((n : ℕ) → ¬ (x ≡ NodeEntry n))
    → as_point x ≡ point_at (func_of w) i → (y : ℕ) (v : List ℕ) → GivesIds (result_names (func_of w) i) y v y v
elsewhere k i h kept (RegionEntry r) n e = no_results k i h kept e refl
elsewhere k i h kept (RegionExit r) n e = no_results k i h kept e refl
elsewhere k i h kept (NodeEntry r) n e = absurd (n r refl)
elsewhere k i h kept (NodeExit r) n e = no_results k i h kept e refl

pub invariant_of-visits : goal.invariant_of-visits
invariant_of-visits c = record { visited = ∣ c.requires.laid.walked (omega (arith, c.requires.i_lt_m.0)) ∣₁ }

pub op_ids-requires : goal.op_ids-requires
op_ids-requires c =
    let n = of_text (c.requires.laid.walked (omega (arith, c.requires.i_lt_m.0))) c.args.i c.requires.i_lt_m.0 (ap as_point (sym c.in-NodeEntry.is) ∙ c.point.ensures) in
    record { n_in_bounds = n; work_need_in_bounds = (c.requires.laid.size, c.requires.i_lt_m.1) }

pub returns-in-NodeEntry : goal.returns-in-NodeEntry
returns-in-NodeEntry c =
    gives_as
    (results_are c.requires.laid c.args.i c.requires.i_lt_m.0 (λ z. c.if-word-eq0.false (c.word.ensures ∙ z)) (ap as_point (sym c.in-NodeEntry.is) ∙ c.point.ensures))
    c.op_ids.ensures

pub returns-then-word-eq0 : goal.returns-then-word-eq0
returns-then-word-eq0 c =
    let e = gone_here c.requires.laid c.args.i c.requires.i_lt_m.0 (sym c.word.ensures ∙ c.if-word-eq0.true) in
    gives_nothing (result_none (func_of c.args.func.now) c.args.i e) c.args.k c.args.work.now

pub returns-in_default : goal.returns-in_default
returns-in_default c = elsewhere c.requires.laid c.args.i c.requires.i_lt_m.0 (λ z. c.if-word-eq0.false (c.word.ensures ∙ z)) _ c.in_default.not-NodeEntry c.point.ensures c.args.k c.args.work.now
