-- The loop stands before a line, and what is still to be stored and judged from there is what was from the start. The measure is what is left of
-- the text, which has no fewer bytes than lines.
use mathlib.Core.Path.{refl, ◌∙◌}
use native.Mathlib.Omega.{arith}
use Rattle.read_lines.specs.Lines.{on_first, on_more, on_over, on_wrong}
use Rattle.read_ctrls.specs.Judge.{start}
use Rattle.read_ctrls.specs.Tails.{ctrl_line_kind}
use Rattle.read_ctrls.proofs.Laws.{line_number, lines_no, text_kept}
use Rattle.read_ctrls.proofs.line.lines.Goals as goal

pub loop-h-init : goal.loop-h-init
loop-h-init c = (on_first c.args.from c.requires.2, refl, omega arith)

pub returns-in_default : goal.returns-in_default
unfolding start
returns-in_default c = record { lines_are = on_over ctrl_line_kind c.loop-h.invariant.0 c.in_default.ensures; func_len_unchanged = c.loop-h.invariant.0.going.len; work_len_unchanged = c.loop-h.invariant.1 }

pub ctrl_line-requires : goal.ctrl_line-requires
ctrl_line-requires c =
    let q = c.in-Some.ensures.took in
    let t = text_kept c.args.from c.loop-h.c c.loop-h.invariant.0.same_text in
    (omega (arith, c.loop-h.invariant.0.going.len, c.requires.0), omega (arith, c.loop-h.invariant.1, c.requires.1), omega (arith, t, c.loop-h.invariant.2, q.moves.moved, q.moves.fits, c.requires.3))

pub returns-in_err-j : goal.returns-in_err-j
returns-in_err-j c = record { lines_are = lines_no c.args.from c.args.func.now c.args.work.now _ _ c.from_residual.ensures (on_wrong ctrl_line_kind c.loop-h.invariant.0 c.in-Some.ensures c.in_err-j.ensures.stores); func_len_unchanged = c.ctrl_line.ensures.func_len_unchanged ∙ c.loop-h.invariant.0.going.len; work_len_unchanged = c.ctrl_line.ensures.work_len_unchanged ∙ c.loop-h.invariant.1 }

pub loop-h-preserved : goal.loop-h-preserved
loop-h-preserved c =
    let s = c.in_ok-j.ensures.stores in
    (on_more ctrl_line_kind c.loop-h.invariant.0 c.in-Some.ensures s c.ctrl_line.ensures.func_len_unchanged, c.ctrl_line.ensures.work_len_unchanged ∙ c.loop-h.invariant.1, omega (arith, c.loop-h.invariant.2, line_number s, c.in-Some.ensures.took.moves.moved, s.reached.took.moves.moved))
