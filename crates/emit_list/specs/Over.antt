-- What emitting a whole list asks, and how the laid-out tables give it. Assumes nothing.
--     Over              tables, blocks, ids and edges of a text that stands in its slice
--     linked_prop       at most one proof that the edges are linked, as a type's invariant has to have
--     shaped-over       a text with a body is shaped
use Rattle.std.specs.Prelude.{◌≡◌, true, List, ℕ}
use denote.Struct.Props.{props}
use Rattle.lifting.specs.Ast.{Func}
use Rattle.lifting.specs.Parts.{has_body}
use Rattle.func.specs.Decode.{func_of}
use Rattle.lifting_runs.specs.Shaped.{Shaped}
use Rattle.lifting_runs.proofs.Shaped.{shaped_checked}
use Rattle.check_text.specs.Same.{Passes}
use Rattle.emit_edge_ends.specs.Links.{Linked}
use Rattle.emit_insts.specs.Ready.{EmitReady}

pub record Over (w u : List ℕ) (m first : ℕ) : Type 0 where
  pub ready : EmitReady w u m first
  pub linked : Linked (func_of w) u

pub shaped_passes : (F : Func) → Passes F → has_body F.regions ≡ true → Shaped F
shaped_passes F ok body = shaped_checked F body ok.references ok.tree ok.counts ok.control

pub linked_prop : (F : Func) (u : List ℕ) → IsProp (Linked F u)
linked_prop F u = hlevel props
