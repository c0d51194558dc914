-- Document 01, 'When there is no list': the limits that it names, whose numbers crate refusals has, and refusal 3. Assumes nothing.
use Rattle.std.specs.Prelude.{Bool, ◌&&◌, leb, length}
pub use Rattle.refusals.specs.Limits.{max_bytes, max_regions, max_nodes, max_ops, max_consts, max_params, max_values, max_decls, max_immediates, max_targets, max_opcode, max_imm_kind, max_control, func_words, work_words, highest_id}
use Rattle.lifting.specs.Ast.{Func}
use Rattle.lifting.specs.Parts.{values, decls, immediates, targets}

-- A text passes 3.
unfoldable pub within_limits : Func → Bool
unfolding values decls immediates targets
within_limits F =
    leb (length F.regions) max_regions
    && leb (length F.nodes) max_nodes
    && leb (length F.ops) max_ops
    && leb (length F.consts) max_consts
    && leb (length F.params) max_params
    && leb (length (values F)) max_values
    && leb (length (decls F)) max_decls
    && leb (length (immediates F)) max_immediates
    && leb (length (targets F)) max_targets
