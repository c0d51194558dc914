-- The laws of the formats that a ctrl line is read by: what each reads is what it prints, and what it prints is read. Assumes nothing.
--     ctrl_head_form_inverse, ctrl_lists_inverse, ..     for each form of specs/Tails.antt
use Rattle.std.specs.Prelude.{refl}
use Rattle.lifting.specs.Bytes.{bytes}
use Rattle.lifting.proofs.Codec.{Inverse, seq_inverse}
use Rattle.lifting.proofs.Grammar.{before_inverse, sub_inverse, field_inverse, numbers_codec_inverse, values_codec_inverse, entries_codec_inverse}
use Rattle.read_insts.specs.Heads.{control_head_inverse}
use Rattle.read_lines.proofs.Formats.{last_form_inverse}
use Rattle.read_ctrls.specs.Tails.{ctrl_head_form, ctrl_lists, edges_form, rest_forms}

pub ctrl_head_form_inverse : Inverse ctrl_head_form
unfolding ctrl_head_form
ctrl_head_form_inverse = before_inverse (bytes "(ctrl") refl (seq_inverse field_inverse (seq_inverse field_inverse control_head_inverse))

pub ctrl_lists_inverse : Inverse ctrl_lists
unfolding ctrl_lists
ctrl_lists_inverse = seq_inverse (sub_inverse "ins" values_codec_inverse) (sub_inverse "to" numbers_codec_inverse)

pub edges_form_inverse : Inverse edges_form
unfolding edges_form
edges_form_inverse = last_form_inverse (sub_inverse "vals" entries_codec_inverse)

pub rest_forms_inverse : Inverse rest_forms
rest_forms_inverse = seq_inverse (sub_inverse "ins" values_codec_inverse) (seq_inverse (sub_inverse "to" numbers_codec_inverse) edges_form_inverse)
