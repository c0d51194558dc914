-- The laws of the formats that the heads are made of: what each reads is what it prints, and what it prints is read. Assumes nothing.
--     op_kind_head_form_inverse, ..     for each form of specs/Heads.antt
use Rattle.std.specs.Prelude.{refl}
use Rattle.lifting.specs.Bytes.{bytes}
use Rattle.lifting.specs.Codec.{strip, lit, seq, view_as, same, alt}
use Rattle.lifting.specs.Grammar.{before, keyword, sub}
use Rattle.lifting.proofs.Codec.{Inverse, alt_inverse, seq_inverse}
use Rattle.lifting.proofs.Grammar.{before_inverse, field_inverse, keyword_inverse, one_codec_inverse, sub_inverse, two_inverse}
use Rattle.read_insts.specs.Heads.{inst_head, inst_head_inverse, op_kind_head_form, op_kind_head_inverse, op_head_form, selection_head_form, selection_head_inverse, plain_head_inverse, plain_head_apart, control_head_form}

pub op_kind_head_form_inverse : Inverse op_kind_head_form
unfolding op_kind_head_form inst_head sub before lit seq same view_as alt strip
op_kind_head_form_inverse = alt_inverse (alt_inverse inst_head_inverse (sub_inverse "call" one_codec_inverse) (λ b r. refl)) (sub_inverse "ext" two_inverse) (λ b r. refl)

pub op_head_form_inverse : Inverse op_head_form
unfolding op_head_form
op_head_form_inverse = before_inverse (bytes "(op") refl (seq_inverse field_inverse (seq_inverse field_inverse op_kind_head_inverse))

pub selection_head_form_inverse : Inverse selection_head_form
unfolding selection_head_form inst_head keyword sub before lit seq same view_as strip
selection_head_form_inverse = alt_inverse (keyword_inverse "bool") inst_head_inverse (λ b r. refl)

pub control_head_form_inverse : Inverse control_head_form
unfolding control_head_form
control_head_form_inverse = alt_inverse plain_head_inverse selection_head_inverse plain_head_apart
