-- The kinds of lines, each with the head that tells it: no line of a later kind begins so. Assumes nothing.
--     const_kind, param_kind, ..     each kind
--     kind_lines, rest_of, keep_kind      the lines of a kind, by the enum that the code goes by
--     LineIs, lines-..               the answer of a line, and the loop over them
use Rattle.std.specs.Prelude.{◌≡◌, refl, List, ◌++◌, ℕ, ◌-◌, ◌<◌, length, drop}
use Rattle.std.proofs.Common.{ap, ◌∙◌, arith}
use Rattle.std.proofs.Math.Path.{subst⁻¹}
use Rattle.std.proofs.Math.Option.{none}
use Rattle.lifting.specs.Bytes.{bytes}
use Rattle.lifting.specs.Ast
use Rattle.lifting.specs.Ast.{Const, Decl, Region, Node}
use Rattle.lifting.specs.Digits.{Reading}
use Rattle.lifting.specs.Codec.{Whole, strip, lit, seq, view_as, same, alt, many, read_many}
use Rattle.lifting.specs.Whole.{end}
use Rattle.lifting.specs.Grammar.{Regions, Nodes, Ops, Ctrls, before, line, decl_codec, param_line, region_line, block_line, select_line, loop_line, exit_line, node_form, node_line, op_line, ctrl_line, ctrl_lines, op_lines, node_lines, region_lines, rest_form, rest_lines, param_lines, const_lines, const_apart, param_apart, region_apart, node_apart, op_apart}
use Rattle.lifting.proofs.Grammar.{const_line_inverse, node_line_inverse, op_line_inverse, param_line_inverse, region_line_inverse}
use Rattle.lifting.proofs.Codec.{lit_inverse}
use Rattle.read_cursor.specs.Read.{literal}
use Rattle.read_cursor.specs.Answers.{Reached, Missed}
use Rattle.read_cursor.specs.Chains.{took_next}
use Rattle.read_lines.specs.declared.NoLine.{NoLine}
use Rattle.read_lines.specs.declared.NoLine.TheVariants.{Other, Refused}
use Rattle.std.specs.Prelude as code
use Rattle.std.specs.Option.{ok_or}
use Rattle.read_cursor.specs.declared.Cursor.{Cursor}
use Rattle.read_insts.specs.declared.Op.{Op}
use Rattle.func.specs.Keep.{keep_const, keep_param, keep_region, keep_node, keep_op}
use Rattle.read_insts.specs.Heads.{op_head_form, op_head, op_head_inverse}
use Rattle.read_lines.specs.declared.NodeWord.{NodeWord}
use Rattle.read_lines.specs.declared.NodeWord.TheVariants.{Block, Select, Loop, Exit}
use Rattle.read_lines.specs.declared.LineKind.{LineKind}
use Rattle.read_lines.specs.declared.LineKind.TheVariants as kinds
use Rattle.read_lines.specs.Stores.{Stores, Stored}
use Rattle.read_lines.specs.Lines.{GoingOn, Kind, PassedOn, on_more, on_over, on_wrong, kind_of_law}
use Rattle.read_lines.specs.Tails.{const_tail, const_begins, param_tail, param_begins, region_tail, region_begins, op_tail, op_line_begins}
use Rattle.read_lines.specs.Nodes.{word_form, node_head, node_tail, node_begins, node_head_inverse}

const_later : (u : Unit {0}) (r : List ℕ) → param_lines.read (bytes "(const" ++ r) ≡ none
unfolding param_lines param_line decl_codec rest_lines rest_form region_line line before lit seq same view_as alt many read_many strip end
const_later u r = refl

pub const_kind : Kind const_lines param_lines (literal (bytes "(const")) (λ u. const_tail)
unfolding const_lines lit
const_kind = kind_of_law const_line_inverse param_lines const_apart (lit_inverse (bytes "(const") refl) const_begins const_later

param_later : (u : Unit {0}) (r : List ℕ) → rest_lines.read (bytes "(param" ++ r) ≡ none
unfolding rest_lines rest_form region_line line before lit seq same view_as alt strip end
param_later u r = refl

pub param_kind : Kind param_lines rest_lines (literal (bytes "(param")) (λ u. param_tail)
unfolding param_lines lit
param_kind = kind_of_law param_line_inverse rest_lines param_apart (lit_inverse (bytes "(param") refl) param_begins param_later

region_later : (u : Unit {0}) (r : List ℕ) → node_lines.read (bytes "(region (in" ++ r) ≡ none
unfolding node_lines op_lines ctrl_lines node_line node_form block_line select_line loop_line exit_line op_line ctrl_line line before lit seq same view_as alt many read_many strip end
region_later u r = refl

pub region_kind : Kind region_lines node_lines (literal (bytes "(region (in")) (λ u. region_tail)
unfolding region_lines lit
region_kind = kind_of_law region_line_inverse node_lines region_apart (lit_inverse (bytes "(region (in") refl) region_begins region_later

node_later : (w : NodeWord) (r : List ℕ) → op_lines.read (node_head.print w ++ r) ≡ none
unfolding node_head word_form op_lines ctrl_lines op_line ctrl_line line before lit seq same view_as alt many read_many strip end
node_later Block r = refl
node_later Select r = refl
node_later Loop r = refl
node_later Exit r = refl

pub node_kind_law : Kind node_lines op_lines node_head.read node_tail
unfolding node_lines
node_kind_law = kind_of_law node_line_inverse op_lines node_apart node_head_inverse node_begins node_later

pub op_kind_law : Kind op_lines ctrl_lines op_head.read op_tail
unfolding op_lines op_head op_head_form ctrl_lines ctrl_line line before lit seq same view_as many read_many strip end
op_kind_law = kind_of_law op_line_inverse ctrl_lines op_apart op_head_inverse op_line_begins (λ o r. refl)

-- by the kind that the code goes by: a line, what comes after the last of them, and the head that tells a line
abbrev pub LineOf : LineKind → Type 0
LineOf kinds.Const = Const
LineOf kinds.Param = Decl
LineOf kinds.Region = Region
LineOf kinds.Node = Node
LineOf kinds.Op = Ast.Op

abbrev pub RestOf : LineKind → Type 0
RestOf kinds.Const = List Decl × Regions
RestOf kinds.Param = Regions
RestOf kinds.Region = Nodes
RestOf kinds.Node = Ops
RestOf kinds.Op = Ctrls

abbrev pub HeadOf : LineKind → Type 0
HeadOf kinds.Const = Unit {0}
HeadOf kinds.Param = Unit {0}
HeadOf kinds.Region = Unit {0}
HeadOf kinds.Node = NodeWord
HeadOf kinds.Op = Op

abbrev pub kind_lines : (k : LineKind) → Whole (List (LineOf k) × RestOf k)
kind_lines kinds.Const = const_lines
kind_lines kinds.Param = param_lines
kind_lines kinds.Region = region_lines
kind_lines kinds.Node = node_lines
kind_lines kinds.Op = op_lines

abbrev pub rest_of : (k : LineKind) → Whole (RestOf k)
rest_of kinds.Const = param_lines
rest_of kinds.Param = rest_lines
rest_of kinds.Region = node_lines
rest_of kinds.Node = op_lines
rest_of kinds.Op = ctrl_lines

abbrev pub keep_kind : (k : LineKind) → LineOf k → List ℕ → List ℕ
keep_kind kinds.Const = keep_const
keep_kind kinds.Param = keep_param
keep_kind kinds.Region = keep_region
keep_kind kinds.Node = keep_node
keep_kind kinds.Op = keep_op

abbrev pub head_of : (k : LineKind) → List ℕ → Reading (HeadOf k)
head_of kinds.Const = literal (bytes "(const")
head_of kinds.Param = literal (bytes "(param")
head_of kinds.Region = literal (bytes "(region (in")
head_of kinds.Node = node_head.read
head_of kinds.Op = op_head.read

abbrev pub tail_of : (k : LineKind) → HeadOf k → List ℕ → Reading (LineOf k)
tail_of kinds.Const = λ u. const_tail
tail_of kinds.Param = λ u. param_tail
tail_of kinds.Region = λ u. region_tail
tail_of kinds.Node = node_tail
tail_of kinds.Op = op_tail

pub kind_is : (k : LineKind) → Kind (kind_lines k) (rest_of k) (head_of k) (tail_of k)
kind_is kinds.Const = const_kind
kind_is kinds.Param = param_kind
kind_is kinds.Region = region_kind
kind_is kinds.Node = node_kind_law
kind_is kinds.Op = op_kind_law

-- a line of the kind was read, or one was begun and is wrong; or the next line is of another kind, and nothing was stored
pub record Begun (k : LineKind) (from d : Cursor) (w v : List ℕ) : Type 0 where
  pub head : HeadOf k
  pub mid : Cursor
  pub took : Reached (head_of k) from head mid
  pub line : Stored (tail_of k head) (keep_kind k) mid d w v

pub record Wrong (k : LineKind) (from : Cursor) : Type 0 where
  pub head : HeadOf k
  pub mid : Cursor
  pub took : Reached (head_of k) from head mid
  pub line : Missed (tail_of k head) mid

pub record Another (k : LineKind) (from : Cursor) (w v : List ℕ) : Type 0 where
  pub head : Missed (head_of k) from
  pub words : v ≡ w

abbrev pub LineIs : LineKind → Cursor → code.Result Cursor NoLine → List ℕ → List ℕ → Type 0
LineIs k from (code.Ok d) w v = Begun k from d w v
LineIs k from (code.Err Refused) w v = Wrong k from
LineIs k from (code.Err Other) w v = Another k from w v

-- of the kind that this is known to be
module _ {k : LineKind} (j : LineKind) (e : k ≡ j) {from : Cursor} where
  pub other_line : {w v : List ℕ} → Missed (head_of j) from → v ≡ w → Another k from w v
  other_line {w} {v} p q = subst⁻¹ (λ (z : LineKind). Another z from w v) e (record { head = p; words = q })

  pub this_line : {x : HeadOf j} {mid : Cursor} (found : code.Option Cursor) {r : code.Result Cursor NoLine} (w v : List ℕ) → Reached (head_of j) from x mid
      → Stores (tail_of j x) (keep_kind j) mid found w v → r ≡ ok_or found Refused → LineIs k from r w v
  this_line {x} {mid} found {r} w v p q i = subst⁻¹ (λ (z : code.Result Cursor NoLine). LineIs k from z w v) i (subst⁻¹ (λ (z : LineKind). LineIs z from (ok_or found Refused) w v) e (go found q))
    where
      go : (found : code.Option Cursor) → Stores (tail_of j x) (keep_kind j) mid found w v → LineIs j from (ok_or found Refused) w v
      go code.None q = record { head = x; mid = mid; took = p; line = q }
      go (code.Some d) q = record { head = x; mid = mid; took = p; line = q }

-- the head of the loop over lines of a kind
module _ (k : LineKind) {from c : Cursor} {w v : List ℕ} (a : GoingOn length (kind_lines k) (keep_kind k) from w c v) where
  pub lines_over : {u : List ℕ} → Another k c v u → PassedOn (kind_lines k) (rest_of k) (keep_kind k) from w c u
  lines_over p = subst⁻¹ (λ (z : List ℕ). PassedOn (kind_lines k) (rest_of k) (keep_kind k) from w c z) p.words (on_over (kind_is k) a p.head)

  pub lines_wrong : Wrong k c → (kind_lines k).read (drop from.at from.text.now) ≡ none
  lines_wrong p = on_wrong (kind_is k) a p.took p.line

  pub kind_lines_more : {d : Cursor} {u : List ℕ} → Begun k c d v u → length u ≡ length v → GoingOn length (kind_lines k) (keep_kind k) from w d u
  kind_lines_more p l = on_more (kind_is k) a p.took p.line l

-- less of the text is left behind a line
pub less_line : {k : LineKind} {c d : Cursor} {w v : List ℕ} → Begun k c d w v → length d.text.now - d.at < length c.text.now - c.at
less_line {k} {c} {d} p =
    let m = took_next c p.took.same_text p.line.reached in
    let t : length d.text.now ≡ length c.text.now = ap (λ z. length z.now) (p.line.reached.same_text ∙ p.took.same_text) in
    omega (arith, p.took.took.moves.moved, m.moves.moved, m.moves.fits)
