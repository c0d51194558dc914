-- The elements of the grammar's lists, by the kind that the code goes by. Assumes nothing.
--     Held, element_of, element_list    what an element of a kind is, and the readers of one and of a list of them
--     keep_element, PoolPlaced        what stores one; the pool of a number has entries of one word
--     listing                    a list is any number of elements, and then a closing bracket
--     pool_placed, element_..         a kind that is known to be this one
use Rattle.std.specs.Prelude.{◌≡◌, refl, List, ◌++◌, ℕ}
use Rattle.std.proofs.Common.{sym, subst}
use Rattle.std.proofs.Math.Option.{none}
use Rattle.read_cursor.specs.Answers.{Missed}
use Rattle.read_cursor.specs.declared.Cursor.{Cursor}
use Rattle.lifting.specs.Ast
use Rattle.lifting.specs.Bytes.{bytes}
use Rattle.lifting.specs.Codec.{Codec, Led, strip, lit, num, seq, view_as, same, alt, list, list_over}
use Rattle.lifting.specs.Grammar.{before, sub, spaced, field, numbers_codec, decl_codec, decl, decls_codec, value_codec, value_form, values_codec, imm_codec, imms_codec}
use Rattle.lifting.proofs.Codec.{Inverse, list_more}
use Rattle.lifting.proofs.Grammar.{decl_inverse, field_inverse, imm_codec_inverse, value_codec_inverse}
use Rattle.func.specs.Layout.{entry_words}
use Rattle.func.specs.Keep.{keep_decl, keep_value, keep_imm, keep_number}
use Rattle.func_pools.specs.declared.Pool.{Pool}
use Rattle.func_pools.specs.Pools.{pool_number}
use Rattle.read_lines.specs.declared.Element.{Element}
use Rattle.read_lines.specs.declared.Element.TheVariants.{Number, Value, Decl, Imm}
use Rattle.read_lines.specs.Stores.{Listing, Stored}

abbrev pub Held : Element → Type 0
Held (Number k) = ℕ
Held Value = Ast.Value
Held Decl = Ast.Decl
Held Imm = Ast.Imm

abbrev pub element_of : (e : Element) → Codec (Held e)
element_of (Number k) = field
element_of Value = value_codec
element_of Decl = decl
element_of Imm = imm_codec

abbrev pub element_list : (e : Element) → Codec (List (Held e))
element_list (Number k) = numbers_codec
element_list Value = values_codec
element_list Decl = decls_codec
element_list Imm = imms_codec

abbrev pub keep_element : (e : Element) → Held e → List ℕ → List ℕ
keep_element (Number k) = keep_number (pool_number k)
keep_element Value = keep_value
keep_element Decl = keep_decl
keep_element Imm = keep_imm

abbrev pub PoolPlaced : Element → Type 0
PoolPlaced (Number k) = entry_words (pool_number k) ≡ 1
PoolPlaced Value = Unit {0}
PoolPlaced Decl = Unit {0}
PoolPlaced Imm = Unit {0}

pub pool_placed : {e : Element} {k : Pool} → e ≡ Number k → PoolPlaced e → entry_words (pool_number k) ≡ 1
pool_placed e p = subst PoolPlaced e p

-- a list as the grammar has it
pub list_listing : {A : Type 0} {C : Codec A} → Inverse C → (s : List ℕ) (h : Led s) (apart : (r : List ℕ) → C.read (s ++ r) ≡ none) → Listing C s (list C s h apart)
list_listing {C = C} c s h apart = record { over = list_over C s h apart; more = list_more c s h apart; apart = apart }

pub listing : (e : Element) → Listing (element_of e) (bytes ")") (element_list e)
unfolding numbers_codec decls_codec values_codec imms_codec field value_codec decl imm_codec value_form decl_codec num sub spaced before lit seq same view_as alt strip
listing (Number k) = list_listing field_inverse (bytes ")") refl (λ r. refl)
listing Value = list_listing value_codec_inverse (bytes ")") refl (λ r. refl)
listing Decl = list_listing decl_inverse (bytes ")") refl (λ r. refl)
listing Imm = list_listing imm_codec_inverse (bytes ")") refl (λ r. refl)

pub element_missed : {d e : Element} {c : Cursor} → d ≡ e → Missed (element_of e).read c → Missed (element_of d).read c
element_missed {c = c} e p = subst (λ (z : Element). Missed (element_of z).read c) (sym e) p

pub element_stored : {d e : Element} {c x : Cursor} {w v : List ℕ} → d ≡ e → Stored (element_of e).read (keep_element e) c x w v → Stored (element_of d).read (keep_element d) c x w v
element_stored {c = c} {x} {w} {v} e s = subst (λ (z : Element). Stored (element_of z).read (keep_element z) c x w v) (sym e) s
