-- What the proofs of the functions over these definitions cite, over plain variables. Assumes nothing.
--     less                          less of the text is left
--     last-.., ended-..             with what ends a line
use Rattle.std.specs.Prelude.{List, ◌++◌, ℕ, ◌-◌, ◌<◌, length}
use Rattle.std.specs.Prelude as code
use Rattle.std.proofs.Math.Path.{refl}
use Rattle.std.proofs.Common.{arith}
use Rattle.lifting.specs.Bytes.{bytes}
use Prim.Native.String.{String}
use Rattle.lifting.specs.Codec.{Codec}
use Rattle.lifting.specs.Grammar.{sub}
use Rattle.read_cursor.specs.Read.{Onward, literal, behind_literal}
use Rattle.read_cursor.specs.Answers.{Reached, Missed, StepsOn}
use Rattle.read_cursor.specs.Chains.{after_missed, after_open, after_reached, seq_misses, seq_open, sub_misses_behind, sub_behind}
use Rattle.read_cursor.specs.declared.Cursor.{Cursor}
use Rattle.read_lines.specs.Stores.{Stores, Stored, stored_one, stored_behind, stored_before, stored_after, stored_closed, stored_sub, up_missed}
use Rattle.read_lines.specs.Tails.{last_form, ended_by}

pub less : {text : List ℕ} {at next : ℕ} → Onward text at next → length text - next < length text - at
less m = omega (arith, m.moved, m.fits)

-- what ends a line
module _ {A : Type 0} (C : Codec A) {c : Cursor} where
  pub last_missed : Missed C.read c → Missed (last_form C).read c
  unfolding last_form
  last_missed p = after_missed C (bytes ")\n") refl p

  pub ended_missed : Missed C.read c → Missed (ended_by C).read c
  unfolding ended_by
  ended_missed p = after_missed C (bytes "\n") refl p

  module _ {d : Cursor} {a : A} (p : Reached C.read c a d) where
    pub last_open : Missed (literal (bytes ")\n")) d → Missed (last_form C).read c
    unfolding last_form
    last_open q = after_open C (bytes ")\n") refl p q

    pub ended_open : Missed (literal (bytes "\n")) d → Missed (ended_by C).read c
    unfolding ended_by
    ended_open q = after_open C (bytes "\n") refl p q

    pub last_reached : {e : Cursor} → Reached (literal (bytes ")\n")) d tt e → Reached (last_form C).read c a e
    unfolding last_form
    last_reached q = after_reached C (bytes ")\n") refl p q

    pub ended_reached : {e : Cursor} → Reached (literal (bytes "\n")) d tt e → Reached (ended_by C).read c a e
    unfolding ended_by
    ended_reached q = after_reached C (bytes "\n") refl p q

module _ {A S : Type 0} (C : Codec A) {f : A → S → S} {c d e : Cursor} {w v : S} (p : Stored C.read f c d w v) where
  pub stored_last : Reached (literal (bytes ")\n")) d tt e → Stored (last_form C).read f c e w v
  unfolding last_form
  stored_last q = stored_after C (bytes ")\n") refl p q

  pub stored_ended : Reached (literal (bytes "\n")) d tt e → Stored (ended_by C).read f c e w v
  unfolding ended_by
  stored_ended q = stored_after C (bytes "\n") refl p q

pub stores_sub : {A S : Type 0} (s : String) (C : Codec A) (f : A → S → S) (c : Cursor) (found : code.Option Cursor) (w v : S) → Stores (behind_literal (bytes " (" ++ bytes s) C.read) f c found w v → Stores (sub s C).read f c found w v
stores_sub s C f c code.None w v p = sub_misses_behind s C p
stores_sub s C f c (code.Some d) w v p = stored_sub s C p

pub stores_last : {A S : Type 0} (C : Codec A) {f : A → S → S} {c d : Cursor} (found : code.Option Cursor) {w v : S} → Stored C.read f c d w v → StepsOn (literal (bytes ")\n")) d found → Stores (last_form C).read f c found w v
stores_last C code.None p q = last_open C p.reached q
stores_last C (code.Some e) p q = stored_last C p q

pub ruleset ends = (last_missed, last_open, last_reached, ended_missed, ended_open, ended_reached)

pub ruleset storing = (stored_one, stored_behind, stored_before, stored_after, stored_closed, stored_sub, stored_last, stored_ended, last_missed, last_open, ended_missed, ended_open, seq_misses, seq_open, sub_misses_behind, sub_behind, up_missed)
