-- Ids given one after the other: of a list of names the first gets k, the next k + 1, each in the word of its name. Assumes nothing.
--     gives_none, gives_more, gives_as, gives_turn    lists of names one after the other
--     gives_length, gives_low, gives_aside     the words that stay
--     numbered_run     a run of inputs or outputs takes one word
--     numbered_at      a word holds the number of its name, 0 where it has none
use Rattle.std.specs.Prelude.{◌≡◌, refl, length, set}
use Rattle.std.proofs.Math.Path.{sym, ap}
use Rattle.std.proofs.Common.{ap₂, subst, ◌∙◌, add-one, arith, length-append, length-set, get_or-set_other}
use mathlib.Core.List.{List, [], ◌∷◌, ◌++◌, map}
use Rattle.std.proofs.Math.Option.{Option, none, some}
use Prim.Native.Nat.{ℕ, zero, suc, ◌+◌, ◌≤◌, ◌<◌}
use Rattle.std.proofs.Math.ListN.{get_or}
use Rattle.std.proofs.Math.Seq.{get_or-set_same}
use Rattle.general_laws.specs.Lists.{choose_no, choose_yes, tabulate}
use Rattle.lifting.specs.Ast.{Value}
use Rattle.lifting.specs.Ids.{Name, eq_name, number_in, value}
use Rattle.general_laws.specs.Members.{All, In, NoDup, all_in, here, there}
use Rattle.work.specs.Layout.{ids_at, ids_end}
use Rattle.general_laws.specs.Tests.{split}
use Rattle.work.specs.Aside.{Aside, aside_none, aside_set, aside_more}
use Rattle.lifting_blocks.specs.Flat.{up_to}
use Rattle.emit_names.specs.Ids.{NameFits, name_in, name_slot, slot_from, slot_name, slot_to, slot_of}

-- k in the word, if there is one
abbrev pub put_at : List ℕ → ℕ → Option ℕ → List ℕ
put_at u k none = u
put_at u k (some s) = set u s k

unfoldable pub numbered_words : List ℕ → ℕ → List Name → List ℕ
numbered_words u k [] = u
numbered_words u k (x ∷ l) = numbered_words (put_at u k (slot_of x)) (suc k) l

-- the words v, in which the names l have the ids from k on that they lack in u, and the next id n
pub record GivesIds (l : List Name) (k : ℕ) (u : List ℕ) (n : ℕ) (v : List ℕ) : Type 0 where
  pub next : n ≡ k + length l
  pub words : v ≡ numbered_words u k l

-- k in word s, for a run of n names
abbrev pub run_words : List ℕ → ℕ → ℕ → ℕ → List ℕ
run_words u s k zero = u
run_words u s k (suc n) = set u s k

numbered_append : (u : List ℕ) (k : ℕ) (l m : List Name) → numbered_words (numbered_words u k l) (k + length l) m ≡ numbered_words u k (l ++ m)
unfolding numbered_words
numbered_append u k [] m = ap (λ (j : ℕ). numbered_words u j m) (omega arith)
numbered_append u k (x ∷ l) m =
    ap (λ (j : ℕ). numbered_words (numbered_words (put_at u k (slot_of x)) (suc k) l) j m) (omega arith) ∙ numbered_append (put_at u k (slot_of x)) (suc k) l m

pub gives_none : (k : ℕ) (u : List ℕ) → GivesIds [] k u k u
unfolding numbered_words
gives_none k u = record { next = omega arith; words = refl }

pub gives_more : {l m : List Name} {k n j : ℕ} {u v w : List ℕ} → GivesIds l k u n v → GivesIds m n v j w → GivesIds (l ++ m) k u j w
gives_more {l} {m} {k} {u = u} p q = record {
  next = omega (arith, p.next, q.next, length-append l m);
  words = q.words ∙ ap₂ (λ (x : List ℕ) (i : ℕ). numbered_words x i m) p.words p.next ∙ numbered_append u k l m;
}

pub gives_as : {l m : List Name} {k n : ℕ} {u v : List ℕ} → l ≡ m → GivesIds l k u n v → GivesIds m k u n v
gives_as {k = k} {n} {u} {v} e p = subst (λ (x : List Name). GivesIds x k u n v) e p

pub gives_turn : (f : ℕ → List Name) (i : ℕ) {k n j : ℕ} {u v w : List ℕ} → GivesIds (up_to f i) k u n v → GivesIds (f i) n v j w → GivesIds (up_to f (i + 1)) k u j w
unfolding up_to
gives_turn f i p q = gives_as (ap (up_to f) (sym (add-one i))) (gives_more p q)

-- ---- the words that stay

put_length : (u : List ℕ) (k : ℕ) (o : Option ℕ) → length (put_at u k o) ≡ length u
put_length u k none = refl
put_length u k (some s) = length-set u s k

numbered_length : (u : List ℕ) (k : ℕ) (l : List Name) → length (numbered_words u k l) ≡ length u
unfolding numbered_words
numbered_length u k [] = refl
numbered_length u k (x ∷ l) = numbered_length (put_at u k (slot_of x)) (suc k) l ∙ put_length u k (slot_of x)

put_other : (u : List ℕ) (k s : ℕ) (o : Option ℕ) → ¬ (o ≡ some s) → get_or (put_at u k o) s 0 ≡ get_or u s 0
put_other u k s none n = refl
put_other u k s (some t) n = get_or-set_other u t s k 0 (λ e. n (ap some (sym e)))

numbered_other : (u : List ℕ) (k s : ℕ) (l : List Name) → ((x : Name) → In x l → ¬ (slot_of x ≡ some s)) → get_or (numbered_words u k l) s 0 ≡ get_or u s 0
unfolding numbered_words
numbered_other u k s [] h = refl
numbered_other u k s (x ∷ l) h =
    numbered_other (put_at u k (slot_of x)) (suc k) s l (λ y i. h y (there i)) ∙ put_other u k s (slot_of x) (h x here)

put_aside : (u : List ℕ) (k : ℕ) (x : Name) → NameFits x → (o : Option ℕ) → slot_of x ≡ o → Aside ids_at ids_end u (put_at u k o)
put_aside u k x f none e = aside_none ids_at ids_end u
put_aside u k x f (some s) e = aside_set (aside_none ids_at ids_end u) s k (slot_from x s e) (slot_to x f s e)

numbered_aside : (u : List ℕ) (k : ℕ) (l : List Name) → All NameFits l → Aside ids_at ids_end u (numbered_words u k l)
unfolding numbered_words
numbered_aside u k [] f = aside_none ids_at ids_end u
numbered_aside u k (x ∷ l) f = aside_more (put_aside u k x f.0 (slot_of x) refl) (numbered_aside (put_at u k (slot_of x)) (suc k) l f.1)

module _ {l : List Name} {k n : ℕ} {u v : List ℕ} (g : GivesIds l k u n v) where
  pub gives_length : length v ≡ length u
  gives_length = ap length g.words ∙ numbered_length u k l

  pub gives_low : (x : ℕ) → x < ids_at → get_or v x 0 ≡ get_or u x 0
  gives_low x h = ap (λ (w : List ℕ). get_or w x 0) g.words ∙ numbered_other u k x l (λ y i e. omega (arith, slot_from y x e))

  pub gives_aside : All NameFits l → Aside ids_at ids_end u v
  gives_aside f = subst (Aside ids_at ids_end u) (sym g.words) (numbered_aside u k l f)

-- ---- a run of inputs or of outputs

later : (f : ℕ → Value) → ((i : ℕ) → slot_of (value (f (suc i))) ≡ none) → (u : List ℕ) (k a n : ℕ) → numbered_words u k (map value (tabulate f (suc a) n)) ≡ u
unfolding numbered_words
later f h u k a zero = refl
later f h u k a (suc n) =
    ap (λ (o : Option ℕ). numbered_words (put_at u k o) (suc k) (map value (tabulate f (suc (suc a)) n))) (h a) ∙ later f h u (suc k) (suc a) n

pub numbered_run : (f : ℕ → Value) {s : ℕ} → slot_of (value (f 0)) ≡ some s → ((i : ℕ) → slot_of (value (f (suc i))) ≡ none)
    → (u : List ℕ) (k n : ℕ) → numbered_words u k (map value (tabulate f 0 n)) ≡ run_words u s k n
unfolding numbered_words
numbered_run f e h u k zero = refl
numbered_run f {s} e h u k (suc n) =
    ap (λ (o : Option ℕ). numbered_words (put_at u k o) (suc k) (map value (tabulate f 1 n))) e ∙ later f h (set u s k) (suc k) 0 n

-- ---- read back

module _ (s : ℕ) (from : ids_at ≤ s) (to : s < ids_end) where
  pub numbered_at : (u : List ℕ) (k : ℕ) (l : List Name) → NoDup l → All NameFits l → get_or u s 0 ≡ 0 → s < length u → get_or (numbered_words u k l) s 0 ≡ number_in k (name_in s) l
  unfolding numbered_words
  numbered_at u k [] once fits z low = z
  numbered_at u k (x ∷ l) once fits z low =
      let v : List ℕ = put_at u k (slot_of x) in
      split (eq_name (name_in s) x)
      (λ e.
      let here_slot : slot_of x ≡ some s = ap slot_of (sym e) ∙ name_slot s from to in
      numbered_other v (suc k) s l (λ y i g. once.0 (subst (λ (w : Name). In w l) (sym (slot_name y (all_in NameFits l fits.1 y i) s g) ∙ e) i))
      ∙ ap (λ (o : Option ℕ). get_or (put_at u k o) s 0) here_slot
      ∙ get_or-set_same u s k 0 low
      ∙ sym (choose_yes {A = ℕ} (eq_name (name_in s) x) k (number_in (suc k) (name_in s) l) e))
      (λ n.
      numbered_at v (suc k) l once.1 fits.1 (put_other u k s (slot_of x) (λ g. n (slot_name x fits.0 s g)) ∙ z) (omega (arith, put_length u k (slot_of x)))
      ∙ sym (choose_no {A = ℕ} (eq_name (name_in s) x) k (number_in (suc k) (name_in s) l) n))
