-- What a pass writes of all kept blocks, where neighbours are absorbed, is what it writes at each visited point, in order. Assumes nothing.
use Rattle.std.specs.Prelude.{◌≡◌, Bool, get_or, length}
use Rattle.std.proofs.Math.Path.{refl, sym, ap, ap₂}
use Rattle.std.proofs.Common.{◌∙◌, arith}
use Rattle.std.proofs.Math.Bool.{true, false}
use mathlib.Core.List.{List, [], ◌∷◌, ◌++◌, append_assoc, append-nil}
use Prim.Native.Nat.{ℕ, zero, suc, ◌≤◌, ◌<◌}
use Rattle.general_laws.specs.Gather.{gather_append}
use Rattle.general_laws.specs.Lists.{gather}
use Rattle.lifting.specs.Points.{CfgPoint, BlockLifting, Table}
use Rattle.lifting.specs.Absorb.{keep_if, keep}
use Rattle.lifting_blocks.specs.Flat.{up_to, Status, gone, goes, Carry, fresh, off, on, by_count, status, carry, no_pair, absorbs_next, absorbs_first, absorbs_here, status_from, AbsorbedRun, absorb_step, absorb_from, absorb_runs, Pass, block_parts, pass_part, part_at}

-- the first taken off
pub up_to_cons : {A : Type 0} (f : ℕ → List A) (n : ℕ) → up_to f (suc n) ≡ f 0 ++ up_to (λ i. f (suc i)) n
unfolding up_to
up_to_cons f zero = sym (append-nil (f 0))
up_to_cons {A} f (suc n) = ap (λ (l : List A). l ++ f (suc n)) (up_to_cons f n) ∙ append_assoc (f 0) (up_to (λ i. f (suc i)) n) (f (suc n))

pub up_to_same : {A : Type 0} (f g : ℕ → List A) → ((i : ℕ) → f i ≡ g i) → (n : ℕ) → up_to f n ≡ up_to g n
unfolding up_to
up_to_same f g h zero = refl
up_to_same {A} f g h (suc n) = ap₂ (λ (a b : List A). a ++ b) (up_to_same f g h n) (h n)

pub gather_up_to : {A B : Type 0} (g : A → List B) (f : ℕ → List A) (n : ℕ) → gather g (up_to f n) ≡ up_to (λ i. gather g (f i)) n
unfolding up_to
gather_up_to g f zero = refl
gather_up_to {A} {B} g f (suc n) = gather_append g (up_to f n) (f n) ∙ ap (λ (l : List B). l ++ gather g (f n)) (gather_up_to g f n)

-- the point at i absorbs the one at the next position; the last one absorbs none
pub absorb_next : (c : CfgPoint → ℕ) (T : Table) (i : ℕ) → suc i < length T → absorbs_here c T i ≡ absorbs_next c (get_or T i no_pair) (get_or T (suc i) no_pair)
unfolding absorbs_here absorbs_first
absorb_next c [] i h = absurd (omega arith)
absorb_next c (x ∷ []) i h = absurd (omega arith)
absorb_next c (x ∷ y ∷ T) zero h = refl
absorb_next c (x ∷ y ∷ T) (suc i) h = absorb_next c (y ∷ T) i (omega arith)

pub absorb_last : (c : CfgPoint → ℕ) (T : Table) (i : ℕ) → length T ≤ suc i → absorbs_here c T i ≡ false
unfolding absorbs_here absorbs_first
absorb_last c [] i h = refl
absorb_last c (x ∷ []) zero h = refl
absorb_last c (x ∷ []) (suc i) h = refl
absorb_last c (x ∷ y ∷ T) zero h = absurd (omega arith)
absorb_last c (x ∷ y ∷ T) (suc i) h = absorb_last c (y ∷ T) i (omega arith)

module _ (c : CfgPoint → ℕ) {A : Type 0} (m : Pass A) where
  -- the parts, from what is carried over
  unfoldable parts_from : Carry → Table → List A
  parts_from g [] = []
  parts_from g (x ∷ T) = pass_part m (status g (c x.0)) (absorbs_first c x T) x ++ parts_from (carry (status g (c x.0)) x.0 (absorbs_first c x T)) T

  -- what is left of a block with the label of h, and what stands behind it
  abbrev ends : CfgPoint → BlockLifting → Table → List A
  ends h b R = gather m.op b.ops ++ (m.end h b.term ++ block_parts m (keep c R))

  record Claims (x : CfgPoint × BlockLifting) (T : Table) : Type 0 where
    in_one : (h : CfgPoint) → parts_from (on h) (x ∷ T) ≡ ends h (absorb_from c x T).block (absorb_from c x T).rest
    in_none : parts_from off (x ∷ T) ≡ block_parts m (keep c (absorb_from c x T).rest)
    anew : parts_from fresh (x ∷ T) ≡ block_parts m (keep_if (c x.0) (x.0, (absorb_from c x T).block) (keep c (absorb_from c x T).rest))

  last_on : (h : CfgPoint) (x : CfgPoint × BlockLifting) → parts_from (on h) (x ∷ []) ≡ ends h x.1 []
  unfolding parts_from pass_part absorbs_first block_parts
  last_on h x = append_assoc (gather m.op x.1.ops) (m.end h x.1.term) []

  last_anew : (n : ℕ) (x : CfgPoint × BlockLifting) → pass_part m (by_count n) false x ++ [] ≡ block_parts m (keep_if n x [])
  unfolding pass_part block_parts
  last_anew zero x = refl
  last_anew (suc n) x = refl

  module _ (x y : CfgPoint × BlockLifting) (U : Table) (ih : Claims y U) where
    abbrev r : AbsorbedRun
    r = absorb_from c y U

    abbrev own : List A
    own = gather m.op x.1.ops

    abbrev begun : List A
    begun = m.start x.0 x.1.keys x.1.decls

    step_on : (h : CfgPoint) (g : Bool) → pass_part m (goes h) g x ++ parts_from (carry (goes h) x.0 g) (y ∷ U) ≡ ends h (absorb_step g x y.0 r).block (absorb_step g x y.0 r).rest
    unfolding pass_part
    step_on h true =
        let theirs : List A = gather m.op r.block.ops in
        let last : List A = m.end h r.block.term ++ block_parts m (keep c r.rest) in
        ap₂ (λ (a b : List A). a ++ b) (append-nil own) (ih.in_one h)
        ∙ sym (append_assoc own theirs last)
        ∙ ap (λ (l : List A). l ++ last) (sym (gather_append m.op x.1.ops r.block.ops))
    step_on h false = ap (λ (l : List A). (own ++ m.end h x.1.term) ++ l) ih.anew ∙ append_assoc own (m.end h x.1.term) (block_parts m (keep c ((y.0, r.block) ∷ r.rest)))

    step_off : (g : Bool) → parts_from (carry gone x.0 g) (y ∷ U) ≡ block_parts m (keep c (absorb_step g x y.0 r).rest)
    step_off true = ih.in_none
    step_off false = ih.anew

    step_anew : (n : ℕ) (g : Bool) → pass_part m (by_count n) g x ++ parts_from (carry (by_count n) x.0 g) (y ∷ U)
        ≡ block_parts m (keep_if n (x.0, (absorb_step g x y.0 r).block) (keep c (absorb_step g x y.0 r).rest))
    unfolding pass_part block_parts
    step_anew zero g = step_off g
    step_anew (suc n) true =
        let theirs : List A = gather m.op (x.1.ops ++ r.block.ops) in
        let last : List A = m.end x.0 r.block.term in
        append_assoc begun (own ++ []) (parts_from (on x.0) (y ∷ U))
        ∙ ap (λ (l : List A). begun ++ l) (step_on x.0 true ∙ sym (append_assoc theirs last _))
        ∙ sym (append_assoc begun (theirs ++ last) (block_parts m (keep c r.rest)))
    step_anew (suc n) false = ap (λ (l : List A). (begun ++ (own ++ m.end x.0 x.1.term)) ++ l) ih.anew

  claims : (x : CfgPoint × BlockLifting) (T : Table) → Claims x T
  unfolding parts_from absorb_from absorbs_first pass_part block_parts
  claims x [] = record { in_one = λ h. last_on h x; in_none = refl; anew = last_anew (c x.0) x }
  claims x (y ∷ U) = record {
    in_one = λ h. step_on x y U (claims y U) h (absorbs_next c x y);
    in_none = step_off x y U (claims y U) (absorbs_next c x y);
    anew = step_anew x y U (claims y U) (c x.0) (absorbs_next c x y);
  }

  into_parts : (T : Table) → block_parts m (keep c (absorb_runs c T)) ≡ parts_from fresh T
  unfolding absorb_runs parts_from block_parts
  into_parts [] = refl
  into_parts (x ∷ T) = sym (claims x T).anew

  -- by position
  status_shift : (g : Carry) (x : CfgPoint × BlockLifting) (T : Table) (i : ℕ) → status_from c g (x ∷ T) (suc i) ≡ status_from c (carry (status g (c x.0)) x.0 (absorbs_first c x T)) T i
  unfolding status_from absorbs_here
  status_shift g x T zero = refl
  status_shift g x T (suc i) = ap (λ (s : Status). status (carry s (get_or T i no_pair).0 (absorbs_here c T i)) (c (get_or T (suc i) no_pair).0)) (status_shift g x T i)

  abbrev at : Carry → Table → ℕ → List A
  at g T i = pass_part m (status_from c g T i) (absorbs_here c T i) (get_or T i no_pair)

  by_position : (g : Carry) (T : Table) → parts_from g T ≡ up_to (at g T) (length T)
  unfolding parts_from up_to status_from absorbs_here
  by_position g [] = refl
  by_position g (x ∷ T) =
      let k : Carry = carry (status g (c x.0)) x.0 (absorbs_first c x T) in
      ap (λ (l : List A). pass_part m (status g (c x.0)) (absorbs_first c x T) x ++ l)
      (by_position k T ∙ up_to_same (at k T) (λ i. at g (x ∷ T) (suc i)) (λ i. ap (λ (s : Status). pass_part m s (absorbs_here c T i) (get_or T i no_pair)) (sym (status_shift g x T i))) (length T))
      ∙ sym (up_to_cons (at g (x ∷ T)) (length T))

  pub parts_flat : (T : Table) → block_parts m (keep c (absorb_runs c T)) ≡ up_to (part_at c m T) (length T)
  unfolding part_at
  parts_flat T = into_parts T ∙ by_position fresh T
