-- New ids are distinct, and what is read and set by key is read and set by id.
use Rattle.std.proofs.Math.Path.{◌≡◌, refl}
use Rattle.std.proofs.Common.{sym, ap, ◌∙◌, subst, inl, inr}
use Rattle.std.specs.Prelude.{◌⊎◌, Bool, not, List, [], ◌∷◌, ◌++◌, map, ℕ, suc, ◌+◌, ◌≤◌, ◌<◌, length}
use Rattle.std.proofs.Math.Option.{Option, some}
use Rattle.std.proofs.Math.Decide.{ℕ_discrete}
use native.Mathlib.Omega.{arith}
use Rattle.general_laws.specs.Lists.{choose, choose_no, choose_yes}
use Rattle.lifting.specs.Ast.{Func, Value, const, data_inst_output, eq_value, node_output, region_input}
use Rattle.lifting.specs.Parts.{const_of}
use Rattle.lifting.specs.Points.{CfgPoint, Table}
use Rattle.lifting.specs.Ids.{Name, eq_name, id_of, label, label_of, names, new_id, number_in, value}
use Rattle.lifting.specs.World.{and_some, put, puts, reads}
use Rattle.lifting.specs.BlockRun.{cons_if, labels_among, others_in}
use Rattle.general_laws.specs.Members.{All, In, here, in_nil, there, within_no, within_yes}
use Rattle.lifting_runs.specs.Accepted.{Numbered}

-- a name's place is its own
tail_of_law : {A : Type 0} {x y : A} {l : List A} → In x (y ∷ l) → ¬ (x ≡ y) → In x l
tail_of_law here n = absurd (n refl)
tail_of_law (there h) n = h

-- a name's number is 0 or one of those that the list's names have
pub number_range : (k : ℕ) (x : Name) (l : List Name) → (number_in k x l ≡ 0) ⊎ (k ≤ number_in k x l) × (number_in k x l < k + length l)
number_range k x [] = inl refl
number_range k x (y ∷ l) = by_case (eq_name x y) (number_range (suc k) x l)
  where
    by_case : (d : Dec (x ≡ y)) → (number_in (suc k) x l ≡ 0) ⊎ (suc k ≤ number_in (suc k) x l) × (number_in (suc k) x l < suc k + length l)
        → (choose d k (number_in (suc k) x l) ≡ 0) ⊎ (k ≤ choose d k (number_in (suc k) x l)) × (choose d k (number_in (suc k) x l) < k + suc (length l))
    by_case (yes e) r = inr (omega arith, omega arith)
    by_case (no n) (inl z) = inl z
    by_case (no n) (inr h) = inr (omega (arith, h.0), omega (arith, h.1))

pub number_from_law : (k : ℕ) (x : Name) (l : List Name) → In x l → k ≤ number_in k x l
number_from_law k x [] i = absurd (in_nil i)
number_from_law k x (y ∷ l) i = by_case (eq_name x y) (number_from_law (suc k) x l)
  where
    by_case : (d : Dec (x ≡ y)) → (In x l → suc k ≤ number_in (suc k) x l) → k ≤ choose d k (number_in (suc k) x l)
    by_case (yes e) ih = omega arith
    by_case (no n) ih = omega (arith, ih (tail_of_law i n))

number_inj : (l : List Name) (k : ℕ) (x y : Name) → 0 < k → In x l → number_in k x l ≡ number_in k y l → x ≡ y
number_inj [] k x y p i e = absurd (in_nil i)
number_inj (z ∷ l) k x y p i e = by_case (eq_name x z) (eq_name y z) (number_inj l (suc k) x y (omega arith)) e
  where
    off : (number_in (suc k) y l ≡ 0) ⊎ (suc k ≤ number_in (suc k) y l) × (number_in (suc k) y l < suc k + length l) → k ≡ number_in (suc k) y l → ⊥
    off (inl a) q = omega arith
    off (inr a) q = omega (arith, a.0)

    by_case : (d : Dec (x ≡ z)) (c : Dec (y ≡ z)) → (In x l → number_in (suc k) x l ≡ number_in (suc k) y l → x ≡ y)
        → choose d k (number_in (suc k) x l) ≡ choose c k (number_in (suc k) y l) → x ≡ y
    by_case (yes a) (yes b) ih q = a ∙ sym b
    by_case (yes a) (no b) ih q = absurd (off (number_range (suc k) y l) q)
    by_case (no a) (yes b) ih q = absurd (omega (arith, number_from_law (suc k) x l (tail_of_law i a)))
    by_case (no a) (no b) ih q = ih (tail_of_law i a) q

module _ (F : Func) (first : ℕ) (T K : Table) where
  -- a constant of the text, or a value with a new id
  abbrev pub KnownIds : Value → Type 0
  KnownIds (const n) = n < length F.consts
  KnownIds (region_input r i) = In (value (region_input r i)) (names F T K)
  KnownIds (node_output n i) = In (value (node_output n i)) (names F T K)
  KnownIds (data_inst_output i) = In (value (data_inst_output i)) (names F T K)

  pub id_const : (n : ℕ) → id_of F first T K (const n) ≡ (const_of F n).id
  unfolding id_of
  id_const n = refl

  -- an id is the text's own, or a new one
  data View (v : Value) : Type 0 where
    old : (n : ℕ) → v ≡ const n → View v
    new : id_of F first T K v ≡ new_id F first T K (value v) → (KnownIds v → In (value v) (names F T K)) → View v

  view : (v : Value) → View v
  unfolding id_of
  view (const n) = old n refl
  view (region_input r i) = new refl (λ h. h)
  view (node_output n i) = new refl (λ h. h)
  view (data_inst_output i) = new refl (λ h. h)

  module _ (ok : Numbered F first) where
    new_inj : {x y : Name} → In x (names F T K) → new_id F first T K x ≡ new_id F first T K y → x ≡ y
    unfolding new_id
    new_inj {x} {y} i e = number_inj (names F T K) first x y ok.positive i e

    new_low : {x : Name} → In x (names F T K) → first ≤ new_id F first T K x
    unfolding new_id
    new_low {x} i = number_from_law first x (names F T K) i

    pub id_inj : (v w : Value) → KnownIds v → KnownIds w → id_of F first T K v ≡ id_of F first T K w → v ≡ w
    id_inj v w kv kw e = by_view (view v) (view w)
      where
        by_view : View v → View w → v ≡ w
        by_view (old n p) (old k q) =
            p ∙ ap const (ok.once n k (subst KnownIds p kv) (subst KnownIds q kw) (sym (id_const n) ∙ sym (ap (id_of F first T K) p) ∙ e ∙ ap (id_of F first T K) q ∙ id_const k)) ∙ sym q
        by_view (old n p) (new q i) = absurd (omega (arith, ok.under n (subst KnownIds p kv), ap (id_of F first T K) p, id_const n, e, q, new_low (i kw)))
        by_view (new p i) (old k q) = absurd (omega (arith, ok.under k (subst KnownIds q kw), ap (id_of F first T K) q, id_const k, e, p, new_low (i kv)))
        by_view (new p i) (new q j) = val_inj (new_inj (i kv) (sym p ∙ e ∙ q))
          where
            val_inj : value v ≡ value w → v ≡ w
            val_inj x = cc

    -- no value in reach has id 0, which stands for none
    pub id_positive : (v : Value) → KnownIds v → 0 < id_of F first T K v
    id_positive v kv = by_view (view v)
      where
        by_view : View v → 0 < id_of F first T K v
        by_view (old n p) = omega (arith, ok.nonzero n (subst KnownIds p kv), ap (id_of F first T K) p, id_const n)
        by_view (new p i) = omega (arith, ok.positive, p, new_low (i kv))

    pub label_inj : (p q : CfgPoint) → In (label p) (names F T K) → label_of F first T K p ≡ label_of F first T K q → p ≡ q
    unfolding label_of
    label_inj p q i e = lab_inj (new_inj i e)
      where
        lab_inj : label p ≡ label q → p ≡ q
        lab_inj x = cc

    pub id_label : (v : Value) (p : CfgPoint) → KnownIds v → In (label p) (names F T K) → id_of F first T K v ≡ label_of F first T K p → ⊥
    unfolding label_of
    id_label v p kv il e = by_view (view v)
      where
        apart : value v ≡ label p → ⊥
        apart h = let z : ◌≡◌ {A = ℕ} 0 1 = cc in omega arith

        by_view : View v → ⊥
        by_view (old n q) = omega (arith, ok.under n (subst KnownIds q kv), ap (id_of F first T K) q, id_const n, e, new_low il)
        by_view (new q i) = apart (new_inj (i kv) (sym q ∙ e))

    -- reading and setting by key and by id
    module _ {Val : Type 0} where
      abbrev pub EnvRel : (Value → Option Val) → (ℕ → Option Val) → Type 0
      EnvRel e f = (v : Value) → KnownIds v → e v ≡ f (id_of F first T K v)

      pub reads_same : (e : Value → Option Val) (f : ℕ → Option Val) → EnvRel e f → (vs : List Value) → All KnownIds vs → reads e vs ≡ reads f (map (id_of F first T K) vs)
      reads_same e f r [] h = refl
      reads_same e f r (v ∷ vs) h =
          ap (λ (o : Option Val). and_some o (reads e vs)) (r v h.0) ∙ ap (λ (o : Option (List Val)). and_some (f (id_of F first T K v)) o) (reads_same e f r vs h.1)

      pub set_same : (e : Value → Option Val) (f : ℕ → Option Val) → EnvRel e f → (v : Value) → KnownIds v → (x : Val)
          → EnvRel (put eq_value e v x) (put ℕ_discrete f (id_of F first T K v) x)
      set_same e f r v k x w kw = by_case (eq_value w v)
        where
          by_case : (d : Dec (w ≡ v)) → choose d (some x) (e w) ≡ choose (ℕ_discrete (id_of F first T K w) (id_of F first T K v)) (some x) (f (id_of F first T K w))
          by_case (yes p) = sym (choose_yes (ℕ_discrete (id_of F first T K w) (id_of F first T K v)) (some x) (f (id_of F first T K w)) (ap (id_of F first T K) p))
          by_case (no n) = r w kw ∙ sym (choose_no (ℕ_discrete (id_of F first T K w) (id_of F first T K v)) (some x) (f (id_of F first T K w)) (λ q. n (id_inj w v kw k q)))

      pub puts_same : (ks : List Value) (xs : List Val) (e : Value → Option Val) (f : ℕ → Option Val) → EnvRel e f → All KnownIds ks
          → EnvRel (puts eq_value e ks xs) (puts ℕ_discrete f (map (id_of F first T K) ks) xs)
      puts_same [] xs e f r h = r
      puts_same (k ∷ ks) [] e f r h = r
      puts_same (k ∷ ks) (x ∷ xs) e f r h = puts_same ks xs (put eq_value e k x) (put ℕ_discrete f (id_of F first T K k) x) (set_same e f r k h.0 x) h.1

pub split_labels : (L a b : List ℕ) → All (λ x. ¬ (In x L)) a → All (λ x. In x L) b → (labels_among L (a ++ b) ≡ b) × (others_in L (a ++ b) ≡ a)
split_labels L [] [] na nb = (refl, refl)
split_labels L [] (y ∷ b) na nb =
    let r = split_labels L [] b tt nb.1 in
    let w = within_yes y L nb.0 in
    (ap (λ (t : Bool). cons_if t y (labels_among L b)) w ∙ ap (λ (l : List ℕ). y ∷ l) r.0, ap (λ (t : Bool). cons_if (not t) y (others_in L b)) w ∙ r.1)
split_labels L (x ∷ a) b na nb =
    let r = split_labels L a b na.1 nb in
    let w = within_no x L na.0 in
    (ap (λ (t : Bool). cons_if t x (labels_among L (a ++ b))) w ∙ r.0, ap (λ (t : Bool). cons_if (not t) x (others_in L (a ++ b))) w ∙ ap (λ (l : List ℕ). x ∷ l) r.1)
