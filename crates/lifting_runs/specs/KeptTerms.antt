-- Absorption and the drop leave terminators, phis and points as the emitter needs them.
use Rattle.std.specs.Prelude.{◌≡◌, refl, [], ◌∷◌, ℕ, zero, suc, ◌≤◌, ◌<◌}
use Rattle.std.proofs.Common.{sym, ap, ◌∙◌, subst, inl, inr, arith}
use Rattle.std.proofs.Math.Option.{Option, none, some}
use Rattle.general_laws.specs.Lists.{choose, find}
use Rattle.lifting.specs.Points.{BlockLifting, CfgPoint, Table, block_at, eq_point}
use Rattle.lifting.specs.Absorb.{absorb, count_in, absorb_into, keep, keep_if, labels, refit, uses}
use Rattle.general_laws.specs.Members.{All, In, here, in_cases, in_nil, there}
use Rattle.lifting_runs.specs.AbsorbCount.{find_absorb, on_some, refit_keys}
use Rattle.lifting_runs.specs.Each.{after_absorb, each_absorbed}
use Rattle.lifting_runs.specs.Terms.{TermLeads, nothing_ok, ok_leads}

-- two findings at one point: both there or not, with the same phis
abbrev pub SameKeys : Option BlockLifting → Option BlockLifting → Type 0
SameKeys none none = Unit {0}
SameKeys none (some b) = ⊥
SameKeys (some a) none = ⊥
SameKeys (some a) (some b) = (a.keys ≡ b.keys) × (a.defaults ≡ b.defaults)

keys_refl : (o : Option BlockLifting) → SameKeys o o
keys_refl none = tt
keys_refl (some a) = (refl, refl)

keys_trans : (a b c : Option BlockLifting) → SameKeys a b → SameKeys b c → SameKeys a c
keys_trans none none none h k = tt
keys_trans none none (some c) h k = k
keys_trans none (some b) none h k = tt
keys_trans none (some b) (some c) h k = h
keys_trans (some a) none none h k = h
keys_trans (some a) none (some c) h k = absurd h
keys_trans (some a) (some b) none h k = k
keys_trans (some a) (some b) (some c) h k = (h.0 ∙ k.0, h.1 ∙ k.1)

pub same_some : (o : Option BlockLifting) (b : BlockLifting) → SameKeys o (some b) → (a : BlockLifting) × (o ≡ some a) × (a.keys ≡ b.keys) × (a.defaults ≡ b.defaults)
same_some none b h = absurd h
same_some (some a) b h = (a, refl, h.0, h.1)

pub some_same : (a : BlockLifting) (o : Option BlockLifting) → SameKeys (some a) o → (b : BlockLifting) × (o ≡ some b) × (a.keys ≡ b.keys) × (a.defaults ≡ b.defaults)
some_same a none h = absurd h
some_same a (some b) h = (b, refl, h.0, h.1)

pub record Shape (T U : Table) : Type 0 where
  pub leads : All (λ (x : CfgPoint × BlockLifting). TermLeads T x.1.term) U
  pub same : (q : CfgPoint) → SameKeys (find eq_point q U) (find eq_point q T)

module _ (T : Table) where
  refit_same : (b t : CfgPoint) (c : BlockLifting) (q : CfgPoint) (o : Option BlockLifting) → SameKeys (on_some (refit b t c q) o) o
  refit_same b t c q none = tt
  refit_same b t c q (some d) = refit_keys b t c q d

  abbrev Same : Table → Type 0
  Same U = (q : CfgPoint) → SameKeys (find eq_point q U) (find eq_point q T)

  absorb_same : (b t : CfgPoint) (U : Table) → Same U → Same (absorb_into b t (block_at U t) U)
  absorb_same b t U s q = keys_trans (find eq_point q (absorb_into b t (block_at U t) U)) (find eq_point q U) (find eq_point q T)
      (subst (λ (o : Option BlockLifting). SameKeys o (find eq_point q U)) (sym (find_absorb b t (block_at U t) U q)) (refit_same b t (block_at U t) q (find eq_point q U))) (s q)

  pub absorb_shape : All (λ (x : CfgPoint × BlockLifting). TermLeads T x.1.term) T → Shape T (absorb T).table
  absorb_shape h = record {
    leads = each_absorbed (λ (b : BlockLifting). TermLeads T b.term) (ok_leads (nothing_ok T)) (λ b k. ok_leads (nothing_ok T)) (λ b c k l. l) T h;
    same = after_absorb Same absorb_same T (λ q. keys_refl (find eq_point q T));
  }

-- what is kept
pub in_keep : (c : CfgPoint → ℕ) (T : Table) (x : CfgPoint × BlockLifting) → In x (keep c T) → In x T × (0 < c x.0)
in_keep c [] x h = absurd (in_nil h)
in_keep c (y ∷ T) x h = by_case (c y.0) refl h (in_keep c T x)
  where
    by_case : (n : ℕ) → c y.0 ≡ n → In x (keep_if n y (keep c T)) → (In x (keep c T) → In x T × (0 < c x.0)) → In x (y ∷ T) × (0 < c x.0)
    by_case zero e h ih = let r = ih h in (there r.0, r.1)
    by_case (suc n) e h ih = elim (in_cases h) [
      | inl q ↦ (subst (λ (z : CfgPoint × BlockLifting). In z (y ∷ T)) (sym q) here, omega (arith, ap (λ (z : CfgPoint × BlockLifting). c z.0) q, e))
      | inr i ↦ (there (ih i).0, (ih i).1)
    ]

pub in_uses : (T : Table) (x : CfgPoint × BlockLifting) (q : CfgPoint) → In x T → count_in q (labels x.1.term) ≤ uses T q
in_uses T x q (here {l = U}) = omega arith
in_uses T x q (there {l = U} h) = omega (arith, in_uses U x q h)

-- what is found among the kept is found before
pub keep_find : (c : CfgPoint → ℕ) (T : Table) (q : CfgPoint) (d : BlockLifting) → find eq_point q (keep c T) ≡ some d → 0 < c q
keep_find c [] q d e = absurd (let z : ◌≡◌ {A = ℕ} 0 1 = cc in omega arith)
keep_find c (y ∷ T) q d e = by_case (c y.0) refl e (keep_find c T q d)
  where
    here_or : (g : Dec (q ≡ y.0)) (n : ℕ) → c y.0 ≡ suc n → choose g (some y.1) (find eq_point q (keep c T)) ≡ some d → (find eq_point q (keep c T) ≡ some d → 0 < c q) → 0 < c q
    here_or (yes p) n e f ih = omega (arith, ap c p)
    here_or (no p) n e f ih = ih f

    by_case : (n : ℕ) → c y.0 ≡ n → find eq_point q (keep_if n y (keep c T)) ≡ some d → (find eq_point q (keep c T) ≡ some d → 0 < c q) → 0 < c q
    by_case zero e f ih = ih f
    by_case (suc n) e f ih = here_or (eq_point q y.0) n e f ih
