-- The laws of formats of a whole text. Assumes nothing.
use Rattle.std.specs.Prelude.{◌≡◌, refl, List, [], ◌∷◌, ℕ}
use Rattle.std.proofs.Common.{ap, subst, append-nil}
use Rattle.std.proofs.Math.Option.{Option, some, some-injective, none-ne-some}
use Rattle.lifting.specs.Codec.{Whole, then, then_some}
use Rattle.lifting.specs.Whole.{read_end, end, read_whole}
use Rattle.lifting.proofs.Codec.{Inverse}

pub sound_end : (t : List ℕ) (x : Unit {0} × Unit {0}) → read_end t ≡ some x → (t ≡ []) × Unit {0}
sound_end [] x e = (refl, tt)
sound_end (b ∷ t) x e = absurd (none-ne-some _ e)

pub end_inverse : Inverse end
unfolding end
end_inverse = record { sound = sound_end; full = λ a ok r m. refl }

pub whole_sound : {A : Type 0} {W : Whole A} → Inverse W → (t : List ℕ) (a : A) → read_whole W t ≡ some a → (t ≡ W.print a) × W.Ok a
unfolding read_whole
whole_sound {A} {W} i t a e =
    let p = then_some (W.read t) (λ x. some x.0) a e in
    subst (λ (y : A). (t ≡ W.print y) × W.Ok y) (some-injective _ a p.2) (rw append-nil at (i.sound t p.0 p.1))

pub whole_full : {A : Type 0} {W : Whole A} → Inverse W → (a : A) → W.Ok a → read_whole W (W.print a) ≡ some a
unfolding read_whole
whole_full i a ok = ap (λ (o : Option (_ × Unit {0})). then o (λ x. some x.0)) (rw append-nil at (i.full a ok tt tt))
