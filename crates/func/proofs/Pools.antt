-- The pools of the function slice lie apart, as `specs/Layout` lays them. Assumes nothing.
--     apart      two pools do not overlap
--     inside     a pool lies above the counts and below `func_need`, with room for 2,048 entries at most, of 1 to 8 words
--     spot       so an entry does
use Rattle.std.specs.Prelude.{◌≡◌, refl, Bool, true, false, ◌&&◌, List, [], ◌∷◌, ◌⊎◌, ℕ, zero, suc, ◌+◌, ◌*◌, ◌≤◌, ◌<◌, leb, ltb, length, get_or}
use Rattle.std.proofs.Common.{ap, ◌∙◌, inl, inr, not-suc-le-zero, le_of_suc-le-suc, arith, leb-true, ltb-true, ltb-false}
use Rattle.std.proofs.Math.ListN.{get_or-map}
use Rattle.general_laws.specs.Every.{every_at}
use Rattle.general_laws.specs.Tests.{both}
use Rattle.general_laws.specs.Lists.{every}
use Rattle.func.specs.Layout.{Extent, ctrls, pool_total, shapes, lay, pools, pool_of, base, width, room, end, func_need, Placed, entry_inside, entry_words, entry_room}

pub need_is : end ctrls ≡ func_need
unfolding end base width room pool_of pools shapes lay
need_is = refl

-- THE test: each pool lies above the counts and within the slice, its entries and their number are small, and the pools after it begin
-- where it has ended.
end_of : Extent → ℕ
end_of p = p.base + p.room * p.width

placed : Extent → Bool
unfolding end_of
placed p = leb 32 p.base && leb (end_of p) func_need && leb p.room 2048 && leb p.width 8 && leb 1 p.width

before : Extent → Extent → Bool
unfolding end_of
before p q = leb (end_of p) q.base

sound : List Extent → Bool
unfolding placed before
sound [] = true
sound (p ∷ ps) = placed p && every (before p) ps && sound ps

passed : sound pools ≡ true
unfolding pools shapes lay sound placed before end_of
passed = refl

-- the test at one pool, and at two
parts : (p : Extent) (ps : List Extent) → sound (p ∷ ps) ≡ true → (placed p ≡ true) × (every (before p) ps ≡ true) × (sound ps ≡ true)
unfolding sound
parts p ps e =
    let a = both (placed p && every (before p) ps) (sound ps) e in
    let b = both (placed p) (every (before p) ps) a.0 in
    (b.0, b.1, a.1)

placed_at : (ps : List Extent) → sound ps ≡ true → (k : ℕ) (d : Extent) → k < length ps → placed (get_or ps k d) ≡ true
placed_at [] e k d h = absurd (not-suc-le-zero h)
placed_at (p ∷ ps) e zero d h = (parts p ps e).0
placed_at (p ∷ ps) e (suc k) d h = placed_at ps (parts p ps e).2 k d (le_of_suc-le-suc h)

before_at : (ps : List Extent) → sound ps ≡ true → (j k : ℕ) (d : Extent) → j < k → k < length ps → before (get_or ps j d) (get_or ps k d) ≡ true
before_at [] e j k d l h = absurd (not-suc-le-zero h)
before_at (p ∷ ps) e j zero d l h = absurd (not-suc-le-zero l)
before_at (p ∷ ps) e zero (suc k) d l h = every_at (before p) ps (parts p ps e).1 k d (le_of_suc-le-suc h)
before_at (p ∷ ps) e (suc j) (suc k) d l h = before_at ps (parts p ps e).2 j k d (le_of_suc-le-suc l) (le_of_suc-le-suc h)

pub inside : (k : ℕ) → k < pool_total → Placed k
unfolding base width room end pool_of placed end_of
inside k h =
    let p = pool_of k in
    let z = both (leb 32 p.base && leb (end_of p) func_need && leb p.room 2048 && leb p.width 8) (leb 1 p.width) (placed_at pools passed k _ total) in
    let a = both (leb 32 p.base && leb (end_of p) func_need && leb p.room 2048) (leb p.width 8) z.0 in
    let b = both (leb 32 p.base && leb (end_of p) func_need) (leb p.room 2048) a.0 in
    let c = both (leb 32 p.base) (leb (end_of p) func_need) b.0 in
    record { above = leb-true _ _ c.0; below = leb-true _ _ c.1; room = leb-true _ _ b.1; narrow = leb-true _ _ a.1; wide = leb-true _ _ z.1 }
  where
    total : k < length pools
    total = unfold pools shapes lay in h

-- two pools lie apart
follows : (j k : ℕ) → j < k → k < pool_total → end j ≤ base k
unfolding base width room end pool_of before end_of
follows j k l h = leb-true _ _ (before_at pools passed j k _ l total)
  where
    total : k < length pools
    total = unfold pools shapes lay in h

pub apart : (j k : ℕ) → j < pool_total → k < pool_total → (j ≡ k → ⊥) → (end j ≤ base k) ⊎ (end k ≤ base j)
apart j k hj hk n = go (ltb j k) refl
  where
    go : (b : Bool) → ltb j k ≡ b → (end j ≤ base k) ⊎ (end k ≤ base j)
    go true e = inl (follows j k (ltb-true j k e) hk)
    go false e = inr (follows k j (let l = ltb-false j k e in omega arith) hj)

-- the same of a place that was computed
pub spot : (k i b v : ℕ) → k < pool_total → i < room k → b ≡ base k → v ≡ width k → (b + i * v ≡ base k + i * width k) × (b + i * v + width k ≤ func_need)
spot k i b v l h e q =
    let same : b + i * v ≡ base k + i * width k = ap (λ (n : ℕ). n + i * v) e ∙ ap (λ (n : ℕ). base k + i * n) q in
    (same, omega (arith, (inside k l).below, entry_inside k i h))

pub entry_words_law : (k : ℕ) → entry_words k ≡ width k
unfolding width pool_of pools shapes lay
entry_words_law k = get_or-map (λ (p : Extent). p.width) pools k (record { base = 0; width = 0; room = 0 })

pub entry_room_law : (k : ℕ) → entry_room k ≡ room k
unfolding room pool_of pools shapes lay
entry_room_law k = get_or-map (λ (p : Extent). p.room) pools k (record { base = 0; width = 0; room = 0 })
