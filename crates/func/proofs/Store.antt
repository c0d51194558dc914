-- What storing an entry leaves of the function slice. Assumes nothing.
--     length_push, head_push     the slice keeps its length and the func line's words
--     count_push, count_other    the count of a pool is the number of its entries, up to one above the room
--     most_push, most_other      the largest first word
--     view_push, view_full       an entry stands at the end of its pool, where there is room
--     view_other                 and every other pool is left alone
use Rattle.std.specs.Prelude.{◌≡◌, refl, Bool, true, false, List, [], ◌∷◌, ◌++◌, ◌⊎◌, ℕ, ◌+◌, ◌*◌, ◌≤◌, ◌<◌, min, max, ltb, length, get_or, set}
use Rattle.std.proofs.Common.{ap, ◌∙◌, inl, inr, ⊎_elim, arith, length-set, get_or-set_same, get_or-set_other, ltb-true, ltb-false, lt-ltb, le-ltb}
use Rattle.std.proofs.lemmas.List.Edits.{sets}
use Rattle.std.proofs.Math.Seq.{length-sets}
use Rattle.general_laws.specs.Part.{part_before, part_after, part_same, at_before}
use Rattle.general_laws.specs.Tab.{tab, length_tab, tab_same, tab_more}
use Rattle.func.specs.Layout.{func_need, pool_total, base, width, room, entry_inside, entry_before}
use Rattle.func.proofs.Pools.{inside, apart}
use Rattle.func.specs.Store.{most, count, entry, view, stored, place, raise, push}

-- the two cases of a place
pub place_yes : (k : ℕ) (e w : List ℕ) → count k w < room k → place k e w ≡ stored k e w
unfolding place
place_yes k e w h = rw (lt-ltb (count k w) (room k) h, place)

pub place_no : (k : ℕ) (e w : List ℕ) → room k ≤ count k w → place k e w ≡ set w (4 + k) (room k + 1)
unfolding place
place_no k e w h = rw (le-ltb (count k w) (room k) h, place)

cases : (k : ℕ) (w : List ℕ) → (count k w < room k) ⊎ (room k ≤ count k w)
cases k w = go (ltb (count k w) (room k)) refl
  where
    go : (b : Bool) → ltb (count k w) (room k) ≡ b → (count k w < room k) ⊎ (room k ≤ count k w)
    go true q = inl (ltb-true (count k w) (room k) q)
    go false q = inr (ltb-false (count k w) (room k) q)

length_place : (k : ℕ) (e w : List ℕ) → length (place k e w) ≡ length w
unfolding stored
length_place k e w =
    ⊎_elim
    (λ h. ap length (place_yes k e w h) ∙ length-set (sets w (base k + count k w * width k) e) (4 + k) (count k w + 1) ∙ length-sets w (base k + count k w * width k) e)
    (λ h. ap length (place_no k e w h) ∙ length-set w (4 + k) (room k + 1))
    (cases k w)

-- a word below the pools
low_place : (k : ℕ) (e w : List ℕ) (j : ℕ) → k < pool_total → j < 32 → (j ≡ 4 + k → ⊥) → get_or (place k e w) j 0 ≡ get_or w j 0
unfolding stored
low_place k e w j l b n =
    ⊎_elim
    (λ h.
    ap (λ (u : List ℕ). get_or u j 0) (place_yes k e w h)
    ∙ get_or-set_other (sets w (base k + count k w * width k) e) (4 + k) j (count k w + 1) 0 n
    ∙ at_before w e (base k + count k w * width k) j (omega (arith, (inside k l).above)))
    (λ h. ap (λ (u : List ℕ). get_or u j 0) (place_no k e w h) ∙ get_or-set_other w (4 + k) j (room k + 1) 0 n)
    (cases k w)

head_place : (k : ℕ) (e w : List ℕ) (j : ℕ) → k < pool_total → j < 4 → get_or (place k e w) j 0 ≡ get_or w j 0
head_place k e w j l b = low_place k e w j l (omega arith) (λ q. omega arith)

count_place_other : (k j : ℕ) (e w : List ℕ) → k < pool_total → j < pool_total → (k ≡ j → ⊥) → count j (place k e w) ≡ count j w
unfolding count
count_place_other k j e w l m n = low_place k e w (4 + j) l (omega arith) (λ q. n (omega arith))

count_place : (k : ℕ) (e w : List ℕ) → k < pool_total → func_need ≤ length w → count k (place k e w) ≡ min (count k w + 1) (room k + 1)
unfolding count stored
count_place k e w l s =
    ⊎_elim
    (λ h.
    ap (λ (u : List ℕ). get_or u (4 + k) 0) (place_yes k e w h)
    ∙ get_or-set_same (sets w (base k + get_or w (4 + k) 0 * width k) e) (4 + k) (get_or w (4 + k) 0 + 1) 0 (omega (arith, length-sets w (base k + get_or w (4 + k) 0 * width k) e))
    ∙ omega arith)
    (λ h. ap (λ (u : List ℕ). get_or u (4 + k) 0) (place_no k e w h) ∙ get_or-set_same w (4 + k) (room k + 1) 0 (omega arith) ∙ omega arith)
    (cases k w)

-- what a store leaves of an entry: it counts below the pools, and stores beside the entry
entry_low : (j i c v : ℕ) (w : List ℕ) → j < pool_total → c < 32 → entry j (set w c v) i ≡ entry j w i
unfolding entry
entry_low j i c v w l b = part_before (base j + i * width j) (width j) (v ∷ []) w c (omega (arith, (inside j l).above))

entry_off : (j i a : ℕ) (e w : List ℕ) → (base j + i * width j + width j ≤ a) ⊎ (a + length e ≤ base j + i * width j) → entry j (sets w a e) i ≡ entry j w i
unfolding entry
entry_off j i a e w h =
    ⊎_elim (part_after (base j + i * width j) (width j) e w a) (part_before (base j + i * width j) (width j) e w a) h

-- where entries of two pools lie
beside : (k j i c : ℕ) (e : List ℕ) → k < pool_total → j < pool_total → (k ≡ j → ⊥) → length e ≡ width k → c < room k → i < room j
    → (base j + i * width j + width j ≤ base k + c * width k) ⊎ (base k + c * width k + length e ≤ base j + i * width j)
beside k j i c e l m n q h g =
    ⊎_elim (λ b. inr (omega (arith, entry_inside k c h))) (λ b. inl (omega (arith, entry_inside j i g))) (apart k j l m n)

-- entry i of pool j, after a store of entry c of pool k
after : (k j i : ℕ) (e w : List ℕ) → j < pool_total → k < pool_total
    → (base j + i * width j + width j ≤ base k + count k w * width k) ⊎ (base k + count k w * width k + length e ≤ base j + i * width j)
    → entry j (stored k e w) i ≡ entry j w i
unfolding stored
after k j i e w m l h =
    entry_low j i (4 + k) (count k w + 1) (sets w (base k + count k w * width k) e) m (omega arith) ∙ entry_off j i (base k + count k w * width k) e w h

view_place_other : (k j : ℕ) (e w : List ℕ) → k < pool_total → j < pool_total → (k ≡ j → ⊥) → length e ≡ width k → view j (place k e w) ≡ view j w
unfolding view
view_place_other k j e w l m n q =
    ap (λ (c : ℕ). tab (min c (room j)) (entry j (place k e w))) (count_place_other k j e w l m n)
    ∙ tab_same (min (count j w) (room j)) (entry j (place k e w)) (entry j w) (λ i h. each i (omega arith))
  where
    each : (i : ℕ) → i < room j → entry j (place k e w) i ≡ entry j w i
    each i h =
        ⊎_elim
        (λ g. ap (λ (u : List ℕ). entry j u i) (place_yes k e w g) ∙ after k j i e w m l (beside k j i (count k w) e l m n q g h))
        (λ g. ap (λ (u : List ℕ). entry j u i) (place_no k e w g) ∙ entry_low j i (4 + k) (room k + 1) w m (omega arith))
        (cases k w)

view_place_full : (k : ℕ) (e w : List ℕ) → k < pool_total → func_need ≤ length w → room k ≤ count k w → view k (place k e w) ≡ view k w
unfolding view
view_place_full k e w l s h =
    ap (λ (c : ℕ). tab c (entry k (place k e w))) (omega (arith, count_place k e w l s))
    ∙ tab_same (min (count k w) (room k)) (entry k (place k e w)) (entry k w) each
  where
    each : (i : ℕ) → i < min (count k w) (room k) → entry k (place k e w) i ≡ entry k w i
    each i g = ap (λ (u : List ℕ). entry k u i) (place_no k e w h) ∙ entry_low k i (4 + k) (room k + 1) w l (omega arith)

view_place : (k : ℕ) (e w : List ℕ) → k < pool_total → func_need ≤ length w → length e ≡ width k → count k w < room k → view k (place k e w) ≡ view k w ++ e ∷ []
unfolding view entry stored
view_place k e w l s q h =
    ap (λ (c : ℕ). tab c (entry k (place k e w))) (omega (arith, count_place k e w l s))
    ∙ tab_more (min (count k w) (room k)) (entry k (place k e w))
    ∙ ap (λ (v : List (List ℕ)). v ++ entry k (place k e w) (min (count k w) (room k)) ∷ []) (tab_same (min (count k w) (room k)) (entry k (place k e w)) (entry k w) old)
    ∙ ap (λ (x : List ℕ). tab (min (count k w) (room k)) (entry k w) ++ x ∷ []) new
  where
    old : (i : ℕ) → i < min (count k w) (room k) → entry k (place k e w) i ≡ entry k w i
    old i g =
        ap (λ (u : List ℕ). entry k u i) (place_yes k e w h) ∙ after k k i e w l l (inl (entry_before k i (count k w) (omega arith)))

    new : entry k (place k e w) (min (count k w) (room k)) ≡ e
    new =
        ap (λ (c : ℕ). entry k (place k e w) c) (omega arith)
        ∙ ap (λ (u : List ℕ). entry k u (count k w)) (place_yes k e w h)
        ∙ entry_low k (count k w) (4 + k) (count k w + 1) (sets w (base k + count k w * width k) e) l (omega arith)
        ∙ part_same (base k + count k w * width k) (width k) e w q (omega (arith, entry_inside k (count k w) h, (inside k l).below))

-- how many entries a view has
pub length_view : (k : ℕ) (w : List ℕ) → length (view k w) ≡ min (count k w) (room k)
unfolding view
length_view k w = length_tab (min (count k w) (room k)) (entry k w)

length_raise : (k n : ℕ) (w : List ℕ) → length (raise k n w) ≡ length w
unfolding raise
length_raise k n w = length-set w (18 + k) (max (most k w) n)

low_raise : (k n : ℕ) (w : List ℕ) (j : ℕ) → (j ≡ 18 + k → ⊥) → get_or (raise k n w) j 0 ≡ get_or w j 0
unfolding raise
low_raise k n w j h = get_or-set_other w (18 + k) j (max (most k w) n) 0 h

entry_raise : (k n : ℕ) (w : List ℕ) (j i : ℕ) → k < pool_total → j < pool_total → entry j (raise k n w) i ≡ entry j w i
unfolding raise
entry_raise k n w j i l m = entry_low j i (18 + k) (max (most k w) n) w m (omega arith)

count_raise : (k n : ℕ) (w : List ℕ) (j : ℕ) → j < pool_total → count j (raise k n w) ≡ count j w
unfolding count
count_raise k n w j m = low_raise k n w (4 + j) (λ q. omega arith)

view_raise : (k n : ℕ) (w : List ℕ) (j : ℕ) → k < pool_total → j < pool_total → view j (raise k n w) ≡ view j w
unfolding view
view_raise k n w j l m =
    ap (λ (c : ℕ). tab (min c (room j)) (entry j (raise k n w))) (count_raise k n w j m)
    ∙ tab_same (min (count j w) (room j)) (entry j (raise k n w)) (entry j w) (λ i h. entry_raise k n w j i l m)

pub length_push : (k : ℕ) (e w : List ℕ) → length (push k e w) ≡ length w
unfolding push
length_push k e w = length_raise k (get_or e 0 0) (place k e w) ∙ length_place k e w

pub head_push : (k : ℕ) (e w : List ℕ) (j : ℕ) → k < pool_total → j < 4 → get_or (push k e w) j 0 ≡ get_or w j 0
unfolding push
head_push k e w j l b = low_raise k (get_or e 0 0) (place k e w) j (λ q. omega arith) ∙ head_place k e w j l b

pub count_other : (k j : ℕ) (e w : List ℕ) → k < pool_total → j < pool_total → (k ≡ j → ⊥) → count j (push k e w) ≡ count j w
unfolding push
count_other k j e w l m n = count_raise k (get_or e 0 0) (place k e w) j m ∙ count_place_other k j e w l m n

pub count_push : (k : ℕ) (e w : List ℕ) → k < pool_total → func_need ≤ length w → count k (push k e w) ≡ min (count k w + 1) (room k + 1)
unfolding push
count_push k e w l s = count_raise k (get_or e 0 0) (place k e w) k l ∙ count_place k e w l s

pub most_push : (k : ℕ) (e w : List ℕ) → k < pool_total → func_need ≤ length w → most k (push k e w) ≡ max (most k w) (get_or e 0 0)
unfolding push raise most
most_push k e w l s =
    get_or-set_same (place k e w) (18 + k) (max (get_or (place k e w) (18 + k) 0) (get_or e 0 0)) 0 (omega (arith, length_place k e w))
    ∙ ap (λ (x : ℕ). max x (get_or e 0 0)) (low_place k e w (18 + k) l (omega arith) (λ q. omega arith))

pub most_other : (k j : ℕ) (e w : List ℕ) → k < pool_total → j < pool_total → (k ≡ j → ⊥) → most j (push k e w) ≡ most j w
unfolding push most
most_other k j e w l m n = low_raise k (get_or e 0 0) (place k e w) (18 + j) (λ q. n (omega arith)) ∙ low_place k e w (18 + j) l (omega arith) (λ q. omega arith)

pub view_other : (k j : ℕ) (e w : List ℕ) → k < pool_total → j < pool_total → (k ≡ j → ⊥) → length e ≡ width k → view j (push k e w) ≡ view j w
unfolding push
view_other k j e w l m n q = view_raise k (get_or e 0 0) (place k e w) j l m ∙ view_place_other k j e w l m n q

pub view_full : (k : ℕ) (e w : List ℕ) → k < pool_total → func_need ≤ length w → room k ≤ count k w → view k (push k e w) ≡ view k w
unfolding push
view_full k e w l s h = view_raise k (get_or e 0 0) (place k e w) k l l ∙ view_place_full k e w l s h

pub view_push : (k : ℕ) (e w : List ℕ) → k < pool_total → func_need ≤ length w → length e ≡ width k → count k w < room k → view k (push k e w) ≡ view k w ++ e ∷ []
unfolding push
view_push k e w l s q h = view_raise k (get_or e 0 0) (place k e w) k l l ∙ view_place k e w l s q h
