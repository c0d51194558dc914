-- A line that is kept is read back. Assumes nothing.
--     adds_cells, adds_line     what a line adds to each pool
--     piece_back                slicing a pool by a run that was recorded while it grew gives back the list
--     row_cells, line_back      so a row says what its line says, at any later time
--     rows_back                 and so do the rows of a list of lines
use Rattle.std.specs.Prelude.{◌≡◌, refl, Bool, true, not, ◌&&◌, ℕ, zero, suc, ◌+◌, ◌-◌, ◌/◌, ◌%◌, ◌≤◌, ◌<◌, ltb, eqb, length, get_or}
use Rattle.std.proofs.Common.{sym, ap, subst, ◌∙◌, not-suc-le-zero, le_of_suc-le-suc, arith, ltb-true, eqb-true, eq-eqb, ne_eqb}
use Rattle.std.proofs.Math.Bool.{false}
use mathlib.Core.List.{List, [], ◌∷◌, ◌++◌, map, append-nil}
use Rattle.std.proofs.lemmas.Bool.{eqb-false, not-true}
use Rattle.general_laws.specs.Tests.{both}
use Rattle.general_laws.specs.Tab.{slice_middle}
use Rattle.general_laws.specs.Lists.{every}
use Rattle.func.specs.Layout.{pool_total, width, room, entry_room}
use Rattle.func.proofs.Pools.{inside, entry_room_law}
use Rattle.func.specs.Store.{count, view, push, folds}
use Rattle.func.proofs.Store.{length_view}
use Rattle.func.specs.Adds.{AddsReady, Adds, into_pool, grown}
use Rattle.func.proofs.Adds.{ready_after, adds_same, adds_none, adds_then, adds_push, adds_many, adds_folds}
use Rattle.func.specs.Lines.{Cell, num, run, pool_span, keep_cells, row_of, keep_row, pool_slice, gained, fresh_pool, proper, WideCells, line_gain, length_row, Line, Later, Piece, CellIs, Row, Agree, RowsEach, none, more}

proper_parts : (p : ℕ) (es : List (List ℕ)) (cs : List Cell) → proper (run p es ∷ cs) ≡ true → (p < pool_total) × (fresh_pool p cs ≡ true) × (proper cs ≡ true)
unfolding proper
proper_parts p es cs e =
    let a = both (ltb p pool_total && fresh_pool p cs) (proper cs) e in
    let b = both (ltb p pool_total) (fresh_pool p cs) a.0 in
    (ltb-true p pool_total b.0, b.1, a.1)

gained_here : (p j : ℕ) (es : List (List ℕ)) (cs : List Cell) → eqb p j ≡ true → gained (run p es ∷ cs) j ≡ es
unfolding gained
gained_here p j es cs e = rw (e, gained)

gained_else : (p j : ℕ) (es : List (List ℕ)) (cs : List Cell) → eqb p j ≡ false → gained (run p es ∷ cs) j ≡ gained cs j
unfolding gained
gained_else p j es cs e = rw (e, gained)

gained_fresh : (p : ℕ) (cs : List Cell) → fresh_pool p cs ≡ true → gained cs p ≡ []
unfolding gained fresh_pool
gained_fresh p [] e = refl
gained_fresh p (num n ∷ cs) e = gained_fresh p cs e
gained_fresh p (run q es ∷ cs) e =
    let a = both (not (eqb q p)) (fresh_pool p cs) e in
    gained_else q p es cs (not-true (eqb q p) a.0) ∙ gained_fresh p cs a.1

pub adds_cells : {w : List ℕ} (cs : List Cell) → proper cs ≡ true → WideCells cs → AddsReady w → Adds w (keep_cells cs w) (gained cs)
unfolding keep_cells
adds_cells [] e h r = adds_same (adds_none r) (λ j. unfold gained in refl)
adds_cells (num n ∷ cs) e h r = adds_same (adds_cells cs (unfold proper in e) h r) (λ j. unfold gained in refl)
adds_cells {w = w} (run p es ∷ cs) e h r =
    let q = proper_parts p es cs e in
    let a = adds_many p es r q.0 h.0 in
    adds_same (adds_then a (adds_cells {w = folds (push p) es w} cs q.2 h.1 (ready_after r a))) (λ j. joined j q.1 (eqb p j) refl)
  where
    joined : (j : ℕ) → fresh_pool p cs ≡ true → (b : Bool) → eqb p j ≡ b → into_pool p es j ++ gained cs j ≡ gained (run p es ∷ cs) j
    joined j f true q =
        subst (λ (i : ℕ). into_pool p es j ++ gained cs i ≡ gained (run p es ∷ cs) j) (eqb-true p j q)
        (rw (gained_fresh p cs f, gained_here p j es cs q, append-nil) (unfold into_pool in rw (q, into_pool)))
    joined j f false q = rw (gained_else p j es cs q) (unfold into_pool in rw (q, into_pool))

-- a row after the lists: what they add, and the row
pub adds_row : {w v : List ℕ} (k : ℕ) (row : List ℕ) (g : ℕ → List (List ℕ)) → AddsReady w → Adds w v g → k < pool_total → g k ≡ [] → length row ≡ width k
    → Adds w (push k row v) (λ j. elim (eqb k j) [ true ↦ row ∷ [] | false ↦ g j ])
unfolding into_pool
adds_row {w} {v} k row g r a l f q = adds_same (adds_then a (adds_push k row (ready_after r a) l q)) (λ j. joined j (eqb k j) refl)
  where
    joined : (j : ℕ) (b : Bool) → eqb k j ≡ b → g j ++ into_pool k (row ∷ []) j ≡ elim (eqb k j) as (λ x. List (List ℕ)) [ true ↦ row ∷ [] | false ↦ g j ]
    joined j true e = rw (e, into_pool) (ap (λ (x : List (List ℕ)). x ++ row ∷ []) (ap g (sym (eqb-true k j e)) ∙ f))
    joined j false e = rw (e, into_pool) (append-nil (g j))

pub adds_line : {w : List ℕ} (k : ℕ) (cs : List Cell) → Line k cs → AddsReady w → Adds w (keep_row k cs w) (line_gain k cs (row_of cs w (keep_cells cs w)))
unfolding keep_row line_gain
adds_line {w} k cs l r =
    adds_row k (row_of cs w (keep_cells cs w)) (gained cs) r (adds_cells cs l.lists l.wide r) l.pool (gained_fresh k cs l.own)
    (length_row cs w (keep_cells cs w) ∙ l.size)

pub later_then : {w v t : List ℕ} {g : ℕ → List (List ℕ)} → Adds w v g → Later v t → Later w t
later_then {g = g} a b = record { rest = λ k. g k ++ b.rest k; adds = adds_then a b.adds }

later_fits : {v t : List ℕ} → Later v t → (k : ℕ) → k < pool_total → count k t ≤ room k → count k v ≤ room k
later_fits b k l f = omega (arith, b.adds.counts k l)

span_start : (a b : ℕ) → a ≤ b → b ≤ 4095 → pool_span a b / 4096 ≡ a
unfolding pool_span
span_start a b h k = omega arith

span_count : (a b : ℕ) → a ≤ b → b ≤ 4095 → pool_span a b % 4096 ≡ b - a
unfolding pool_span
span_count a b h k = omega arith

-- THE core: a list that a pool gained from w to v is what stands at that run at any later time
pub piece_back : {w v t : List ℕ} {g : ℕ → List (List ℕ)} (p : ℕ) → Adds w v g → Later v t → p < pool_total → count p t ≤ entry_room p → Piece p (g p) t (pool_span (count p w) (count p v))
unfolding pool_slice
piece_back {w} {v} {t} {g} p a b l h =
    let f : count p t ≤ room p = omega (arith, entry_room_law p) in
    let few : room p ≤ 2048 = (inside p l).room in
    let fits : count p v ≤ room p = later_fits b p l f in
    let more : count p v ≡ count p w + length (g p) = omega (arith, a.counts p l) in
    let start : pool_span (count p w) (count p v) / 4096 ≡ length (view p w) =
    span_start (count p w) (count p v) (omega arith) (omega arith) ∙ omega (arith, length_view p w) in
    let size : pool_span (count p w) (count p v) % 4096 ≡ length (g p) =
    span_count (count p w) (count p v) (omega arith) (omega arith) ∙ omega arith in
    let all : view p t ≡ (view p w ++ g p) ++ b.rest p =
    b.adds.views p l f ∙ ap (λ (x : List (List ℕ)). x ++ b.rest p) (a.views p l fits) in
    record {
      within = omega (arith, length_view p w, b.adds.counts p l);
      is = rw (start, size, all) (slice_middle (view p w) (g p) (b.rest p));
    }

agree_more : (p : ℕ) (es : List (List ℕ)) (c : List Cell) (cs : List Cell) → fresh_pool p cs ≡ true → Agree (gained c) cs → Agree (gained (run p es ∷ c)) cs
unfolding fresh_pool
agree_more p es c [] f h = tt
agree_more p es c (num n ∷ cs) f h = agree_more p es c cs f h
agree_more p es c (run q us ∷ cs) f h =
    let a = both (not (eqb q p)) (fresh_pool p cs) f in
    let n = eqb-false q p (not-true (eqb q p) a.0) in
    (h.0, gained_else p q es c (ne_eqb p q (λ e. n (sym e))) ∙ h.1, agree_more p es c cs a.1 h.2)

pub agree : (cs : List Cell) → proper cs ≡ true → Agree (gained cs) cs
agree [] e = tt
agree (num n ∷ cs) e = numbers n cs (agree cs (unfold proper in e))
  where
    numbers : (n : ℕ) (cs : List Cell) → Agree (gained cs) cs → Agree (gained (num n ∷ cs)) cs
    numbers n cs h = unfold gained in h
agree (run p es ∷ cs) e =
    let q = proper_parts p es cs e in
    (q.0, gained_here p p es cs (eq-eqb p p refl), agree_more p es cs cs q.1 (agree cs q.2))

pub row_cells : {w v t : List ℕ} {g : ℕ → List (List ℕ)} → Adds w v g → Later v t → (cs : List Cell) → Agree g cs → Row t (row_of cs w v) cs
unfolding row_of
row_cells {w} {v} {t} {g} a b cs h = record { cell = cells cs h }
  where
    cells : (cs : List Cell) → Agree g cs → (j : ℕ) → j < length cs → CellIs t (get_or (row_of cs w v) j 0) (get_or cs j (num 0))
    cells [] h j l = absurd (not-suc-le-zero l)
    cells (num n ∷ cs) h zero l = refl
    cells (num n ∷ cs) h (suc j) l = cells cs h j (le_of_suc-le-suc l)
    cells (run p es ∷ cs) h zero l =
        λ f. subst (λ (es : List (List ℕ)). Piece p es t (pool_span (count p w) (count p v))) h.1 (piece_back p a b h.0 f)
    cells (run p es ∷ cs) h (suc j) l = cells cs h.2 j (le_of_suc-le-suc l)

-- a line's row is what the line says, at any later time
pub line_back : {w t : List ℕ} (k : ℕ) (cs : List Cell) → Line k cs → AddsReady w → Later (keep_row k cs w) t → Row t (row_of cs w (keep_cells cs w)) cs
unfolding keep_row
line_back {w} k cs l r b =
    let a = adds_cells cs l.lists l.wide r in
    let p = adds_push k (row_of cs w (keep_cells cs w)) (ready_after r a) l.pool (length_row cs w (keep_cells cs w) ∙ l.size) in
    row_cells a (later_then p b) cs (agree cs l.lists)

pub each_length : {A : Type 0} {P : List ℕ → A → Type 0} {es : List (List ℕ)} {xs : List A} → RowsEach P es xs → length es ≡ length xs
each_length none = refl
each_length (more p r) = ap suc (each_length r)

pub rows_each_at : {A : Type 0} {P : List ℕ → A → Type 0} {es : List (List ℕ)} {xs : List A} → RowsEach P es xs → (i : ℕ) (d : A) → i < length xs → P (get_or es i []) (get_or xs i d)
rows_each_at none i d h = absurd (not-suc-le-zero h)
rows_each_at (more p r) zero d h = p
rows_each_at (more p r) (suc i) d h = rows_each_at r i d (le_of_suc-le-suc h)

pub each_back : {A : Type 0} {P : List ℕ → A → Type 0} (f : List ℕ → A) (q : A → Bool) → ((e : List ℕ) (a : A) → P e a → q a ≡ true → f e ≡ a)
    → {es : List (List ℕ)} {xs : List A} → RowsEach P es xs → every q xs ≡ true → map f es ≡ xs
each_back f q h none t = refl
each_back {A} f q h (more {e = e} {es = es} {a = a} {xs = xs} p r) t =
    let u = both (q a) (every q xs) t in
    ap (λ (x : A). x ∷ map f es) (h e a p u.0) ∙ ap (λ (l : List A). a ∷ l) (each_back f q h r u.1)

-- lines that each push one row to pool k
pub rows_back : {A : Type 0} (k : ℕ) (f : A → List ℕ → List ℕ) (g : A → List ℕ → ℕ → List (List ℕ)) → ((a : A) (w : List ℕ) → AddsReady w → Adds w (f a w) (g a w))
    → (row : A → List ℕ → List ℕ) → ((a : A) (w : List ℕ) → g a w k ≡ row a w ∷ [])
    → (P : List ℕ → A → Type 0) {t : List ℕ} → ((a : A) (w : List ℕ) → AddsReady w → Later (f a w) t → P (row a w) a)
    → (xs : List A) (w : List ℕ) → AddsReady w → Later (folds f xs w) t → RowsEach P (grown f g xs w k) xs
unfolding grown folds
rows_back k f g h row e P p [] w r b = none
rows_back k f g h row e P p (a ∷ xs) w r b =
    let s = ready_after r (h a w r) in
    rw (e a w) (more (p a w r (later_then (adds_folds f g h xs (f a w) s) b)) (rows_back k f g h row e P p xs (f a w) s b))
