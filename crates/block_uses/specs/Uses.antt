-- Use counts by a point's number, in 512 words of the work slice. Assumes nothing.
--     tally_none, tally_more    words that count a list of points, one after the other
--     uses-first, uses_next, uses_all     the uses of the first positions
--     tally_low     a count is at most the list's length
use Rattle.std.specs.Prelude.{◌≡◌, List, [], ◌∷◌, ◌++◌, ℕ, suc, ◌+◌, ◌*◌, ◌≤◌, ◌<◌, get_or, length, set, take}
use Rattle.std.proofs.Common.{sym, ap, ◌∙◌, append_assoc, append-nil, add-one, arith, get_or-set_other, get_or-set_same, take-suc}
use Rattle.std.proofs.Math.Seq.{take-length}
use Rattle.general_laws.specs.Lists.{choose, choose_no, choose_yes, gather}
use Rattle.lifting.specs.Ast.{Func}
use Rattle.lifting.specs.Points.{BlockLifting, CfgPoint, Table, eq_point}
use Rattle.lifting.specs.Walk.{walk_of}
use Rattle.lifting.specs.Absorb.{count_in, labels, use_count}
use Rattle.general_laws.specs.Gather.{gather_append}
use Rattle.work.specs.Layout.{uses_at, uses_end}
use Rattle.general_laws.specs.Tests.{split}
use Rattle.work.specs.Aside.{Cleared}
use Rattle.lifting_blocks.specs.Flat.{no_pair}
use Rattle.lifting_blocks.specs.Totals.{first_point, use_count_law, uses_of}
use Rattle.walk_points.specs.Numbers.{Small, number_back, point_low, point_back, point_number, point_of}
use Rattle.terminators.specs.At.{visited_block}

-- the words count how often each point stands in a list
pub record Tally (l : List CfgPoint) (u : List ℕ) : Type 0 where
  pub word : (q : ℕ) → q < 512 → get_or u (uses_at + q) 0 ≡ count_in (point_of q) l

-- the words are the use counts
pub record Counted (F : Func) (u : List ℕ) : Type 0 where
  pub word : (q : ℕ) → q < 512 → get_or u (uses_at + q) 0 ≡ use_count (walk_of F) (point_of q)

count_append : (q : CfgPoint) (k l : List CfgPoint) → count_in q (k ++ l) ≡ count_in q k + count_in q l
count_append q [] l = omega arith
count_append q (p ∷ k) l = omega (arith, count_append q k l)

count_low : (q : CfgPoint) (l : List CfgPoint) → count_in q l ≤ length l
count_low q [] = omega arith
count_low q (p ∷ l) = go (eq_point q p) (count_low q l)
  where
    go : (d : Dec (q ≡ p)) → count_in q l ≤ length l → choose d 1 0 + count_in q l ≤ suc (length l)
    go (yes e) h = omega arith
    go (no n) h = omega arith

pub tally_low : {l : List CfgPoint} {u : List ℕ} → Tally l u → (q : ℕ) → q < 512 → get_or u (uses_at + q) 0 ≤ length l
tally_low {l} t q h = omega (arith, t.word q h, count_low (point_of q) l)

module _ {l : List CfgPoint} {u : List ℕ} (t : Tally l u) (z : uses_end ≤ length u) (p : CfgPoint) (s : Small p) where
  abbrev at : ℕ
  at = uses_at + point_number p

  -- one more point
  pub tally_more : Tally (l ++ (p ∷ [])) (set u at (get_or u at 0 + 1))
  tally_more = record {
    word = λ q h. split (eq_point (point_of q) p)
        (λ e.
        let same : point_number p ≡ q = ap point_number (sym e) ∙ number_back q in
        let low : at < length u = omega (arith, point_low p s) in
        let one : choose (eq_point (point_of q) p) 1 0 ≡ 1 = choose_yes {A = ℕ} (eq_point (point_of q) p) 1 0 e in
        ap (λ (x : ℕ). get_or (set u at (get_or u at 0 + 1)) (uses_at + x) 0) (sym same)
        ∙ get_or-set_same u at (get_or u at 0 + 1) 0 low
        ∙ omega (arith, ap (λ (x : ℕ). get_or u (uses_at + x) 0) same, t.word q h, count_append (point_of q) l (p ∷ [])))
        (λ n.
        let other : ¬ (uses_at + q ≡ at) = λ e. n (let g : q ≡ point_number p = omega arith in ap point_of g ∙ point_back p s) in
        let none : choose (eq_point (point_of q) p) 1 0 ≡ 0 = choose_no {A = ℕ} (eq_point (point_of q) p) 1 0 n in
        get_or-set_other u at (uses_at + q) (get_or u at 0 + 1) 0 other ∙ omega (arith, t.word q h, count_append (point_of q) l (p ∷ [])));
  }

-- no point is used
pub tally_cleared : {w u : List ℕ} → Cleared uses_at uses_end w u → Tally [] u
tally_cleared k = record { word = λ q h. k.blank (uses_at + q) (omega arith) (omega arith) }

-- ---- the uses of the first positions

module _ (F : Func) where
  abbrev labels_of : CfgPoint × BlockLifting → List CfgPoint
  labels_of x = labels x.1.term

  -- the first point, and the labels of the first i positions
  abbrev pub uses_to : ℕ → List CfgPoint
  uses_to i = first_point (walk_of F) ++ gather labels_of (take i (walk_of F))

  pub uses_none : uses_to 0 ≡ first_point (walk_of F)
  uses_none = append-nil (first_point (walk_of F))

  pub uses_next : (i : ℕ) → i < length (walk_of F) → uses_to (i + 1) ≡ uses_to i ++ labels (visited_block F i).term
  uses_next i h =
      ap (λ (l : List CfgPoint). first_point (walk_of F) ++ l) (
      ap (λ (n : ℕ). gather labels_of (take n (walk_of F))) (add-one i)
      ∙ ap (gather labels_of) (take-suc (walk_of F) i no_pair h)
      ∙ gather_append labels_of (take i (walk_of F)) (get_or (walk_of F) i no_pair ∷ [])
      ∙ ap (λ (l : List CfgPoint). gather labels_of (take i (walk_of F)) ++ l) (append-nil (labels (visited_block F i).term)))
      ∙ sym (append_assoc (first_point (walk_of F)) (gather labels_of (take i (walk_of F))) (labels (visited_block F i).term))

  pub uses_all : (i : ℕ) → length (walk_of F) ≤ i → i ≤ length (walk_of F) → uses_to i ≡ uses_of (walk_of F)
  uses_all i a b =
      let e : i ≡ length (walk_of F) = omega arith in
      ap (λ (n : ℕ). uses_to n) e ∙ ap (λ (U : Table). first_point (walk_of F) ++ gather labels_of U) (take-length (walk_of F))

  pub counted_all : {u : List ℕ} → Tally (uses_of (walk_of F)) u → Counted F u
  counted_all t = record { word = λ q h. t.word q h ∙ sym (use_count_law (walk_of F) (point_of q)) }

-- the uses of the first i positions are counted, of which there are at most 4,097 for each
pub record Tallied (F : Func) (i : ℕ) (u : List ℕ) : Type 0 where
  pub tally : Tally (uses_to F i) u
  pub few : length (uses_to F i) ≤ 1 + 4097 * i
