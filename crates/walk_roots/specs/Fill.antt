-- The steps of the loops that fill the tables by region, from the last line, node or child to the first. Assumes nothing.
use Rattle.std.specs.Prelude.{◌≡◌, refl, Bool, true, false, cond, not, ◌&&◌, List, [], ◌∷◌, ◌++◌, ℕ, ◌+◌, ◌-◌, ◌≤◌, ◌<◌, eqb, length, get_or, set, drop}
use Rattle.std.proofs.Common.{sym, ap, ◌∙◌, lit<, length-set}
use Rattle.std.proofs.Math.Path.{subst}
use native.Mathlib.Omega.{arith}
use Rattle.std.proofs.Math.Seq.{drop-length}
use Rattle.general_laws.specs.Lists.{gather, within, distinct, keys}
use Rattle.lifting.specs.Ast.{block, Node, ControlInst, Func}
use Rattle.lifting.specs.Parts.{node_of, children_of, child_list}
use Rattle.lifting.specs.Control.{is_root}
use Rattle.func.specs.Decode.{func_of}
use Rattle.func.specs.Layout.{ctrls}
use Rattle.func.specs.Tables.{Tables, ctrl_line_of}
use Rattle.func.proofs.Tables.{ctrl_total}
use Rattle.work.specs.Layout.{lines_at, children_at, tables_end, marks_at}
use Rattle.work.specs.Aside.{Aside, aside_none, aside_more, aside_set}
use Rattle.walk_roots.specs.Tables.{RegionsNamed, TablesBlank, LinesFrom, Indexed, RegionsMarked, blank_lines, marked_more, drop_one, line_words_more, once_more}

-- the ctrl lines from line i on are in the table
pub record Filling (func w : List ℕ) (i : ℕ) (work : List ℕ) (once : Bool) : Type 0 where
  pub tables : Tables func
  pub named : RegionsNamed (func_of func)
  pub size : tables_end ≤ length w
  pub below : i ≤ length (func_of func).ctrls
  pub same : length work ≡ length w
  pub aside : Aside lines_at children_at w work
  pub lines : LinesFrom (func_of func) i work
  pub is : once ≡ distinct (keys (drop i (func_of func).ctrls))

pub fill_first : {func w : List ℕ} → Tables func → RegionsNamed (func_of func) → tables_end ≤ length w → TablesBlank w → {i : ℕ} → i ≡ length (func_of func).ctrls → Filling func w i w true
fill_first {func} {w} t h z b {i} e = record {
  tables = t;
  named = h;
  size = z;
  below = omega arith;
  same = refl;
  aside = aside_none lines_at children_at w;
  lines = subst (λ (k : ℕ). LinesFrom (func_of func) k w) (sym e) (blank_lines b (func_of func));
  is = sym (ap (λ (k : ℕ). distinct (keys (drop k (func_of func).ctrls))) e ∙ ap (λ (l : List (ℕ × ControlInst)). distinct (keys l)) (drop-length (func_of func).ctrls));
}

module _ {func w : List ℕ} {i : ℕ} {work : List ℕ} {once : Bool} (f : Filling func w i work once) (more : 0 < i) {r : ℕ} (er : r ≡ (ctrl_line_of (func_of func) (i - 1)).0) where
  line_low : r < 128
  line_low = omega (arith, f.named.line (i - 1) (omega (arith, f.below)), f.named.few)

  pub fill_put : (r < 128) × (i - 1 < 128) × (tables_end ≤ length work)
  fill_put = omega (arith, line_low, f.below, f.size, f.same, ctrl_total f.tables, f.tables.counts ctrls (lit< tt))

  lines_next : LinesFrom (func_of func) (i - 1 + 1) work
  lines_next = let q : i ≡ i - 1 + 1 = omega arith in subst (λ (k : ℕ). LinesFrom (func_of func) k work) q f.lines

  module _ {x : Bool} (ex : x ≡ eqb (get_or work (lines_at + r) 0) 0) where
    once_is : distinct (keys (drop (i - 1) (func_of func).ctrls)) ≡ (x && once)
    once_is =
        let q : i - 1 + 1 ≡ i = omega arith in
        once_more (func_of func) work (i - 1) (omega (arith, f.below)) lines_next (omega (arith, line_low))
        ∙ ap (λ (k : ℕ). eqb (get_or work (lines_at + k) 0) 0 && distinct (keys (drop (i - 1 + 1) (func_of func).ctrls))) (sym er)
        ∙ ap (λ (b : Bool). b && distinct (keys (drop (i - 1 + 1) (func_of func).ctrls))) (sym ex)
        ∙ ap (λ (k : ℕ). x && distinct (keys (drop k (func_of func).ctrls))) q
        ∙ ap (λ (b : Bool). x && b) (sym f.is)

    filled : {out : List ℕ} {b : Bool} → out ≡ set work (lines_at + r) (i - 1 + 1) → b ≡ (x && once) → Filling func w (i - 1) out b
    filled {out} {b} eo eb = record {
      tables = f.tables;
      named = f.named;
      size = f.size;
      below = omega (arith, f.below);
      same = ap length eo ∙ length-set work (lines_at + r) (i - 1 + 1) ∙ f.same;
      aside = subst (Aside lines_at children_at w) (sym eo) (aside_set f.aside (lines_at + r) (i - 1 + 1) (omega arith) (omega (arith, line_low)));
      lines = subst (LinesFrom (func_of func) (i - 1)) (sym (eo ∙ ap (λ (k : ℕ). set work (lines_at + k) (i - 1 + 1)) er))
          (line_words_more (func_of func) work (i - 1) (omega (arith, f.below)) lines_next (omega (arith, line_low)) (omega (arith, f.size, f.same)));
      is = eb ∙ sym once_is;
    }

    -- the region has a later line
    pub fill_twice : x ≡ false → {out : List ℕ} → out ≡ set work (lines_at + r) (i - 1 + 1) → Filling func w (i - 1) out false
    fill_twice e eo = filled eo (sym (ap (λ (b : Bool). b && once) e))

    -- it has none
    pub fill_once : x ≡ true → {out : List ℕ} → out ≡ set work (lines_at + r) (i - 1 + 1) → Filling func w (i - 1) out once
    fill_once e eo = filled eo (sym (ap (λ (b : Bool). b && once) e))

pub fill_done : {func w : List ℕ} {i : ℕ} {work : List ℕ} {once : Bool} → Filling func w i work once → i ≤ 0 → (once ≡ distinct (keys (func_of func).ctrls)) × Indexed (func_of func) work
fill_done {func} {w} {i} {work} f z =
    let q : i ≡ 0 = omega arith in
    (f.is ∙ ap (λ (k : ℕ). distinct (keys (drop k (func_of func).ctrls))) q, record { line = subst (λ (k : ℕ). LinesFrom (func_of func) k work) q f.lines })

-- the children of node n from child i on are marked
pub record Marking (func : List ℕ) (n : ℕ) (w : List ℕ) (i : ℕ) (work : List ℕ) : Type 0 where
  pub tables : Tables func
  pub named : RegionsNamed (func_of func)
  pub known : n < length (func_of func).nodes
  pub size : tables_end ≤ length w
  pub below : i ≤ length (children_of (node_of (func_of func) n))
  pub same : length work ≡ length w
  pub aside : Aside children_at marks_at w work
  pub marks : (l : List ℕ) → RegionsMarked children_at l w → RegionsMarked children_at (drop i (children_of (node_of (func_of func) n)) ++ l) work

pub marking_first : {func w : List ℕ} {n : ℕ} → Tables func → RegionsNamed (func_of func) → n < length (func_of func).nodes → tables_end ≤ length w
    → {i : ℕ} → i ≡ length (children_of (node_of (func_of func) n)) → Marking func n w i w
marking_first {func} {w} {n} t h k z {i} e = record {
  tables = t;
  named = h;
  known = k;
  size = z;
  below = omega arith;
  same = refl;
  aside = aside_none children_at marks_at w;
  marks = λ l m. subst (λ (y : List ℕ). RegionsMarked children_at (y ++ l) w) (sym (ap (λ (j : ℕ). drop j (children_of (node_of (func_of func) n))) e ∙ drop-length (children_of (node_of (func_of func) n)))) m;
}

module _ {func : List ℕ} {n : ℕ} {w : List ℕ} {i : ℕ} {work : List ℕ} (f : Marking func n w i work) where
  module _ (more : 0 < i) {r : ℕ} (er : r ≡ get_or (children_of (node_of (func_of func) n)) (i - 1) 0) where
    pub marking_low : (r < 128) × (tables_end ≤ length work)
    marking_low = omega (arith, f.named.child n (i - 1) f.known (omega (arith, f.below)), f.named.few, f.size, f.same)

    pub marking_next : Marking func n w (i - 1) (set work (children_at + r) 1)
    marking_next =
        let q : i - 1 + 1 ≡ i = omega arith in
        record {
          tables = f.tables;
          named = f.named;
          known = f.known;
          size = f.size;
          below = omega (arith, f.below);
          same = length-set work (children_at + r) 1 ∙ f.same;
          aside = aside_set f.aside (children_at + r) 1 (omega arith) (omega (arith, marking_low.0));
          marks = λ l m.
              subst (λ (y : List ℕ). RegionsMarked children_at (y ++ l) (set work (children_at + r) 1))
              (sym (drop_one (children_of (node_of (func_of func) n)) (i - 1) 0 (omega (arith, f.below))
              ∙ ap (λ (y : ℕ). y ∷ drop (i - 1 + 1) (children_of (node_of (func_of func) n))) (sym er)
              ∙ ap (λ (y : ℕ). r ∷ drop y (children_of (node_of (func_of func) n))) q))
              (marked_more (f.marks l m) r marking_low.0 (omega (arith, marking_low)));
        }

  pub marking_done : i ≤ 0 → (l : List ℕ) → RegionsMarked children_at l w → RegionsMarked children_at (children_of (node_of (func_of func) n) ++ l) work
  marking_done z l m =
      let q : i ≡ 0 = omega arith in
      subst (λ (y : ℕ). RegionsMarked children_at (drop y (children_of (node_of (func_of func) n)) ++ l) work) q (f.marks l m)

-- the children of the nodes from node i on are
pub record NodesFilled (func w : List ℕ) (i : ℕ) (work : List ℕ) : Type 0 where
  pub tables : Tables func
  pub named : RegionsNamed (func_of func)
  pub size : tables_end ≤ length w
  pub below : i ≤ length (func_of func).nodes
  pub same : length work ≡ length w
  pub aside : Aside children_at marks_at w work
  pub marks : RegionsMarked children_at (gather children_of (drop i (func_of func).nodes)) work

pub nodes_first : {func w : List ℕ} → Tables func → RegionsNamed (func_of func) → tables_end ≤ length w → RegionsMarked children_at [] w → {i : ℕ} → i ≡ length (func_of func).nodes → NodesFilled func w i w
nodes_first {func} {w} t h z m {i} e = record {
  tables = t;
  named = h;
  size = z;
  below = omega arith;
  same = refl;
  aside = aside_none children_at marks_at w;
  marks = subst (λ (y : List Node). RegionsMarked children_at (gather children_of y) w) (sym (ap (λ (j : ℕ). drop j (func_of func).nodes) e ∙ drop-length (func_of func).nodes)) m;
}

module _ {func w : List ℕ} {i : ℕ} {work : List ℕ} (f : NodesFilled func w i work) where
  pub nodes_next : 0 < i → {out : List ℕ} → ((l : List ℕ) → RegionsMarked children_at l work → RegionsMarked children_at (children_of (node_of (func_of func) (i - 1)) ++ l) out)
      → Aside children_at marks_at work out → length out ≡ length work → NodesFilled func w (i - 1) out
  nodes_next more {out} m b z =
      let q : i ≡ i - 1 + 1 = omega arith in
      record {
        tables = f.tables;
        named = f.named;
        size = f.size;
        below = omega (arith, f.below);
        same = z ∙ f.same;
        aside = aside_more f.aside b;
        marks = subst (λ (y : List Node). RegionsMarked children_at (gather children_of y) out) (sym (drop_one (func_of func).nodes (i - 1) (block []) (omega (arith, f.below))))
            (m (gather children_of (drop (i - 1 + 1) (func_of func).nodes)) (subst (λ (j : ℕ). RegionsMarked children_at (gather children_of (drop j (func_of func).nodes)) work) q f.marks));
      }

  pub nodes_done : i ≤ 0 → RegionsMarked children_at (child_list (func_of func)) work
  unfolding child_list
  nodes_done z = let q : i ≡ 0 = omega arith in subst (λ (j : ℕ). RegionsMarked children_at (gather children_of (drop j (func_of func).nodes)) work) q f.marks

-- what a mark says of a region
pub mark_root : (F : Func) {w : List ℕ} → RegionsMarked children_at (child_list F) w → (r : ℕ) → r < 128 → eqb (get_or w (children_at + r) 0) 0 ≡ is_root F r
mark_root F {w} m r h = ap (λ (v : ℕ). eqb v 0) (m.mark r h) ∙ go (within r (child_list F))
  where
    go : (b : Bool) → eqb (cond b 1 0) 0 ≡ not b
    go true = refl
    go false = refl
