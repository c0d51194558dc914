-- Steps of the proofs about phis: what their declarations are, and what moves into them. Assumes nothing.
--     entry-.., input-.., output_in    the phis of a region's entry, of a loop's entry, of a node's exit
--     init-..                          a loop's inits
--     ..-carried, no-..                where the values along the edges of each kind of way out stand
--     along                            a value along an edge, by where it stands
use Rattle.std.specs.Prelude.{◌≡◌, refl, true, List, [], ◌∷◌, map, ℕ, zero, suc, ◌+◌, ◌<◌, get_or, length}
use Rattle.std.proofs.Common.{sym, ap, subst, ◌∙◌, one-add, arith}
use Rattle.std.proofs.lemmas.Bool.{false≢true}
use Rattle.std.proofs.Math.ListN.{get_or-map}
use Rattle.lifting.specs.Ast.{Decl, Func, Node, Value, block, const, exit, loop, region_input, select}
use Rattle.lifting.specs.Parts.{children_of, node_of, node_values, outs_of, region_of}
use Rattle.lifting.specs.Points.{BlockLifting, CfgPoint, Terminator, node_entry, node_exit, region_entry}
use Rattle.lifting.specs.Walk.{Place, entry_decls, entry_keys, in_block, in_node, some_vals, top}
use Rattle.func.specs.Decode.{func_of}
use Rattle.func.specs.Tables.{ctrl_line_of}
use Rattle.func.proofs.Tables.{list_count, node_values_law}
use Rattle.func.specs.Kinds.{decl_from}
use Rattle.general_laws.specs.Members.{length_tabulate}
use Rattle.terminators.specs.At.{visited_block, block_of, place_in, point_at}
use Rattle.terminators.specs.Visited.{Visited}
use Rattle.terminators.specs.declared.TermKind.{TermKind}
use Rattle.terminators.specs.Edges.{values_along}
use Rattle.terminators.specs.Kinds.{TermIs, is_loop, term_of}
use Rattle.terminators.specs.Laws.{block_of_law, loop_child, loop_keys, of_text, out_keys_law}
use Rattle.emit_lists.specs.declared.Carried.{Carried}
use Rattle.emit_lists.specs.declared.Carried.TheVariants.{Entries, Outputs, Defaults}
use Rattle.emit_lists.specs.Phis.{Carries, CarriedFits, OutsCarried, carried_values}
use Rattle.emit_lists.specs.Laws.{list_back}

-- ---- what an entry says of its phis

module _ (F : Func) where
  entry_below : (r : ℕ) (p : Place) {j : ℕ} → j < length (entry_keys F r p) → j < length (region_of F r).ins
  entry_below zero top h = absurd (omega arith)
  entry_below (suc r) top h = omega (arith, length_tabulate (region_input (suc r)) 0 (length (region_of F (suc r)).ins))
  entry_below zero (in_node n) h = absurd (omega arith)
  entry_below (suc r) (in_node n) h = absurd (omega arith)

  entry_decls_law : (r : ℕ) (p : Place) {j : ℕ} → j < length (entry_keys F r p) → (region_of F r).ins ≡ entry_decls F r p
  entry_decls_law zero top h = absurd (omega arith)
  entry_decls_law (suc r) top h = refl
  entry_decls_law zero (in_node n) h = absurd (omega arith)
  entry_decls_law (suc r) (in_node n) h = absurd (omega arith)

  loop_phi : (d : Node) (n : ℕ) {j : ℕ} → j < length (in_block F d n).keys → is_loop d ≡ true
  loop_phi (block is) n h = absurd (omega arith)
  loop_phi (select k v cs ds u) n h = absurd (omega arith)
  loop_phi (loop b c is u) n h = refl
  loop_phi (exit i vs) n h = absurd (omega arith)

  loop_decls : (d : Node) (n : ℕ) → is_loop d ≡ true → (region_of F (get_or (children_of d) 0 0)).ins ≡ (in_block F d n).decls
  loop_decls (block is) n e = absurd (false≢true e)
  loop_decls (select k v cs ds u) n e = absurd (false≢true e)
  loop_decls (loop b c is u) n e = refl
  loop_decls (exit i vs) n e = absurd (false≢true e)

  init_below : (d : Node) (n : ℕ) {j : ℕ} → j < length (in_block F d n).defaults → 1 + j < length (node_values d)
  init_below (block is) n h = absurd (omega arith)
  init_below (select k v cs ds u) n h = absurd (omega arith)
  init_below (loop b c is u) n h = omega arith
  init_below (exit i vs) n h = absurd (omega arith)

  init_at : (d : Node) (n j : ℕ) → j < length (in_block F d n).defaults
      → get_or (node_values d) (1 + j) (const 0) ≡ get_or (in_block F d n).defaults j (const 0)
  init_at (block is) n j h = absurd (omega arith)
  init_at (select k v cs ds u) n j h = absurd (omega arith)
  init_at (loop b c is u) n j h = ap (λ (i : ℕ). get_or (c ∷ is) i (const 0)) (one-add j)
  init_at (exit i vs) n j h = absurd (omega arith)

-- ---- phi j of the i-th visited point, by its kind

module _ {w u : List ℕ} {m : ℕ} (k : Visited w u m) (i : ℕ) (h : i < m) (j : ℕ) where
  abbrev F : Func
  F = func_of w

  abbrev decl_at : BlockLifting → Decl
  decl_at b = get_or b.decls j (decl_from 0 0)

  abbrev default_at : BlockLifting → Value
  default_at b = get_or b.defaults j (const 0)

  -- from the block of the point p
  module _ {p : CfgPoint} (e : p ≡ point_at F i) where
    pub decl_here : {d : Decl} → d ≡ decl_at (block_of F p (point_at F (suc i))) → d ≡ decl_at (visited_block F i)
    decl_here = list_back decl_at (block_of_law k i h e)

    pub default_here : {v : Value} → v ≡ default_at (block_of F p (point_at F (suc i))) → v ≡ default_at (visited_block F i)
    default_here = list_back default_at (block_of_law k i h e)

  module _ (l : j < length (visited_block F i).keys) where
    key_here : {p : CfgPoint} → p ≡ point_at F i → j < length (block_of F p (point_at F (suc i))).keys
    key_here e = subst (λ (b : BlockLifting). j < length b.keys) (block_of_law k i h e) l

    module _ {r : ℕ} (e : region_entry r ≡ point_at F i) where
      pub entry_region_in : (r < length F.regions) × (j < length (region_of F r).ins)
      entry_region_in = (of_text k i h e, entry_below F r (place_in F r) (key_here e))

      pub entry_decl : {d : Decl} → d ≡ get_or (region_of F r).ins j (decl_from 0 0) → d ≡ decl_at (visited_block F i)
      entry_decl q = decl_here e (q ∙ ap (λ (ds : List Decl). get_or ds j (decl_from 0 0)) (entry_decls_law F r (place_in F r) (key_here e)))

    module _ {n : ℕ} (e : node_entry n ≡ point_at F i) where
      loops : is_loop (node_of F n) ≡ true
      loops = loop_phi F (node_of F n) n (key_here e)

      pub body_in : (n < length F.nodes) × (0 < length (children_of (node_of F n)))
      body_in = (of_text k i h e, loop_child (node_of F n) loops)

      -- b is the loop's body
      module _ {b : ℕ} (q : b ≡ get_or (children_of (node_of F n)) 0 0) where
        pub input_in : (b < length F.regions) × (j < length (region_of F b).ins)
        input_in = (
          omega (arith, k.walkable.named.child n 0 body_in.0 body_in.1),
          subst (λ (x : ℕ). j < length (region_of F x).ins) (sym q) (omega (arith, key_here e, loop_keys F (node_of F n) n loops)),
        )

        pub input_decl : {d : Decl} → d ≡ get_or (region_of F b).ins j (decl_from 0 0) → d ≡ decl_at (visited_block F i)
        input_decl g =
            decl_here e (g
            ∙ ap (λ (x : ℕ). get_or (region_of F x).ins j (decl_from 0 0)) q
            ∙ ap (λ (ds : List Decl). get_or ds j (decl_from 0 0)) (loop_decls F (node_of F n) n loops))

    pub output_in : {n : ℕ} → node_exit n ≡ point_at F i → (n < length F.nodes) × (j < length (outs_of (node_of F n)))
    output_in {n} e = (of_text k i h e, omega (arith, key_here e, out_keys_law n (outs_of (node_of F n))))

  -- the inits of the loop that begins there
  module _ (l : j < length (visited_block F i).defaults) {n : ℕ} (e : node_entry n ≡ point_at F i) where
    init_here : j < length (in_block F (node_of F n) n).defaults
    init_here = subst (λ (b : BlockLifting). j < length b.defaults) (block_of_law k i h e) l

    pub init_in : (n < length F.nodes) × (1 + j < length (node_values (node_of F n)))
    init_in = (of_text k i h e, init_below F (node_of F n) n init_here)

    pub init_low : 1 + j < 4096
    init_low = omega (arith, init_in.1, list_count (node_values_law k.tables n init_in.0))

    pub init_value : {v : Value} → v ≡ get_or (node_values (node_of F n)) (1 + j) (const 0) → v ≡ default_at (visited_block F i)
    init_value q = default_here e (q ∙ init_at F (node_of F n) n j init_here)

-- ---- values along edges

abbrev entries_to : List (ℕ × List Value) → List (CfgPoint × List Value)
entries_to l = map (λ e. (region_entry e.0, e.1)) l

entry_along : (l : List (ℕ × List Value)) → ¬ (length l ≡ 0) → (e : ℕ) (d : List Value) → values_along (entries_to l) e d ≡ (get_or l e (0, [])).1
entry_along [] h e d = absurd (h refl)
entry_along (x ∷ l) h e d = ap (λ (y : CfgPoint × List Value). y.1) (get_or-map (λ y. (region_entry y.0, y.1)) (x ∷ l) e (0, []))

outs_along : (q : CfgPoint) (vs : List Value) → ¬ (length vs ≡ 0) → (e : ℕ) (d : List Value) → 0 < length (values_along (some_vals q vs) e d)
    → values_along (some_vals q vs) e d ≡ vs
outs_along q [] h e d l = absurd (h refl)
outs_along q (v ∷ vs) h zero d l = refl
outs_along q (v ∷ vs) h (suc e) d l = absurd (omega arith)

-- a value of an entry is one of an entry that there is
pub entry_value_low : (l : List (ℕ × List Value)) (e : ℕ) {j : ℕ} → j < length (get_or l e (0, [])).1 → e < length l
entry_value_low [] e h = absurd (omega arith)
entry_value_low (x ∷ l) zero h = omega arith
entry_value_low (x ∷ l) (suc e) h = omega (arith, entry_value_low l e h)

module _ (F : Func) where
  pub none_carried : Carries F [] Defaults
  none_carried = record { is = λ e d h. refl; fits = tt }

  pub no_entries : (l : List (ℕ × List Value)) → length l ≡ 0 → Carries F (entries_to l) Defaults
  no_entries [] h = none_carried
  no_entries (x ∷ l) h = absurd (omega arith)

  pub entries_carried : {c : ℕ} → c < length F.ctrls → ¬ (length (ctrl_line_of F c).1.vals ≡ 0) → Carries F (entries_to (ctrl_line_of F c).1.vals) (Entries c)
  entries_carried {c} l h = record { is = λ e d p. entry_along (ctrl_line_of F c).1.vals h e d; fits = l }

  no_values : (q : CfgPoint) (vs : List Value) → length vs ≡ 0 → Carries F (some_vals q vs) Defaults
  no_values q [] h = none_carried
  no_values q (v ∷ vs) h = absurd (omega arith)

  pub no_outs : (r : ℕ) → length (region_of F r).outs ≡ 0 → OutsCarried F r Defaults
  no_outs r h q = no_values q (region_of F r).outs h

  pub outs_carried : {r : ℕ} → r < length F.regions → ¬ (length (region_of F r).outs ≡ 0) → OutsCarried F r (Outputs r)
  outs_carried {r} l h q = record { is = outs_along q (region_of F r).outs h; fits = l }

  pub carries_as : {x y : TermKind} {z : Carried} → x ≡ y → Carries F (term_of F y).vals z → Carries F (term_of F x).vals z
  carries_as {z = z} g h = subst (λ (v : TermKind). Carries F (term_of F v).vals z) (sym g) h

-- value j along the edge of entry e of a way out with the entries vals, where it stands in y
pub record Along (F : Func) (vals : List (CfgPoint × List Value)) (y : Carried) (e : ℕ) (d : List Value) (j : ℕ) : Type 0 where
  pub fits : CarriedFits F y
  pub below : j < length (carried_values F y e d)
  pub value : {v : Value} → v ≡ get_or (carried_values F y e d) j (const 0) → v ≡ get_or (values_along vals e d) j (const 0)

pub along : (F : Func) {t : Terminator} {x : TermKind} → TermIs F t x → {z y : Carried} → Carries F (term_of F x).vals z → z ≡ y
    → (e : ℕ) (d : List Value) {j : ℕ} → j < length (values_along t.vals e d) → Along F t.vals y e d j
along F {t} {x} k {z} {y} h g e d {j} l =
    let a : Carries F t.vals y = subst (Carries F t.vals) g (subst (λ (u : Terminator). Carries F u.vals z) (sym k.is) h) in
    let is = a.is e d (omega arith) in
    record {
      fits = a.fits;
      below = subst (λ (vs : List Value). j < length vs) is l;
      value = list_back (λ (vs : List Value). get_or vs j (const 0)) is;
    }
