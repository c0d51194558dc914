-- Steps of the proofs about phis, by what emitting asks. Assumes nothing.
--     key_here         what a phi sets, by its point
--     head_number      the label of a block, by the word of a position in it
--     key_names        what a phi sets names something
--     from_low, value_low, value_names    an edge into a visited point, and what moves along it
--     pairs_put, ids_are       the pairs of a phi, and how many ids they have
--     Pairing, pairing-..      a loop that appends the pair of an edge a turn
use mathlib.Core.Path.{◌≡◌, sym, ap, subst, ◌∙◌}
use mathlib.Core.List.{List, [], ◌∷◌, ◌++◌, append-nil}
use Prim.Native.Nat.{ℕ, ◌+◌, ◌-◌, ◌*◌, ◌≤◌, ◌<◌}
use native.Mathlib.Omega.{arith}
use lib.ListN.{get_or, length}
use Rattle.general_laws.specs.Lists.{gather}
use Rattle.lifting.specs.Ast.{Func, Value, const}
use Rattle.lifting.specs.Points.{CfgPoint}
use Rattle.lifting.specs.Walk.{walk_of}
use Rattle.func.specs.Decode.{func_of}
use Rattle.general_laws.specs.Gather.{gather_append}
use Rattle.general_laws.specs.Members.{In, all_in, in_get_or}
use Rattle.lifting_runs.specs.Refers.{Named, refers}
use Rattle.work.specs.Layout.{statuses_at}
use Rattle.lifting_blocks.specs.Flat.{gone}
use Rattle.walk_points.specs.Numbers.{point_number}
use Rattle.terminators.specs.At.{visited_block, point_at}
use Rattle.terminators.specs.Visited.{Visited}
use Rattle.block_absorbs.specs.Absorbs.{stands}
use Rattle.emit_words.specs.declared.Writer.{Writer}
use Rattle.general_laws.specs.Part.{last_place}
use Rattle.emit_words.specs.Put.{Item}
use Rattle.emit_words.specs.Writes.{Writes, writes_more, writes_none, writes_same}
use Rattle.emit_edge_ends.specs.Ends.{edges_into, head_word, head_at}
use Rattle.emit_edge_ends.specs.Links.{Chained, ChainRest, next_at, origin_at, rest_done, rest_edge, rest_next}
use Rattle.emit_insts.specs.Ready.{EmitReady, ready_visited}
use Rattle.emit_phis.specs.Keys.{key_is, key_named, key_of}
use Rattle.emit_phis.specs.Along.{FirstInto, along_count, along_named, along_edge, origin_low}
use Rattle.emit_phis.specs.Items.{pair_in, pairs_count, pairs_edges, pairs_in, pairs_of}

pub key_here : {w u : List ℕ} {m : ℕ} → Visited w u m → (i : ℕ) → i < m → (j : ℕ) → j < length (visited_block (func_of w) i).keys → {p : CfgPoint} → p ≡ point_at (func_of w) i
    → key_of (func_of w) p j ≡ get_or (visited_block (func_of w) i).keys j (const 0)
key_here {w} k i h j l e = ap (λ (q : CfgPoint). key_of (func_of w) q j) e ∙ sym (key_is (func_of w) j k.walkable i (omega (arith, k.count)) l)

module _ {w u : List ℕ} {m first : ℕ} (k : EmitReady w u m first) where
  abbrev F : Func
  F = func_of w

  pub head_number : (p : ℕ) → p < m → ¬ (stands F p ≡ gone) → get_or u (statuses_at + p) 0 ≡ point_number (head_at F p) + 1
  head_number p h s = k.laid.absorbing.status p h ∙ head_word (stands F p) (point_at F p) s

  module _ (i j : ℕ) (h : i < m) (l : j < length (visited_block (func_of w) i).keys) where
    visits : Visited w u m
    visits = ready_visited k i h

    inside : i < length (walk_of F)
    inside = omega (arith, visits.count)

    pub key_names : Named F (get_or (visited_block F i).keys j (const 0))
    key_names = key_named F j visits.walkable i inside l

    pub pairs_put : gather (pair_in F first i j) (edges_into F (point_at F i) 0) ≡ pairs_in F first i j
    pairs_put = pairs_edges F visits.walkable.shaped k.stands.passes.control first i j inside l

    pub ids_are : {n : ℕ} → n ≡ 2 * length (edges_into F (point_at F i) 0) → n ≡ length (pairs_of F first i j)
    ids_are e = e ∙ sym (pairs_count F visits.walkable.shaped k.stands.passes.control first i j inside l)

    module _ {o : ℕ × ℕ} (x : In o (edges_into (func_of w) (point_at (func_of w) i) 0)) where
      pub from_low : o.0 < m
      from_low = omega (arith, origin_low F i x, visits.count)

      pub value_low : j < length (along_edge F i o)
      value_low = omega (arith, along_count F i x visits.walkable inside k.stands.passes.control)

      pub value_names : Named F (get_or (along_edge F i o) j (const 0))
      value_names =
          let vs : List Value = along_edge F i o in
          all_in (Named F) vs (along_named F i x visits.walkable inside (refers F k.stands.passes.references)) (get_or vs j (const 0)) (in_get_or vs j (const 0) value_low)

-- ---- the pairs of phi j of the i-th visited point, along the chain

pub same_edge : {p e : ℕ} {o : ℕ × ℕ} → p ≡ o.0 → e ≡ o.1 → ◌≡◌ {A = ℕ × ℕ} (p, e) o
same_edge a b = λ k. (a k, b k)

-- those of the edges `done` are appended, and the edges from h on are left
pub record Pairing (F : Func) (first i j : ℕ) (u : List ℕ) (w r : Writer) (h : ℕ) : Type 0 where
  pub done : List (ℕ × ℕ)
  pub rest : ChainRest F (point_at F i) u done h
  pub writes : Writes w (gather (pair_in F first i j) done) r

pub pairing_first : {F : Func} {first i j : ℕ} {u : List ℕ} {w : Writer} {h : ℕ} → length w.out.now ≤ last_place → FirstInto F u i h → Pairing F first i j u w w h
pairing_first a r = record { done = []; rest = r; writes = writes_none a }

module _ {F : Func} {first i j : ℕ} {u : List ℕ} {w r : Writer} {h : ℕ} (p : Pairing F first i j u w r h) where
  -- the next edge e, from the x-th position along entry k
  pub pairing_edge : Chained u → (e : ℕ) {x k : ℕ} → h ≡ e + 1 → x ≡ (origin_at u e).0 → k ≡ (origin_at u e).1 → In (x, k) (edges_into F (point_at F i) 0)
  pairing_edge c e z a b =
      let y : h - 1 ≡ e = omega arith in
      subst (λ (o : ℕ × ℕ). In o (edges_into F (point_at F i) 0)) (ap (origin_at u) y ∙ sym (same_edge a b)) (rest_edge c p.rest (omega arith))

  pub pairing_next : Chained u → (e : ℕ) {x k : ℕ} → h ≡ e + 1 → x ≡ (origin_at u e).0 → k ≡ (origin_at u e).1 → {s : Writer} → Writes r (pair_in F first i j (x, k)) s
      → {n : ℕ} → n ≡ next_at u e → Pairing F first i j u w s n
  pairing_next c e z a b q g =
      let y : e ≡ h - 1 = omega arith in
      let o : ℕ × ℕ = origin_at u (h - 1) in
      record {
        done = p.done ++ (o ∷ []);
        rest = rest_next c p.rest (omega arith) (g ∙ ap (next_at u) y);
        writes = writes_same (writes_more p.writes (writes_same q (ap (pair_in F first i j) (same_edge a b ∙ ap (origin_at u) y))))
            (sym (gather_append (pair_in F first i j) p.done (o ∷ []) ∙ ap (λ (l : List Item). gather (pair_in F first i j) p.done ++ l) (append-nil (pair_in F first i j o))));
      }

  pub pairing_done : Chained u → h ≡ 0 → Writes w (gather (pair_in F first i j) (edges_into F (point_at F i) 0)) r
  pairing_done k e = writes_same p.writes (ap (gather (pair_in F first i j)) (rest_done k p.rest e))
