-- What the phis of a visited point set: the inputs of the root or of the loop's body that begins there, or the outputs of the node that ends
-- there. Assumes nothing.
--     key_is       the value that a phi sets, by its point
--     key_named    it names something
use Rattle.std.specs.Prelude.{◌≡◌, List, ℕ, zero, suc, ◌+◌, ◌<◌, get_or, length}
use Rattle.std.proofs.Common.{sym, ap, subst, ◌∙◌, arith, lt-ltb}
use Rattle.general_laws.specs.Lists.{tabulate}
use Rattle.lifting.specs.Ast.{Func, Node, Value, block, const, exit, loop, node_output, region_input, select}
use Rattle.lifting.specs.Parts.{children_of, node_of, outs_of, region_of}
use Rattle.lifting.specs.Points.{BlockLifting, CfgPoint, node_entry, node_exit, region_entry, region_exit}
use Rattle.lifting.specs.Walk.{Place, entry_keys, in_block, in_node, top, walk_of}
use Rattle.general_laws.specs.Members.{length_tabulate}
use Rattle.lifting_runs.specs.Refers.{Named}
use Rattle.walk_points.specs.Numbers.{get_d_tabulate}
use Rattle.walk_points.specs.Walk.{Walkable}
use Rattle.terminators.specs.At.{block_is, visited_block, block_of, place_in, point_at}

-- what phi j of a point sets
abbrev pub key_of : Func → CfgPoint → ℕ → Value
key_of F (region_entry r) j = region_input r j
key_of F (region_exit r) j = const 0
key_of F (node_entry n) j = region_input (get_or (children_of (node_of F n)) 0 0) j
key_of F (node_exit n) j = node_output n j

module _ (F : Func) (j : ℕ) where
  -- v is element j of the keys ks, and names something
  record Key (ks : List Value) (v : Value) : Type 0 where
    is : get_or ks j (const 0) ≡ v
    names : Named F v

  -- one for each of n inputs or outputs
  numbered : (f : ℕ → Value) (n : ℕ) → (j < n → Named F (f j)) → j < length (tabulate f 0 n) → Key (tabulate f 0 n) (f j)
  numbered f n g h =
      let l : j < n = omega (arith, length_tabulate f 0 n) in
      let z : 0 + j ≡ j = omega arith in
      record { is = get_d_tabulate f 0 n j (const 0) l ∙ ap f z; names = g l }

  entry_key : (r : ℕ) (p : Place) → j < length (entry_keys F r p) → Key (entry_keys F r p) (region_input r j)
  entry_key zero top h = absurd (omega arith)
  entry_key (suc r) top h = numbered (region_input (suc r)) (length (region_of F (suc r)).ins) (λ l. lt-ltb j (length (region_of F (suc r)).ins) l) h
  entry_key zero (in_node n) h = absurd (omega arith)
  entry_key (suc r) (in_node n) h = absurd (omega arith)

  in_key : (d : Node) (n : ℕ) → j < length (in_block F d n).keys → Key (in_block F d n).keys (region_input (get_or (children_of d) 0 0) j)
  in_key (block is) n h = absurd (omega arith)
  in_key (select k v cs ds u) n h = absurd (omega arith)
  in_key (loop b c is u) n h = numbered (region_input b) (length (region_of F b).ins) (λ l. lt-ltb j (length (region_of F b).ins) l) h
  in_key (exit i vs) n h = absurd (omega arith)

  point_key : (p q : CfgPoint) → j < length (block_of F p q).keys → Key (block_of F p q).keys (key_of F p j)
  point_key (region_entry r) q h = entry_key r (place_in F r) h
  point_key (region_exit r) q h = absurd (omega arith)
  point_key (node_entry n) q h = in_key (node_of F n) n h
  point_key (node_exit n) q h = numbered (node_output n) (length (outs_of (node_of F n))) (λ l. lt-ltb j (length (outs_of (node_of F n))) l) h

  module _ (ok : Walkable F) (i : ℕ) (h : i < length (walk_of F)) (l : j < length (visited_block F i).keys) where
    key_at : Key (visited_block F i).keys (key_of F (point_at F i) j)
    key_at =
        let e = block_is F ok i h in
        subst (λ (b : BlockLifting). Key b.keys (key_of F (point_at F i) j)) (sym e)
        (point_key (point_at F i) (point_at F (suc i)) (subst (λ (b : BlockLifting). j < length b.keys) e l))

    pub key_is : get_or (visited_block F i).keys j (const 0) ≡ key_of F (point_at F i) j
    key_is = key_at.is

    pub key_named : Named F (get_or (visited_block F i).keys j (const 0))
    key_named = subst (Named F) (sym key_at.is) key_at.names
