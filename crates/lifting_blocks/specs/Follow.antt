-- In the walk a region's entry, a block's entry and a node's exit go straight to the point that is visited next. Assumes nothing.
use Rattle.std.specs.Prelude.{◌≡◌, refl, Bool, true, false, [], ℕ, suc, ◌<◌, get_or, length}
use Rattle.std.proofs.Common.{ap, ◌∙◌}
use Rattle.std.proofs.lemmas.Bool.{false≢true}
use Rattle.std.proofs.Math.Option.{Option, none, some}
use Rattle.lifting.specs.Ast.{Func, Node, block, select, loop, exit}
use Rattle.lifting.specs.Parts.{children_of, node_of}
use Rattle.lifting.specs.Points.{BlockLifting, CfgPoint, Terminator, node_entry, node_exit, region_entry, region_exit, straight}
use Rattle.lifting.specs.Walk.{in_block, walk_of}
use Rattle.lifting_blocks.specs.Flat.{no_pair}
use Rattle.lifting_blocks.specs.Chain.{chain_get_or, chain_map, next_at_law}
use Rattle.lifting_runs.specs.Shaped.{Shaped}
use Rattle.lifting_blocks.specs.Steps.{Step, step_entry, step_exit, step_in, step_out, walk_steps}

abbrev pub is_block : Node → Bool
is_block (block is) = true
is_block (select k v cs ds u) = false
is_block (loop b c is u) = false
is_block (exit i vs) = false

-- a region's entry, a block's entry, a node's exit
abbrev pub goes_on : Func → CfgPoint → Bool
goes_on F (region_entry r) = true
goes_on F (region_exit r) = false
goes_on F (node_entry n) = is_block (node_of F n)
goes_on F (node_exit n) = true

abbrev Straight : Terminator → Option CfgPoint → Type 0
Straight t o = (q : CfgPoint) × (o ≡ some q) × (t ≡ straight q)

module _ (F : Func) where
  abbrev Goes : CfgPoint × BlockLifting → Option CfgPoint → Type 0
  Goes x o = goes_on F x.0 ≡ true → Straight x.1.term o

  in_goes : (d : Node) (n : ℕ) (o : Option CfgPoint) → (children_of d ≡ [] → o ≡ some (node_exit n)) → is_block d ≡ true → Straight (in_block F d n).term o
  in_goes (block is) n o h e = (node_exit n, h refl, refl)
  in_goes (select k v cs ds u) n o h e = absurd (false≢true e)
  in_goes (loop b c is u) n o h e = absurd (false≢true e)
  in_goes (exit i vs) n o h e = absurd (false≢true e)

  step_goes : (x : CfgPoint × BlockLifting) (o : Option CfgPoint) → Step F x o → Goes x o
  step_goes x o (step_entry v) e = (_, refl, refl)
  step_goes x o (step_in {n} v sf h) e = in_goes (node_of F n) n o h e
  step_goes x o (step_out v sf) e = (_, refl, refl)
  step_goes x o (step_exit v a) e = absurd (false≢true e)

  pub walk_follows : Shaped F → (i : ℕ) → i < length (walk_of F) → goes_on F (get_or (walk_of F) i no_pair).0 ≡ true
      → (suc i < length (walk_of F)) × ((get_or (walk_of F) i no_pair).1.term ≡ straight (get_or (walk_of F) (suc i) no_pair).0)
  walk_follows ok i l e =
      let w = chain_get_or Goes (walk_of F) none (chain_map (Step F) Goes step_goes (walk_of F) none (walk_steps F ok)) i l e in
      let r = next_at_law (walk_of F) i w.0 w.1 in
      (r.0, w.2 ∙ ap straight r.1)
