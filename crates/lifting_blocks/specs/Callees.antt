-- The ops of kept blocks are ops of the text, so no callee of theirs is 0. Assumes nothing.
use Rattle.std.proofs.Math.Path.{refl}
use mathlib.Core.List.{[], map}
use Rattle.std.specs.Prelude.{ℕ, ◌<◌, length}
use Rattle.lifting.specs.Ast.{Func, Node, block, call, exit, loop, select}
use Rattle.lifting.specs.Parts.{block_ops, callee_ids, decls, node_of, op_list, op_of, required_ids}
use Rattle.lifting.specs.Points.{BlockLifting, CfgPoint}
use Rattle.lifting.specs.Walk.{in_block, walk_of}
use Rattle.lifting.specs.Absorb.{kept}
use Rattle.general_laws.specs.Members.{All, In, all_append, all_in, in_gather, in_get_or, in_right}
use Rattle.lifting_runs.specs.Refers.{Refers}
use Rattle.general_laws.specs.Tests.{all_line}
use Rattle.lifting_runs.specs.Each.{Each, each_kept, every_walked}

module _ (F : Func) (refs : Refers F) where
  abbrev Below : ℕ → Type 0
  Below i = i < length F.ops

  abbrev OpsBelow : BlockLifting → Type 0
  OpsBelow b = All Below b.ops

  in_below : (d : Node) (n : ℕ) → All Below (block_ops d) → OpsBelow (in_block F d n)
  in_below (block is) n h = h
  in_below (select k v cs ds u) n h = tt
  in_below (loop b c is u) n h = tt
  in_below (exit i vs) n h = tt

  walk_below : Each OpsBelow (walk_of F)
  unfolding op_list
  walk_below = every_walked F (λ x. OpsBelow x.1) {R = λ r. Unit {0}} (λ r p t. tt) (λ r p. tt)
      (λ n. in_below (node_of F n) n (all_line Below block_ops F.nodes refs.ops_below (block []) refl n)) (λ n q. tt) (λ r i. tt)

  pub ops_below : (x : CfgPoint × BlockLifting) → In x (kept (walk_of F)) → (i : ℕ) → In i x.1.ops → i < length F.ops
  ops_below x h = all_in Below x.1.ops
      (all_in (λ y. OpsBelow y.1) (kept (walk_of F)) (each_kept OpsBelow tt (λ b k. tt) (λ b c k l. all_append Below b.ops c.ops k l) (walk_of F) walk_below) x h)

  -- refusal 4: an id is 0 where 0 has no meaning
  pub type_above : 0 < F.type
  unfolding required_ids
  type_above = refs.ids_above.1.0

  pub callee_above : (i : ℕ) → i < length F.ops → (n : ℕ) → In n (callee_ids (op_of F i).kind) → 0 < n
  unfolding required_ids
  callee_above i h n j =
      all_in (λ x. 0 < x) _ refs.ids_above.1.1 n (in_right (map (λ c. c.id) F.consts) (in_right (map (λ e. e.type) F.params) (in_right (map (λ e. e.type) (decls F))
      (in_gather (λ o. callee_ids o.kind) (in_get_or F.ops i (record { attrs = 0; type = 0; kind = call 0; operands = [] }) h) j))))
