-- A kept instruction uses a constant, a parameter, or a value that a kept block sets. Refusal 10 tests the last two; that a constant is one of
-- the text's comes from refusal 4, since no block of the walk holds a value that the text does not. Assumes nothing.
--     all_used            what holds of every value of a text holds of those that kept blocks use
--     all_values_set      so refusal 10 cannot hold where all are set
--     settles             what passes refusal 10
use Rattle.std.specs.Prelude.{◌≡◌, refl, Bool, true, false, List, [], ◌∷◌, ◌++◌, map, ℕ, zero, suc, length}
use Rattle.std.proofs.Math.Option.{Option, none, some}
use Rattle.std.proofs.Common.{arith, ltb-true}
use Rattle.general_laws.specs.Lists.{gather, member, find}
use Rattle.lifting.specs.Ast.{Value, const, region_input, node_output, data_inst_output, eq_value, Node, block, select, loop, exit, ControlInst, Func}
use Rattle.lifting.specs.Parts.{region_of, node_of, op_of, ctrl_of, node_values, values, vals_or}
use Rattle.lifting.specs.Points.{CfgPoint, region_entry, node_entry, node_exit, eq_point, BlockLifting, Table, plain, block_at, edge_of}
use Rattle.lifting.specs.Walk.{Place, top, in_node, some_vals, root_term, always, loop_term, child_term, exit_block, in_block, walk_of}
use Rattle.lifting.specs.Absorb.{kept}
use Rattle.lifting.specs.Ids.{param_keys, result_of, phi_keys, op_keys}
use Rattle.lifting.specs.Answer.{set_values, is_set, block_uses, used_values, values_set}
use Rattle.general_laws.specs.Members.{In, in_member, All, all_append, all_in, all_from}
use Rattle.lifting_runs.specs.Accepted.{Settled, a_const, a_param, a_phi, a_result, Settles}
use Rattle.general_laws.specs.Tests.{every_all, all_every, all_tabulate, all_gather, all_split, all_part, find_in}
use Rattle.lifting_runs.specs.Each.{every_walked, Each, each_at, each_kept}
use Rattle.lifting_runs.specs.Refers.{Named, Refers, Uses, uses}

-- What holds of every value of a text holds of those that its blocks read.
module _ (P : Value → Type 0) (F : Func) (u : Uses P F) where
  -- what a block reads on its way out, and what its phis take along edges without values
  abbrev BlockHolds : BlockLifting → Type 0
  BlockHolds b = All P b.term.ins × All (λ (e : CfgPoint × List Value). All P e.1) b.term.vals × All P b.defaults

  vals_holds : (p : CfgPoint) (vs : List Value) → All P vs → All (λ (e : CfgPoint × List Value). All P e.1) (some_vals p vs)
  vals_holds p [] h = tt
  vals_holds p (v ∷ vs) h = (h, tt)

  in_holds : (d : Node) (n : ℕ) → All P (node_values d) → BlockHolds (in_block F d n)
  in_holds (block is) n h = (tt, tt, tt)
  in_holds (select k v cs ds u) n h = (h, tt, tt)
  in_holds (loop b c is u) n h = (tt, tt, h.1)
  in_holds (exit i vs) n h = (h, tt, tt)

  child_holds : (d : Node) (n : ℕ) (vs : List Value) → All P (node_values d) → All P vs → BlockHolds (plain (child_term F d n vs))
  child_holds (block is) n vs h k = (tt, tt, tt)
  child_holds (select kd v cs ds u) n vs h k = (tt, vals_holds (node_exit n) vs k, tt)
  child_holds (loop b c is u) n vs h k = by_case (always F c)
    where
      by_case : (t : Bool) → BlockHolds (plain (loop_term F t n c vs))
      by_case true = (tt, vals_holds (node_entry n) vs k, tt)
      by_case false = ((h.0, tt), vals_holds (node_entry n) vs k, tt)
  child_holds (exit i ws) n vs h k = (tt, tt, tt)

  entries_holds : (l : List (ℕ × List Value)) → All P (gather (λ (e : ℕ × List Value). e.1) l)
      → All (λ (e : CfgPoint × List Value). All P e.1) (map (λ e. (region_entry e.0, e.1)) l)
  entries_holds [] h = tt
  entries_holds (x ∷ l) h = let r = all_split P x.1 _ h in (r.0, entries_holds l r.1)

  root_holds : (r : ℕ) (o : Option ControlInst) → ctrl_of F r ≡ o → BlockHolds (plain (root_term F o r))
  root_holds r none e = (u.outs r, tt, tt)
  root_holds r (some c) e = let h = all_split P c.ins _ (u.ctrl r e) in (h.0, entries_holds c.vals h.1, tt)

  exit_holds : (r : ℕ) (p : Place) → BlockHolds (exit_block F r p)
  exit_holds r top = root_holds r (ctrl_of F r) refl
  exit_holds r (in_node n) = child_holds (node_of F n) n (region_of F r).outs (u.node n) (u.outs r)

  walk_holds : Each BlockHolds (walk_of F)
  walk_holds = every_walked F _ {R = λ r. Unit {0}} (λ r p t. (tt, tt, tt)) exit_holds (λ n. in_holds (node_of F n) n (u.node n)) (λ n q. (tt, tt, tt)) (λ r i. tt)

  kept_holds : Each BlockHolds (kept (walk_of F))
  kept_holds = each_kept BlockHolds (tt, tt, tt) (λ b h. (tt, tt, h.2)) (λ b c h k. (k.0, k.1, h.2)) (walk_of F) walk_holds

  edge_holds : (K : Table) → Each BlockHolds K → (x : CfgPoint × BlockLifting) → In x K → (q : CfgPoint) → All P (edge_of K x.1.term q)
  edge_holds K h x i q = by_case (find eq_point q x.1.term.vals) refl
    where
      by_case : (o : Option (List Value)) → find eq_point q x.1.term.vals ≡ o → All P (vals_or o (block_at K q).defaults)
      by_case none e = (each_at BlockHolds (tt, tt, tt) K h q).2
      by_case (some vs) e = all_in _ x.1.term.vals (all_in _ K h x i).1 (q, vs) (find_in eq_point q x.1.term.vals e)

  pub all_used : All P (used_values F (kept (walk_of F)))
  all_used =
      all_gather P (λ (x : CfgPoint × BlockLifting). block_uses F K x.1) K (λ x hx.
      all_append P (gather (λ (i : ℕ). (op_of F i).operands) x.1.ops) _ (all_gather P (λ (i : ℕ). (op_of F i).operands) x.1.ops (λ i hi. u.operands i))
      (all_append P x.1.term.ins _ (all_in _ K kept_holds x hx).0 (all_gather P (edge_of K x.1.term) x.1.term.targets (λ q hq. edge_holds K kept_holds x hx q))))
    where
      K : Table
      K = kept (walk_of F)

-- Refusal 10 cannot hold of a text all of whose values are set.
pub all_values_set : (F : Func) → All (λ v. is_set F (kept (walk_of F)) v ≡ true) (values F) → values_set F ≡ true
unfolding values_set
all_values_set F h =
    let K : Table = kept (walk_of F) in
    let P : Value → Type 0 = λ v. is_set F K v ≡ true in
    all_every (is_set F K) (used_values F K) (all_used P F (uses P F h))

module _ (F : Func) (ok : Refers F) where
  -- what the kept blocks set, and so what passes refusal 10 and names something
  module _ (K : Table) where
    result_settled : (x : CfgPoint × BlockLifting) (i : ℕ) → In x K → In i x.1.ops → (t : ℕ) → (op_of F i).type ≡ t → All (Settled F K) (result_of t i)
    result_settled x i hx hi zero e = tt
    result_settled x i hx hi (suc t) e = (a_result x hx hi e, tt)

    set_settled : All (Settled F K) (set_values F K)
    set_settled =
        all_append _ (param_keys F) _ (all_tabulate _ (region_input 0) 0 (length F.params) (λ i h. a_param (omega arith)))
        (all_append _ (phi_keys K) (op_keys F K)
        (all_gather _ (λ (x : CfgPoint × BlockLifting). x.1.keys) K (λ x hx. all_from _ x.1.keys (λ v h. a_phi x hx h)))
        (all_gather _ _ K (λ x hx. all_gather _ _ x.1.ops (λ i hi. result_settled x i hx hi (op_of F i).type refl))))

    member_settled : (v : Value) → member eq_value v (set_values F K) ≡ true → Settled F K v
    member_settled v e = all_in (Settled F K) (set_values F K) set_settled v (in_member eq_value v (set_values F K) e)

    is_settled : (v : Value) → Named F v → is_set F K v ≡ true → Settled F K v
    is_settled (const n) h e = a_const (ltb-true n (length F.consts) h)
    is_settled (region_input r i) h e = member_settled (region_input r i) e
    is_settled (node_output n i) h e = member_settled (node_output n i) e
    is_settled (data_inst_output i) h e = member_settled (data_inst_output i) e

  pub settles : values_set F ≡ true → Settles F (kept (walk_of F))
  unfolding values_set
  settles e = record {
    operands = λ x i hx hi. all_settled (op_of F i).operands (ok.named.operands i) (all_part Allowed operands_of x.1.ops (read_by x hx).0 hi);
    inputs = λ x hx. all_settled x.1.term.ins (all_in _ K (kept_holds (Named F) F ok.named) x hx).0 (leaving x hx).0;
    edges = λ x q hx hq. all_settled (edge_of K x.1.term q) (edge_holds (Named F) F ok.named K (kept_holds (Named F) F ok.named) x hx q) (all_part Allowed (edge_of K x.1.term) x.1.term.targets (leaving x hx).1 hq);
  }
    where
      K : Table
      K = kept (walk_of F)

      Allowed : Value → Type 0
      Allowed v = is_set F K v ≡ true

      operands_of : ℕ → List Value
      operands_of i = (op_of F i).operands

      -- what a block uses: operands, then inputs, then what moves along its edges
      read_by : (x : CfgPoint × BlockLifting) → In x K → All Allowed (gather operands_of x.1.ops) × All Allowed (x.1.term.ins ++ gather (edge_of K x.1.term) x.1.term.targets)
      read_by x hx =
          all_split Allowed (gather operands_of x.1.ops) _
          (all_part Allowed (λ (y : CfgPoint × BlockLifting). block_uses F K y.1) K (every_all (is_set F K) Allowed (λ v t. t) (used_values F K) e) hx)

      leaving : (x : CfgPoint × BlockLifting) → In x K → All Allowed x.1.term.ins × All Allowed (gather (edge_of K x.1.term) x.1.term.targets)
      leaving x hx = all_split Allowed x.1.term.ins _ (read_by x hx).1

      all_settled : (vs : List Value) → All (Named F) vs → All Allowed vs → All (Settled F K) vs
      all_settled [] n t = tt
      all_settled (v ∷ vs) n t = (is_settled K v n.0 t.0, all_settled vs n.1 t.1)
