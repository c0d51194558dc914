-- The ids in a text, kind of line by kind of line: the func line, constants, parameters, regions by their inputs, nodes by their outs, ops by
-- their callees and types. Assumes nothing.
--     first_above     the first id is not 0 and is above every id in the text exactly if it is above those of the func line and of each kind of line
use Rattle.std.specs.Prelude.{◌≡◌, refl, Bool, true, false, ◌&&◌, ℕ, ltb}
use Rattle.std.proofs.Math.Path.{sym, ap}
use Rattle.std.proofs.Common.{◌∙◌}
use Rattle.std.proofs.Math.Bool.{and-true}
use mathlib.Core.List.{List, ◌++◌, map}
use Rattle.general_laws.specs.Lists.{every, gather}
use Rattle.lifting.specs.Ast.{DataInstKind, inst, call, ext, Op, Decl, Func}
use Rattle.lifting.specs.Parts.{outs_of, callee_ids, decls, required_ids, ids}
use Rattle.func.specs.declared.OpKind.{OpKind}
use Rattle.func.specs.declared.OpKind.TheVariants.{Inst, Call, Ext}
use Rattle.func.specs.Kinds.{kind_of_op}
use Rattle.general_laws.specs.Every.{every_append, every_gather, every_map, every_both, every_same}

-- the types of inputs or of outs are below the first id
abbrev pub types_below : ℕ → List Decl → Bool
types_below first = every (λ d. ltb d.type first)

-- the ID of a call, or of an instruction set, is below the first id
abbrev pub kind_below : ℕ → OpKind → Bool
kind_below first (Inst o) = true
kind_below first (Call f) = ltb f first
kind_below first (Ext s n) = ltb s first

-- the ids of each kind of line are
module _ (F : Func) (first : ℕ) where
  unfoldable pub consts_below : Bool
  consts_below = every (λ c. ltb c.id first) F.consts

  unfoldable pub params_below : Bool
  params_below = types_below first F.params

  unfoldable pub regions_below : Bool
  regions_below = every (λ r. types_below first r.ins) F.regions

  unfoldable pub nodes_below : Bool
  nodes_below = every (λ n. types_below first (outs_of n)) F.nodes

  unfoldable pub ops_below : Bool
  ops_below = every (λ o. kind_below first (kind_of_op o.kind) && ltb o.type first) F.ops

-- those of the func line are, and 0 is
abbrev pub head_below : Func → ℕ → Bool
head_below F first = ltb 0 first && (ltb F.ret first && ltb F.type first)

-- an op's kind
kind_below_law : (first : ℕ) (k : DataInstKind) → kind_below first (kind_of_op k) ≡ every (λ x. ltb x first) (callee_ids k)
kind_below_law first (inst i) = refl
kind_below_law first (call f) = sym (and-true (ltb f first))
kind_below_law first (ext s n) = sym (and-true (ltb s first))

module _ (F : Func) (first : ℕ) where
  -- an id is below the first id
  p : ℕ → Bool
  p x = ltb x first

  -- each kind
  const_ids_law : consts_below F first ≡ every p (map (λ c. c.id) F.consts)
  unfolding consts_below p
  const_ids_law = sym (every_map p (λ c. c.id) F.consts)

  param_types : params_below F first ≡ every p (map (λ d. d.type) F.params)
  unfolding params_below p
  param_types = sym (every_map p (λ d. d.type) F.params)

  in_types : regions_below F first ≡ every (λ d. p d.type) (gather (λ r. r.ins) F.regions)
  unfolding regions_below p
  in_types = sym (every_gather (λ d. p d.type) (λ r. r.ins) F.regions)

  out_types : nodes_below F first ≡ every (λ d. p d.type) (gather outs_of F.nodes)
  unfolding nodes_below p
  out_types = sym (every_gather (λ d. p d.type) outs_of F.nodes)

  op_ids : ops_below F first ≡ (every p (gather (λ o. callee_ids o.kind) F.ops) && every p (map (λ o. o.type) F.ops))
  unfolding ops_below p
  op_ids =
      every_both (λ (o : Op). kind_below first (kind_of_op o.kind)) (λ o. p o.type) F.ops
      ∙ (λ i. (every_same (λ (o : Op). kind_below_law first o.kind) F.ops ∙ sym (every_gather p (λ o. callee_ids o.kind) F.ops)) i && sym (every_map p (λ o. o.type) F.ops) i)

-- tests in the order of the ids, and in that of the lines
turn : (z r t c a i o k s : Bool) → (z && (r && (t && (c && (a && (i && o && k)) && s)))) ≡ (z && (r && t) && (c && (a && (i && (o && (k && s))))))
turn false r t c a i o k s = refl
turn true false t c a i o k s = refl
turn true true false c a i o k s = refl
turn true true true false a i o k s = refl
turn true true true true false i o k s = refl
turn true true true true true false o k s = refl
turn true true true true true true false k s = refl
turn true true true true true true true k s = refl

pub first_above : (F : Func) (first : ℕ) → (ltb 0 first && every (λ x. ltb x first) (ids F))
    ≡ (head_below F first && (consts_below F first && (params_below F first && (regions_below F first && (nodes_below F first && ops_below F first)))))
unfolding ids required_ids decls p
first_above F first =
    let q : Decl → Bool = λ d. ltb d.type first in
    let cs = map (λ c. c.id) F.consts in
    let ps = map (λ d. d.type) F.params in
    let is = gather (λ r. r.ins) F.regions in
    let os = gather outs_of F.nodes in
    let ds = map (λ d. d.type) (is ++ os) in
    let ks = gather (λ o. callee_ids o.kind) F.ops in
    let ts = map (λ o. o.type) F.ops in
    let all : every (p F first) ((cs ++ (ps ++ (ds ++ ks))) ++ ts) ≡ (every (p F first) cs && (every (p F first) ps && (every q is && every q os && every (p F first) ks)) && every (p F first) ts) =
    every_append (p F first) (cs ++ (ps ++ (ds ++ ks))) ts
    ∙ ap (λ (b : Bool). b && every (p F first) ts)
    (every_append (p F first) cs (ps ++ (ds ++ ks))
    ∙ ap (λ (b : Bool). every (p F first) cs && b)
    (every_append (p F first) ps (ds ++ ks)
    ∙ ap (λ (b : Bool). every (p F first) ps && b)
    (every_append (p F first) ds ks ∙ ap (λ (b : Bool). b && every (p F first) ks) (every_map (p F first) (λ d. d.type) (is ++ os) ∙ every_append q is os)))) in
    ap (λ (b : Bool). ltb 0 first && (ltb F.ret first && (ltb F.type first && b))) all
    ∙ turn (ltb 0 first) (ltb F.ret first) (ltb F.type first) (every (p F first) cs) (every (p F first) ps) (every q is) (every q os) (every (p F first) ks) (every (p F first) ts)
    ∙ (λ j. head_below F first && sym (λ i. const_ids_law F first i && (param_types F first i && (in_types F first i && (out_types F first i && op_ids F first i)))) j)
