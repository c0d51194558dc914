-- What the whole text adds to each pool, from words whose pools are empty: stage by stage, and the collections that lifting's definitions name, in
-- their order. Definitions. Assumes nothing.
use Rattle.std.specs.Prelude.{◌≡◌, List, [], ◌∷◌, ◌++◌, map, ℕ, ◌≤◌, ◌<◌, length, replicate}
use Rattle.std.proofs.lemmas.List.Edits.{sets}
use Rattle.general_laws.specs.Lists.{gather}
use Rattle.lifting.specs.Ast.{Value, Decl, Const, Func}
use Rattle.lifting.specs.Parts as text
use Rattle.func.specs.Layout.{func_need, pool_total, consts, params}
use Rattle.func.specs.Store.{count, most, folds}
use Rattle.func.specs.Adds.{Adds, into_pool, grown}
use Rattle.func.specs.Keep.{one_word, const_words, decl_words, imm_words, value_words, keep_const, keep_param, keep_head, keep_region, keep_node, keep_op, keep_ctrl, keep_func}
use Rattle.func.specs.Gains.{region_gain, node_gain, op_gain, ctrl_gain}

-- words that a text may be stored to: every pool is empty
pub record Clear (w : List ℕ) : Type 0 where
  pub size : func_need ≤ length w
  pub empty : (k : ℕ) → k < pool_total → count k w ≡ 0
  pub least : (k : ℕ) → k < pool_total → most k w ≡ 0

-- the words w with every pool emptied: those below the pools are 0, and the others stay
unfoldable pub empty_pools : List ℕ → List ℕ
empty_pools w = sets w 0 (replicate 32 0)

-- the func line
unfoldable pub headed : Func → List ℕ → List ℕ
headed F w = keep_head F.attrs F.ret F.type F.control w

-- the words after each kind of lines
unfoldable pub with_consts : Func → List ℕ → List ℕ
with_consts F w = folds keep_const F.consts (headed F w)

unfoldable pub with_params : Func → List ℕ → List ℕ
with_params F w = folds keep_param F.params (with_consts F w)

unfoldable pub with_regions : Func → List ℕ → List ℕ
with_regions F w = folds keep_region F.regions (with_params F w)

unfoldable pub with_nodes : Func → List ℕ → List ℕ
with_nodes F w = folds keep_node F.nodes (with_regions F w)

unfoldable pub with_ops : Func → List ℕ → List ℕ
with_ops F w = folds keep_op F.ops (with_nodes F w)

-- what each kind of lines gains
unfoldable pub const_gain : Const → List ℕ → ℕ → List (List ℕ)
const_gain c w = into_pool consts (const_words c ∷ [])

unfoldable pub param_gain : Decl → List ℕ → ℕ → List (List ℕ)
param_gain d w = into_pool params (decl_words d ∷ [])

module _ (F : Func) (w : List ℕ) where
  unfoldable pub consts_gain : ℕ → List (List ℕ)
  consts_gain = grown keep_const const_gain F.consts (headed F w)

  unfoldable pub params_gain : ℕ → List (List ℕ)
  params_gain = grown keep_param param_gain F.params (with_consts F w)

  unfoldable pub regions_gain : ℕ → List (List ℕ)
  regions_gain = grown keep_region region_gain F.regions (with_params F w)

  unfoldable pub nodes_gain : ℕ → List (List ℕ)
  nodes_gain = grown keep_node node_gain F.nodes (with_regions F w)

  unfoldable pub ops_gain : ℕ → List (List ℕ)
  ops_gain = grown keep_op op_gain F.ops (with_nodes F w)

  unfoldable pub ctrls_gain : ℕ → List (List ℕ)
  ctrls_gain = grown keep_ctrl ctrl_gain F.ctrls (with_ops F w)

  unfoldable pub func_gain : ℕ → List (List ℕ)
  func_gain j = consts_gain j ++ (params_gain j ++ (regions_gain j ++ (nodes_gain j ++ (ops_gain j ++ ctrls_gain j))))

-- the stages of a text
pub record Stages (F : Func) (w : List ℕ) : Type 0 where
  pub const : Adds (headed F w) (with_consts F w) (consts_gain F w)
  pub param : Adds (with_consts F w) (with_params F w) (params_gain F w)
  pub region : Adds (with_params F w) (with_regions F w) (regions_gain F w)
  pub node : Adds (with_regions F w) (with_nodes F w) (nodes_gain F w)
  pub op : Adds (with_nodes F w) (with_ops F w) (ops_gain F w)
  pub ctrl : Adds (with_ops F w) (keep_func F w) (ctrls_gain F w)

-- the collections of a text, as words, in the order of the pools of parts
abbrev pub collections : Func → List (List (List ℕ))
collections F =
    map const_words F.consts
    ∷ map decl_words F.params
    ∷ map decl_words (text.decls F)
    ∷ map value_words (text.values F)
    ∷ map imm_words (text.immediates F)
    ∷ map one_word (text.targets F)
    ∷ map one_word (text.node_list F)
    ∷ map one_word (text.op_list F)
    ∷ map one_word (text.child_list F)
    ∷ []

-- every `(R V..)` of `(vals (R V..)..)`
unfoldable pub entry_list : Func → List (ℕ × List Value)
entry_list F = gather (λ c. c.1.vals) F.ctrls

-- the size of each pool's collection
abbrev pub sizes : Func → List ℕ
sizes F =
    length F.consts
    ∷ length F.params
    ∷ length (text.decls F)
    ∷ length (text.values F)
    ∷ length (text.immediates F)
    ∷ length (text.targets F)
    ∷ length (text.node_list F)
    ∷ length (text.op_list F)
    ∷ length (text.child_list F)
    ∷ length (entry_list F)
    ∷ length F.regions
    ∷ length F.nodes
    ∷ length F.ops
    ∷ length F.ctrls
    ∷ []
