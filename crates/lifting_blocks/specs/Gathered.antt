-- The definitions' lists over blocks, each as what its blocks give one after the other. Assumes nothing.
use Rattle.std.specs.Prelude.{◌≡◌, ℕ}
use Rattle.std.proofs.Math.Path.{refl, ap}
use mathlib.Core.List.{List, [], ◌∷◌, ◌++◌}
use Rattle.general_laws.specs.Lists.{gather}
use Rattle.lifting.specs.Ast.{Func}
use Rattle.lifting.specs.Points.{CfgPoint, Table, points}
use Rattle.lifting.specs.Instructions.{Instruction, block_insts, body_insts, label_inst, pair_from, pairs}
use Rattle.lifting.specs.Words.{inst_words, words}

pub words_gather : (l : List Instruction) → words l ≡ gather inst_words l
unfolding words
words_gather [] = refl
words_gather (i ∷ l) = ap (λ (r : List ℕ). inst_words i ++ r) (words_gather l)

pub points_gather : (L : Table) → points L ≡ gather (λ x. x.0 ∷ []) L
points_gather [] = refl
points_gather (x ∷ L) = ap (λ (r : List CfgPoint). x.0 ∷ r) (points_gather L)

module _ (F : Func) (first : ℕ) (T K : Table) where
  pub pairs_gather : (q : CfgPoint) (j : ℕ) (L : Table) → pairs F first T K L q j ≡ gather (λ x. pair_from F first T K x q j) L
  unfolding pairs
  pairs_gather q j [] = refl
  pairs_gather q j (x ∷ L) = ap (λ (r : List ℕ). pair_from F first T K x q j ++ r) (pairs_gather q j L)

  pub insts_gather : (L : Table) → block_insts F first T K L ≡ gather (λ x. label_inst F first T K x.0 ∷ body_insts F first T K x.0 x.1) L
  unfolding block_insts
  insts_gather [] = refl
  insts_gather (x ∷ L) = ap (λ (r : List Instruction). label_inst F first T K x.0 ∷ (body_insts F first T K x.0 x.1 ++ r)) (insts_gather L)
