-- What the emitter's tables stand over: m visited points and their kept blocks in the words u. An imported function has none. Assumes nothing.
--     laid_blocks, laid_imported    both kinds of text
--     laid_kept                     it stays so where other words are written
use Rattle.std.specs.Prelude.{◌≡◌, List, [], ℕ, ◌+◌, ◌-◌, ◌≤◌, ◌<◌, get_or, length}
use Rattle.std.proofs.Common.{sym, ◌∙◌, arith}
use Rattle.std.proofs.Math.Path.{ap}
use Rattle.general_laws.specs.Compare.{lower, higher}
use Rattle.lifting.specs.Ast.{Func}
use Rattle.lifting.specs.Walk.{walk_of}
use Rattle.lifting_runs.proofs.EveryText.{walk_none}
use Rattle.func.specs.Decode.{func_of}
use Rattle.func.specs.Tables.{Tables}
use Rattle.work.specs.Layout.{lines_at, children_at, points_at, uses_at, uses_end, statuses_at, absorbs_at, absorbs_end, work_need}
use Rattle.terminators.specs.At.{point_at}
use Rattle.terminators.specs.Visited.{Visited, visited_kept}
use Rattle.block_absorbs.specs.Absorbs.{AbsorbWords, absorbs, absorb_word, stands, status_word}
use Rattle.blocks.specs.Words.{BlockWords, block_word, lay_word}

pub record Laid (w u : List ℕ) (m : ℕ) : Type 0 where
  pub tables : Tables w
  pub size : work_need ≤ length u
  pub few : m ≤ 512
  pub count : m ≡ length (walk_of (func_of w))
  pub walked : 0 < m → Visited w u m
  pub absorbing : AbsorbWords (func_of w) m u

module _ {w v u : List ℕ} {m : ℕ} (k : Visited w u m) (b : BlockWords (func_of w) v u) where
  abbrev F : Func
  F = func_of w

  absorbing_words : AbsorbWords F m u
  unfolding block_word lay_word
  absorbing_words = record {
    status = λ i h.
        b.word (statuses_at + i)
        ∙ higher (statuses_at + i) lines_at _ _ (omega arith)
        ∙ higher (statuses_at + i) children_at _ _ (omega arith)
        ∙ higher (statuses_at + i) points_at _ _ (omega arith)
        ∙ higher (statuses_at + i) uses_at _ _ (omega arith)
        ∙ higher (statuses_at + i) uses_end _ _ (omega arith)
        ∙ lower (statuses_at + i) absorbs_at _ _ (omega (arith, k.few))
        ∙ lower (statuses_at + i - statuses_at) (length (walk_of F)) _ _ (omega (arith, k.count))
        ∙ ap (λ (j : ℕ). status_word (stands F j) (point_at F j)) (omega arith);
    absorb = λ i h.
        b.word (absorbs_at + i)
        ∙ higher (absorbs_at + i) lines_at _ _ (omega arith)
        ∙ higher (absorbs_at + i) children_at _ _ (omega arith)
        ∙ higher (absorbs_at + i) points_at _ _ (omega arith)
        ∙ higher (absorbs_at + i) uses_at _ _ (omega arith)
        ∙ higher (absorbs_at + i) uses_end _ _ (omega arith)
        ∙ higher (absorbs_at + i) absorbs_at _ _ (omega arith)
        ∙ lower (absorbs_at + i) absorbs_end _ _ (omega (arith, k.few))
        ∙ lower (absorbs_at + i - absorbs_at) (length (walk_of F)) _ _ (omega (arith, k.count))
        ∙ ap (λ (j : ℕ). absorb_word (absorbs F j)) (omega arith);
  }

  pub laid_blocks : Laid w u m
  laid_blocks =
      record { tables = k.tables; size = k.size; few = k.few; count = k.count; walked = λ h. k; absorbing = absorbing_words }

pub laid_imported : {w u : List ℕ} → Tables w → work_need ≤ length u → (func_of w).regions ≡ [] → Laid w u 0
laid_imported {w} {u} t z e = record {
  tables = t;
  size = z;
  few = omega arith;
  count = sym (ap length (walk_none (func_of w) e));
  walked = λ h. absurd (omega arith);
  absorbing = record { status = λ i h. absurd (omega arith); absorb = λ i h. absurd (omega arith) };
}

module _ {w u v : List ℕ} {m : ℕ} (k : Laid w u m) (same : (x : ℕ) → lines_at ≤ x → x < absorbs_end → get_or v x 0 ≡ get_or u x 0) (l : length v ≡ length u) where
  pub laid_kept : Laid w v m
  laid_kept = record {
    tables = k.tables;
    size = omega (arith, k.size);
    few = k.few;
    count = k.count;
    walked = λ h. visited_kept (k.walked h) (λ x a b. same x a (omega arith)) (λ x a b. same x (omega arith) (omega arith)) l;
    absorbing = record {
      status = λ i h. same (statuses_at + i) (omega arith) (omega (arith, k.few)) ∙ k.absorbing.status i h;
      absorb = λ i h. same (absorbs_at + i) (omega arith) (omega (arith, k.few)) ∙ k.absorbing.absorb i h;
    };
  }
