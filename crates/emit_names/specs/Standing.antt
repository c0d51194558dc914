-- What the word of a position says of where it stands. Assumes nothing.
--     number_is    the word of a position's point
--     starts_here, not_here     whether a kept block starts with it
--     gone_here, kept_here      whether it stands in a kept block
use Rattle.std.specs.Prelude.{◌≡◌, refl, List, ℕ, ◌+◌, ◌<◌, get_or}
use Rattle.std.proofs.Common.{sym, ap, ◌∙◌, arith}
use Rattle.lifting.specs.Ast.{Func}
use Rattle.lifting.specs.Points.{CfgPoint}
use Rattle.lifting.specs.Walk.{walk_of}
use Rattle.func.specs.Decode.{func_of}
use Rattle.work.specs.Layout.{points_at, statuses_at}
use Rattle.lifting_runs.specs.Tour.{same_position}
use Rattle.lifting_blocks.specs.Flat.{Status, goes, gone, no_pair, starts}
use Rattle.lifting_blocks.specs.Laws.{each_once}
use Rattle.walk_points.specs.Numbers.{point_low, point_back, point_number, point_of}
use Rattle.terminators.specs.At.{point_at}
use Rattle.terminators.specs.Visited.{Visited, point_small, point_word}
use Rattle.block_absorbs.specs.Absorbs.{goes_from, stands, status_word, word_gone}
use Rattle.blocks.specs.Laid.{Laid}

module _ {w u : List ℕ} {m : ℕ} (k : Visited w u m) (i : ℕ) (h : i < m) where
  abbrev F : Func
  F = func_of w

  -- no block has the label of a point that it goes on to
  other : {p : CfgPoint} → stands F i ≡ goes p → ¬ (point_number p ≡ point_number (point_at F i))
  other {p} e q =
      let r = goes_from F i e in
      let j : ℕ = r.0 in
      let l : j < m = omega (arith, r.1) in
      let same : point_at F j ≡ point_at F i =
      sym (point_back (point_at F j) (point_small k j l)) ∙ ap point_of (ap point_number (sym r.2) ∙ q) ∙ point_back (point_at F i) (point_small k i h) in
      let z = same_position no_pair (walk_of F) (each_once F k.walkable.shaped) j i (omega (arith, k.count)) (omega (arith, k.count)) same in
      omega (arith, r.1, z)

  by_word : (s : Status) → stands F i ≡ s → status_word s (point_at F i) ≡ point_number (point_at F i) + 1 → s ≡ starts
  by_word gone e q = absurd (omega arith)
  by_word starts e q = refl
  by_word (goes p) e q = absurd (other e (omega (arith, q)))

module _ {w u : List ℕ} {m : ℕ} (k : Laid w u m) (i : ℕ) (h : i < m) where
  abbrev seen : Visited w u m
  seen = k.walked (omega arith)

  -- the word of a position's point
  pub number_is : {q : ℕ} → q ≡ get_or u (points_at + i) 0 → (q ≡ point_number (point_at (func_of w) i)) × (q < 512)
  number_is {q} e =
      let z : q ≡ point_number (point_at (func_of w) i) = e ∙ point_word seen i h in
      (z, omega (arith, z, point_low (point_at (func_of w) i) (point_small seen i h)))

  -- a block starts with it exactly if the position's word is one more
  pub starts_here : {q s : ℕ} → q ≡ get_or u (points_at + i) 0 → s ≡ get_or u (statuses_at + i) 0 → s ≡ q + 1 → stands (func_of w) i ≡ starts
  starts_here e f z = by_word seen i h (stands (func_of w) i) refl (omega (arith, e, f, z, k.absorbing.status i h, (number_is e).0))

  pub not_here : {q s : ℕ} → q ≡ get_or u (points_at + i) 0 → s ≡ get_or u (statuses_at + i) 0 → ¬ (s ≡ q + 1) → ¬ (stands (func_of w) i ≡ starts)
  not_here e f n z = n (omega (arith, f, k.absorbing.status i h, ap (λ (x : Status). status_word x (point_at (func_of w) i)) z, (number_is e).0))

  pub gone_here : get_or u (statuses_at + i) 0 ≡ 0 → stands (func_of w) i ≡ gone
  gone_here e = word_gone (stands (func_of w) i) (point_at (func_of w) i) (sym (k.absorbing.status i h) ∙ e)

  pub kept_here : ¬ (get_or u (statuses_at + i) 0 ≡ 0) → ¬ (stands (func_of w) i ≡ gone)
  kept_here n z = n (k.absorbing.status i h ∙ ap (λ (x : Status). status_word x (point_at (func_of w) i)) z)
