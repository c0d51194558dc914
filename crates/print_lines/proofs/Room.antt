-- No text has more lines than there is room for. Assumes nothing.
--     text_room_law     the bytes that are printed of a text
use Rattle.std.specs.Prelude.{◌≡◌, refl, Bool, cond, List, [], ◌∷◌, ℕ, suc, ◌+◌, ◌*◌, ◌≤◌, ◌<◌, get_or, length}
use Rattle.std.proofs.Common.{ap}
use Rattle.std.proofs.Math.Bool.{true, false}
use native.Mathlib.Omega.{arith}
use Rattle.std.proofs.Math.ListN.{length-append}
use Rattle.lifting.specs.Ast.{Func, Region}
use Rattle.lifting.specs.Parts.{has_body}
use Rattle.lifting.specs.Limits.{within_limits}
use Rattle.lifting.specs.References.{references_hold}
use Rattle.lifting.specs.Tree.{is_tree}
use Rattle.lifting.specs.Counts.{counts_agree}
use Rattle.lifting.specs.Control.{control_fits}
use Rattle.lifting.specs.Points.{BlockLifting, CfgPoint, Table, Terminator, node_entry, node_exit, region_entry, region_exit}
use Rattle.lifting.specs.Walk.{walk_of}
use Rattle.lifting.specs.Absorb.{labels, merge_labels, use_count}
use Rattle.lifting.specs.Answer.{parse}
use Rattle.func.proofs.Back.{limits_of}
use Rattle.lifting_runs.specs.Refers.{refers}
use Rattle.lifting_runs.specs.Shaped.{Shaped}
use Rattle.lifting_runs.proofs.Shaped.{shaped_checked}
use Rattle.lifting_blocks.specs.Flat.{Status, goes, gone, no_pair, starts, up_to}
use Rattle.lifting_blocks.specs.Totals.{all_labels}
use Rattle.lifting_sizes.specs.Sums.{length_gather, total_ones, total_plus, total_scale, total_up_to}
use Rattle.lifting_sizes.specs.Labels.{labels_count, points_count}
use Rattle.lifting_sizes.specs.Parsing.{by_parse}
use Rattle.terminators.specs.At.{visited_block, point_at}
use Rattle.block_absorbs.specs.Absorbs.{absorbed, absorbs, stands, status_word, word_goes}
use Rattle.print_bytes.specs.Lines.{digits_length}
use Rattle.print_refusal.specs.Room.{refused_room}
use Rattle.print_lines.specs.Lines.{blocks_bytes, chain_of, end_bytes, block_lines, point_bytes, points_bytes, start_bytes}
use Rattle.print_lines.specs.Positions.{chain_run, close_bytes, line_at, lines_are, lines_none, part_goes, part_gone, part_starts, run_end, run_suc, run_at}
use Rattle.print_lines.specs.Room.{name, opened, closed, max_lines}

-- a point, and points one after the other
point_room_law : (p : CfgPoint) → length (point_bytes p) ≤ name
point_room_law (region_entry r) = simp length-append (omega (arith, digits_length r))
point_room_law (region_exit r) = simp length-append (omega (arith, digits_length r))
point_room_law (node_entry n) = simp length-append (omega (arith, digits_length n))
point_room_law (node_exit n) = simp length-append (omega (arith, digits_length n))

points_room : (l : List CfgPoint) → length (points_bytes l) ≤ name * length l
points_room [] = omega arith
points_room (p ∷ l) = omega (arith, length-append (point_bytes p) (points_bytes l), point_room_law p, points_room l)

-- what counts only where a test holds
cond_low : (b : Bool) (n : ℕ) → cond b n 0 ≤ n
cond_low true n = omega arith
cond_low false n = omega arith

module _ (F : Func) where
  abbrev T : Table
  T = walk_of F

  -- the start and the end of a line
  start_room : (p : CfgPoint) → length (start_bytes F p) ≤ opened + (name + name * length (chain_of F p))
  unfolding start_bytes
  start_room p = simp length-append (omega (arith, point_room_law p, points_room (chain_of F p)))

  close_room : (b : Bool) (p : CfgPoint) (t : Terminator) → length (close_bytes F b p t) ≤ closed + name * length (labels t)
  unfolding end_bytes
  close_room true p t = omega arith
  close_room false p t =
      simp length-append
      (omega (arith, digits_length (use_count T p), points_room t.targets, points_room (merge_labels t.merge), length-append (merge_labels t.merge) t.targets))

  -- the names of the points from i on that stand already, in the chain of the line that is open there
  abbrev store : ℕ → ℕ
  store i = cond (absorbed F i) (name * length (run_at F i)) 0

  -- a run is its first point, and what that leaves to the next
  run_room : (i : ℕ) → i < length T → name * length (run_at F i) ≤ name + store (suc i)
  run_room i h = go (absorbs F i) (run_suc (use_count T) T i h)
    where
      go : (b : Bool) → run_at F i ≡ (get_or T i no_pair).0 ∷ cond b (run_at F (suc i)) [] → name * length (run_at F i) ≤ name + cond b (name * length (run_at F (suc i))) 0
      go true e = omega (arith, ap length e)
      go false e = omega (arith, ap length e)

  -- a visited point: its line, its place in a chain, and its labels
  abbrev point_room : CfgPoint × BlockLifting → ℕ
  point_room x = (opened + name + name + closed) + name * length (labels x.1.term)

  module _ (ok : Shaped F) where
    -- what is printed at a position, with the names that stand already, is at most its point's room, with those that stand for the next
    at_position : (i : ℕ) → i < length T → length (line_at F i) + store i ≤ point_room (get_or T i no_pair) + store (suc i)
    at_position i h = by_status (stands F i) refl
      where
        p : CfgPoint
        p = point_at F i

        t : Terminator
        t = (visited_block F i).term

        by_status : (s : Status) → stands F i ≡ s → length (line_at F i) + store i ≤ point_room (get_or T i no_pair) + store (suc i)
        by_status gone e = omega (arith, ap length (part_gone F i (ap (λ (s : Status). status_word s p) e)), cond_low (absorbed F i) (name * length (run_at F i)), run_room i h)
        by_status (goes q) e = omega (arith, ap length (part_goes F i q e), close_room (absorbs F i) q t, cond_low (absorbed F i) (name * length (run_at F i)), run_room i h)
        by_status starts e = by_absorb (absorbed F i) refl
          where
            by_absorb : (b : Bool) → absorbed F i ≡ b → length (line_at F i) + cond b (name * length (run_at F i)) 0 ≤ point_room (get_or T i no_pair) + store (suc i)
            by_absorb false z = omega (
              arith,
              ap length (part_starts F i e),
              length-append (start_bytes F p) (close_bytes F (absorbs F i) p t),
              start_room p,
              ap length (chain_run F ok i h),
              close_room (absorbs F i) p t,
              run_room i h,
            )
            by_absorb true z =
                let g = word_goes F i z (λ w. omega (arith, ap (λ (s : Status). status_word s p) e)) in
                absurd (let c : ◌≡◌ {A = ℕ} 0 1 = cc (e, g.1) in omega arith)

    -- the lines of a function with a body
    lines_room : length (block_lines F) ≤ (opened + name + name + closed) * length T + name * length (all_labels T)
    lines_room = omega (
      arith,
      ap length (lines_are F ok),
      total_ones (up_to (line_at F) (length T)),
      total_up_to (λ b. 1) point_room no_pair store T (line_at F) (λ i h. omega (arith, total_ones (line_at F i), at_position i h)),
      cond_low (absorbed F (length T)) (name * length (run_at F (length T))),
      ap length (run_end (use_count T) T (length T) (omega arith)),
      total_plus (opened + name + name + closed) (λ x. name * length (labels x.1.term)) T,
      total_scale name (λ (x : CfgPoint × BlockLifting). length (labels x.1.term)) T,
      length_gather (λ (x : CfgPoint × BlockLifting). labels x.1.term) T,
    )

  -- of any function that passes
  function_room : within_limits F ≡ true → references_hold F ≡ true → is_tree F ≡ true → counts_agree F ≡ true → control_fits F ≡ true → length (block_lines F) ≤ max_lines
  function_room limits references tree counts control = by_body F.regions refl
    where
      by_body : (rs : List Region) → F.regions ≡ rs → length (block_lines F) ≤ max_lines
      by_body [] e = omega (arith, ap length (lines_none F (ap length e)))
      by_body (r ∷ rs) e =
          let ok = shaped_checked F (ap has_body e) references tree counts control in
          let named = refers F references in
          let l = limits_of F limits in
          omega (arith, lines_room ok, points_count F ok named, labels_count F ok named, l.regions, l.nodes, l.targets)

-- Whatever is printed of a text has room in so many bytes.
pub text_room_law : (text : List ℕ) (func work : ℕ) → length (blocks_bytes (parse text func work)) ≤ max_lines
unfolding blocks_bytes
text_room_law =
    by_parse (λ r. length (blocks_bytes r) ≤ max_lines)
    (λ n h. omega (arith, refused_room n))
    (λ F limits references tree counts control differ. function_room F limits references tree counts control)

-- in digits
pub evaluated : max_lines ≡ 55680
evaluated = refl
