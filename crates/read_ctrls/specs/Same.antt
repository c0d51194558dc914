-- What is judged of ctrl lines as they are read is what refusals 4 and 6 ask of them. Assumes nothing.
--     func_judged        the words are those that the keeper of ctrl lines stores
--     opcodes_judged     refusal 4: the opcodes of ctrl lines' INSTs
--     edges_judged       refusal 6: the edges of ctrl lines, of a text that passes 3
use Rattle.std.specs.Prelude.{◌≡◌, refl, Bool, false, ◌&&◌, ◌||◌, ℕ, zero, suc, ◌+◌, ◌-◌, ◌≤◌, ◌<◌, ltb, get_or}
use Rattle.std.proofs.Common.{sym, ◌∙◌, arith, lit<, get_or-append-add}
use Rattle.std.proofs.Math.Path.{ap}
use Rattle.std.proofs.Math.Bool.{true, cond, and_assoc}
use mathlib.Core.List.{List, [], ◌∷◌, ◌++◌, map, append-nil}
use Rattle.std.proofs.Math.Dec.{eqb, leb}
use Rattle.std.proofs.Math.ListN.{length, length-map}
use borrow.Author.Tests.{eqb-true, eqb-false, eq-eqb, ne_eqb, ltb-true, ltb-false, le-leb}
use Rattle.general_laws.specs.Lists.{every, gather, keys, tabulate, within}
use Rattle.lifting.specs.Limits.{max_regions, max_targets, within_limits}
use Rattle.lifting.specs.Ast.{Value, ControlInst, Func}
use Rattle.lifting.specs.Parts.{region_of, vals_for, ctrl_insts}
use Rattle.lifting.specs.Counts.{edges_fit}
use Rattle.check_insts.specs.Test.{opcode_fits}
use Rattle.general_laws.specs.Every.{every_append, every_same}
use Rattle.func.specs.Layout.{values, targets}
use Rattle.func.proofs.Pools.{entry_room_law}
use Rattle.func.specs.Store.{count, view, folds}
use Rattle.func.proofs.Store.{length_view}
use Rattle.func.specs.Adds.{AddsReady, Adds, into_pool, grown}
use Rattle.func.proofs.Adds.{ready_after, adds_then, grown_none}
use Rattle.func.specs.Lines.{gained, line_gain}
use Rattle.func.specs.Keep.{one_word, value_words, entry_cells, ctrl_cells, keep_value, keep_entry, keep_ctrl, keep_func}
use Rattle.func.specs.Rows.{keep_ctrl_lists}
use Rattle.func.specs.Gains.{gain, entry_gain}
use Rattle.func.proofs.Gains.{adds_entry, adds_ctrl}
use Rattle.func.specs.Tables.{word}
use Rattle.func.specs.Whole.{Clear, with_ops, with_nodes, with_regions, with_params, with_consts, headed}
use Rattle.func.proofs.Whole.{ready_clear, clear_head, stages}
use Rattle.func.specs.Stored.{Stored}
use Rattle.func.proofs.Stored.{stored_func}
use Rattle.check_edges.specs.Edges.{ins_of, entry_fits, Edges, keep_edge, target_entered, targets_fit}
use Rattle.read_ctrls.specs.Judge.{State, judged_edges, keep_judged, start}
use Rattle.read_ctrls.specs.Marked.{Low, low_next, low_entries, marked, edge_by_marks}
use Rattle.read_ctrls.specs.Amid.{Amid, adds_values, adds_lists, adds_entries, amid_lines, amid_row, amid_entries, amid_values, value_room, target_room, ins_of_law, no_ins}

pub func_judged : (cs : List (ℕ × ControlInst)) (s : State) → (folds keep_judged cs s).func ≡ folds keep_ctrl cs s.func
unfolding folds keep_judged
func_judged [] s = refl
func_judged (c ∷ cs) s = func_judged cs (keep_judged c s)

and_true : (b : Bool) → b ≡ (b && true)
and_true true = refl
and_true false = refl

-- The opcodes, after those of lines before.
opcodes_from : (cs : List (ℕ × ControlInst)) (s : State)
    → (folds keep_judged cs s).opcodes ≡ (s.opcodes && every (λ i. opcode_fits i.opcode) (gather (λ c. ctrl_insts c.1.kind) cs))
unfolding folds keep_judged
opcodes_from [] s = and_true s.opcodes
opcodes_from (c ∷ cs) s =
    let here = ctrl_insts c.1.kind in
    let rest = gather (λ c. ctrl_insts c.1.kind) cs in
    opcodes_from cs (keep_judged c s)
    ∙ and_assoc s.opcodes (every (λ i. opcode_fits i.opcode) here) (every (λ i. opcode_fits i.opcode) rest)
    ∙ ap (λ (b : Bool). s.opcodes && b) (sym (every_append (λ i. opcode_fits i.opcode) here rest))

pub opcodes_judged : (cs : List (ℕ × ControlInst)) (w m : List ℕ)
    → (folds keep_judged cs (start w m)).opcodes ≡ every (λ i. opcode_fits i.opcode) (gather (λ c. ctrl_insts c.1.kind) cs)
unfolding start
opcodes_judged cs w m = opcodes_from cs (start w m)

-- Laws on numbers and lists.
eqb_shift : (a i n : ℕ) → eqb (a + i) (a + n) ≡ eqb n i
eqb_shift a i n = go (eqb n i) refl
  where
    go : (b : Bool) → eqb n i ≡ b → eqb (a + i) (a + n) ≡ b
    go true e = eq-eqb (a + i) (a + n) (omega (arith, eqb-true n i e))
    go false e = ne_eqb (a + i) (a + n) (λ q. eqb-false n i e (omega arith))

single_at : (xs : List ℕ) (i : ℕ) → get_or (get_or (map one_word xs) i []) 0 0 ≡ get_or xs i 0
single_at [] i = refl
single_at (x ∷ xs) zero = refl
single_at (x ∷ xs) (suc i) = single_at xs i

-- a test of each element's number is one of the element
every_numbered : (p q : ℕ → Bool) (xs : List ℕ) (a : ℕ) → ((i j : ℕ) → i < length xs → j ≡ a + i → p j ≡ q (get_or xs i 0))
    → every p (tabulate (λ i. i) a (length xs)) ≡ every q xs
every_numbered p q [] a h = refl
every_numbered p q (x ∷ xs) a h =
    λ k. h 0 a (omega arith) (omega arith) k && every_numbered p q xs (suc a) (λ i j l e. h (suc i) j (omega arith) (omega arith)) k

-- A line before its entries, as `judged_edges` begins, and the words after them.
abbrev opened : ControlInst → State → Edges
opened c s = record { func = keep_ctrl_lists c s.func; marks = s.marks; fit = true }

func_entries : (line : ℕ) (es : List (ℕ × List Value)) (s : Edges) → (folds (keep_edge line) es s).func ≡ folds keep_entry es s.func
unfolding folds keep_edge
func_entries line [] s = refl
func_entries line (e ∷ es) s = func_entries line es (keep_edge line e s)

-- an entry as refusal 6 has it, and a target of a line: its region has an entry in the line, or no inputs
abbrev entry_agrees : Func → ℕ × List Value → Bool
entry_agrees F e = eqb (length e.1) (length (region_of F e.0).ins)

abbrev reached : Func → ControlInst → ℕ → Bool
reached F c r = eqb (length (region_of F r).ins) 0 || within r (keys c.vals)

-- the words of a line but for its row, and what they gained
unfoldable listed : ℕ × ControlInst → List ℕ → List ℕ
listed c w = folds keep_entry c.1.vals (keep_ctrl_lists c.1 w)

unfoldable line_gains : ℕ × ControlInst → List ℕ → ℕ → List (List ℕ)
line_gains c w j = gained (ctrl_cells c) j ++ grown keep_entry entry_gain c.1.vals (keep_ctrl_lists c.1 w) j

targets_gained : (c : ℕ × ControlInst) (w : List ℕ) → line_gains c w targets ≡ map one_word c.1.to
unfolding line_gains gained ctrl_cells gain line_gain entry_cells
targets_gained c w =
    ap (λ (x : List (List ℕ)). map one_word c.1.to ++ x) (grown_none keep_entry entry_gain targets (λ e w. refl) c.1.vals (keep_ctrl_lists c.1 w))
    ∙ append-nil (map one_word c.1.to)

module _ {F : Func} {t : List ℕ} (d : Stored F t) (l : within_limits F ≡ true) where
  -- an entry
  entry_is : (e : ℕ × List Value) {w : List ℕ} → AddsReady w → Amid (keep_entry e w) t
      → entry_fits e.0 w (folds keep_value e.1 w) ≡ entry_agrees F e
  unfolding entry_fits into_pool
  entry_is e {w} r m =
      let a = amid_values e r m in
      let n : count values (folds keep_value e.1 w) ≡ count values w + length e.1 =
      omega (arith, (adds_values e.1 r).counts values (lit< tt), length-map e.1 value_words, value_room d l a) in
      (λ k. eqb (count values w + ins_of_law d l a e.0 k) (n k)) ∙ eqb_shift (count values w) (length (region_of F e.0).ins) (length e.1)

  entries_are : (line : ℕ) (es : List (ℕ × List Value)) (s : Edges) → AddsReady s.func → Amid (folds keep_entry es s.func) t
      → (folds (keep_edge line) es s).fit ≡ (s.fit && every (entry_agrees F) es)
  unfolding folds keep_edge
  entries_are line [] s r m = and_true s.fit
  entries_are line (e ∷ es) s r m =
      let q = ready_after r (adds_entry e s.func r) in
      let here = entry_fits e.0 s.func (folds keep_value e.1 s.func) in
      let rest = every (entry_agrees F) es in
      entries_are line es (keep_edge line e s) q m
      ∙ and_assoc s.fit here rest
      ∙ ap (λ (b : Bool). s.fit && (b && rest)) (entry_is e r (amid_entries es q m))

  -- the targets of a line: they stand at the end of their pool
  module _ (c : ℕ × ControlInst) {w : List ℕ} (r : AddsReady w) (m : Amid (listed c w) t) where
    adds_line : Adds w (listed c w) (line_gains c w)
    unfolding listed line_gains
    adds_line = adds_then (adds_lists c r) (adds_entries c.1.vals (ready_after r (adds_lists c r)))

    target_count : count targets (listed c w) ≡ count targets w + length c.1.to
    target_count =
        omega (arith, adds_line.counts targets (lit< tt), ap length (targets_gained c w), length-map c.1.to one_word, target_room d l m)

    target_at : (i j : ℕ) → j ≡ count targets w + i → word targets (listed c w) j 0 ≡ get_or c.1.to i 0
    target_at i j e =
        let pool : view targets (listed c w) ≡ view targets w ++ map one_word c.1.to =
        adds_line.views targets (lit< tt) (target_room d l m) ∙ ap (λ (x : List (List ℕ)). view targets w ++ x) (targets_gained c w) in
        let size : length (view targets w) ≡ count targets w = omega (arith, length_view targets w, target_count, target_room d l m) in
        (λ k. get_or (get_or (pool k) (e k) []) 0 0)
        ∙ ap (λ (n : ℕ). get_or (get_or (view targets w ++ map one_word c.1.to) (n + i) []) 0 0) (sym size)
        ∙ ap (λ (x : List ℕ). get_or x 0 0) (get_or-append-add (view targets w) (map one_word c.1.to) i [])
        ∙ single_at c.1.to i

    -- a region is marked where it has an entry in the line
    module _ (line : ℕ) (marks : List ℕ) (known : (i : ℕ) → i < max_regions → eqb (get_or marks i 0) line ≡ within i (keys c.1.vals)) where
      target_is : (i : ℕ) → (eqb (ins_of (listed c w) i) 0 || eqb (get_or marks i 0) line) ≡ reached F c.1 i
      target_is i = go (ltb i max_regions) refl
        where
          go : (b : Bool) → ltb i max_regions ≡ b
              → (eqb (ins_of (listed c w) i) 0 || eqb (get_or marks i 0) line) ≡ reached F c.1 i
          go true e = λ k. eqb (ins_of_law d l m i k) 0 || known i (ltb-true i max_regions e) k
          go false e =
              let none = no_ins d l m i (ltb-false i max_regions e) in
              ap (λ (b : Bool). b || eqb (get_or marks i 0) line) (eq-eqb _ 0 none)
              ∙ sym (ap (λ (b : Bool). b || within i (keys c.1.vals)) (eq-eqb _ 0 (sym (ins_of_law d l m i) ∙ none)))

      targets_are : targets_fit (listed c w) marks line (count targets w) ≡ every (reached F c.1) c.1.to
      unfolding targets_fit target_entered
      targets_are =
          let n : count targets (listed c w) - count targets w ≡ length c.1.to = omega (arith, target_count) in
          let few : leb (count targets (listed c w)) max_targets ≡ true =
          le-leb (count targets (listed c w)) max_targets (omega (arith, target_room d l m, entry_room_law targets)) in
          (λ k. cond (few k) (every (target_entered (listed c w) marks line) (tabulate (λ i. i) (count targets w) (n k))) true)
          ∙ every_numbered (target_entered (listed c w) marks line) (reached F c.1) c.1.to (count targets w)
          (λ i j h e. ap (λ (x : ℕ). eqb (ins_of (listed c w) x) 0 || eqb (get_or marks x 0) line) (target_at i j e) ∙ target_is (get_or c.1.to i 0))

  -- a line
  edges_are : (c : ControlInst) (fit : Bool) → fit ≡ every (entry_agrees F) c.vals
      → (fit && every (reached F c) c.to) ≡ edges_fit F c
  edges_are c true e =
      λ k. e k && every_same (edge_by_marks (λ i. length (region_of F i).ins) c.vals (sym e)) c.to k
  edges_are c false e =
      ap (λ (b : Bool). b && every (λ i. eqb (length (vals_for c i)) (length (region_of F i).ins)) c.to) e

  line_is : (c : ℕ × ControlInst) (s : State) → AddsReady s.func → Low s.line s.marks → Amid (keep_ctrl c s.func) t
      → (keep_judged c s).edges ≡ (s.edges && edges_fit F c.1)
  unfolding keep_judged judged_edges listed
  line_is c s r low m =
      let e = judged_edges c.1 s in
      let a = amid_row c r m in
      let fit = entries_are (suc s.line) c.1.vals (opened c.1 s) (ready_after r (adds_lists c r)) a in
      ap (λ (b : Bool). s.edges && b)
      (ap (λ (w : List ℕ). e.fit && targets_fit w e.marks (suc s.line) (count targets s.func)) (func_entries (suc s.line) c.1.vals (opened c.1 s))
      ∙ ap (λ (b : Bool). e.fit && b) (targets_are c r a (suc s.line) e.marks known)
      ∙ edges_are c.1 e.fit fit)
    where
      known : (i : ℕ) → i < max_regions → eqb (get_or (judged_edges c.1 s).marks i 0) (suc s.line) ≡ within i (keys c.1.vals)
      known i h =
          marked (suc s.line) c.1.vals (opened c.1 s) i h low.size
          ∙ ap (λ (b : Bool). b || within i (keys c.1.vals)) (ne_eqb (get_or s.marks i 0) (suc s.line) (λ q. omega (arith, low.low i h)))

  edges_from_law : (cs : List (ℕ × ControlInst)) (s : State) → AddsReady s.func → Low s.line s.marks → folds keep_ctrl cs s.func ≡ t
      → (folds keep_judged cs s).edges ≡ (s.edges && every (λ c. edges_fit F c.1) cs)
  unfolding folds keep_judged judged_edges
  edges_from_law [] s r low e = and_true s.edges
  edges_from_law (c ∷ cs) s r low e =
      let q = ready_after r (adds_ctrl c s.func r) in
      edges_from_law cs (keep_judged c s) q (low_entries c.1.vals (opened c.1 s) (low_next low)) e
      ∙ ap (λ (b : Bool). b && every (λ c. edges_fit F c.1) cs) (line_is c s r low (amid_lines cs q e))
      ∙ and_assoc s.edges (edges_fit F c.1) (every (λ c. edges_fit F c.1) cs)

pub edges_judged : (F : Func) {z : List ℕ} → Clear z → (m : List ℕ) → max_regions ≤ length m → ((i : ℕ) → i < max_regions → get_or m i 0 ≡ 0) → within_limits F ≡ true
    → (folds keep_judged F.ctrls (start (with_ops F z) m)).edges ≡ every (λ c. edges_fit F c.1) F.ctrls
unfolding start with_ops with_nodes with_regions with_params with_consts headed keep_func
edges_judged F {z} c m n h l =
    edges_from_law (stored_func F c) l F.ctrls (start (with_ops F z) m) ready (record { size = n; low = λ i k. omega (arith, h i k) }) refl
  where
    ready : AddsReady (with_ops F z)
    ready =
        let s = stages F c in
        ready_after (ready_after (ready_after (ready_after (ready_after (ready_clear (clear_head F c)) s.const) s.param) s.region) s.node) s.op
