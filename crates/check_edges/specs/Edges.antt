-- What refusal 6 asks of the edges of a ctrl line, as the line is read. A region that has an entry in a line is marked with the line's number, so
-- that no mark is ever taken away. Assumes nothing.
--     Edges, keep_edge            the entries of a line
--     target_entered, targets_fit     its targets
use Rattle.std.specs.Prelude.{Bool, true, cond, ◌&&◌, ◌||◌, List, ℕ, ◌+◌, ◌-◌, ◌%◌, eqb, leb, ltb, get_or, set}
use Rattle.general_laws.specs.Lists.{every, tabulate}
use Rattle.lifting.specs.Limits.{max_regions, max_targets}
use Rattle.lifting.specs.Ast.{Value}
use Rattle.func.specs.Layout.{values, targets, regions}
use Rattle.func.specs.Store.{count, folds}
use Rattle.func.specs.Keep.{keep_value, keep_entry}
use Rattle.func.specs.Tables.{word}

-- how many inputs region r has, by its row: none where there are too many regions to be kept, or no such region
unfoldable pub ins_of : List ℕ → ℕ → ℕ
ins_of w r = cond (leb (count regions w) max_regions && ltb r (count regions w)) (word regions w r 0 % 4096) 0

-- region r has an entry in this line: the table of these marks begins the work slice (`entered_at` of crate work)
unfoldable pub mark_entry : ℕ → ℕ → List ℕ → List ℕ
mark_entry line r m = cond (ltb r max_regions) (set m r line) m

-- an entry has as many values as its region has inputs: the words before its values, and those after them
unfoldable pub entry_fits : ℕ → List ℕ → List ℕ → Bool
entry_fits r w v = eqb (count values w + ins_of v r) (count values v)

-- a line's entries so far: the words, the marks, and whether each entry fits
pub record Edges : Type 0 where
  pub func : List ℕ
  pub marks : List ℕ
  pub fit : Bool

unfoldable pub keep_edge : ℕ → ℕ × List Value → Edges → Edges
keep_edge line e s = record {
  func = keep_entry e s.func;
  marks = mark_entry line e.0 s.marks;
  fit = s.fit && entry_fits e.0 s.func (folds keep_value e.1 s.func);
}

-- target i of all has an entry in this line, or its region has no inputs
unfoldable pub target_entered : List ℕ → List ℕ → ℕ → ℕ → Bool
target_entered w m line i = eqb (ins_of w (word targets w i 0)) 0 || eqb (get_or m (word targets w i 0) 0) line

-- each target of this line, the first of which is target `from` of all
unfoldable pub targets_fit : List ℕ → List ℕ → ℕ → ℕ → Bool
targets_fit w m line from =
    cond (leb (count targets w) max_targets) (every (target_entered w m line) (tabulate (λ i. i) from (count targets w - from))) true
