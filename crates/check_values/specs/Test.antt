-- The test of a value, by the words of the function slice. Assumes nothing.
--     named_test      the value names something
use Rattle.std.specs.Prelude.{Bool, ◌&&◌, List, ℕ, ◌%◌, ltb}
use Rattle.lifting.specs.Ast.{Value, const, region_input, node_output, data_inst_output}
use Rattle.func.specs.Layout.{consts, regions, nodes, ops}
use Rattle.func.specs.Store.{count}
use Rattle.func.specs.Tables.{word}

-- a value names something, by the row of the line that it names
unfoldable pub named_test : List ℕ → Value → Bool
named_test w (const n) = ltb n (count consts w)
named_test w (region_input r i) = ltb r (count regions w) && ltb i (word regions w r 0 % 4096)
named_test w (node_output n i) = ltb n (count nodes w) && ltb i (word nodes w n 6 % 4096)
named_test w (data_inst_output i) = ltb i (count ops w) && ltb 0 (word ops w i 1)
