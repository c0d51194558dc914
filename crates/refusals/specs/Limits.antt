-- Document 01, 'When there is no list': the numbers that it names, each once. Assumes nothing.
use Rattle.std.specs.Prelude.{List, [], ◌∷◌, ℕ}

-- 1 text over 32,768 bytes
abbrev pub max_bytes : ℕ
max_bytes = 32768

-- 3 over 128 regions, 128 nodes, 512 ops, 256 consts, 64 params, 2,048 values, 512 inputs and outs, 512 immediates or 512 ctrl targets
abbrev pub max_regions : ℕ
max_regions = 128

abbrev pub max_nodes : ℕ
max_nodes = 128

abbrev pub max_ops : ℕ
max_ops = 512

abbrev pub max_consts : ℕ
max_consts = 256

abbrev pub max_params : ℕ
max_params = 64

abbrev pub max_values : ℕ
max_values = 2048

abbrev pub max_decls : ℕ
max_decls = 512

abbrev pub max_immediates : ℕ
max_immediates = 512

abbrev pub max_targets : ℕ
max_targets = 512

-- 4 an opcode or operand kind is over 65,535, or an immediate kind over 2
abbrev pub max_opcode : ℕ
max_opcode = 65535

abbrev pub max_imm_kind : ℕ
max_imm_kind = 2

-- 4 a select's or loop's control number is none of 0, 1 and 2 (document 02, W4)
abbrev pub max_control : ℕ
max_control = 2

-- 8 a scratch slice is too short: the words that a caller lends for the function slice, and for the work slice
abbrev pub func_words : ℕ
func_words = 16384

abbrev pub work_words : ℕ
work_words = 16384

-- 9 an id over 4,194,302 would be given (document 02, W3)
abbrev pub highest_id : ℕ
highest_id = 4194302

-- all of them, to which the constants of src/limits.rt are held
abbrev pub limits : List ℕ
limits =
    max_bytes
    ∷ max_regions
    ∷ max_nodes
    ∷ max_ops
    ∷ max_consts
    ∷ max_params
    ∷ max_values
    ∷ max_decls
    ∷ max_immediates
    ∷ max_targets
    ∷ max_opcode
    ∷ max_imm_kind
    ∷ max_control
    ∷ func_words
    ∷ work_words
    ∷ highest_id
    ∷ []
