-- What all passes give together. Assumes nothing.
--     gives_first, first_room, phis_room, results_room    from each pass to the next
--     number_done      the tables of all ids
use mathlib.Core.Path.{◌≡◌, refl, sym, ap, ◌∙◌}
use mathlib.Core.List.{List, ◌∷◌, ◌++◌}
use Prim.Native.Nat.{ℕ, ◌+◌, ◌≤◌, ◌<◌}
use native.Mathlib.Numerals.{add-one}
use native.Mathlib.Omega.{arith}
use lib.ListN.{get_or, length, length-append}
use Rattle.lifting.specs.Limits.{highest_id}
use Rattle.lifting.specs.Ast.{Func, region_input}
use Rattle.lifting.specs.Ids.{Name, next_id, the_function}
use Rattle.func.proofs.Tables.{few_params}
use Rattle.func.specs.Decode.{func_of}
use Rattle.general_laws.specs.Members.{length_tabulate}
use Rattle.work.specs.Layout.{ids_at, input_ids_at, ids_end}
use Rattle.work.specs.Aside.{Aside}
use Rattle.lifting_blocks.specs.Flat.{up_to}
use Rattle.blocks.specs.Laid.{Laid}
use Rattle.emit_names.specs.Ids.{IdsBlank, Ids, ids_words, names_of, next_in}
use Rattle.emit_names.specs.Names.{any_laid, first_names, label_names, names_few, names_fit, names_flat, all_names_once, phi_names, result_names}
use Rattle.emit_names.specs.Numbered.{GivesIds, gives_as, gives_aside, gives_length, gives_more, numbered_words, numbered_at, run_words}
use Rattle.emit_names.specs.Runs.{some_run}
use Rattle.emit_ids.specs.Passes.{laid_given}

-- ---- from pass to pass

-- the function has an id and no word
with_function : {l : List Name} {first n : ℕ} {u v : List ℕ} → GivesIds l (first + 1) u n v → GivesIds (the_function ∷ l) first u n v
unfolding numbered_words
with_function {l} {first} {u = u} g = record { next = omega (arith, g.next); words = g.words ∙ ap (λ (j : ℕ). numbered_words u j l) (add-one first) }

pub gives_first : (F : Func) {first n x : ℕ} {u v : List ℕ} → n ≡ length F.params → x ≡ first + 1 + n → v ≡ run_words u input_ids_at (first + 1) n
    → GivesIds (first_names F) first u x v
gives_first F {n = n} e a b =
    with_function (some_run (region_input 0) refl (λ i. refl) (length F.params) (e ∙ sym (length_tabulate (region_input 0) 0 (length F.params))) a b)

module _ {w u : List ℕ} {m first : ℕ} (k : Laid w u m) (h : first ≤ highest_id) where
  abbrev F : Func
  F = func_of w

  abbrev P : List Name
  P = up_to (phi_names F) m

  abbrev R : List Name
  R = up_to (result_names F) m

  abbrev L : List Name
  L = up_to (label_names F) m

  all : length (first_names F) + (length P + (length R + length L)) ≤ 6289985
  all = omega (
    arith,
    names_few k.tables (any_laid k),
    ap length (names_flat F (any_laid k) k.count),
    length-append (first_names F) (P ++ (R ++ L)),
    length-append P (R ++ L),
    length-append R L,
  )

  pub first_room : {n : ℕ} → n ≡ length F.params → (ids_at < length u) × (first + 1 + n ≤ 4294967295)
  first_room e = (omega (arith, k.size), omega (arith, few_params k.tables))

  module _ {a : ℕ} {va : List ℕ} (ga : GivesIds (first_names F) first u a va) where
    pub phis_room : Laid w va m × (a ≤ 1000000000)
    phis_room = (laid_given k ga, omega (arith, ga.next, all))

    module _ {b : ℕ} {vb : List ℕ} (gb : GivesIds P a va b vb) where
      pub results_room : Laid w vb m × (b ≤ 1000000000)
      results_room = (laid_given (laid_given k ga) gb, omega (arith, ga.next, gb.next, all))

      module _ {c : ℕ} {vc : List ℕ} (gc : GivesIds R b vb c vc) where
        pub labels_room : Laid w vc m × (c ≤ 1000000000)
        labels_room = (laid_given (laid_given (laid_given k ga) gb) gc, omega (arith, ga.next, gb.next, gc.next, all))

        -- the tables of all ids
        module _ {d : ℕ} {v : List ℕ} (gd : GivesIds L c vc d v) (blank : IdsBlank u) where
          given : GivesIds (names_of F) first u d v
          given = gives_as (sym (names_flat F (any_laid k) k.count)) (gives_more ga (gives_more gb (gives_more gc gd)))

          pub number_done : (d ≡ next_in F first) × (Ids F first v × (Aside ids_at ids_end u v × (length v ≡ length u)))
          unfolding next_id
          number_done = (
            given.next,
            (
              ids_words (λ s from to.
                  ap (λ (x : List ℕ). get_or x s 0) given.words
                  ∙ numbered_at s from to u first (names_of F) (all_names_once F (any_laid k)) (names_fit k.tables (any_laid k)) (blank.word s from to) (omega (arith, k.size))),
              (gives_aside given (names_fit k.tables (any_laid k)), gives_length given),
            ),
          )
