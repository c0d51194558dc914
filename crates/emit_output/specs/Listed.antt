-- What the emitter leaves of a whole list: counted, refusals 10 and 11 are decided, and written it stands in the output slice. Assumes nothing.
--     all_given_law      10 exactly if some id of the list is 0, for texts with a body and imported functions
--     room_is        11 by the counted place
--     list_stands    the written words, and what is beyond them
use Rattle.std.specs.Prelude.{◌≡◌, refl, Bool, true, false, not, ◌&&◌, List, [], ◌∷◌, ◌++◌, ℕ, suc, ◌+◌, ◌≤◌, ◌<◌, leb, ltb, drop, length}
use Rattle.std.proofs.Common.{sym, ap, subst, ◌∙◌, arith, lt-ltb, le-leb, leb-true, leb-false}
use Rattle.std.proofs.lemmas.List.Edits.{sets, sets-eq}
use Rattle.std.proofs.lemmas.Bool.{lt-leb}
use Rattle.general_laws.specs.Lists.{every}
use Rattle.lifting.specs.Ast.{Decl, Func, Region}
use Rattle.lifting.specs.Parts.{has_body, required_ids}
use Rattle.lifting.specs.Points.{Table}
use Rattle.lifting.specs.Walk.{walk_of}
use Rattle.lifting.specs.Absorb.{absorb, kept}
use Rattle.lifting.specs.Instructions.{Instruction, block_insts, end_inst, function_inst, instructions, list_of, param_inst, param_insts}
use Rattle.lifting.specs.Words.{words}
use Rattle.lifting.specs.Answer.{ids_fit, is_set, used_values, values_set}
use Rattle.general_laws.specs.Members.{all_in, here, there}
use Rattle.lifting_runs.specs.Refers.{Refers, refers}
use Rattle.lifting_runs.specs.Fits as fits
use Rattle.lifting_runs.proofs.Shaped.{shaped_checked}
use Rattle.lifting_runs.proofs.EveryText.{walk_none}
use Rattle.lifting_blocks.specs.Laws as flat
use Rattle.check_text.specs.Same.{Passes}
use Rattle.emit_words.specs.declared.Cursor.{Cursor}
use Rattle.general_laws.specs.Part.{last_place, sat}
use Rattle.emit_words.specs.Put.{Put, missed_mark}
use Rattle.emit_words.specs.Items.{list_length, list_missing, list_words, list_items}

-- all ids of an instruction are given
abbrev given : Instruction → Bool
given i = every (λ n. ltb 0 n) i.ids

-- ---- 10

-- the function's type is given, parameters and the end have no ids
params_given : (F : Func) (first : ℕ) (T K : Table) (ds : List Decl) (i : ℕ) (l : List Instruction) → every given l ≡ true → every given (param_insts F first T K ds i ++ l) ≡ true
unfolding param_insts param_inst
params_given F first T K [] i l e = e
params_given F first T K (d ∷ ds) i l e = params_given F first T K ds (suc i) l e

none_used : (F : Func) (T : Table) → T ≡ [] → every (is_set F (kept T)) (used_values F (kept T)) ≡ true
unfolding kept absorb
none_used F T e = subst (λ (t : Table). every (is_set F (kept t)) (used_values F (kept t)) ≡ true) (sym e) refl

no_blocks : (F : Func) (first : ℕ) (T : Table) → T ≡ [] → ltb 0 F.type ≡ true → every given (instructions F first T (kept T)) ≡ true
unfolding kept absorb instructions function_inst block_insts
no_blocks F first T e t =
    subst (λ (u : Table). every given (instructions F first u (kept u)) ≡ true) (sym e)
    (ap (λ (b : Bool). (b && true) && every given (param_insts F first [] [] F.params 0 ++ (end_inst F first [] [] ∷ []))) t
    ∙ params_given F first [] [] F.params 0 (end_inst F first [] [] ∷ []) refl)

imported_given : (F : Func) (first : ℕ) → F.regions ≡ [] → Refers F → values_set F ≡ every given (list_of F first)
unfolding values_set list_of required_ids
imported_given F first e refs =
    let t : ltb 0 F.type ≡ true = lt-ltb 0 F.type (all_in _ (required_ids F) refs.ids_above F.type (there here)) in
    none_used F (walk_of F) (walk_none F e) ∙ sym (no_blocks F first (walk_of F) (walk_none F e) t)

pub all_given_law : (F : Func) (first : ℕ) → Passes F → ids_fit F first ≡ true → values_set F ≡ every given (list_of F first)
all_given_law F first ok ids = go F.regions refl
  where
    go : (rs : List Region) → F.regions ≡ rs → values_set F ≡ every given (list_of F first)
    go [] e = imported_given F first e (refers F ok.references)
    go (r ∷ rs) e =
        let refs = refers F ok.references in
        flat.all_set F (shaped_checked F (ap has_body e) ok.references ok.tree ok.counts ok.control) refs first (fits.numbers_fit F first refs ids)

-- ---- 11

module _ (l : List Instruction) {w u : List ℕ} {r : Cursor} (p : Put w (record { at = 0; missed = 0 }) (list_items l) u r) where
  -- the place after the list
  pub counted : r.at ≡ sat (length (words l))
  counted = omega (arith, p.next, list_length l)

  pub missed_is : r.missed ≡ missed_mark 0 (not (every given l))
  missed_is = p.missed ∙ ap (missed_mark 0) (list_missing l)

  -- a slice has fewer words than the last place
  pub room_is : (n : ℕ) → n < last_place → leb r.at n ≡ leb (length (words l)) n
  room_is n h = go (leb (length (words l)) n) refl
    where
      go : (b : Bool) → leb (length (words l)) n ≡ b → leb r.at n ≡ b
      go true e = let f = leb-true (length (words l)) n e in le-leb r.at n (omega (arith, counted))
      go false e = let f = leb-false (length (words l)) n e in lt-leb r.at n (omega (arith, counted))

  pub count_is : length (words l) < last_place → r.at ≡ length (words l)
  count_is h = omega (arith, counted)

  pub list_stands : length (words l) ≤ length w → u ≡ words l ++ drop (length (words l)) w
  list_stands h =
      let e : 0 + length (words l) ≡ length (words l) = omega arith in
      p.words ∙ ap (sets w 0) (list_words l) ∙ sets-eq (words l) w 0 (omega arith) ∙ ap (λ (n : ℕ). words l ++ drop n w) e
