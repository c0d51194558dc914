-- What is printed for a batch, and how one turn after another prints it. Assumes nothing.
--     batch_bytes     what is printed for a batch: for each of its cases what its command prints, and a line `%%`
--     Gathered        what a room holds of the bytes of a case
--     Turn            one turn: what it prints, and what is left to be printed
--     Running         the turns so far
use Rattle.std.specs.Prelude.{◌≡◌, refl, Bool, true, false, IsTrue, IsFalse, cond, Option, None, Some, IfSome, Result, Ok, Err, IfOk, OnOk, ◌↔◌, List, [], ◌∷◌, ◌++◌, ℕ, ◌+◌, ◌-◌, ◌*◌, ◌^◌, ◌≤◌, ◌<◌, eqb, length, min, take, drop, flat_map}
use Rattle.std.specs.Io.KnownBytes.{Appends, Consumes, IsAtEnd}
use Rattle.std.proofs.KnownBytes.{Appends-nil, Appends-trans}
use Rattle.std.proofs.Common.{sym, ap, subst, ◌∙◌, ⊎_elim, arith, true≢false, append_assoc, append-nil, eqb-true, length-append, length-take, length-drop, drop-drop, drop_of_length-le, length-take-le, take-take, take_all}
use Rattle.std.proofs.Math.Seq.{paste, take-append-le, take-append-add, take-nil}
use Rattle.std.proofs.lemmas.List.Edits.{take-paste, length-paste}
use Rattle.lifting.specs.Bytes.{bytes}
use Rattle.print_bytes.specs.Put.{le_or}
use Rattle.command.specs.Opened.{line_room}
use Rattle.read_first.specs.Cut.{input_room}
use Rattle.read_marks.specs.Cut.{cut_of, fitting_bytes}
use Rattle.read_cases.specs.declared.State.{State}
use Rattle.read_cases.specs.Kept.{end_mark}
use Rattle.read_cases.specs.Held.{len_after, taken_part}
use Rattle.read_cases.specs.Cases.{cases_from, cases_of, cases_then, cases_cut, cut_onward, without_mark}
use Rattle.print_command.specs.Printed.{case_bytes}
use Rattle.print_command.specs.Decides.{case_cut}

-- what is printed for a case, and the line that ends it
abbrev pub answer_bytes : List ℕ → List ℕ
answer_bytes case = case_bytes case ++ bytes "%%\n"

abbrev pub batch_bytes : List ℕ → List ℕ
batch_bytes batch = flat_map answer_bytes (cases_of batch)

-- for bytes that follow others of a case, with so much of its line `%%` matched
unfoldable pub batch_from : List ℕ → ℕ → List ℕ → List ℕ
batch_from kept m t = flat_map answer_bytes (cases_from kept m t)

-- for a case, if it has ended
abbrev pub printed_if : ℕ → List ℕ → List ℕ
printed_if m case = cond (eqb m 4) (answer_bytes case) []

-- of a case that has ended no byte stays
abbrev pub kept_if : ℕ → List ℕ → List ℕ
kept_if m kept = cond (eqb m 4) [] kept

then_printed : (kept : List ℕ) (m : ℕ) (r : List ℕ) → flat_map answer_bytes (cases_then kept m r) ≡ printed_if m (without_mark kept) ++ batch_from (kept_if m kept) m r
unfolding batch_from
then_printed kept m r = go (eqb m 4) refl
  where
    go : (q : Bool) → eqb m 4 ≡ q → flat_map answer_bytes (cond q (without_mark kept ∷ cases_from [] 4 r) (cases_from kept m r))
        ≡ cond q (answer_bytes (without_mark kept)) [] ++ flat_map answer_bytes (cases_from (cond q [] kept) m r)
    go true e = ap (λ (n : ℕ). answer_bytes (without_mark kept) ++ flat_map answer_bytes (cases_from [] n r)) (sym (eqb-true m 4 e))
    go false e = refl

-- ---- what is kept of a case

-- a room holds as many of the bytes of a case as it can
pub record Gathered (room : List ℕ) (len : ℕ) (kept : List ℕ) : Type 0 where
  pub count : len ≡ min (length kept) (length room)
  pub front : take len room ≡ take (length room) kept

pub gathered_none : (room : List ℕ) → Gathered room 0 []
gathered_none room = record { count = omega arith; front = sym (take-nil (length room)) }

take_min : (k : ℕ) (l : List ℕ) → take (min (length l) k) l ≡ take k l
take_min k l =
    ⊎_elim (λ h. take_all (min (length l) k) l (omega arith) ∙ sym (take_all k l h)) (λ h. let e : min (length l) k ≡ k = omega arith in ap (λ (n : ℕ). take n l) e)
    (le_or (length l) k)

-- as many of two parts as there is room for
take_two : (room : ℕ) (kept part : List ℕ) → take room kept ++ take (min (length part) (room - min (length kept) room)) part ≡ take room (kept ++ part)
take_two room kept part = ⊎_elim few many (le_or (length kept) room)
  where
    few : length kept ≤ room → take room kept ++ take (min (length part) (room - min (length kept) room)) part ≡ take room (kept ++ part)
    few h =
        let left : room - min (length kept) room ≡ room - length kept = omega arith in
        let all : length kept + (room - length kept) ≡ room = omega arith in
        ap (λ (l : List ℕ). l ++ take (min (length part) (room - min (length kept) room)) part) (take_all room kept h)
        ∙ ap (λ (l : List ℕ). kept ++ l) (ap (λ (n : ℕ). take (min (length part) n) part) left ∙ take_min (room - length kept) part)
        ∙ sym (take-append-add kept part (room - length kept))
        ∙ ap (λ (n : ℕ). take n (kept ++ part)) all

    many : room < length kept → take room kept ++ take (min (length part) (room - min (length kept) room)) part ≡ take room (kept ++ part)
    many h =
        let none : min (length part) (room - min (length kept) room) ≡ 0 = omega arith in
        ap (λ (n : ℕ). take room kept ++ take n part) none
        ∙ append-nil (take room kept)
        ∙ sym (take-append-le room kept part (omega arith))

-- a part is put behind what the room holds
pub gathered_more : (room kept part : List ℕ) (len : ℕ) → Gathered room len kept
    → Gathered (paste room len part (fitting_bytes room len part)) (len + fitting_bytes room len part) (kept ++ part)
unfolding fitting_bytes
gathered_more room kept part len g =
    let n = min (length part) (length room - len) in
    let same : length (paste room len part n) ≡ length room = length-paste room len part n (omega (arith, g.count)) (omega arith) in
    let long : length (kept ++ part) ≡ length kept + length part = length-append kept part in
    record {
      count = omega (arith, g.count);
      front = take-paste room len part n (omega (arith, g.count)) (omega arith)
          ∙ ap (λ (l : List ℕ). l ++ take n part) g.front
          ∙ ap (λ (k : ℕ). take (length room) kept ++ take (min (length part) (length room - k)) part) g.count
          ∙ take_two (length room) kept part
          ∙ ap (λ (k : ℕ). take k (kept ++ part)) (sym same);
    }

-- what the room holds of a case prints what the case does
pub gathered_prints : (room kept : List ℕ) (len : ℕ) → Gathered room len kept → line_room + input_room + length end_mark ≤ length room
    → case_bytes (take (len - 3) room) ≡ case_bytes (without_mark kept)
gathered_prints room kept len g h =
    let front : take (len - 3) room ≡ take (len - 3) kept =
    sym (take-take (len - 3) len room (omega arith)) ∙ ap (take (len - 3)) g.front ∙ take-take (len - 3) (length room) kept (omega (arith, g.count)) in
    let whole : take (len - 3) kept ≡ take (length room - 3) (without_mark kept) =
    ⊎_elim (λ few. let e : len - 3 ≡ length kept - 3 = omega (arith, g.count) in
    ap (λ (n : ℕ). take n kept) e ∙ sym (take_all (length room - 3) (without_mark kept) (omega (arith, length-take (length kept - 3) kept))))
    (λ many. let e : len - 3 ≡ length room - 3 = omega (arith, g.count) in
    ap (λ (n : ℕ). take n kept) e ∙ sym (take-take (length room - 3) (length kept - 3) kept (omega arith)))
    (le_or (length kept) (length room)) in
    ap case_bytes (front ∙ whole) ∙ case_cut (length room - 3) (omega arith) (without_mark kept)

-- ---- a turn

-- the bytes of the last piece that are still to be taken
abbrev pub pending : List ℕ → State → List ℕ
pending buffer state = drop state.from (take state.till buffer)

-- One turn, at the start of which the reader has the bytes `all` left and at whose end `left`: w are what the writer holds, b the buffer, t the room, s the
-- state, before and after it, and `kept` the bytes of a case before it.
pub record Turn (w₀ w₁ : Option (List ℕ)) (b₀ t₀ : List ℕ) (s₀ : State) (b₁ t₁ : List ℕ) (s₁ : State) (kept all left : List ℕ) : Type 0 where
  pub printed : List ℕ
  pub then_kept : List ℕ
  pub written : Appends w₀ w₁ printed
  pub gathered : Gathered t₁ s₁.len then_kept
  pub same : batch_from kept s₀.matched (pending b₀ s₀ ++ all) ≡ printed ++ batch_from then_kept s₁.matched (pending b₁ s₁ ++ left)
  pub fewer : IsTrue s₁.more → length (pending b₁ s₁) + 2 * length left < length (pending b₀ s₀) + 2 * length all
  pub ended : IsFalse s₁.more → pending b₁ s₁ ++ left ≡ []

-- up to the end of a case
pub record Takes (buffer text : List ℕ) (s : State) (after : List ℕ) (next : State) : Type 0 where
  pub some : s.from < length (take s.till buffer)
  pub cut : (next.from, next.matched) ≡ cut_of s.from s.matched (pending buffer s)
  pub count : next.len ≡ s.len + fitting_bytes text s.len (taken_part s.from next.from (take s.till buffer))
  pub put : after ≡ paste text s.len (taken_part s.from next.from (take s.till buffer)) (fitting_bytes text s.len (taken_part s.from next.from (take s.till buffer)))
  pub till : next.till ≡ s.till
  pub more : IsTrue next.more

-- a case that has ended is held no longer
pub record Rests (s next : State) : Type 0 where
  pub len : next.len ≡ len_after s.matched s.len
  pub matched : next.matched ≡ s.matched
  pub from : next.from ≡ s.from
  pub till : next.till ≡ s.till
  pub more : next.more ≡ s.more

gathered_rests : (text kept : List ℕ) (s next : State) → Gathered text s.len kept → Rests s next → Gathered text next.len (kept_if s.matched kept)
unfolding len_after
gathered_rests text kept s next g r = subst (λ (n : ℕ). Gathered text n (kept_if s.matched kept)) (sym r.len) (go (eqb s.matched 4))
  where
    go : (q : Bool) → Gathered text (cond q 0 s.len) (cond q [] kept)
    go true = gathered_none text
    go false = g

pub turn_taken : (w₀ w₁ : Option (List ℕ)) (buffer text after kept all : List ℕ) (s next last : State) → line_room + input_room + length end_mark ≤ length after
    → Gathered text s.len kept → Takes buffer text s after next → Rests next last → Appends w₀ w₁ (printed_if next.matched (take (next.len - 3) after))
    → Turn w₀ w₁ buffer text s buffer after last kept all all
unfolding batch_from
turn_taken w₀ w₁ buffer text after kept all s next last room g t r written =
    let piece = take s.till buffer in
    let start = pending buffer s in
    let part = taken_part s.from next.from piece in
    let long : length start ≡ length piece - s.from = length-drop s.from piece in
    let onward : s.from < next.from = omega (arith, cut_onward start s.from s.matched (omega (arith, t.some)), ap (λ (p : ℕ × ℕ). p.0) t.cut) in
    let held : Gathered after next.len (kept ++ part) =
    subst (λ (l : List ℕ). Gathered l next.len (kept ++ part)) (sym t.put)
    (subst (λ (n : ℕ). Gathered (paste text s.len part (fitting_bytes text s.len part)) n (kept ++ part)) (sym t.count) (gathered_more text kept part s.len g)) in
    let told : printed_if next.matched (take (next.len - 3) after) ≡ printed_if next.matched (without_mark (kept ++ part)) =
    ap (λ (l : List ℕ). cond (eqb next.matched 4) (l ++ bytes "%%\n") []) (gathered_prints after (kept ++ part) next.len held room) in
    let left : drop (next.from - s.from) start ≡ pending buffer last =
    drop-drop (next.from - s.from) s.from piece
    ∙ ap (λ (n : ℕ). drop n piece) (let e : s.from + (next.from - s.from) ≡ last.from = omega (arith, r.from) in e)
    ∙ ap (λ (n : ℕ). drop last.from (take n buffer)) (sym (r.till ∙ t.till)) in
    record {
      printed = printed_if next.matched (without_mark (kept ++ part));
      then_kept = kept_if next.matched (kept ++ part);
      written = subst (Appends w₀ w₁) told written;
      gathered = gathered_rests after (kept ++ part) next last held r;
      same = ap (flat_map answer_bytes) (cases_cut start kept s.from s.matched all (omega (arith, t.some)))
          ∙ ap (λ (p : ℕ × ℕ). flat_map answer_bytes (cases_then (kept ++ take (p.0 - s.from) start) p.1 (drop (p.0 - s.from) start ++ all))) (sym t.cut)
          ∙ then_printed (kept ++ part) next.matched (drop (next.from - s.from) start ++ all)
          ∙ ap (λ (l : List ℕ). printed_if next.matched (without_mark (kept ++ part)) ++ batch_from (kept_if next.matched (kept ++ part)) next.matched (l ++ all)) left
          ∙ ap (λ (m : ℕ). printed_if next.matched (without_mark (kept ++ part)) ++ batch_from (kept_if next.matched (kept ++ part)) m (pending buffer last ++ all)) (sym r.matched);
      fewer = λ more. omega (arith, ap length left, length-drop (next.from - s.from) start, t.some);
      ended = λ none. absurd (true≢false (sym t.more ∙ sym r.more ∙ none));
    }

-- the next piece
pub record Refills (s : State) (buffer : List ℕ) (next : State) : Type 0 where
  pub len : next.len ≡ s.len
  pub matched : next.matched ≡ s.matched
  pub from : next.from ≡ 0
  pub till : next.till ≤ length buffer
  pub more : IsTrue next.more ↔ 0 < next.till

pub turn_refilled : (w r : Option (List ℕ)) (buffer text after kept all : List ℕ) (s next : State) → length (take s.till buffer) ≤ s.from → Gathered text s.len kept
    → Refills s after next → Consumes (Some all) r (take next.till after) → (next.till ≡ 0 → IsAtEnd r)
    → (left : List ℕ) × (r ≡ Some left) × Turn w w buffer text s after text next kept all left
turn_refilled w None buffer text after kept all s next done g f read end = absurd read
turn_refilled w (Some left) buffer text after kept all s next done g f read end =
    let none : pending buffer s ≡ [] = drop_of_length-le (take s.till buffer) done in
    let came : pending after next ≡ take next.till after = ap (λ (n : ℕ). drop n (take next.till after)) f.from in
    let long : length (take next.till after) ≡ next.till = length-take-le next.till after f.till in (
      left,
      refl,
      record {
        printed = [];
        then_kept = kept;
        written = Appends-nil w;
        gathered = subst (λ (n : ℕ). Gathered text n kept) (sym f.len) g;
        same = ap (λ (l : List ℕ). batch_from kept s.matched (l ++ all)) none
            ∙ ap (batch_from kept s.matched) (read ∙ ap (λ (l : List ℕ). l ++ left) (sym came))
            ∙ ap (λ (m : ℕ). batch_from kept m (pending after next ++ left)) (sym f.matched);
        fewer = λ more. omega (arith, f.more.0 more, ap length came, ap length read, length-append (take next.till after) left);
        ended = λ no_more.
            let zero : next.till ≡ 0 = nothing next.till (λ some. absurd (true≢false (sym (f.more.1 some) ∙ no_more))) in
            ap (λ (l : List ℕ). l ++ left) (came ∙ ap (λ (n : ℕ). take n after) zero) ∙ end zero;
      },
    )
  where
    nothing : (n : ℕ) → (0 < n → ⊥) → n ≡ 0
    nothing n h = omega arith

-- what a turn promises where it succeeds
abbrev pub TurnsWell : (w₀ w₁ r₀ r₁ : Option (List ℕ)) (b₀ t₀ : List ℕ) (s₀ : State) (b₁ t₁ : List ℕ) (s₁ : State) → Type 0
TurnsWell w₀ w₁ r₀ r₁ b₀ t₀ s₀ b₁ t₁ s₁ =
    (kept all : List ℕ) → line_room + input_room + length end_mark ≤ length t₀ → Gathered t₀ s₀.len kept → r₀ ≡ Some all
    → (left : List ℕ) × (r₁ ≡ Some left) × Turn w₀ w₁ b₀ t₀ s₀ b₁ t₁ s₁ kept all left

pub taken_ok : {E : Type 0} (result : Result State E) (w₀ w₁ r : Option (List ℕ)) (buffer text after : List ℕ) (s next : State) → length after ≡ length text
    → Takes buffer text s after next → IfOk result (Rests next) → OnOk result (Appends w₀ w₁ (printed_if next.matched (take (next.len - 3) after)))
    → IfOk result (λ last. TurnsWell w₀ w₁ r r buffer text s buffer after last)
taken_ok (Ok last) w₀ w₁ r buffer text after s next same t rests written =
    λ kept all room g given. (all, given, turn_taken w₀ w₁ buffer text after kept all s next last (omega arith) g t rests written)
taken_ok (Err e) w₀ w₁ r buffer text after s next same t rests written = tt

pub refilled_ok : {E : Type 0} (result : Result State E) (w r₀ r₁ : Option (List ℕ)) (buffer text after : List ℕ) (s : State)
    → length (take s.till buffer) ≤ s.from → 0 < length buffer
    → IfOk result (λ next. (next.len ≡ s.len) × (next.matched ≡ s.matched) × (next.from ≡ 0) × (next.till ≤ length after))
    → IfOk result (λ next. IsTrue next.more ↔ 0 < next.till) → IfOk result (λ next. Consumes r₀ r₁ (take next.till after))
    → IfOk result (λ next. next.till ≡ 0 → 0 < length buffer → IsAtEnd r₁)
    → IfOk result (λ next. TurnsWell w w r₀ r₁ buffer text s after text next)
refilled_ok (Ok next) w r₀ r₁ buffer text after s done some state more came none_came =
    λ kept all room g given.
    turn_refilled w r₁ buffer text after kept all s next done g
    (record { len = state.0; matched = state.1; from = state.2; till = state.3; more = more })
    (subst (λ (r : Option (List ℕ)). Consumes r r₁ (take next.till after)) given came) (λ none. none_came none some)
refilled_ok (Err e) w r₀ r₁ buffer text after s done some state more came none_came = tt

-- ---- the turns so far, of which `turns` are left

pub record Running (w₀ w : Option (List ℕ)) (all : List ℕ) (r : Option (List ℕ)) (buffer text : List ℕ) (s : State) (turns : ℕ) : Type 0 where
  pub printed : List ℕ
  pub kept : List ℕ
  pub left : List ℕ
  pub rest : r ≡ Some left
  pub written : Appends w₀ w printed
  pub gathered : Gathered text s.len kept
  pub same : batch_bytes all ≡ printed ++ batch_from kept s.matched (pending buffer s ++ left)
  pub enough : IsTrue s.more → length (pending buffer s) + 2 * length left + (2 ^ 64 - 1) ≤ turns + 2 * length all
  pub ended : IsFalse s.more → pending buffer s ++ left ≡ []

pub running_start : (w r : Option (List ℕ)) (all buffer text : List ℕ) (s : State) → r ≡ Some all → s.len ≡ 0 → s.matched ≡ 1 → s.from ≡ 0 → s.till ≡ 0 → IsTrue s.more
    → Running w w all r buffer text s (2 ^ 64 - 1)
unfolding batch_from
running_start w r all buffer text s given len matched from till more =
    let none : pending buffer s ≡ [] = ap (λ (n : ℕ). drop n (take s.till buffer)) from ∙ ap (λ (n : ℕ). take n buffer) till in
    record {
      printed = [];
      kept = [];
      left = all;
      rest = given;
      written = Appends-nil w;
      gathered = subst (λ (n : ℕ). Gathered text n []) (sym len) (gathered_none text);
      same = ap (λ (m : ℕ). flat_map answer_bytes (cases_from [] m all)) (sym matched) ∙ ap (λ (l : List ℕ). batch_from [] s.matched (l ++ all)) (sym none);
      enough = λ is. omega (arith, ap length none);
      ended = λ no_more. absurd (true≢false (sym more ∙ no_more));
    }

pub running_on : (w₀ w₁ w₂ r₁ r₂ : Option (List ℕ)) (all b₁ t₁ b₂ t₂ : List ℕ) (s₁ s₂ : State) (turns : ℕ) → 0 < turns → IsTrue s₁.more
    → (g : Running w₀ w₁ all r₁ b₁ t₁ s₁ turns) → (left : List ℕ) × (r₂ ≡ Some left) × Turn w₁ w₂ b₁ t₁ s₁ b₂ t₂ s₂ g.kept g.left left
    → Running w₀ w₂ all r₂ b₂ t₂ s₂ (turns - 1)
running_on w₀ w₁ w₂ r₁ r₂ all b₁ t₁ b₂ t₂ s₁ s₂ turns some more g (left, rest, t) =
    record {
      printed = g.printed ++ t.printed;
      kept = t.then_kept;
      left = left;
      rest = rest;
      written = Appends-trans w₀ w₁ w₂ g.printed t.printed g.written t.written;
      gathered = t.gathered;
      same = g.same ∙ ap (λ (l : List ℕ). g.printed ++ l) t.same ∙ sym (append_assoc g.printed t.printed _);
      enough = λ is. omega (arith, g.enough more, t.fewer is);
      ended = t.ended;
    }

-- When no turn is left or no more bytes come, all is printed.
pub running_done : (w₀ w r : Option (List ℕ)) (all buffer text : List ℕ) (s : State) (turns : ℕ) → Running w₀ w all r buffer text s turns → length all < 2 ^ 63
    → (IsTrue s.more → turns ≡ 0) → Appends w₀ w (batch_bytes all)
unfolding batch_from cases_from
running_done w₀ w r all buffer text s turns g few over = go s.more refl
  where
    go : (b : Bool) → s.more ≡ b → Appends w₀ w (batch_bytes all)
    go true e = absurd (let none = over e in let much = g.enough e in omega arith)
    go false e =
        subst (Appends w₀ w)
        (sym (g.same ∙ ap (λ (l : List ℕ). g.printed ++ flat_map answer_bytes (cases_from g.kept s.matched l)) (g.ended e) ∙ append-nil g.printed)) g.written

pub running_all : (w₀ w r₀ r : Option (List ℕ)) (buffer text room : List ℕ) (s : State) (turns : ℕ)
    → ((all : List ℕ) → line_room + input_room + length end_mark ≤ length room → r₀ ≡ Some all → Running w₀ w all r buffer text s turns) → (IsTrue s.more → turns ≡ 0)
    → IfSome r₀ (λ batch. line_room + input_room + length end_mark ≤ length room → length batch < 2 ^ 63 → Appends w₀ w (batch_bytes batch))
running_all w₀ w None r buffer text room s turns run over = tt
running_all w₀ w (Some batch) r buffer text room s turns run over =
    λ enough few. running_done w₀ w r batch buffer text s turns (run batch enough refl) few over
