-- The words while ctrl lines are read, of a text that passes refusal 3: they come before the words of the whole text, whose pools have room,
-- and no region is added to them. So counts in between are exact, and every region is there with its inputs. Assumes nothing.
--     amid_lines                                 the words before some of the lines
--     amid_row, amid_entries, amid_values        the stages of a line
--     adds_lists, adds_values, adds_entries      what its lists, the values of an entry and its entries add
--     value_room, target_room, ins_of_law, no_ins    what the words say in between of values, of targets, and of a region's inputs
use Rattle.std.specs.Prelude.{◌≡◌, Bool, true, false, cond, ◌&&◌, ℕ, ◌%◌, ◌≤◌, ◌<◌, leb, length, get_or}
use Rattle.std.proofs.Math.Path.{refl}
use Rattle.std.proofs.Common.{sym, ap, subst, ◌∙◌, arith, lit<, leb-true, ltb-true, ltb-false, le-leb}
use mathlib.Core.List.{List, [], ◌∷◌, ◌++◌, map, append-nil}
use Rattle.std.proofs.Math.Dec.{ltb}
use Rattle.std.proofs.Math.ListN.{get_or-eq_default}
use Rattle.general_laws.specs.Tests.{both}
use Rattle.lifting.specs.Limits.{max_regions, max_values, max_decls, max_targets, within_limits}
use Rattle.lifting.specs.Ast.{Value, Region, ControlInst, Func}
use Rattle.lifting.specs.Parts.{region_of}
use Rattle.lifting.specs.Parts as text
use Rattle.general_laws.specs.Gather.{gather_none}
use Rattle.func.specs.Layout.{pool_total, decls, values, targets, entries, regions, ctrls, shapes, lay, pools, pool_of, width, room}
use Rattle.func.proofs.Pools.{entry_room_law}
use Rattle.func.specs.Store.{count, view, push, folds}
use Rattle.func.specs.Adds.{AddsReady, Adds, into_pool, grown}
use Rattle.func.proofs.Adds.{ready_after, adds_then, adds_push, adds_many, adds_folds, grown_none}
use Rattle.func.specs.Lines.{keep_cells, gained, line_gain}
use Rattle.func.specs.Keep.{value_words, entry_cells, ctrl_cells, keep_value, keep_entry, keep_ctrl}
use Rattle.func.specs.Rows.{entry_row, keep_entry_is, ctrl_row_from, keep_ctrl_lists, keep_ctrl_is}
use Rattle.func.specs.Gains.{gain, entry_gain, ctrl_gain}
use Rattle.func.proofs.Gains.{entry_line, adds_entry, adds_ctrl_cells, entries_at, adds_ctrl}
use Rattle.func.specs.Tables.{word}
use Rattle.func.specs.Stored.{Stored}
use Rattle.func.proofs.Stored.{ins_count}
use Rattle.check_edges.specs.Edges.{ins_of}

-- the words v come before the words t, and no region comes between
pub record Amid (v t : List ℕ) : Type 0 where
  pub ready : AddsReady v
  pub rest : ℕ → List (List ℕ)
  pub adds : Adds v t rest
  pub none : rest regions ≡ []

amid_before : {v u t : List ℕ} {g : ℕ → List (List ℕ)} → AddsReady v → Adds v u g → g regions ≡ [] → Amid u t → Amid v t
amid_before {g = g} r a e m = record {
  ready = r;
  rest = λ k. g k ++ m.rest k;
  adds = adds_then a m.adds;
  none = rw (e, m.none);
}

amid_push : {v t : List ℕ} (k : ℕ) (e : List ℕ) → AddsReady v → k < pool_total → length e ≡ width k → into_pool k (e ∷ []) regions ≡ []
    → Amid (push k e v) t → Amid v t
amid_push k e r l q n m = amid_before r (adds_push k e r l q) n m

-- The stages of a line: its own lists, then entry by entry its values and its row, and the line's row.
folds_map : {A : Type 0} (k : ℕ) (f : A → List ℕ) (xs : List A) (w : List ℕ) → folds (push k) (map f xs) w ≡ folds (λ a. push k (f a)) xs w
unfolding folds
folds_map k f [] w = refl
folds_map k f (x ∷ xs) w = folds_map k f xs (push k (f x) w)

pub adds_values : (vs : List Value) {w : List ℕ} → AddsReady w → Adds w (folds keep_value vs w) (into_pool values (map value_words vs))
unfolding entry_cells
adds_values vs {w} r =
    subst (λ (u : List ℕ). Adds w u (into_pool values (map value_words vs))) (folds_map values value_words vs w)
    (adds_many values (map value_words vs) r (lit< tt) (entry_line (0, vs)).wide.0)

lists_are : (c : ℕ × ControlInst) (w : List ℕ) → keep_cells (ctrl_cells c) w ≡ keep_ctrl_lists c.1 w
unfolding keep_cells ctrl_cells
lists_are c w = simp folds_map

pub adds_lists : (c : ℕ × ControlInst) {w : List ℕ} → AddsReady w → Adds w (keep_ctrl_lists c.1 w) (gained (ctrl_cells c))
adds_lists c {w} r = subst (λ (u : List ℕ). Adds w u (gained (ctrl_cells c))) (lists_are c w) (adds_ctrl_cells c w r)

pub adds_entries : (es : List (ℕ × List Value)) {w : List ℕ} → AddsReady w → Adds w (folds keep_entry es w) (grown keep_entry entry_gain es w)
adds_entries es {w} r = adds_folds keep_entry entry_gain adds_entry es w r

-- no region
entries_none : (es : List (ℕ × List Value)) (w : List ℕ) → grown keep_entry entry_gain es w regions ≡ []
unfolding gain line_gain gained entry_cells
entries_none es w = grown_none keep_entry entry_gain regions (λ e w. refl) es w

ctrl_none : (c : ℕ × ControlInst) (w : List ℕ) → ctrl_gain c w regions ≡ []
unfolding ctrl_gain gained ctrl_cells gain line_gain entry_cells
ctrl_none c w = entries_at regions (λ e. []) (λ e w. refl) c w ∙ gather_none c.1.vals

module _ {t : List ℕ} where
  pub amid_lines : (cs : List (ℕ × ControlInst)) {w : List ℕ} → AddsReady w → folds keep_ctrl cs w ≡ t → Amid w t
  amid_lines cs {w} r e = record {
    ready = r;
    rest = grown keep_ctrl ctrl_gain cs w;
    adds = subst (λ (u : List ℕ). Adds w u (grown keep_ctrl ctrl_gain cs w)) e (adds_folds keep_ctrl ctrl_gain adds_ctrl cs w r);
    none = grown_none keep_ctrl ctrl_gain regions ctrl_none cs w;
  }

  -- before a line's row
  pub amid_row : (c : ℕ × ControlInst) {w : List ℕ} → AddsReady w → Amid (keep_ctrl c w) t → Amid (folds keep_entry c.1.vals (keep_ctrl_lists c.1 w)) t
  unfolding ctrl_row_from into_pool width pool_of pools shapes lay
  amid_row c {w} r m =
      let a = ready_after r (adds_lists c r) in
      let q = ready_after a (adds_entries c.1.vals a) in
      amid_push ctrls _ q (lit< tt) refl refl (subst (λ (u : List ℕ). Amid u t) (keep_ctrl_is c w) m)

  -- before the other entries, and before an entry's row
  pub amid_entries : (es : List (ℕ × List Value)) {w : List ℕ} → AddsReady w → Amid (folds keep_entry es w) t → Amid w t
  amid_entries es {w} r m = amid_before r (adds_entries es r) (entries_none es w) m

  pub amid_values : (e : ℕ × List Value) {w : List ℕ} → AddsReady w → Amid (keep_entry e w) t → Amid (folds keep_value e.1 w) t
  unfolding entry_row into_pool width pool_of pools shapes lay
  amid_values e {w} r m =
      let q = ready_after r (adds_values e.1 r) in
      amid_push entries _ q (lit< tt) refl refl (subst (λ (u : List ℕ). Amid u t) (keep_entry_is e w) m)

-- What refusal 3 says of the pools that edges are judged by.
record Few (F : Func) : Type 0 where
  regions : length F.regions ≤ max_regions
  values : length (text.values F) ≤ max_values
  decls : length (text.decls F) ≤ max_decls
  targets : length (text.targets F) ≤ max_targets

limits : (F : Func) → within_limits F ≡ true → Few F
unfolding within_limits
limits F e =
    let i = both _ _ e in
    let d = both _ _ (both _ _ i.0).0 in
    let v = both _ _ d.0 in
    let n = both _ _ (both _ _ (both _ _ (both _ _ v.0).0).0).0 in
    record { regions = leb-true _ _ n.0; values = leb-true _ _ v.1; decls = leb-true _ _ d.1; targets = leb-true _ _ i.1 }

module _ {F : Func} {t : List ℕ} (d : Stored F t) (l : within_limits F ≡ true) where
  module _ {v : List ℕ} (m : Amid v t) where
    region_count : count regions v ≡ length F.regions
    region_count =
        let none : length (m.rest regions) ≡ 0 = ap length m.none in
        let more : count regions t ≡ count regions v = omega (arith, m.adds.counts regions (lit< tt), m.ready.counts regions (lit< tt)) in
        omega (arith, (limits F l).regions, d.counts regions (lit< tt))

    pub value_room : count values v ≤ room values
    value_room = omega (arith, (limits F l).values, d.counts values (lit< tt), m.adds.counts values (lit< tt), entry_room_law values)

    pub target_room : count targets v ≤ room targets
    target_room = omega (arith, (limits F l).targets, d.counts targets (lit< tt), m.adds.counts targets (lit< tt), entry_room_law targets)

    rows_are : view regions v ≡ view regions t
    rows_are =
        let few : count regions t ≤ room regions = omega (arith, (limits F l).regions, d.counts regions (lit< tt), entry_room_law regions) in
        sym (m.adds.views regions (lit< tt) few ∙ rw m.none (append-nil (view regions v)))

    -- a region's inputs: there are none where there is no such region
    pub ins_of_law : (r : ℕ) → ins_of v r ≡ length (region_of F r).ins
    unfolding ins_of
    ins_of_law r = go (ltb r (length F.regions)) refl
      where
        test : (b : Bool) → ltb r (length F.regions) ≡ b → (leb (count regions v) max_regions && ltb r (count regions v)) ≡ b
        test b e = rw (le-leb (count regions v) max_regions (omega (arith, region_count, (limits F l).regions)), region_count) e

        row : r < length F.regions → word regions t r 0 % 4096 ≡ length (region_of F r).ins
        row h =
            ins_count d (omega (arith, (limits F l).regions, d.counts regions (lit< tt))) r h
            (omega (arith, (limits F l).decls, d.counts decls (lit< tt)))

        go : (b : Bool) → ltb r (length F.regions) ≡ b → ins_of v r ≡ length (region_of F r).ins
        go true e =
            ap (λ (b : Bool). cond b (word regions v r 0 % 4096) 0) (test true e)
            ∙ ap (λ (x : List (List ℕ)). get_or (get_or x r []) 0 0 % 4096) rows_are
            ∙ row (ltb-true r (length F.regions) e)
        go false e =
            ap (λ (b : Bool). cond b (word regions v r 0 % 4096) 0) (test false e)
            ∙ sym (ap (λ (x : Region). length x.ins) (get_or-eq_default F.regions _ (ltb-false r (length F.regions) e)))

    pub no_ins : (r : ℕ) → max_regions ≤ r → ins_of v r ≡ 0
    no_ins r h = ins_of_law r ∙ ap (λ (x : Region). length x.ins) (get_or-eq_default F.regions _ (omega (arith, (limits F l).regions)))
