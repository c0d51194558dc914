-- The steps of the walk: what a visit keeps from one target to the next, and what it leaves. Assumes nothing.
use mathlib.Core.Path.{◌≡◌, refl, sym, ap, subst, ◌∙◌}
use mathlib.Core.Bool.{Bool, true, false}
use mathlib.Core.List.{List, [], ◌∷◌, reverse}
use Prim.Native.Nat.{ℕ, zero, suc, ◌+◌, ◌-◌, ◌≤◌, ◌<◌}
use native.Mathlib.Decide.{ℕ_discrete}
use native.Mathlib.Omega.{arith}
use lib.Dec.{lit<}
use lib.ListN.{length, get_or, set, length-set}
use lib.Seq.{get_or-set_same, get_or-set_other}
use Rattle.general_laws.specs.Lists.{within}
use Rattle.lifting.specs.Ast.{Func}
use Rattle.lifting.specs.Order.{Seen, targets_of, visits, visit_if, visit, roots}
use Rattle.std.specs.Prelude.{Option, Some, None}
use Rattle.func.specs.Search.{CtrlIs, CtrlHere}
use Rattle.func.specs.Decode.{func_of}
use Rattle.func.specs.Tables.{Tables, ctrl_line_of}
use Rattle.work.specs.Layout.{roots_end, lines_at, marks_at, tables_end}
use Rattle.general_laws.specs.Tests.{split}
use Rattle.work.specs.Aside.{Aside, aside_none, aside_more, aside_set}
use Rattle.walk_roots.specs.Tables.{RegionsNamed, Indexed, RegionsMarked, marked_more, marked_not, marked_is, line_none, line_here}
use Rattle.walk_roots.specs.Visit.{ways, last_roots, unseen, unseen_same, unseen_set, unseen_most, WalkStands, RootsLow, WalkReady, RootsVisited, ahead, ahead_all, listed_same, listed_more}

-- a ctrl line that was found, or none
module _ (F : Func) (r : ℕ) where
  pub here : {x : Option ℕ} {i : ℕ} → x ≡ Some i → CtrlIs x F r → CtrlHere F r i
  here e h = subst (λ (y : Option ℕ). CtrlIs y F r) e h

  pub here_ways : {i : ℕ} → CtrlHere F r i → ways F r ≡ (ctrl_line_of F i).1.to
  here_ways h = ap targets_of h.is

  pub no_ways : {x : Option ℕ} → x ≡ None → CtrlIs x F r → ways F r ≡ []
  no_ways e h = ap targets_of (subst (λ (y : Option ℕ). CtrlIs y F r) e h)

-- a target of a root names a region
pub way_low : {F : Func} {w : List ℕ} → RegionsNamed F → Indexed F w → (r : ℕ) → r < 128 → (i : ℕ) → i < length (ways F r) → get_or (ways F r) i 0 < length F.regions
way_low {F} {w} h k r l i b = go (get_or w (lines_at + r) 0) refl
  where
    go : (v : ℕ) → get_or w (lines_at + r) 0 ≡ v → get_or (ways F r) i 0 < length F.regions
    go zero e = let q : length (ways F r) ≡ 0 = ap (λ o. length (targets_of o)) (line_none k r l e) in absurd (omega arith)
    go (suc c) e =
        let c_here = line_here k r l c e in
        let q : ways F r ≡ (ctrl_line_of F c).1.to = here_ways F r c_here in
        subst (λ (ts : List ℕ). get_or ts i 0 < length F.regions) (sym q) (h.target c i c_here.below (subst (λ (ts : List ℕ). i < length ts) q b))

-- roots are visited one after the other, k deep
abbrev along : Func → ℕ → List ℕ → Seen → Seen
along F k ts s = visits (λ t x. visit F k t x) ts s

-- what is left of the targets of r
pub record Left (F : Func) (r k : ℕ) (s : Seen) (i : ℕ) (work : List ℕ) (at : ℕ) : Type 0 where
  pub now : Seen
  pub stands : WalkStands work at now
  pub rest : along F k (reverse (ways F r)) s ≡ along F k (ahead (ways F r) i) now

-- the loop of a visit: r is marked in w, and targets from i on are visited
pub record Turn (func : List ℕ) (r n : ℕ) (w : List ℕ) (i : ℕ) (work : List ℕ) (at : ℕ) : Type 0 where
  pub tables : Tables func
  pub named : RegionsNamed (func_of func)
  pub known : r < length (func_of func).regions
  pub within : i ≤ length (ways (func_of func) r)
  pub size : tables_end ≤ length w
  pub same : length work ≡ length w
  pub lines : Indexed (func_of func) work
  pub kept : (x : ℕ) → x < 128 → get_or work (lines_at + x) 0 ≡ get_or w (lines_at + x) 0
  pub full : n + unseen w (length (func_of func).regions) < length (func_of func).regions
  pub room : at + unseen work (length (func_of func).regions) ≤ n + unseen w (length (func_of func).regions)
  pub less : unseen work (length (func_of func).regions) ≤ unseen w (length (func_of func).regions)
  pub low : RootsLow (func_of func) work at
  pub above : Aside 0 tables_end w work
  pub left : (k : ℕ) (s : Seen) → unseen w (length (func_of func).regions) ≤ k → WalkStands w n s → Left (func_of func) r k s i work at

-- a root is marked
module _ {func w : List ℕ} {r n : ℕ} (p : WalkReady func w r n) {u : List ℕ} (e : u ≡ set w (marks_at + r) 1) where
  abbrev F : Func
  F = func_of func

  abbrev N : ℕ
  N = length F.regions

  other : (x : ℕ) → x < marks_at → get_or u x 0 ≡ get_or w x 0
  other x l = ap (λ (z : List ℕ). get_or z x 0) e ∙ get_or-set_other w (marks_at + r) x 1 0 (λ y. omega arith)

  above_u : Aside 0 tables_end w u
  above_u = subst (Aside 0 tables_end w) (sym e) (aside_set (aside_none 0 tables_end w) (marks_at + r) 1 (omega arith) (omega (arith, p.known, p.named.few)))

  size_u : length u ≡ length w
  size_u = ap length e ∙ length-set w (marks_at + r) 1

  in_room : n ≤ 128
  in_room = omega (arith, p.room, p.named.few)

  -- so there is one fewer without a mark
  pub fewer : unseen w N ≡ suc (unseen u N)
  fewer =
      unseen_set w r N p.known (omega (arith, p.known, p.named.few, p.size)) p.fresh
      ∙ ap (λ (z : List ℕ). suc (unseen z N)) (sym e)

  marked : (s : Seen) → WalkStands w n s → WalkStands u n (record { seen = r ∷ s.seen; order = s.order })
  marked s k =
      let h = in_room in
      record {
        marks = subst (λ (z : List ℕ). RegionsMarked marks_at (r ∷ s.seen) z) (sym e) (marked_more k.marks r (omega (arith, p.known, p.named.few)) (omega (arith, p.known, p.named.few, p.size)));
        order = listed_same w u n (omega arith) (λ x l b. other x (omega arith)) ∙ k.order;
      }

  pub turn_first : {i : ℕ} → i ≡ length (ways F r) → Turn func r n u i u n
  turn_first {i} c =
      let h = in_room in
      record {
        tables = p.tables;
        named = p.named;
        known = p.known;
        within = omega arith;
        size = omega (arith, p.size, size_u);
        same = refl;
        lines = record { line = λ x l. other (lines_at + x) (omega arith) ∙ p.lines.line x l };
        kept = λ x l. refl;
        full = omega (arith, p.room, fewer);
        room = omega arith;
        less = omega arith;
        low = record { word = λ x l b. subst (λ (y : ℕ). y < N) (sym (other x (omega arith))) (p.low.word x l b) };
        above = aside_none 0 tables_end u;
        left = λ k s l d. record { now = s; stands = d; rest = ap (λ (ts : List ℕ). along F k ts s) (sym (ahead_all (ways F r)) ∙ ap (ahead (ways F r)) (sym c)) };
      }

  -- once its targets are, the root is done
  module _ {i at : ℕ} {work : List ℕ} (t : Turn func r n u i work at) (z : i ≤ 0) {out : List ℕ} {m : ℕ} (em : m ≡ at + 1) (eo : out ≡ set work (roots_end - 1 - at) r) where
    at_low : at < 128
    at_low = omega (arith, t.room, t.full, p.named.few)

    above : (x : ℕ) → roots_end ≤ x → get_or out x 0 ≡ get_or work x 0
    above x l = ap (λ (y : List ℕ). get_or y x 0) eo ∙ get_or-set_other work (roots_end - 1 - at) x r 0 (λ y. omega arith)

    here_at : roots_end - 1 - at < length work
    here_at = omega (arith, t.size, t.same)

    unseen_out : unseen out N ≡ unseen work N
    unseen_out = unseen_same work out N (λ x l. above (marks_at + x) (omega arith))

    done : (k : ℕ) (s : Seen) → unseen u N ≤ k → WalkStands w n s → WalkStands out m (visit F (suc k) r s)
    done k s l d =
        let q = t.left k (record { seen = r ∷ s.seen; order = s.order }) l (marked s d) in
        let i_is : i ≡ 0 = omega arith in
        let none : within r s.seen ≡ false = marked_not d.marks r (omega (arith, p.known, p.named.few)) p.fresh in
        let v : along F k (reverse (ways F r)) (record { seen = r ∷ s.seen; order = s.order }) ≡ q.now = q.rest ∙ ap (λ (y : ℕ). along F k (ahead (ways F r) y) q.now) i_is in
        subst (λ (y : Seen). WalkStands out m y)
        (sym (ap (λ (b : Bool). visit_if F b (λ t x. visit F k t x) r s) none ∙ ap (λ (y : Seen). after y) v))
        (record {
          marks = record { mark = λ x g. above (marks_at + x) (omega arith) ∙ q.stands.marks.mark x g };
          order =
              ap (λ (y : ℕ). last_roots out y) em
              ∙ ap (λ (y : List ℕ). last_roots y (at + 1)) eo
              ∙ listed_more work at r (omega (arith, at_low)) here_at
              ∙ ap (λ (y : List ℕ). r ∷ y) q.stands.order;
        })
      where
        after : Seen → Seen
        after y = record { seen = y.seen; order = r ∷ y.order }

    pub turn_done : RootsVisited F w r n out m
    turn_done = record {
      reach = λ k s l d. go k s l d;
      room = omega (arith, t.room, unseen_out, fewer);
      less = omega (arith, t.less, unseen_out, fewer);
      lines = λ x l. above (lines_at + x) (omega arith) ∙ t.kept x l ∙ other (lines_at + x) (omega arith);
      low = record {
        word = λ x l b. split (ℕ_discrete x (roots_end - 1 - at))
            (λ y. omega (arith, ap (λ (j : ℕ). get_or out j 0) y ∙ ap (λ (j : List ℕ). get_or j (roots_end - 1 - at) 0) eo ∙ get_or-set_same work (roots_end - 1 - at) r 0 here_at, p.known))
            (λ y. omega (arith, ap (λ (j : List ℕ). get_or j x 0) eo ∙ get_or-set_other work (roots_end - 1 - at) x r 0 y, t.low.word x (omega arith) b));
      };
      above = subst (Aside 0 tables_end w) (sym eo) (aside_set (aside_more above_u t.above) (roots_end - 1 - at) r (omega arith) (omega arith));
    }
      where
        go : (k : ℕ) (s : Seen) → unseen w N ≤ k → WalkStands w n s → WalkStands out m (visit F k r s)
        go zero s l d = absurd (omega (arith, fewer))
        go (suc k) s l d = done k s (omega (arith, fewer)) d

-- a target is taken
module _ {func : List ℕ} {r n : ℕ} {w : List ℕ} {i : ℕ} {work : List ℕ} {at : ℕ} (t : Turn func r n w i work at) where
  pub turn_leave : (at < 128) × (r < 128) × (tables_end ≤ length work)
  turn_leave = omega (arith, t.room, t.full, t.known, t.named.few, t.size, t.same)

  module _ (more : 0 < i) where
    pub turn_way : (r < 128) × (tables_end ≤ length work) × (i - 1 < length (ways (func_of func) r))
    turn_way = omega (arith, t.known, t.named.few, t.size, t.same, t.within)

    module _ {x : ℕ} (is : x ≡ get_or (ways (func_of func) r) (i - 1) 0) where
      target_low : x < length (func_of func).regions
      target_low = subst (λ (y : ℕ). y < length (func_of func).regions) (sym is) (way_low t.named t.lines r turn_way.0 (i - 1) turn_way.2)

      pub turn_mark : (x < 128) × (tables_end ≤ length work)
      turn_mark = omega (arith, target_low, t.named.few, t.size, t.same)

      -- from one target to the next
      step : {k : ℕ} {s : Seen} (q : Left (func_of func) r k s i work at)
          → along (func_of func) k (reverse (ways (func_of func) r)) s ≡ along (func_of func) k (ahead (ways (func_of func) r) (i - 1)) (visit (func_of func) k x q.now)
      step {k} {s} q =
          let one : i ≡ suc (i - 1) = omega arith in
          q.rest
          ∙ ap (λ (y : ℕ). along (func_of func) k (ahead (ways (func_of func) r) y) q.now) one
          ∙ ap (λ (y : ℕ). along (func_of func) k (ahead (ways (func_of func) r) (i - 1)) (visit (func_of func) k y q.now)) (sym is)

      -- one that is marked is passed over
      pub turn_passed : (get_or work (marks_at + x) 0 ≡ 0 → ⊥) → Turn func r n w (i - 1) work at
      turn_passed h = record {
        tables = t.tables;
        named = t.named;
        known = t.known;
        within = omega (arith, t.within);
        size = t.size;
        same = t.same;
        lines = t.lines;
        kept = t.kept;
        full = t.full;
        room = t.room;
        less = t.less;
        low = t.low;
        above = t.above;
        left = λ k s l d.
            let q = t.left k s l d in
            let p : visit (func_of func) k x q.now ≡ q.now = passed k q.now (marked_is q.stands.marks x turn_mark.0 h) in
            record { now = q.now; stands = q.stands; rest = step q ∙ ap (along (func_of func) k (ahead (ways (func_of func) r) (i - 1))) p };
      }
        where
          passed : (k : ℕ) (s : Seen) → within x s.seen ≡ true → visit (func_of func) k x s ≡ s
          passed zero s e = refl
          passed (suc k) s e = ap (λ (b : Bool). visit_if (func_of func) b (λ t x. visit (func_of func) k t x) x s) e

      -- another is visited
      module _ (fresh : get_or work (marks_at + x) 0 ≡ 0) where
        pub turn_call : WalkReady func work x at
        turn_call = record {
          tables = t.tables;
          named = t.named;
          lines = t.lines;
          size = turn_mark.1;
          known = target_low;
          fresh = fresh;
          room = omega (arith, t.room, t.full);
          low = t.low;
        }

        pub turn_visited : {out : List ℕ} {m : ℕ} → length out ≡ length work → RootsVisited (func_of func) work x at out m → Turn func r n w (i - 1) out m
        turn_visited z v = record {
          tables = t.tables;
          named = t.named;
          known = t.known;
          within = omega (arith, t.within);
          size = t.size;
          same = z ∙ t.same;
          lines = record { line = λ y l. v.lines y l ∙ t.lines.line y l };
          kept = λ y l. v.lines y l ∙ t.kept y l;
          full = t.full;
          room = omega (arith, v.room, t.room);
          less = omega (arith, v.less, t.less);
          low = v.low;
          above = aside_more t.above v.above;
          left = λ k s l d.
              let q = t.left k s l d in
              record { now = visit (func_of func) k x q.now; stands = v.reach k q.now (omega (arith, t.less)) q.stands; rest = step q };
        }

-- the walk begins at region 0
pub ready_first : {func w : List ℕ} → Tables func → RegionsNamed (func_of func) → 0 < length (func_of func).regions → Indexed (func_of func) w → RegionsMarked marks_at [] w → tables_end ≤ length w → WalkReady func w 0 0
ready_first {func} {w} t h some k m z = record {
  tables = t;
  named = h;
  lines = k;
  size = z;
  known = some;
  fresh = m.mark 0 (lit< tt);
  room = omega (arith, unseen_most w (length (func_of func).regions));
  low = record { word = λ x l b. absurd (omega arith) };
}

-- and what it leaves is the roots
module _ {F : Func} {w u : List ℕ} {n : ℕ} (v : RootsVisited F w 0 0 u n) where
  pub order_is : RegionsMarked marks_at [] w → last_roots u n ≡ roots F
  unfolding roots
  order_is m =
      let s : Seen = record { seen = []; order = [] } in
      (v.reach (suc (length F.regions)) s (omega (arith, unseen_most w (length F.regions))) (record { marks = m; order = refl })).order

  pub order_few : n ≤ length F.regions
  order_few = omega (arith, v.room, unseen_most w (length F.regions))

  pub order_lines : Indexed F w → Indexed F u
  order_lines k = record { line = λ r h. v.lines r h ∙ k.line r h }
