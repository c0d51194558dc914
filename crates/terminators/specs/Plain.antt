-- A fact that a struct keeps has one proof at most, so that the visited points are kept truncated. The fact is had back whole: its only choice, how
-- many outputs a case has, can be decided. Assumes nothing.
--     visited_plain     the visited points of a truncated fact
use Rattle.std.specs.Prelude.{◌≡◌, refl, List, [], ◌∷◌, ℕ, zero, suc, ◌≤◌, length, get_or}
use Rattle.std.proofs.Common.{sym, subst, inl, inr, arith, lit<}
use Rattle.std.proofs.Math.Logic.{∥∥₁_elim, ∥∥₁_map}
use Rattle.std.proofs.Math.Decide.{ℕ_discrete}
use Rattle.std.proofs.Props.{props}
use Rattle.general_laws.specs.Members.{NoDup}
use Rattle.general_laws.specs.Tests.{split}
use Rattle.lifting.specs.Ast.{ControlInst, ControlInstKind, DataInstKind, Func, SelectionKind, bool_cond, branch, call, exit_invocation, ext, inst, return, select_branch, spv_inst, unreachable}
use Rattle.lifting.specs.Parts.{region_of}
use Rattle.lifting_runs.specs.Accepted.{Enough, Fitting, FreeKind, FreeOp, FreeSelection, OutsFit, Targets, WayFit}
use Rattle.func.specs.Layout.{entries, entry_room}
use Rattle.func.specs.Store.{count}
use Rattle.func.specs.Lines.{Cell, num, run, CellIs, Row, RowsEach, none, more, pool_slice}
use Rattle.func.specs.Keep.{entry_cells}
use Rattle.func.specs.Back.{CtrlRow, Fit}
use Rattle.func.specs.Tables.{Tables}
use Rattle.walk_points.specs.Walk.{Walkable}
use Rattle.terminators.specs.Visited.{Visited}

plain : {A : Type 0} → IsProp A → ∥ A ∥₁ → A
plain p x = ∥∥₁_elim x p (λ a. a)

-- ---- rows

cell_prop : (w : List ℕ) (x : ℕ) (c : Cell) → IsProp (CellIs w x c)
cell_prop w x (num n) = Prim.hlevel props
cell_prop w x (run p es) = Prim.hlevel props

row_prop : (w e : List ℕ) (cs : List Cell) → IsProp (Row w e cs)
row_prop w e cs = Prim.hlevel (cell_prop, props)

module _ {A : Type 0} {P : List ℕ → A → Type 0} where
  head_row : {e : List ℕ} {es : List (List ℕ)} {a : A} {xs : List A} → RowsEach P (e ∷ es) (a ∷ xs) → P e a
  head_row (more h t) = h

  tail_rows : {e : List ℕ} {es : List (List ℕ)} {a : A} {xs : List A} → RowsEach P (e ∷ es) (a ∷ xs) → RowsEach P es xs
  tail_rows (more h t) = t

  same_length : {es : List (List ℕ)} {xs : List A} → RowsEach P es xs → length es ≡ length xs
  same_length none = refl
  same_length (more h t) = omega (arith, same_length t)

  rows_plain : ((e : List ℕ) (a : A) → ∥ P e a ∥₁ → P e a) → (es : List (List ℕ)) (xs : List A) → ∥ RowsEach P es xs ∥₁ → RowsEach P es xs
  rows_plain p [] [] x = none
  rows_plain p [] (a ∷ xs) x = absurd (∥∥₁_elim x (Prim.hlevel props) (λ r. omega (arith, same_length r)))
  rows_plain p (e ∷ es) [] x = absurd (∥∥₁_elim x (Prim.hlevel props) (λ r. omega (arith, same_length r)))
  rows_plain p (e ∷ es) (a ∷ xs) x = more (p e a (∥∥₁_map x head_row)) (rows_plain p es xs (∥∥₁_map x tail_rows))

ctrl_plain : {t : List ℕ} → count entries t ≤ entry_room entries → (e : List ℕ) (c : ℕ × ControlInst) → ∥ CtrlRow t e c ∥₁ → CtrlRow t e c
ctrl_plain {t} ok e c x = record {
  cells = ∥∥₁_elim x (row_prop _ _ _) (λ r. r.cells);
  rows = pool_slice entries t (get_or e 7 0);
  piece = λ h. record { within = ∥∥₁_elim x (Prim.hlevel props) (λ r. (r.piece h).within); is = refl };
  vals = rows_plain (λ e v. plain (row_prop _ _ _)) _ _ (∥∥₁_map x (λ r. subst (λ (l : List (List ℕ)). RowsEach (λ e v. Row t e (entry_cells v)) l c.1.vals) (sym (r.piece ok).is) r.vals));
}

tables_plain : {w : List ℕ} → ∥ Tables w ∥₁ → Tables w
tables_plain {w} x =
    let fit : Fit w = ∥∥₁_elim x (Prim.hlevel props) (λ t. t.counts) in
    record {
      size = ∥∥₁_elim x (Prim.hlevel props) (λ t. t.size);
      counts = fit;
      rows = record {
        regions = λ h. rows_plain (λ e r. plain (row_prop _ _ _)) _ _ (∥∥₁_map x (λ t. t.rows.regions h));
        nodes = λ h. rows_plain (λ e r. plain (row_prop _ _ _)) _ _ (∥∥₁_map x (λ t. t.rows.nodes h));
        ops = λ h. rows_plain (λ e r. plain (row_prop _ _ _)) _ _ (∥∥₁_map x (λ t. t.rows.ops h));
        ctrls = λ h. rows_plain (ctrl_plain (fit entries (lit< tt))) _ _ (∥∥₁_map x (λ t. t.rows.ctrls h));
      };
      firsts = ∥∥₁_elim x (Prim.hlevel props) (λ t. t.firsts);
      pool = ∥∥₁_elim x (Prim.hlevel props) (λ t. t.pool);
    }

-- ---- what the walk asks

nodup_prop : {A : Type 0} (l : List A) → IsProp (NoDup l)
nodup_prop [] = Prim.hlevel props
nodup_prop (x ∷ l) = Prim.hlevel (nodup_prop l, props)

enough_prop : (k : SelectionKind) (n : ℕ) → IsProp (Enough k n)
enough_prop bool_cond n = Prim.hlevel props
enough_prop (spv_inst i) n = Prim.hlevel props

way_prop : (k : ControlInstKind) (n : ℕ) → IsProp (WayFit k n)
way_prop unreachable n = Prim.hlevel props
way_prop return n = Prim.hlevel props
way_prop branch n = Prim.hlevel props
way_prop (select_branch k) n = enough_prop k n
way_prop (exit_invocation i) n = Prim.hlevel props

selection_prop : (k : SelectionKind) → IsProp (FreeSelection k)
selection_prop bool_cond = Prim.hlevel props
selection_prop (spv_inst i) = Prim.hlevel props

kind_prop : (k : ControlInstKind) → IsProp (FreeKind k)
kind_prop unreachable = Prim.hlevel props
kind_prop return = Prim.hlevel props
kind_prop branch = Prim.hlevel props
kind_prop (select_branch k) = selection_prop k
kind_prop (exit_invocation i) = Prim.hlevel props

op_prop : (k : DataInstKind) → IsProp (FreeOp k)
op_prop (inst i) = Prim.hlevel props
op_prop (call f) = Prim.hlevel props
op_prop (ext s n) = Prim.hlevel props

before_plain : (s : ℕ) → ∥ ((t : ℕ) × (s ≡ suc t)) ∥₁ → ((t : ℕ) × (s ≡ suc t))
before_plain zero x = absurd (∥∥₁_elim x (Prim.hlevel props) (λ p. omega (arith, p.1)))
before_plain (suc s) x = (s, refl)

module _ (F : Func) where
  outs_plain : (c n : ℕ) → ∥ OutsFit F c n ∥₁ → OutsFit F c n
  outs_plain c n x = split (ℕ_discrete (length (region_of F c).outs) n) (λ e. inl e)
      (λ e. inr (∥∥₁_elim x (Prim.hlevel props) (elim [ inl p ↦ absurd (e p) | inr p ↦ p ])))

  fitting_plain : ∥ Fitting F ∥₁ → Fitting F
  fitting_plain x = record {
    loop_ins = ∥∥₁_elim x (Prim.hlevel props) (λ f. f.loop_ins);
    loop_outs = ∥∥₁_elim x (Prim.hlevel props) (λ f. f.loop_outs);
    case_outs = λ n c {k} {v} {cs} {ds} {u} e i. outs_plain c (length ds) (∥∥₁_map x (λ f. f.case_outs n c e i));
    edge_ins = ∥∥₁_elim x (Prim.hlevel props) (λ f. f.edge_ins);
    cases_count = ∥∥₁_elim x (Prim.hlevel (enough_prop, props)) (λ f. f.cases_count);
    ctrl_way = ∥∥₁_elim x (Prim.hlevel (way_prop, props)) (λ f. f.ctrl_way);
    select_free = ∥∥₁_elim x (Prim.hlevel (selection_prop, props)) (λ f. f.select_free);
    exit_free = ∥∥₁_elim x (Prim.hlevel props) (λ f. f.exit_free);
    ctrl_free = ∥∥₁_elim x (Prim.hlevel (kind_prop, props)) (λ f. f.ctrl_free);
    op_free = ∥∥₁_elim x (Prim.hlevel (op_prop, props)) (λ f. f.op_free);
  }

  targets_plain : ∥ Targets F ∥₁ → Targets F
  targets_plain x = record {
    some_region = ∥∥₁_elim x (Prim.hlevel props) (λ t. t.some_region);
    in_range = ∥∥₁_elim x (Prim.hlevel props) (λ t. t.in_range);
    body_root = ∥∥₁_elim x (Prim.hlevel props) (λ t. t.body_root);
    target_root = ∥∥₁_elim x (Prim.hlevel props) (λ t. t.target_root);
    not_body = λ r s e i. before_plain s (∥∥₁_map x (λ t. t.not_body r s e i));
  }

  walkable_plain : ∥ Walkable F ∥₁ → Walkable F
  walkable_plain x = record {
    shaped = record {
      body = ∥∥₁_elim x (Prim.hlevel props) (λ k. k.shaped.body);
      forest = ∥∥₁_elim x (Prim.hlevel (nodup_prop, props)) (λ k. k.shaped.forest);
      targets = targets_plain (∥∥₁_map x (λ k. k.shaped.targets));
      fitting = fitting_plain (∥∥₁_map x (λ k. k.shaped.fitting));
    };
    named = ∥∥₁_elim x (Prim.hlevel props) (λ k. k.named);
    node = ∥∥₁_elim x (Prim.hlevel props) (λ k. k.node);
  }

pub visited_plain : {w u : List ℕ} {m : ℕ} → ∥ Visited w u m ∥₁ → Visited w u m
visited_plain x = record {
  tables = tables_plain (∥∥₁_map x (λ k. k.tables));
  walkable = walkable_plain _ (∥∥₁_map x (λ k. k.walkable));
  size = ∥∥₁_elim x (Prim.hlevel props) (λ k. k.size);
  few = ∥∥₁_elim x (Prim.hlevel props) (λ k. k.few);
  count = ∥∥₁_elim x (Prim.hlevel props) (λ k. k.count);
  order = ∥∥₁_elim x (Prim.hlevel props) (λ k. k.order);
  parents = ∥∥₁_elim x (Prim.hlevel props) (λ k. k.parents);
  lines = ∥∥₁_elim x (Prim.hlevel props) (λ k. k.lines);
}
