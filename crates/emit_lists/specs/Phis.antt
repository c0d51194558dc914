-- What moves into phis along the edges of a way out: the values of an entry of its ctrl line, the outputs of the region that it leaves, or
-- what its target takes along an edge without values. Assumes nothing.
use Rattle.std.specs.Prelude.{◌≡◌, List, ℕ, ◌<◌, length}
use Rattle.lifting.specs.Ast.{Func, Value}
use Rattle.lifting.specs.Parts.{region_of}
use Rattle.lifting.specs.Points.{CfgPoint}
use Rattle.lifting.specs.Walk.{some_vals}
use Rattle.func.specs.Tables.{entry_of}
use Rattle.terminators.specs.Edges.{values_along}
use Rattle.emit_lists.specs.declared.Carried.{Carried}
use Rattle.emit_lists.specs.declared.Carried.TheVariants.{Entries, Outputs, Defaults}

module _ (F : Func) where
  -- the values along the edge of entry e, where the target takes d along an edge without values
  abbrev pub carried_values : Carried → ℕ → List Value → List Value
  carried_values (Entries c) e d = (entry_of F c e).1
  carried_values (Outputs r) e d = (region_of F r).outs
  carried_values Defaults e d = d

  -- their line is one of the text
  abbrev pub CarriedFits : Carried → Type 0
  CarriedFits (Entries c) = c < length F.ctrls
  CarriedFits (Outputs r) = r < length F.regions
  CarriedFits Defaults = Unit {0}

  -- x says where the values along each edge with the entries vals stand
  pub record Carries (vals : List (CfgPoint × List Value)) (x : Carried) : Type 0 where
    pub is : (e : ℕ) (d : List Value) → 0 < length (values_along vals e d) → values_along vals e d ≡ carried_values x e d
    pub fits : CarriedFits x

  -- the outputs of region r, along an edge to whichever point
  abbrev pub OutsCarried : ℕ → Carried → Type 0
  OutsCarried r x = (q : CfgPoint) → Carries (some_vals q (region_of F r).outs) x
