-- Refusal 3 by the pools' counts. Assumes nothing.
--     limits_test       the test
--     limits_test_law      the counts pass exactly if the text does
--     ready            of words that pass, each pool that 3 bounds is within its room
use Rattle.std.specs.Prelude.{◌≡◌, refl, Bool, true, false, ◌&&◌, List, ℕ, ◌+◌, ◌≤◌, ◌<◌, min, leb, length, get_or}
use Rattle.std.proofs.Common.{ap, ◌∙◌, arith, lit<, leb-true, leb-false, le-leb}
use Rattle.std.proofs.lemmas.Bool.{lt-leb}
use Rattle.general_laws.specs.Tests.{both}
use Rattle.lifting.specs.Limits.{max_regions, max_nodes, max_ops, max_consts, max_params, max_values, max_decls, max_immediates, max_targets, within_limits}
use Rattle.lifting.specs.Ast.{Func}
use Rattle.func.specs.Layout.{func_need, pool_total, consts, params, decls, values, imms, targets, regions, nodes, ops, entry_room}
use Rattle.func.specs.Store.{count}
use Rattle.func.specs.Whole.{sizes}
use Rattle.func.specs.Stored.{Stored}

unfoldable pub limits_test : List ℕ → Bool
limits_test w =
    leb (count regions w) max_regions
    && leb (count nodes w) max_nodes
    && leb (count ops w) max_ops
    && leb (count consts w) max_consts
    && leb (count params w) max_params
    && leb (count values w) max_values
    && leb (count decls w) max_decls
    && leb (count imms w) max_immediates
    && leb (count targets w) max_targets

-- a count stops at one above the room, so it is over the room exactly if the size is
capped : (s m : ℕ) → leb (min s (m + 1)) m ≡ leb s m
capped s m = go (leb s m) refl
  where
    go : (b : Bool) → leb s m ≡ b → leb (min s (m + 1)) m ≡ leb s m
    go true e = rw e (le-leb (min s (m + 1)) m (omega (arith, leb-true s m e)))
    go false e = rw e (lt-leb (min s (m + 1)) m (omega (arith, leb-false s m e)))

size_fits : {F : Func} {w : List ℕ} → Stored F w → (k : ℕ) → k < pool_total → leb (count k w) (entry_room k) ≡ leb (get_or (sizes F) k 0) (entry_room k)
size_fits {F} s k l = ap (λ (n : ℕ). leb n (entry_room k)) (s.counts k l) ∙ capped (get_or (sizes F) k 0) (entry_room k)

pub limits_test_law : (F : Func) (w : List ℕ) → Stored F w → limits_test w ≡ within_limits F
unfolding limits_test within_limits
limits_test_law F w s =
    λ i.
    size_fits s regions (lit< tt) i
    && size_fits s nodes (lit< tt) i
    && size_fits s ops (lit< tt) i
    && size_fits s consts (lit< tt) i
    && size_fits s params (lit< tt) i
    && size_fits s values (lit< tt) i
    && size_fits s decls (lit< tt) i
    && size_fits s imms (lit< tt) i
    && size_fits s targets (lit< tt) i

-- Words of which each pool that refusal 3 bounds is within its room.
pub record LimitsReady (w : List ℕ) : Type 0 where
  pub size : func_need ≤ length w
  pub regions : count regions w ≤ entry_room regions
  pub nodes : count nodes w ≤ entry_room nodes
  pub ops : count ops w ≤ entry_room ops
  pub consts : count consts w ≤ entry_room consts
  pub params : count params w ≤ entry_room params
  pub values : count values w ≤ entry_room values
  pub decls : count decls w ≤ entry_room decls
  pub imms : count imms w ≤ entry_room imms
  pub targets : count targets w ≤ entry_room targets

pub ready : (w : List ℕ) → func_need ≤ length w → limits_test w ≡ true → LimitsReady w
unfolding limits_test
ready w s e =
    let h = both _ _ e in
    let g = both _ _ h.0 in
    let f = both _ _ g.0 in
    let v = both _ _ f.0 in
    let p = both _ _ v.0 in
    let c = both _ _ p.0 in
    let o = both _ _ c.0 in
    let n = both _ _ o.0 in
    record {
      size = s;
      regions = leb-true _ _ n.0;
      nodes = leb-true _ _ n.1;
      ops = leb-true _ _ o.1;
      consts = leb-true _ _ c.1;
      params = leb-true _ _ p.1;
      values = leb-true _ _ v.1;
      decls = leb-true _ _ f.1;
      imms = leb-true _ _ g.1;
      targets = leb-true _ _ h.1;
    }
