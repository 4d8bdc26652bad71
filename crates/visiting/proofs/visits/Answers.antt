-- visits meets its contract. The invariant: the first i faces of the order are visited, and the arrays for the places of a perimeter have
-- their length.
use Rattle.visiting.proofs.Turning.{turning-start, turning-fits, turning-turn, turning-end}
use Rattle.tables.specs.Parts.{face_tables}
use mathlib.Core.Path.{refl}
use native.Mathlib.Omega.{arith}
use Prim.Native.Nat.{◌-◌}
use Rattle.visiting.proofs.visits.Goals as goal

pub loop-i-init : goal.loop-i-init
loop-i-init c = (
  turning-start (face_tables c.args.edges.now c.args.faces.now) c.args.old.points c.args.old.edges c.args.old.faces
      c.args.order.now c.args.newpoints.now c.args.newedges.now c.args.newintervals.now c.args.newfaces.now c.args.old,
  (refl, record { firsts = refl; seconds = refl; mids = refl }),
)

pub offset_bounds-order-i : goal.offset_bounds-order-i
offset_bounds-order-i c =
    omega (arith, c.requires.ordered)

pub bounds-order-i : goal.bounds-order-i
bounds-order-i c =
    omega (arith, c.requires.ordered)

pub visit-taken-requires : goal.visit-taken-requires
visit-taken-requires c =
    record {
      ceilings = c.requires.ceilings;
      edge_width_in_bounds = c.requires.edges;
      face_width_in_bounds = c.requires.faces;
      visit_fits = turning-fits _ _ _ _ _ _ _ _ _ _ _ _ c.loop-i.invariant.0 _ c.index-f.ensures c.requires c.loop-i-test.true;
      found_len = c.loop-i.invariant.1.0;
      places_lent = c.loop-i.invariant.1.1;
    }

pub loop-i-preserved : goal.loop-i-preserved
loop-i-preserved c = (
  turning-turn _ _ _ _ _ _ _ _ _ _ _ _ c.loop-i.invariant.0 _ _ _ _ _ _ c.index-f.ensures c.loop-i-test.true
      c.visit-taken.auto.newpoints c.visit-taken.auto.newedges c.visit-taken.auto.newintervals c.visit-taken.auto.newfaces
      c.visit-taken.ensures.fact,
  (c.visit-taken.ensures.found_len_2, c.visit-taken.ensures.places_lent_2),
)

pub returns : goal.returns
returns c =
    turning-end _ _ _ _ _ _ _ _ _ _ _ _ c.loop-i.invariant.0 c.loop-i-test.false
