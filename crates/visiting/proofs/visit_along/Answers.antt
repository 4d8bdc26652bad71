-- visit_along meets its contract: the intervals are stored, the perimeter is split, the ring is written.
use Rattle.visiting.proofs.Room.{split-room, ring-fits}
use Rattle.visiting.proofs.Along.{along-split, along-visited}
use Rattle.visiting.proofs.Places.{length-filled}
use lib.Ieee.{nan}
use lib.ListN.{length, get_or}
use mathlib.Core.Path.{◌∙◌, ap}
use native.Mathlib.Omega.{arith}
use Rattle.visiting.proofs.visit_along.Goals as goal

pub put_found-requires : goal.put_found-requires
put_found-requires c =
    record { n_le_longest_perimeter = c.requires.along_fits.few-places; by_index = λ i l. (c.requires.along_fits.rows i l).number }

pub split_all-all-requires : goal.split_all-all-requires
split_all-all-requires c =
    record {
      n_le_longest_perimeter = c.requires.along_fits.few-places;
      by_index = c.requires.along_fits.rows;
      point_width_in_bounds = c.requires.along_fits.old-points;
      split_room = split-room c.args.edges.now c.args.newpoints.now c.args.newedges.now c.args.newfaces.now c.args.perimeter.now
          c.args.newintervals.now c.args.np c.args.f c.args.n c.args.taken c.requires.along_fits;
    }

pub put_ring-requires : goal.put_ring-requires
put_ring-requires c =
    let split = along-split c.args.newpoints.now _ c.args.newedges.now _ c.args.newfaces.now c.args.perimeter.now
    c.args.newintervals.now _ c.args.np c.args.n c.args.taken c.split_all-all.result c.split_all-all.ensures in record {
      ring_fits = ring-fits c.args.edges.now c.args.newpoints.now c.args.newedges.now c.args.newfaces.now c.args.perimeter.now
          c.args.newintervals.now c.args.np c.args.f c.args.n c.args.taken c.requires.along_fits _ _ _ c.split_all-all.result split c.split_all-all.auto.points
          c.split_all-all.auto.edges c.split_all-all.auto.intervals;
      places_lent = c.requires.places_lent;
    }

pub overflow_add-result : goal.overflow_add-result
overflow_add-result c =
    let split = along-split c.args.newpoints.now _ c.args.newedges.now _ c.args.newfaces.now c.args.perimeter.now
    c.args.newintervals.now _ c.args.np c.args.n c.args.taken c.split_all-all.result c.split_all-all.ensures in
    let small = (ring-fits c.args.edges.now c.args.newpoints.now c.args.newedges.now c.args.newfaces.now c.args.perimeter.now
    c.args.newintervals.now c.args.np c.args.f c.args.n c.args.taken c.requires.along_fits _ _ _ c.split_all-all.result split c.split_all-all.auto.points
    c.split_all-all.auto.edges c.split_all-all.auto.intervals).small in
    omega (arith, small.few-edges)

pub overflow_sub-result : goal.overflow_sub-result
overflow_sub-result c =
    omega (arith, c.requires.along_fits.some-places)

pub overflow_add-result-2 : goal.overflow_add-result-2
overflow_add-result-2 c =
    let split = along-split c.args.newpoints.now _ c.args.newedges.now _ c.args.newfaces.now c.args.perimeter.now
    c.args.newintervals.now _ c.args.np c.args.n c.args.taken c.split_all-all.result c.split_all-all.ensures in
    let small = (ring-fits c.args.edges.now c.args.newpoints.now c.args.newedges.now c.args.newfaces.now c.args.perimeter.now
    c.args.newintervals.now c.args.np c.args.f c.args.n c.args.taken c.requires.along_fits _ _ _ c.split_all-all.result split c.split_all-all.auto.points
    c.split_all-all.auto.edges c.split_all-all.auto.intervals).small in
    omega (arith, small.few-faces)

pub returns : goal.returns
returns c =
    let split = along-split c.args.newpoints.now _ c.args.newedges.now _ c.args.newfaces.now c.args.perimeter.now
    c.args.newintervals.now _ c.args.np c.args.n c.args.taken c.split_all-all.result c.split_all-all.ensures in record {
      fact = along-visited c.args.edges.now c.args.newpoints.now _ _ c.args.newedges.now _ _ c.args.newfaces.now _
          c.args.perimeter.now c.args.newintervals.now _ _ _ c.args.found.now c.args.np c.args.f c.args.n c.args.taken c.split_all-all.result
          c.requires.along_fits.few-places c.requires.found_len c.put_found.ensures split (c.put_ring.ensures.by_index c.split_all-all.result.points);
      found_len_2 = ap length c.put_found.ensures
          ∙ length-filled c.args.n (λ i. get_or c.args.newintervals.now (get_or c.args.perimeter.now i 0) nan) c.args.found.now
          ∙ c.requires.found_len;
      places_lent_2 = c.put_ring.ensures.places_lent_2;
    }
