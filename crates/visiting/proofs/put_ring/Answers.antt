-- put_ring meets its contract: the places are stored, then the edges, the faces and the point are written.
use Rattle.tables.specs.declared.Counts.{Counts}
use Rattle.visiting.proofs.Room.{halves-rows}
use Rattle.visiting.proofs.Along.{ring-written, places-lent}
use Rattle.visiting.proofs.put_ring.Goals as goal

pub put_places-requires : goal.put_places-requires
put_places-requires c =
    record { n_le_longest_perimeter = c.requires.ring_fits.small.few-places; edges_there = c.requires.ring_fits.mesh-rows; edges_there_2 = c.requires.ring_fits.edge-rows }

pub put_ring_edges-requires : goal.put_ring_edges-requires
put_ring_edges-requires c = record {
  small = c.requires.ring_fits.small;
  edge_width_in_bounds = c.requires.ring_fits.joins;
  size_in_bounds = c.requires.ring_fits.intervals;
  edges_there = c.requires.ring_fits.mesh-rows;
  edges_there_2 = halves-rows c.args.newedges.now _ _ _ _ c.requires.ring_fits.small.few-places
      c.requires.places_lent.firsts c.put_places.ensures.firsts_after c.requires.ring_fits.firsts;
  edges_there_3 = halves-rows c.args.newedges.now _ _ _ _ c.requires.ring_fits.small.few-places
      c.requires.places_lent.seconds c.put_places.ensures.seconds_after c.requires.ring_fits.seconds;
}

pub put_new_faces-requires : goal.put_new_faces-requires
put_new_faces-requires c =
    record { small = c.requires.ring_fits.small; edges_there = c.requires.ring_fits.mesh-rows; face_width_in_bounds = c.requires.ring_fits.face; face_width_in_bounds_2 = c.requires.ring_fits.faces }

pub put_face_point-requires : goal.put_face_point-requires
put_face_point-requires c =
    record { small = c.requires.ring_fits.small; point_width_in_bounds = c.requires.ring_fits.centre }

pub returns : goal.returns
returns c = record {
  by_index = λ taken.
      let k : Counts = record { points = taken; edges = c.args.rows.joins; faces = c.args.rows.faces } in
      ring-written c.args.edges.now c.args.newpoints.now _ c.args.newedges.now c.put_ring_edges.new.newedges
      c.args.newfaces.now c.put_new_faces.new.newfaces c.args.perimeter.now c.put_places.new.firsts c.args.firsts.now
      c.put_places.new.seconds c.args.seconds.now c.put_places.new.mids c.args.mids.now c.args.newintervals.now
      c.put_ring_edges.new.newintervals c.args.found.now c.args.rows taken c.requires.ring_fits.small.few-places
      c.requires.places_lent c.put_places.ensures.firsts_after c.put_places.ensures.seconds_after
      c.put_places.ensures.mids_after (c.put_ring_edges.ensures c.args.newpoints.now c.args.newfaces.now k)
      (c.put_new_faces.ensures c.put_places.new.seconds c.args.newpoints.now c.put_ring_edges.new.newedges
      c.args.found.now c.put_ring_edges.new.newintervals k)
      (c.put_face_point.ensures c.args.perimeter.now c.put_places.new.firsts c.put_places.new.seconds
      c.put_places.new.mids c.put_ring_edges.new.newedges c.put_new_faces.new.newfaces c.args.found.now
      c.put_ring_edges.new.newintervals k);
  places_lent_2 = places-lent c.args.edges.now c.args.newpoints.now c.args.newpoints.now c.args.newedges.now
      c.put_ring_edges.new.newedges c.args.newfaces.now c.put_new_faces.new.newfaces c.args.perimeter.now
      c.put_places.new.firsts c.args.firsts.now c.put_places.new.seconds c.args.seconds.now c.put_places.new.mids
      c.args.mids.now c.args.newintervals.now c.put_ring_edges.new.newintervals c.args.found.now c.args.rows 0
      c.requires.places_lent c.put_places.ensures.firsts_after c.put_places.ensures.seconds_after
      c.put_places.ensures.mids_after;
}
