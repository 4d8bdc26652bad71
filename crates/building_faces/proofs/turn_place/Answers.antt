-- turn_place meets its contract: a place is entered, and its edge connected to the one before unless it is the first.
use lib.ListN.{get_or}
use lib.Ieee.{nan}
use native.Mathlib.Omega.{arith}
use Prim.Native.Nat.{ℕ, ◌+◌}
use mathlib.Core.List.{[]}
use mathlib.Core.Path.{refl, ap}
use Rattle.std.proofs.lemmas.Result.{err_from_is_err_and}
use Rattle.perimeters.proofs.Laws.{next-below}
use Rattle.tables.specs.Mesh.{mesh_of}
use Rattle.building_faces.proofs.Turns.{placed-point, room-lent, made_counted, turn_stopped, turn-first, turn_more, stands-first, joined-fits, stands-more}
use Rattle.building_faces.proofs.turn_place.Goals as goal

pub overflow_add-q : goal.overflow_add-q
overflow_add-q c =
    let l = next-below c.args.n c.args.i c.requires.i_lt_n in
    omega (arith, c.next_place-next.ensures.value, c.well_formed.1.0.0)

pub offset_bounds-listed-a-2 : goal.offset_bounds-listed-a-2
offset_bounds-listed-a-2 c =
    let l = next-below c.args.n c.args.i c.requires.i_lt_n in
    omega (arith, c.next_place-next.ensures.value, c.well_formed.1.0.1)

pub bounds-listed-a-2 : goal.bounds-listed-a-2
bounds-listed-a-2 c =
    let l = next-below c.args.n c.args.i c.requires.i_lt_n in
    omega (arith, c.next_place-next.ensures.value)

pub interval_place-requires : goal.interval_place-requires
interval_place-requires c =
    record { i_lt_n = c.requires.i_lt_n; next_value = c.next_place-next.ensures.value }

pub overflow_add-v : goal.overflow_add-v
overflow_add-v c =
    omega (arith, c.interval_place.ensures.upper_bound, c.well_formed.1.0.0)

pub offset_bounds-beside-a : goal.offset_bounds-beside-a
offset_bounds-beside-a c =
    omega (arith, c.interval_place.ensures.upper_bound, c.well_formed.1.1.0.1, c.requires.listed_room.beside)

pub bounds-beside-a : goal.bounds-beside-a
bounds-beside-a c =
    omega (arith, c.interval_place.ensures.upper_bound, c.requires.listed_room.beside)

pub enter-requires : goal.enter-requires
enter-requires c =
    record {
      standing = c.requires.standing;
      edge_room = room-lent c.args.listed.now c.args.beside.now c.args.edges.now c.args.intervals.now c.args.chain.now
          c.args.ring.edges c.requires.listed_room (omega (arith, c.requires.edges_bound, c.requires.i_lt_n));
      p_lt_np = placed-point c.args.np c.args.listed.now c.args.a c.args.n c.args.i c.requires.listed_from c.requires.i_lt_n;
      q_lt_np = rw c.next_place-next.ensures.value
          (placed-point c.args.np c.args.listed.now c.args.a c.args.n _ c.requires.listed_from (next-below c.args.n c.args.i c.requires.i_lt_n));
    }

pub shape_of-points-then-i-eq0 : goal.shape_of-points-then-i-eq0
shape_of-points-then-i-eq0 c =
    c.enter.auto.points

pub shape_of-edges-then-i-eq0 : goal.shape_of-edges-then-i-eq0
shape_of-edges-then-i-eq0 c =
    c.enter.auto.edges

pub shape_of-intervals-then-i-eq0 : goal.shape_of-intervals-then-i-eq0
shape_of-intervals-then-i-eq0 c =
    c.enter.auto.intervals

pub shape_of-chain-then-i-eq0 : goal.shape_of-chain-then-i-eq0
shape_of-chain-then-i-eq0 c =
    c.enter.auto.chain

pub returns-then-i-eq0 : goal.returns-then-i-eq0
returns-then-i-eq0 c =
    record {
      fact = (λ cs ss qs ps fs. turn-first c.args.version cs ss qs c.args.listed.now c.args.beside.now c.args.f c.args.a
          c.args.n c.args.i c.next_place-next.result (get_or c.args.listed.now (c.args.a + c.args.i) 0)
          (get_or c.args.listed.now (c.args.a + c.next_place-next.result) 0)
          (get_or c.args.beside.now (c.args.a + c.interval_place.result) nan) c.args.ring
          (mesh_of ps c.args.points.now c.args.edges.now c.args.intervals.now fs)
          (mesh_of ps c.enter.new.points c.enter.new.edges c.enter.new.intervals fs) c.next_place-next.ensures.value refl refl
          (ap (λ (j : ℕ). get_or c.args.beside.now (c.args.a + j) nan) c.interval_place.ensures.value)
          c.in_ok-place.place.edges c.in_ok-place.place.edge (rw c.in_ok-place.was at (c.enter.ensures.entered_by ps fs)) c.if-i-eq0.true);
      turn_stands = stands-first c.args.np c.enter.new.points c.enter.new.edges c.enter.new.chain c.args.ring.edges
          c.in_ok-place.place.edges c.in_ok-place.place.edge (c.args.a + c.args.i + 1) (rw c.in_ok-place.was at c.enter.ensures.standing_2)
          (made_counted (mesh_of [] c.args.points.now c.args.edges.now c.args.intervals.now [])
          (mesh_of [] c.enter.new.points c.enter.new.edges c.enter.new.intervals []) c.args.ring.edges c.args.f
          (get_or c.args.listed.now (c.args.a + c.args.i) 0) (get_or c.args.listed.now (c.args.a + c.next_place-next.result) 0)
          (get_or c.args.beside.now (c.args.a + c.interval_place.result) nan) c.in_ok-place.place.edges c.in_ok-place.place.edge
          (rw c.in_ok-place.was at (c.enter.ensures.entered_by [] []))) (omega arith);
    }

pub connect-requires : goal.connect-requires
connect-requires c =
    let whole = joined-fits c.args.np c.enter.new.points c.enter.new.edges c.enter.new.chain c.args.ring.edges
    c.in_ok-place.place.edges c.in_ok-place.place.edge (c.args.a + c.args.i + 1) (rw c.in_ok-place.was at c.enter.ensures.standing_2)
    (made_counted (mesh_of [] c.args.points.now c.args.edges.now c.args.intervals.now [])
    (mesh_of [] c.enter.new.points c.enter.new.edges c.enter.new.intervals []) c.args.ring.edges c.args.f
    (get_or c.args.listed.now (c.args.a + c.args.i) 0)
    (get_or c.args.listed.now (c.args.a + c.next_place-next.result) 0)
    (get_or c.args.beside.now (c.args.a + c.interval_place.result) nan) c.in_ok-place.place.edges c.in_ok-place.place.edge
    (rw c.in_ok-place.was at (c.enter.ensures.entered_by [] []))) (omega arith) c.args.ring refl
    (c.requires.closing (omega arith)) c.enter.new.intervals
    (rw c.enter.auto.intervals (omega (arith, c.requires.i_lt_n))) in
    record {
      edge_width_in_bounds = whole.0;
      edge_width_in_bounds_2 = whole.1.0;
      i_in_bounds = whole.1.1.0;
      j_in_bounds = whole.1.1.1;
    }

pub returns : goal.returns
returns c =
    record {
      fact = (λ cs ss qs ps fs. turn_more c.args.version cs ss qs c.args.listed.now c.args.beside.now c.args.f c.args.a
          c.args.n c.args.i c.next_place-next.result (get_or c.args.listed.now (c.args.a + c.args.i) 0)
          (get_or c.args.listed.now (c.args.a + c.next_place-next.result) 0)
          (get_or c.args.beside.now (c.args.a + c.interval_place.result) nan) c.args.ring
          (mesh_of ps c.args.points.now c.args.edges.now c.args.intervals.now fs)
          (mesh_of ps c.enter.new.points c.enter.new.edges c.enter.new.intervals fs) c.next_place-next.ensures.value refl refl
          (ap (λ (j : ℕ). get_or c.args.beside.now (c.args.a + j) nan) c.interval_place.ensures.value)
          c.in_ok-place.place.edges c.in_ok-place.place.edge c.connect.new.edges (rw c.in_ok-place.was at (c.enter.ensures.entered_by ps fs))
          c.if-i-eq0.false c.connect.ensures.edges_after);
      turn_stands = stands-more c.args.np c.enter.new.points c.enter.new.edges c.enter.new.chain c.args.ring.edges
          c.in_ok-place.place.edges c.in_ok-place.place.edge (c.args.a + c.args.i + 1) (rw c.in_ok-place.was at c.enter.ensures.standing_2)
          (made_counted (mesh_of [] c.args.points.now c.args.edges.now c.args.intervals.now [])
          (mesh_of [] c.enter.new.points c.enter.new.edges c.enter.new.intervals []) c.args.ring.edges c.args.f
          (get_or c.args.listed.now (c.args.a + c.args.i) 0) (get_or c.args.listed.now (c.args.a + c.next_place-next.result) 0)
          (get_or c.args.beside.now (c.args.a + c.interval_place.result) nan) c.in_ok-place.place.edges c.in_ok-place.place.edge
          (rw c.in_ok-place.was at (c.enter.ensures.entered_by [] []))) (omega arith) c.args.ring refl
          (c.requires.closing (omega arith)) c.enter.new.intervals c.connect.new.edges c.connect.ensures.edges_after;
    }

pub returns-in_err-place-clause-fact : goal.returns-in_err-place-clause-fact
returns-in_err-place-clause-fact c =
    let p = err_from_is_err_and c.from_residual.result c.from_residual.ensures.1 in
    rw (p.1, p.2) (λ cs ss qs ps fs. turn_stopped c.args.version cs ss qs c.args.listed.now c.args.beside.now c.args.f c.args.a c.args.n c.args.i
    c.next_place-next.result (get_or c.args.listed.now (c.args.a + c.args.i) 0) (get_or c.args.listed.now (c.args.a + c.next_place-next.result) 0)
    (get_or c.args.beside.now (c.args.a + c.interval_place.result) nan) c.args.ring
    (mesh_of ps c.args.points.now c.args.edges.now c.args.intervals.now fs)
    (mesh_of ps c.enter.new.points c.enter.new.edges c.enter.new.intervals fs) c.next_place-next.ensures.value refl refl
    (ap (λ (j : ℕ). get_or c.args.beside.now (c.args.a + j) nan) c.interval_place.ensures.value)
    c.in_err-place.field-0.0 (rw c.in_err-place.was at (c.enter.ensures.entered_by ps fs)))

pub returns-in_err-place-clause-turn_stands : goal.returns-in_err-place-clause-turn_stands
returns-in_err-place-clause-turn_stands c =
    let p = err_from_is_err_and c.from_residual.result c.from_residual.ensures.1 in
    let s = rw c.in_err-place.was at c.enter.ensures.standing_2 in
    rw p.1 (c.args.ring.edges, s, omega (arith, c.requires.edges_bound))
