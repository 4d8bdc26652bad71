-- enter_places meets its contract. The invariant `Passing`: what is left of the definition's places, from the ring at place i, is all of
-- them from the beginning.
use native.Mathlib.Omega.{arith}
use Prim.Native.Nat.{◌+◌}
use Rattle.std.proofs.lemmas.Result.{err_from_is_err_and}
use Rattle.building_faces.proofs.Turns.{some_more}
use Rattle.building_faces.proofs.Passing.{lent_same, passing-start, passing-more, passing-stop, passing-end, passing-stands}
use Rattle.building_faces.proofs.enter_places.Goals as goal

pub loop-i-init : goal.loop-i-init
loop-i-init c =
    passing-start c.args.version c.args.np c.args.listed.now c.args.beside.now c.args.f c.args.a c.args.n
    c.args.k c.args.points.now c.args.edges.now c.args.intervals.now c.args.chain.now c.requires.standing
    c.requires.k_le_a

pub turn_place-requires : goal.turn_place-requires
turn_place-requires c =
    record {
      standing = c.loop-i.invariant.standing;
      listed_room = lent_same c.args.listed.now c.args.beside.now c.args.edges.now c.loop-i.edges
          c.args.intervals.now c.loop-i.intervals c.args.chain.now c.loop-i.chain c.loop-i.invariant.edges-length c.loop-i.invariant.intervals-length
          c.loop-i.invariant.links-length c.requires.listed_room;
      listed_from = c.requires.listed_from;
      i_lt_n = c.loop-i-test.true;
      edges_bound = c.loop-i.invariant.count;
      closing = c.loop-i.invariant.closing;
    }

pub returns-in_err-ring-clause-fact : goal.returns-in_err-ring-clause-fact
returns-in_err-ring-clause-fact c =
    let p = err_from_is_err_and c.from_residual.result c.from_residual.ensures.1 in
    rw (p.1, p.2) (λ cs ss qs ps fs. passing-stop c.args.version c.args.np c.args.listed.now c.args.beside.now c.args.f c.args.a c.args.n c.args.k
    c.args.points.now c.args.edges.now c.args.intervals.now c.args.chain.now c.loop-i.points c.loop-i.edges c.loop-i.intervals
    c.loop-i.chain c.loop-i.ring c.loop-i.i c.loop-i.invariant c.loop-i-test.true c.turn_place.new.points c.turn_place.new.edges
    c.turn_place.new.intervals c.turn_place.new.chain c.in_err-ring.field-0.0 cs ss qs ps fs
    (rw c.in_err-ring.was at (c.turn_place.ensures.fact cs ss qs ps fs)))

pub returns-in_err-ring-clause-turn_stands : goal.returns-in_err-ring-clause-turn_stands
returns-in_err-ring-clause-turn_stands c =
    let p = err_from_is_err_and c.from_residual.result c.from_residual.ensures.1 in
    let s = rw c.in_err-ring.was at c.turn_place.ensures.turn_stands in
    rw p.1 (some_more c.args.np c.turn_place.new.points c.turn_place.new.edges c.turn_place.new.chain (c.args.a + c.loop-i.i + 1)
    (c.args.a + c.args.n) (omega (arith, c.loop-i-test.true)) s)

pub loop-i-preserved : goal.loop-i-preserved
loop-i-preserved c =
    passing-more c.args.version c.args.np c.args.listed.now c.args.beside.now c.args.f c.args.a c.args.n
    c.args.k c.args.points.now c.args.edges.now c.args.intervals.now c.args.chain.now c.loop-i.points
    c.loop-i.edges c.loop-i.intervals c.loop-i.chain c.loop-i.ring c.loop-i.i c.loop-i.invariant c.loop-i-test.true
    c.turn_place.new.points c.turn_place.new.edges c.turn_place.new.intervals
    c.turn_place.new.chain c.in_ok-ring.ring
    (λ cs ss qs ps fs. rw c.in_ok-ring.was at (c.turn_place.ensures.fact cs ss qs ps fs))
    (rw c.in_ok-ring.was at c.turn_place.ensures.turn_stands) c.turn_place.auto.points
    c.turn_place.auto.edges c.turn_place.auto.intervals c.turn_place.auto.chain

pub returns : goal.returns
returns c =
    record {
      fact = passing-end c.args.version c.args.np c.args.listed.now c.args.beside.now c.args.f c.args.a c.args.n
          c.args.k c.args.points.now c.args.edges.now c.args.intervals.now c.args.chain.now c.loop-i.points
          c.loop-i.edges c.loop-i.intervals c.loop-i.chain c.loop-i.ring c.loop-i.i c.loop-i.invariant c.loop-i-test.false;
      turn_stands = passing-stands c.args.version c.args.np c.args.listed.now c.args.beside.now c.args.f c.args.a c.args.n
          c.args.k c.args.points.now c.args.edges.now c.args.intervals.now c.args.chain.now c.loop-i.points
          c.loop-i.edges c.loop-i.intervals c.loop-i.chain c.loop-i.ring c.loop-i.i c.loop-i.invariant c.loop-i-test.false
          c.requires.n_nonzero;
    }
