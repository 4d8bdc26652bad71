-- enter_edges meets its contract. The invariant: the places passed are entered, and nothing was met.
use native.Mathlib.Omega.{arith}
use Rattle.std.proofs.lemmas.Result.{err_from_is_err_and}
use Rattle.face_grounds.proofs.Laws.{edges_none, edges_room, edges-pair-room, edges_few, edges-stopped, edges_more, edges-all}
use Rattle.refusal_places.proofs.Theorem.{stops, not-clear}
use Rattle.face_grounds.proofs.enter_edges.Goals as goal

pub loop-i-init : goal.loop-i-init
loop-i-init c =
    edges_none c.args.listed.now c.args.tos.now c.args.heads.now c.args.links.now c.args.mates.now
    c.args.seconds.now c.args.f c.args.a c.args.n c.requires.places_entered

pub overflow_add-a : goal.overflow_add-a
overflow_add-a c =
    omega (
      arith,
      edges_few c.args.listed.now c.args.tos.now c.args.heads.now c.args.links.now c.args.mates.now
          c.args.seconds.now c.loop-i.heads c.loop-i.links c.loop-i.mates c.loop-i.seconds c.args.f c.args.a c.args.n
          c.loop-i.i c.loop-i.invariant c.requires.places_room c.loop-i-test.true,
    )

pub enter_edge-requires : goal.enter_edge-requires
enter_edge-requires c =
    record {
      links_room = edges_room c.args.listed.now c.args.tos.now c.args.heads.now c.args.links.now c.args.mates.now
          c.args.seconds.now c.loop-i.heads c.loop-i.links c.loop-i.mates c.loop-i.seconds c.args.f c.args.a c.args.n
          c.loop-i.i c.loop-i.invariant c.requires.places_room c.loop-i-test.true;
      pair_room = edges-pair-room c.args.listed.now c.args.tos.now c.args.heads.now c.args.links.now c.args.mates.now
          c.args.seconds.now c.loop-i.heads c.loop-i.links c.loop-i.mates c.loop-i.seconds c.args.f c.args.a c.args.n
          c.loop-i.i c.loop-i.invariant c.requires.places_room c.loop-i-test.true;
      places_entered = c.loop-i.invariant.entered;
    }

pub returns-in_err-enter_edge : goal.returns-in_err-enter_edge
returns-in_err-enter_edge c =
    let p = err_from_is_err_and c.from_residual.result c.from_residual.ensures.1 in
    record {
      value = rw (p.1, p.2) (edges-stopped c.args.listed.now c.args.tos.now c.args.heads.now c.args.links.now c.args.mates.now
          c.args.seconds.now c.loop-i.heads c.loop-i.links c.loop-i.mates c.loop-i.seconds c.args.f c.args.a c.args.n
          c.loop-i.i c.loop-i.invariant c.requires.places_room c.loop-i-test.true c.enter_edge.result c.enter_edge.ensures.value _
          (stops _) c.in_err-enter_edge.was);
      found_if = rw p.1 (λ t. absurd (not-clear _ (stops _) t));
    }

pub loop-i-preserved : goal.loop-i-preserved
loop-i-preserved c =
    edges_more c.args.listed.now c.args.tos.now c.args.heads.now c.args.links.now c.args.mates.now
    c.args.seconds.now c.loop-i.heads c.loop-i.links c.loop-i.mates c.loop-i.seconds c.args.f c.args.a c.args.n
    c.loop-i.i c.loop-i.invariant c.requires.places_room c.loop-i-test.true c.enter_edge.result c.enter_edge.ensures.value
    c.enter_edge.new.heads c.enter_edge.new.links c.enter_edge.new.mates
    c.enter_edge.new.seconds c.enter_edge.auto.heads c.enter_edge.auto.links
    c.enter_edge.auto.mates c.enter_edge.auto.seconds c.in_ok-enter_edge.was
    c.enter_edge.ensures.found_if

pub shape_of-heads : goal.shape_of-heads
shape_of-heads c =
    c.loop-i.invariant.heads-length

pub shape_of-links : goal.shape_of-links
shape_of-links c =
    c.loop-i.invariant.links-length

pub shape_of-mates : goal.shape_of-mates
shape_of-mates c =
    c.loop-i.invariant.mates-length

pub shape_of-seconds : goal.shape_of-seconds
shape_of-seconds c =
    c.loop-i.invariant.seconds-length

pub returns : goal.returns
returns c =
    let all = edges-all c.args.listed.now c.args.tos.now c.args.heads.now c.args.links.now c.args.mates.now
    c.args.seconds.now c.loop-i.heads c.loop-i.links c.loop-i.mates c.loop-i.seconds c.args.f c.args.a c.args.n
    c.loop-i.i (omega (arith, c.loop-i-test.false)) c.loop-i.invariant in record { value = all.0; found_if = λ t. all.1 }
