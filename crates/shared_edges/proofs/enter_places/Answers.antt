-- enter_places meets its contract. The invariant: the places passed are entered, and none was the third on its edge; the measure is what
-- is left of them.
use mathlib.Core.Path.{◌∙◌}
use mathlib.Core.Bool.{false≢true}
use Prim.Native.Nat.{◌-◌}
use native.Mathlib.Omega.{arith}
use Rattle.shared_edges.proofs.Laws.{entering-none, entering-room, entering-pair-room, entering-few, entering-more, entering-stopped, entering-all}
use Rattle.shared_edges.proofs.enter_places.Goals as goal

pub loop-i-init : goal.loop-i-init
loop-i-init c =
    entering-none c.args.listed.now c.args.tos.now c.args.heads.now c.args.links.now c.args.mates.now
    c.args.seconds.now c.args.a c.args.n c.requires.places_entered

pub overflow_add-a : goal.overflow_add-a
overflow_add-a c =
    omega (
      arith,
      entering-few c.args.listed.now c.args.tos.now c.args.heads.now c.args.links.now c.args.mates.now
          c.args.seconds.now c.loop-i.heads c.loop-i.links c.loop-i.mates c.loop-i.seconds c.args.a c.args.n c.loop-i.i
          c.loop-i.invariant c.requires.places_room c.loop-i-test.true,
    )

pub enter-requires : goal.enter-requires
enter-requires c =
    record {
      links_room = entering-room c.args.listed.now c.args.tos.now c.args.heads.now c.args.links.now c.args.mates.now
          c.args.seconds.now c.loop-i.heads c.loop-i.links c.loop-i.mates c.loop-i.seconds c.args.a c.args.n c.loop-i.i
          c.loop-i.invariant c.requires.places_room c.loop-i-test.true;
      pair_room = entering-pair-room c.args.listed.now c.args.tos.now c.args.heads.now c.args.links.now c.args.mates.now
          c.args.seconds.now c.loop-i.heads c.loop-i.links c.loop-i.mates c.loop-i.seconds c.args.a c.args.n c.loop-i.i
          c.loop-i.invariant c.requires.places_room c.loop-i-test.true;
      places_entered = c.loop-i.invariant.entered;
    }

pub shape_of-heads-then-not-enter : goal.shape_of-heads-then-not-enter
shape_of-heads-then-not-enter c =
    c.enter.auto.heads ∙ c.loop-i.invariant.heads-length

pub shape_of-links-then-not-enter : goal.shape_of-links-then-not-enter
shape_of-links-then-not-enter c =
    c.enter.auto.links ∙ c.loop-i.invariant.links-length

pub shape_of-mates-then-not-enter : goal.shape_of-mates-then-not-enter
shape_of-mates-then-not-enter c =
    c.enter.auto.mates ∙ c.loop-i.invariant.mates-length

pub shape_of-seconds-then-not-enter : goal.shape_of-seconds-then-not-enter
shape_of-seconds-then-not-enter c =
    c.enter.auto.seconds ∙ c.loop-i.invariant.seconds-length

pub returns-then-not-enter : goal.returns-then-not-enter
returns-then-not-enter c =
    record {
      value = entering-stopped c.args.listed.now c.args.tos.now c.args.heads.now c.args.links.now c.args.mates.now
          c.args.seconds.now c.loop-i.heads c.loop-i.links c.loop-i.mates c.loop-i.seconds c.args.a c.args.n c.loop-i.i
          c.loop-i.invariant c.requires.places_room c.loop-i-test.true c.enter.result c.enter.ensures.value (c.if-not-enter.true);
      entered_to = λ t. absurd (false≢true t);
    }

pub loop-i-preserved : goal.loop-i-preserved
loop-i-preserved c =
    entering-more c.args.listed.now c.args.tos.now c.args.heads.now c.args.links.now c.args.mates.now
    c.args.seconds.now c.loop-i.heads c.loop-i.links c.loop-i.mates c.loop-i.seconds c.args.a c.args.n c.loop-i.i
    c.loop-i.invariant c.requires.places_room c.loop-i-test.true c.enter.new.heads c.enter.new.links
    c.enter.new.mates c.enter.new.seconds c.enter.result c.enter.auto.heads
    c.enter.auto.links c.enter.auto.mates c.enter.auto.seconds c.enter.ensures.value
    c.enter.ensures.places_entered_2 (c.if-not-enter.false)

pub shape_of-heads : goal.shape_of-heads
shape_of-heads c =
    c.loop-i.invariant.heads-length

pub shape_of-links : goal.shape_of-links
shape_of-links c =
    c.loop-i.invariant.links-length

pub shape_of-mates : goal.shape_of-mates
shape_of-mates c =
    c.loop-i.invariant.mates-length

pub shape_of-seconds : goal.shape_of-seconds
shape_of-seconds c =
    c.loop-i.invariant.seconds-length

pub returns : goal.returns
returns c =
    let all = entering-all c.args.listed.now c.args.tos.now c.args.heads.now c.args.links.now c.args.mates.now
    c.args.seconds.now c.loop-i.heads c.loop-i.links c.loop-i.mates c.loop-i.seconds c.args.a c.args.n c.loop-i.i
    (omega (arith, c.loop-i-test.false)) c.loop-i.invariant in record { value = all.0; entered_to = λ t. all.1 }
