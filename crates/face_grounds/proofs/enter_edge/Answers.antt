-- enter_edge meets its contract: the place is entered; it is the third on its edge, or its mate is looked at.
use lib.ListN.{length}
use Rattle.face_grounds.proofs.Laws.{one-room, third-met, mate-is, mate-within, same_met, none-met}
use Rattle.refusal_places.proofs.Theorem.{stops, not-clear}
use Rattle.face_grounds.proofs.enter_edge.Goals as goal

-- src/lib.rt:62:9
pub enter_places-requires : goal.enter_places-requires
enter_places-requires c =
    record {
      places_room = one-room c.args.listed.now c.args.tos.now (length c.args.heads.now) c.args.links.now c.args.mates.now
          c.args.seconds.now c.args.k c.requires.links_room c.requires.pair_room;
      places_entered = c.requires.places_entered;
    }

-- src/lib.rt:63:9
pub shape_of-heads-then-not-enter_places : goal.shape_of-heads-then-not-enter_places
shape_of-heads-then-not-enter_places c =
    c.enter_places.auto.heads

-- src/lib.rt:63:9
pub shape_of-links-then-not-enter_places : goal.shape_of-links-then-not-enter_places
shape_of-links-then-not-enter_places c =
    c.enter_places.auto.links

-- src/lib.rt:63:9
pub shape_of-mates-then-not-enter_places : goal.shape_of-mates-then-not-enter_places
shape_of-mates-then-not-enter_places c =
    c.enter_places.auto.mates

-- src/lib.rt:63:9
pub shape_of-seconds-then-not-enter_places : goal.shape_of-seconds-then-not-enter_places
shape_of-seconds-then-not-enter_places c =
    c.enter_places.auto.seconds

-- src/lib.rt:63:9
pub returns-then-not-enter_places : goal.returns-then-not-enter_places
returns-then-not-enter_places c =
    record {
      value = third-met c.args.listed.now c.args.tos.now c.args.f c.args.i c.args.k c.enter_places.result
          c.enter_places.ensures.value (c.if-not-enter_places.true);
      found_if = λ t. absurd (not-clear _ (stops _) t);
    }

-- src/lib.rt:66:8
pub runs_with-requires : goal.runs_with-requires
runs_with-requires c =
    record {
      k_in_bounds = c.requires.links_room.listed-fit;
      m_le_k = mate-within c.args.listed.now c.args.tos.now c.args.k _
          (mate-is c.args.listed.now c.args.tos.now c.enter_places.new.heads c.enter_places.new.links
          c.enter_places.new.mates c.enter_places.new.seconds c.args.k c.enter_places.result
          c.enter_places.ensures.entered_to (c.if-not-enter_places.false));
    }

-- src/lib.rt:67:9
pub shape_of-heads-then-runs_with : goal.shape_of-heads-then-runs_with
shape_of-heads-then-runs_with c =
    c.enter_places.auto.heads

-- src/lib.rt:67:9
pub shape_of-links-then-runs_with : goal.shape_of-links-then-runs_with
shape_of-links-then-runs_with c =
    c.enter_places.auto.links

-- src/lib.rt:67:9
pub shape_of-mates-then-runs_with : goal.shape_of-mates-then-runs_with
shape_of-mates-then-runs_with c =
    c.enter_places.auto.mates

-- src/lib.rt:67:9
pub shape_of-seconds-then-runs_with : goal.shape_of-seconds-then-runs_with
shape_of-seconds-then-runs_with c =
    c.enter_places.auto.seconds

-- src/lib.rt:67:9
pub returns-then-runs_with : goal.returns-then-runs_with
returns-then-runs_with c =
    record {
      value = same_met c.args.listed.now c.args.tos.now c.args.f c.args.i c.args.k c.enter_places.result _
          c.runs_with.result c.enter_places.ensures.value (c.if-not-enter_places.false)
          (mate-is c.args.listed.now c.args.tos.now c.enter_places.new.heads c.enter_places.new.links
          c.enter_places.new.mates c.enter_places.new.seconds c.args.k c.enter_places.result
          c.enter_places.ensures.entered_to (c.if-not-enter_places.false)) c.runs_with.ensures
          c.if-runs_with.true;
      found_if = λ t. absurd (not-clear _ (stops _) t);
    }

-- src/lib.rt:41:1
pub shape_of-heads : goal.shape_of-heads
shape_of-heads c =
    c.enter_places.auto.heads

-- src/lib.rt:41:1
pub shape_of-links : goal.shape_of-links
shape_of-links c =
    c.enter_places.auto.links

-- src/lib.rt:41:1
pub shape_of-mates : goal.shape_of-mates
shape_of-mates c =
    c.enter_places.auto.mates

-- src/lib.rt:41:1
pub shape_of-seconds : goal.shape_of-seconds
shape_of-seconds c =
    c.enter_places.auto.seconds

-- src/lib.rt:41:1
pub returns : goal.returns
returns c =
    record {
      value = none-met c.args.listed.now c.args.tos.now c.args.f c.args.i c.args.k c.enter_places.result _
          c.runs_with.result c.enter_places.ensures.value (c.if-not-enter_places.false)
          (mate-is c.args.listed.now c.args.tos.now c.enter_places.new.heads c.enter_places.new.links
          c.enter_places.new.mates c.enter_places.new.seconds c.args.k c.enter_places.result
          c.enter_places.ensures.entered_to (c.if-not-enter_places.false)) c.runs_with.ensures c.if-runs_with.false;
      found_if = λ t. c.enter_places.ensures.entered_to (c.if-not-enter_places.false);
    }
