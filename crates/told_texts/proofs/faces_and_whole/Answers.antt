-- faces_and_whole meets its contract: in the faces, then in the whole.
use mathlib.Core.Path.{sym}
use native.Mathlib.Omega.{arith}
use Prim.Native.Nat.{ℕ}
use lib.ListN.{length, length-replicate}
use lib.Seq.{length-take-le}
use Rattle.building_tests.specs.Lent.{lists_in}
use Rattle.told_texts.proofs.Laws.{zero-pairs, whole-room-any, face-met, edge-met, whole-met, whole_is}
use Rattle.told_texts.proofs.faces_and_whole.Goals as goal

pub pair_spot-requires : goal.pair_spot-requires
pair_spot-requires c =
    record { spot_room = c.requires; unpaired = zero-pairs c.args.listed.now c.requires.few }

pub slice_bounds-whole_told-end : goal.slice_bounds-whole_told-end
slice_bounds-whole_told-end c =
    sym (length-take-le (length c.args.listed.now) c.pair_spot.new.mates
    (omega (arith, c.pair_spot.auto.mates, length-replicate {A = ℕ} 16384 0, c.requires.few)))

pub slice_bounds-whole_told-end-in-Ok : goal.slice_bounds-whole_told-end-in-Ok
slice_bounds-whole_told-end-in-Ok c =
    sym (length-take-le (length c.args.listed.now) c.pair_spot.new.seconds
    (omega (arith, c.pair_spot.auto.seconds, length-replicate {A = ℕ} 16384 0, c.requires.few)))

pub whole_told-requires : goal.whole_told-requires
whole_told-requires c =
    record {
      whole_room = whole-room-any c.args.version c.args.sides.now c.args.firsts.now c.args.listed.now c.args.beside.now
          c.args.np (c.requires) c.pair_spot.new.mates c.pair_spot.new.seconds
          (omega (arith, c.pair_spot.auto.mates, length-replicate {A = ℕ} 16384 0, c.requires.few))
          (omega (arith, c.pair_spot.auto.seconds, length-replicate {A = ℕ} 16384 0, c.requires.few))
          (c.pair_spot.ensures.pairs c.in-Ok.is) c.pair_spot.result
          c.in-Ok.is c.pair_spot.ensures.value;
      np_bound = c.requires.points-fit;
    }

pub returns-in-Err-Face : goal.returns-in-Err-Face
returns-in-Err-Face c =
    rw c.in-Err-Face.field-0-is (λ cs h. face-met
    (lists_in c.args.version cs c.args.sides.now c.args.firsts.now c.args.listed.now c.args.beside.now)
    c.pair_spot.result _ _ (c.pair_spot.ensures.value cs h) (rw c.in-Err-Face.field-0-is at c.in-Err-Face.is))

pub returns-in-Err-Edge : goal.returns-in-Err-Edge
returns-in-Err-Edge c =
    rw c.in-Err-Edge.field-0-is (λ cs h. edge-met
    (lists_in c.args.version cs c.args.sides.now c.args.firsts.now c.args.listed.now c.args.beside.now)
    c.pair_spot.result _ _ _ (c.pair_spot.ensures.value cs h) (rw c.in-Err-Edge.field-0-is at c.in-Err-Edge.is))

pub returns-in-Ok : goal.returns-in-Ok
returns-in-Ok c =
    λ cs h. whole-met
    (lists_in c.args.version cs c.args.sides.now c.args.firsts.now c.args.listed.now c.args.beside.now)
    c.pair_spot.result c.whole_told.result (c.pair_spot.ensures.value cs h)
    c.in-Ok.is
    (whole_is c.args.version cs c.args.sides.now c.args.firsts.now c.args.listed.now c.args.beside.now
    c.whole_told.result (c.whole_told.ensures cs h))
