-- whole_told meets its contract: 20, then 21, then 22.
use Prim.Native.Nat.{ℕ, ◌-◌}
use native.Mathlib.Omega.{arith}
use lib.ListN.{length-replicate}
use Rattle.whole_tests.proofs.Laws.{missing-met, bare-met, missed-met, nothing-met, zero-starts, wider}
use Rattle.whole_tests.proofs.whole_told.Goals as goal

-- src/lib.rt:167:9
pub returns-then-not-are_shared : goal.returns-then-not-are_shared
returns-then-not-are_shared c =
    λ cs h. missing-met c.args.sides.now c.args.listed.now c.args.mates.now c.args.seconds.now c.args.np
    c.requires.whole_room cs h c.are_shared.result
    c.are_shared.ensures (c.if-not-are_shared.true)

-- src/lib.rt:170:5
pub start_points-requires : goal.start_points-requires
start_points-requires c =
    zero-starts c.args.listed.now c.args.sides.now c.args.mates.now c.args.seconds.now c.args.np 4096 c.requires.whole_room
    c.requires.np_bound (omega arith)

-- src/lib.rt:172:9
pub returns-then-not-all_begun : goal.returns-then-not-all_begun
returns-then-not-all_begun c =
    λ cs h. bare-met c.args.sides.now c.args.listed.now c.args.mates.now c.args.seconds.now c.args.np c.requires.whole_room
    cs h c.start_points.new.starts (λ p b. c.start_points.ensures p (omega (arith, b, c.start_points.auto.starts)))
    (omega (arith, c.start_points.auto.starts, length-replicate {A = ℕ} 4096 0, c.requires.np_bound)) c.are_shared.result
    c.all_begun.result c.are_shared.ensures
    (c.if-not-are_shared.false) c.all_begun.ensures
    (c.if-not-all_begun.true)

-- src/lib.rt:174:9
pub turns_come-requires : goal.turns_come-requires
turns_come-requires c =
    record {
      whole_room = wider c.args.sides.now c.args.listed.now c.args.mates.now c.args.seconds.now c.args.np _ c.requires.whole_room
          (omega (arith, c.start_points.auto.starts, length-replicate {A = ℕ} 4096 0, c.requires.np_bound));
      starts_len_bound = omega (arith, c.start_points.auto.starts, length-replicate {A = ℕ} 4096 0);
    }

-- src/lib.rt:175:9
pub returns-then-not-turns_come : goal.returns-then-not-turns_come
returns-then-not-turns_come c =
    λ cs h. missed-met c.args.sides.now c.args.listed.now c.args.mates.now c.args.seconds.now c.args.np
    c.requires.whole_room cs h c.start_points.new.starts
    (λ p b. c.start_points.ensures p (omega (arith, b, c.start_points.auto.starts)))
    (omega (arith, c.start_points.auto.starts, length-replicate {A = ℕ} 4096 0, c.requires.np_bound)) c.are_shared.result
    c.all_begun.result c.are_shared.ensures (c.if-not-are_shared.false) c.all_begun.ensures
    (c.if-not-all_begun.false) c.turns_come.result
    c.turns_come.ensures (c.if-not-turns_come.true)

-- src/lib.rt:154:1
pub returns : goal.returns
returns c =
    λ cs h. nothing-met c.args.sides.now c.args.listed.now c.args.mates.now c.args.seconds.now c.args.np
    c.requires.whole_room cs h c.start_points.new.starts
    (λ p b. c.start_points.ensures p (omega (arith, b, c.start_points.auto.starts)))
    (omega (arith, c.start_points.auto.starts, length-replicate {A = ℕ} 4096 0, c.requires.np_bound)) c.are_shared.result
    c.all_begun.result c.are_shared.ensures (c.if-not-are_shared.false) c.all_begun.ensures
    (c.if-not-all_begun.false) c.turns_come.result
    c.turns_come.ensures (c.if-not-turns_come.false)
