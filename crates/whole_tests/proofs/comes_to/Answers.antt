-- comes_to meets its contract. The invariant: what is left leads there if the whole does.
use mathlib.Core.Path.{◌≡◌, refl, ◌∙◌, ap}
use Prim.Native.Nat.{ℕ, ◌+◌, ◌-◌}
use native.Mathlib.Omega.{arith}
use lib.ListN.{get_or}
use Rattle.whole_grounds.specs.Turning.{comes}
use Rattle.whole_tests.specs.Whole.{step_at}
use Rattle.whole_tests.proofs.Laws.{comes-here, comes-on, comes-end}
use Rattle.whole_tests.proofs.comes_to.Goals as goal

pub loop-turn-init : goal.loop-turn-init
loop-turn-init c =
    let whole : c.args.n - 0 ≡ c.args.n = omega arith in (c.requires.k_lt_n, rw whole)

pub returns-then-at-s : goal.returns-then-at-s
returns-then-at-s c =
    comes-here (step_at c.args.nexts.now c.args.mates.now c.args.seconds.now) (c.args.n - c.loop-turn._turn) c.loop-turn.at c.args.s
    c.if-at-s.true ∙ c.loop-turn.invariant.1

pub bounds-mates-at : goal.bounds-mates-at
bounds-mates-at c =
    omega (
      arith,
      c.loop-turn.invariant.0,
      c.requires.turn_room.mates-fit,
    )

pub bounds-seconds-at : goal.bounds-seconds-at
bounds-seconds-at c =
    omega (arith, c.loop-turn.invariant.0, c.requires.turn_room.seconds-fit)

pub offset_bounds-nexts-j : goal.offset_bounds-nexts-j
offset_bounds-nexts-j c =
    omega (arith, c.other-j.ensures, c.requires.turn_room.other-below c.loop-turn.at c.loop-turn.invariant.0, c.requires.turn_room.few)

pub bounds-nexts-j : goal.bounds-nexts-j
bounds-nexts-j c =
    omega (arith, c.other-j.ensures, c.requires.turn_room.other-below c.loop-turn.at c.loop-turn.invariant.0, c.requires.turn_room.nexts-fit)

pub loop-turn-preserved : goal.loop-turn-preserved
loop-turn-preserved c =
    let to : c.index-at.result ≡ (step_at c.args.nexts.now c.args.mates.now c.args.seconds.now) c.loop-turn.at =
    c.index-at.ensures ∙ ap (λ (x : ℕ). get_or c.args.nexts.now x 0) c.other-j.ensures in
    let less : c.args.n - (c.loop-turn._turn + 1) ≡ c.args.n - c.loop-turn._turn - 1 = omega arith in (
      omega (arith, to, c.requires.turn_room.next-below _ (c.requires.turn_room.other-below c.loop-turn.at c.loop-turn.invariant.0)),
      rw less
          (ap
          (λ (x : ℕ). comes (step_at c.args.nexts.now c.args.mates.now c.args.seconds.now) (c.args.n - c.loop-turn._turn - 1) x c.args.s)
          to
          ∙ comes-on (step_at c.args.nexts.now c.args.mates.now c.args.seconds.now) (c.args.n - c.loop-turn._turn) c.loop-turn.at c.args.s
          (omega (arith, c.loop-turn-test.true))
          c.if-at-s.false ∙ c.loop-turn.invariant.1),
    )

pub returns : goal.returns
returns c =
    comes-end (step_at c.args.nexts.now c.args.mates.now c.args.seconds.now) (c.args.n - c.loop-turn._turn)
    c.loop-turn.at c.args.s (omega (arith, c.loop-turn-test.false)) ∙ c.loop-turn.invariant.1
