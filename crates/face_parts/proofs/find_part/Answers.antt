-- find_part meets its contract. The invariant: the way so far leads from face f to face g, and the lists keep the same parts; faces fall, so
-- the face is the measure.
use mathlib.Core.Path.{sym, ◌∙◌}
use native.Mathlib.Omega.{arith}
use Rattle.face_parts.proofs.Laws.{differ-is, find-start, find-turn, find-less, find-in, find-in-odds, find-next, find-end}
use Rattle.face_parts.proofs.find_part.Goals as goal

pub index-requires : goal.index-requires
index-requires c =
    tt

pub bounds-ups-index : goal.bounds-ups-index
bounds-ups-index c =
    omega (arith, c.index.ensures, c.requires.f_in_bounds)

pub loop-up-init : goal.loop-up-init
loop-up-init c =
    (c.requires.f_in_bounds, find-start c.args.ups.now c.args.odds.now c.args.f c.requires.falling, rw c.index.ensures)

pub index-h-requires : goal.index-h-requires
index-h-requires c =
    tt

pub skip-requires : goal.skip-requires
skip-requires c =
    record { falling = c.loop-up.invariant.1.falling; g_in_bounds = omega (arith, c.index-h.ensures, c.loop-up.invariant.1.not-above, c.loop-up.invariant.1.same_length, c.loop-up.invariant.0) }

pub bounds-odds-h : goal.bounds-odds-h
bounds-odds-h c =
    find-in-odds c.args.ups.now c.args.odds.now c.loop-up.ups c.loop-up.odds c.skip.new.ups c.skip.new.odds
    c.args.f c.loop-up.g c.index-h.result c.loop-up.odd c.loop-up.invariant.0 c.loop-up.invariant.1 c.index-h.ensures c.skip.ensures.ups_after
    c.skip.ensures.odds_after

pub offset_bounds-ups-h : goal.offset_bounds-ups-h
offset_bounds-ups-h c =
    omega (
      arith,
      find-in c.args.ups.now c.args.odds.now c.loop-up.ups c.loop-up.odds c.skip.new.ups c.skip.new.odds c.args.f
          c.loop-up.g c.index-h.result c.loop-up.odd c.loop-up.invariant.0 c.loop-up.invariant.1 c.index-h.ensures c.skip.ensures.ups_after
          c.skip.ensures.odds_after,
    )

pub bounds-ups-h : goal.bounds-ups-h
bounds-ups-h c =
    find-in c.args.ups.now c.args.odds.now c.loop-up.ups c.loop-up.odds c.skip.new.ups c.skip.new.odds c.args.f
    c.loop-up.g c.index-h.result c.loop-up.odd c.loop-up.invariant.0 c.loop-up.invariant.1 c.index-h.ensures c.skip.ensures.ups_after
    c.skip.ensures.odds_after

pub index-requires-in-loop-up : goal.index-requires-in-loop-up
index-requires-in-loop-up c =
    tt

pub offset_bounds-ups-index-in-loop-up : goal.offset_bounds-ups-index-in-loop-up
offset_bounds-ups-index-in-loop-up c =
    omega (
      arith,
      c.index-in-loop-up.ensures,
      find-next c.args.ups.now c.args.odds.now c.loop-up.ups c.loop-up.odds c.skip.new.ups c.skip.new.odds c.args.f
          c.loop-up.g c.index-h.result c.loop-up.odd c.loop-up.invariant.0 c.loop-up.invariant.1 c.index-h.ensures c.skip.ensures.ups_after
          c.skip.ensures.odds_after,
    )

pub bounds-ups-index-in-loop-up : goal.bounds-ups-index-in-loop-up
bounds-ups-index-in-loop-up c =
    omega (
      arith,
      c.index-in-loop-up.ensures,
      find-next c.args.ups.now c.args.odds.now c.loop-up.ups c.loop-up.odds c.skip.new.ups c.skip.new.odds c.args.f
          c.loop-up.g c.index-h.result c.loop-up.odd c.loop-up.invariant.0 c.loop-up.invariant.1 c.index-h.ensures c.skip.ensures.ups_after
          c.skip.ensures.odds_after,
    )

pub loop-up-smaller : goal.loop-up-smaller
loop-up-smaller c =
    find-less c.args.ups.now c.args.odds.now c.loop-up.ups c.loop-up.odds c.skip.new.ups c.skip.new.odds c.args.f
    c.loop-up.g c.index-h.result c.loop-up.odd c.loop-up.invariant.0 c.loop-up.invariant.1 c.index-h.ensures c.skip.ensures.ups_after
    c.skip.ensures.odds_after (λ e. c.loop-up-test.true (c.loop-up.invariant.2 ∙ e))

pub loop-up-preserved : goal.loop-up-preserved
loop-up-preserved c = (
  c.loop-up.invariant.0,
  rw differ-is
      (find-turn c.args.ups.now c.args.odds.now c.loop-up.ups c.loop-up.odds c.skip.new.ups c.skip.new.odds c.args.f
      c.loop-up.g c.index-h.result c.loop-up.odd c.loop-up.invariant.0 c.loop-up.invariant.1 c.index-h.ensures c.skip.ensures.ups_after
      c.skip.ensures.odds_after),
  rw c.index-in-loop-up.ensures,
)

pub shape_of-ups : goal.shape_of-ups
shape_of-ups c =
    c.loop-up.invariant.1.same_length

pub shape_of-odds : goal.shape_of-odds
shape_of-odds c =
    c.loop-up.invariant.1.falling.like ∙ c.loop-up.invariant.1.same_length
    ∙ sym c.requires.falling.like

pub returns : goal.returns
returns c =
    find-end c.args.ups.now c.args.odds.now c.loop-up.ups c.loop-up.odds c.args.f c.loop-up.g c.loop-up.odd c.loop-up.invariant.0
    c.loop-up.invariant.1 (sym c.loop-up.invariant.2 ∙ c.loop-up-test.false)
