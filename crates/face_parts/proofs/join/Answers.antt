-- join meets its contract: the lower of two roots becomes that of both parts.
use native.Mathlib.Omega.{arith}
use Rattle.face_parts.proofs.Laws.{differ-is, join_one, join-two}
use Rattle.face_parts.proofs.join.Goals as goal

pub returns-then-x-y : goal.returns-then-x-y
returns-then-x-y c =
    rw (differ-is c.find_part-a.result.odd c.find_part-b.result.odd, differ-is)
    (join_one c.args.ups.now c.args.odds.now c.find_part-a.new.ups c.find_part-a.new.odds c.find_part-b.new.ups c.find_part-b.new.odds
    c.args.f c.args.g c.args.way c.find_part-a.result c.find_part-b.result c.find_part-a.ensures c.find_part-b.ensures c.if-x-y.true)

pub returns-then-x-y-2 : goal.returns-then-x-y-2
returns-then-x-y-2 c =
    rw (
      c.hang.ensures.ups_after,
      c.hang.ensures.odds_after,
      differ-is c.find_part-a.result.odd c.find_part-b.result.odd,
      differ-is,
    )
    (join-two c.args.ups.now c.args.odds.now c.find_part-a.new.ups c.find_part-a.new.odds c.find_part-b.new.ups c.find_part-b.new.odds
    c.args.f c.args.g c.args.way c.find_part-a.result c.find_part-b.result c.find_part-a.ensures c.find_part-b.ensures
    c.find_part-b.result.root c.find_part-a.result.root c.requires.f_in_bounds c.requires.g_in_bounds (omega (arith, c.if-x-y.false, c.if-x-y-2.true))
    (omega (arith, c.if-x-y.false, c.if-x-y-2.true)) (omega (arith, c.if-x-y.false, c.if-x-y-2.true)))

pub returns : goal.returns
returns c =
    rw (
      c.hang-2.ensures.ups_after,
      c.hang-2.ensures.odds_after,
      differ-is c.find_part-a.result.odd c.find_part-b.result.odd,
      differ-is,
    )
    (join-two c.args.ups.now c.args.odds.now c.find_part-a.new.ups c.find_part-a.new.odds c.find_part-b.new.ups c.find_part-b.new.odds
    c.args.f c.args.g c.args.way c.find_part-a.result c.find_part-b.result c.find_part-a.ensures c.find_part-b.ensures c.find_part-a.result.root
    c.find_part-b.result.root c.requires.f_in_bounds c.requires.g_in_bounds (omega (arith, c.if-x-y.false, c.if-x-y-2.false))
    (omega (arith, c.if-x-y.false, c.if-x-y-2.false)) (omega (arith, c.if-x-y.false, c.if-x-y-2.false)))
