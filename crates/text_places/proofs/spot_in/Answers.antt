-- spot_in meets its contract: 2 and 3 come before what is met in the faces.
use mathlib.Core.Path.{refl}
use Rattle.text_places.proofs.Laws.{spot-room, spot-counts, spot-numbers, spot-first}
use Rattle.text_places.proofs.spot_in.Goals as goal

-- src/lib.rt:86:9
pub returns-then-not-counts_fit : goal.returns-then-not-counts_fit
returns-then-not-counts_fit c =
    spot-counts c.args.bounds c.args.version c.args.coordinates.now c.args.sides.now c.args.firsts.now
    c.args.listed.now c.args.beside.now c.counts_fit.result c.counts_fit.ensures
    (c.if-not-counts_fit.true)

-- src/lib.rt:89:9
pub returns-then-not-numbers_fit : goal.returns-then-not-numbers_fit
returns-then-not-numbers_fit c =
    spot-numbers c.args.bounds c.args.version c.args.coordinates.now c.args.sides.now c.args.firsts.now
    c.args.listed.now c.args.beside.now c.counts_fit.result
    c.numbers_fit.result c.counts_fit.ensures
    (c.if-not-counts_fit.false) c.numbers_fit.ensures (c.if-not-numbers_fit.true)

-- src/lib.rt:92:5
pub first_spot-requires : goal.first_spot-requires
first_spot-requires c =
    spot-room c.args.bounds c.args.version c.args.coordinates.now c.args.sides.now c.args.firsts.now
    c.args.listed.now c.args.beside.now c.counts_fit.result
    c.numbers_fit.result c.counts_fit.ensures
    (c.if-not-counts_fit.false) c.numbers_fit.ensures (c.if-not-numbers_fit.false)
    c.requires

-- src/lib.rt:71:1
pub returns : goal.returns
returns c =
    spot-first c.args.bounds c.args.version c.args.coordinates.now c.args.sides.now c.args.firsts.now
    c.args.listed.now c.args.beside.now c.counts_fit.result c.numbers_fit.result
    c.counts_fit.ensures (c.if-not-counts_fit.false) c.numbers_fit.ensures
    (c.if-not-numbers_fit.false) c.first_spot.result (c.first_spot.ensures c.args.coordinates.now refl)
