-- met_in meets its contract: 2 and 3 come before what is met in the faces.
use mathlib.Core.Path.{refl}
use Rattle.text_places.proofs.Laws.{spot-room}
use Rattle.told_texts.proofs.Laws.{met-counts, met-numbers, met-faces}
use Rattle.told_texts.proofs.met_in.Goals as goal

-- src/lib.rt:126:9
pub returns-then-not-counts_fit : goal.returns-then-not-counts_fit
returns-then-not-counts_fit c =
    met-counts c.args.bounds c.args.version c.args.coordinates.now c.args.sides.now c.args.firsts.now
    c.args.listed.now c.args.beside.now c.counts_fit.result c.counts_fit.ensures
    (c.if-not-counts_fit.true)

-- src/lib.rt:129:9
pub returns-then-not-numbers_fit : goal.returns-then-not-numbers_fit
returns-then-not-numbers_fit c =
    met-numbers c.args.bounds c.args.version c.args.coordinates.now c.args.sides.now c.args.firsts.now
    c.args.listed.now c.args.beside.now c.counts_fit.result
    c.numbers_fit.result c.counts_fit.ensures
    (c.if-not-counts_fit.false) c.numbers_fit.ensures (c.if-not-numbers_fit.true)

-- src/lib.rt:132:5
pub faces_and_whole-requires : goal.faces_and_whole-requires
faces_and_whole-requires c =
    spot-room c.args.bounds c.args.version c.args.coordinates.now c.args.sides.now c.args.firsts.now
    c.args.listed.now c.args.beside.now c.counts_fit.result
    c.numbers_fit.result c.counts_fit.ensures
    (c.if-not-counts_fit.false) c.numbers_fit.ensures (c.if-not-numbers_fit.false)
    c.requires

-- src/lib.rt:111:1
pub returns : goal.returns
returns c =
    met-faces c.args.bounds c.args.version c.args.coordinates.now c.args.sides.now c.args.firsts.now
    c.args.listed.now c.args.beside.now c.counts_fit.result c.numbers_fit.result
    c.counts_fit.ensures (c.if-not-counts_fit.false) c.numbers_fit.ensures
    (c.if-not-numbers_fit.false) c.faces_and_whole.result
    (c.faces_and_whole.ensures c.args.coordinates.now refl)
