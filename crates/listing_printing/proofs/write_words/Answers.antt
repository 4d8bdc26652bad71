-- `write_words` meets its contract. The invariant: the first j fields are written.
use native.Mathlib.Omega.{arith}
use mathlib.Core.Path.{refl, ap, ◌∙◌}
use Prim.Native.Nat.{◌-◌}
use Rattle.mesh_answers.specs.Lines.{number_field}
use Rattle.listing_printing.proofs.Laws.{fields-start, fields-turn-room, fields-turn, fields-end}
use Rattle.listing_printing.proofs.write_words.Goals as goal

pub loop-j-init : goal.loop-j-init
loop-j-init c =
    fields-start number_field _ _ c.args.words.now c.args.b

pub write_number-i-requires : goal.write_number-i-requires
write_number-i-requires c =
    fields-turn-room number_field _ _ c.args.words.now c.args.b 0 c.loop-j.j c.loop-j.invariant
    (ap number_field c.wide-v.ensures) c.loop-j.auto.out c.loop-j-test.true c.requires.k_in_bounds
    c.requires.k_in_bounds_2

pub loop-j-preserved : goal.loop-j-preserved
loop-j-preserved c =
    fields-turn number_field _ _ c.args.words.now c.args.b 0 c.loop-j.j c.loop-j.invariant
    (ap number_field c.wide-v.ensures)
    (let bound = c.loop-j-test.true in omega arith)
    c.write_number-i.ensures

pub returns : goal.returns
returns c =
    fields-end number_field _ _ c.args.words.now c.args.b c.loop-j.invariant (omega arith)
    (omega arith)
