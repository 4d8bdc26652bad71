-- `write_numbers` meets its contract. The invariant: the first j fields are written.
use native.Mathlib.Omega.{arith}
use mathlib.Core.Path.{refl, ◌∙◌}
use Prim.Native.Nat.{ℕ, ◌+◌, ◌-◌}
use mathlib.Core.List.{List}
use lib.ListN.{get_or}
use lib.Ieee.{Float, nan}
use Rattle.intervals.proofs.Laws.{finite_number}
use Rattle.mesh_answers.specs.Lines.{bits_field}
use Rattle.mesh_answers.proofs.Laws.{length-bits}
use Rattle.listings.specs.Handing.{bits_of}
use Rattle.listing_printing.proofs.Laws.{fields-start, fields-turn-room, fields-turn, fields-end}
use Rattle.listing_printing.proofs.write_numbers.Goals as goal

-- the field of one number
abbrev bits_in : Float → List ℕ
bits_in v = bits_field (bits_of v)

pub loop-j-init : goal.loop-j-init
loop-j-init c =
    fields-start bits_in _ _ c.args.numbers.now c.args.b

pub float_to_bits-v : goal.float_to_bits-v
float_to_bits-v c =
    finite_number _
    (c.requires.by_index _ (omega arith))

pub write_bits-i-requires : goal.write_bits-i-requires
write_bits-i-requires c =
    let h = fields-turn-room bits_in _ _ c.args.numbers.now c.args.b nan c.loop-j.j c.loop-j.invariant refl c.loop-j.auto.out
    c.loop-j-test.true c.requires.k_in_bounds c.requires.k_in_bounds_2 in
    let l = length-bits (bits_of (get_or c.args.numbers.now (c.args.b + c.loop-j.j) nan)) in
    omega arith

pub loop-j-preserved : goal.loop-j-preserved
loop-j-preserved c =
    fields-turn bits_in _ _ c.args.numbers.now c.args.b nan c.loop-j.j c.loop-j.invariant refl
    (let bound = c.loop-j-test.true in omega arith) c.write_bits-i.ensures

pub returns : goal.returns
returns c =
    fields-end bits_in _ _ c.args.numbers.now c.args.b c.loop-j.invariant (omega arith)
    (omega arith)
