-- `write_listed` meets its contract: one run of bytes after another.
use native.Mathlib.Omega.{arith}
use mathlib.Core.Path.{ap}
use mathlib.Core.List.{[]}
use Prim.Native.Nat.{ℕ}
use lib.ListN.{length, get_or}
use lib.Ieee.{nan}
use Rattle.built_meshes.specs.declared.Version.TheVariants.{Two}
use Rattle.building_tests.specs.Lent.{lists_in}
use Rattle.intervals.proofs.Laws.{finite_number}
use Rattle.mesh_answers.specs.Lines.{decimal_digits, decimal_bytes}
use Rattle.mesh_answers.proofs.Laws.{length-bits}
use Rattle.listings.specs.Handing.{bits_of}
use Rattle.listing_printing.proofs.Laws.{written_same}
use Rattle.mesh_printing.specs.Faces.{listed_pair_at}
use Rattle.text_printing.proofs.Laws.{listed-room, parts-of}
use Rattle.text_printing.proofs.write_listed.Goals as goal

pub float_to_bits-v : goal.float_to_bits-v
float_to_bits-v c =
    finite_number _ c.requires.nan_value

pub write-j-requires : goal.write-j-requires
write-j-requires c =
    let r = listed-room (listed_pair_at (lists_in Two [] [] [] c.args.listed.now c.args.beside.now) c.args.i) in
    omega arith

pub write_decimal-k-requires : goal.write_decimal-k-requires
write_decimal-k-requires c =
    let r = listed-room (listed_pair_at (lists_in Two [] [] [] c.args.listed.now c.args.beside.now) c.args.i) in
    let d = ap (λ (n : ℕ). length (decimal_digits 20 n))
    c.wide-p.ensures in
    omega arith

pub write_bits-m-requires : goal.write_bits-m-requires
write_bits-m-requires c =
    let r = listed-room (listed_pair_at (lists_in Two [] [] [] c.args.listed.now c.args.beside.now) c.args.i) in
    let d = ap (λ (n : ℕ). length (decimal_digits 20 n)) c.wide-p.ensures in
    omega arith

pub write-requires : goal.write-requires
write-requires c =
    let r = listed-room (listed_pair_at (lists_in Two [] [] [] c.args.listed.now c.args.beside.now) c.args.i) in
    let d = ap (λ (n : ℕ). length (decimal_digits 20 n)) c.wide-p.ensures in
    let b = length-bits (bits_of (get_or c.args.beside.now c.args.i nan)) in
    omega arith

pub returns : goal.returns
returns c =
    parts-of c.write-j.ensures (written_same (ap decimal_bytes c.wide-p.ensures) c.write_decimal-k.ensures)
    c.write_bits-m.ensures
    c.write.ensures
