-- `write_side` meets its contract: one run of bytes after another.
use native.Mathlib.Omega.{arith}
use mathlib.Core.Path.{ap}
use mathlib.Core.List.{[]}
use Prim.Native.Nat.{ℕ}
use lib.ListN.{length}
use Rattle.built_meshes.specs.declared.Version.TheVariants.{Two}
use Rattle.building_tests.specs.Lent.{lists_in}
use Rattle.mesh_answers.specs.Lines.{decimal_digits, decimal_bytes}
use Rattle.listing_printing.proofs.Laws.{written_same}
use Rattle.mesh_printing.specs.Faces.{side_at}
use Rattle.text_printing.proofs.Laws.{side-room, parts-of}
use Rattle.text_printing.proofs.write_side.Goals as goal

pub write-i-requires : goal.write-i-requires
write-i-requires c =
    let r = side-room
    (side_at (lists_in Two [] [] [] c.args.listed.now c.args.beside.now) c.args.p c.args.a c.args.n) in
    omega arith

pub write_decimal-j-requires : goal.write_decimal-j-requires
write_decimal-j-requires c =
    let r = side-room
    (side_at (lists_in Two [] [] [] c.args.listed.now c.args.beside.now) c.args.p c.args.a c.args.n) in
    let d = ap (λ (n : ℕ). length (decimal_digits 20 n))
    c.wide-first.ensures in
    omega arith

pub write_points-k-requires : goal.write_points-k-requires
write_points-k-requires c =
    record {
      n_in_bounds = c.requires.n_in_bounds;
      beside_len = c.requires.beside_len;
      finite_intervals = c.requires.finite_intervals;
      n_in_bounds_2 = let r = side-room
          (side_at (lists_in Two [] [] [] c.args.listed.now c.args.beside.now) c.args.p c.args.a c.args.n) in
          let d = ap (λ (n : ℕ). length (decimal_digits 20 n)) c.wide-first.ensures in
          omega arith;
    }

pub write-requires : goal.write-requires
write-requires c =
    let r = side-room
    (side_at (lists_in Two [] [] [] c.args.listed.now c.args.beside.now) c.args.p c.args.a c.args.n) in
    let d = ap (λ (n : ℕ). length (decimal_digits 20 n)) c.wide-first.ensures in
    omega arith

pub returns : goal.returns
returns c =
    parts-of c.write-i.ensures
    (written_same (ap decimal_bytes c.wide-first.ensures) c.write_decimal-j.ensures)
    c.write_points-k.ensures
    c.write.ensures
