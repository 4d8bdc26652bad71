-- `write_points` meets its contract. The invariant: the first i listed points are written.
use native.Mathlib.Omega.{arith}
use mathlib.Core.Path.{refl, ◌∙◌}
use mathlib.Core.List.{[]}
use Prim.Native.Nat.{◌+◌, ◌-◌}
use Rattle.built_meshes.specs.declared.Version.TheVariants.{Two}
use Rattle.building_tests.specs.Lent.{lists_in}
use Rattle.mesh_printing.specs.Printing.{listed_part}
use Rattle.listing_printing.proofs.Laws.{lines_start, lines-turn-room, lines-turn, lines_end}
use Rattle.mesh_printing.specs.Faces.{listed_pair_at}
use Rattle.text_printing.proofs.write_points.Goals as goal

pub loop-i-init : goal.loop-i-init
loop-i-init c =
    lines_start listed_part _ _
    (λ k. listed_pair_at (lists_in Two [] [] [] c.args.listed.now c.args.beside.now) (c.args.a + k))

pub write_listed-j-requires : goal.write_listed-j-requires
write_listed-j-requires c = record {
  i_in_bounds = omega arith;
  i_in_bounds_2 =
      let bound = c.loop-i-test.true in
      let bound = c.requires.n_in_bounds in
      omega arith;
  nan_value = c.requires.finite_intervals _
      (let bound = c.loop-i-test.true in
      let bound = c.requires.n_in_bounds in
      let bound = c.requires.beside_len in
      omega arith);
  i_in_bounds_3 = lines-turn-room listed_part _ _
      (λ k. listed_pair_at (lists_in Two [] [] [] c.args.listed.now c.args.beside.now) (c.args.a + k)) c.loop-i.i
      c.loop-i.invariant c.loop-i.auto.out c.loop-i-test.true c.requires.n_in_bounds_2;
}

pub loop-i-preserved : goal.loop-i-preserved
loop-i-preserved c =
    lines-turn listed_part _ _
    (λ k. listed_pair_at (lists_in Two [] [] [] c.args.listed.now c.args.beside.now) (c.args.a + k)) c.loop-i.i
    c.loop-i.invariant c.write_listed-j.ensures

pub returns : goal.returns
returns c =
    lines_end listed_part _ _
    (λ k. listed_pair_at (lists_in Two [] [] [] c.args.listed.now c.args.beside.now) (c.args.a + k))
    c.loop-i.invariant (omega arith) (omega arith)
