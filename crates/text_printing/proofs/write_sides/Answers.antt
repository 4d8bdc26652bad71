-- `write_sides` meets its contract. The invariant: the first k sides are written, and the listed points of the next stand from b on.
use native.Mathlib.Omega.{arith}
use mathlib.Core.Path.{refl, ap, ◌∙◌}
use mathlib.Core.List.{[]}
use Prim.Native.Nat.{◌-◌}
use lib.ListN.{length}
use Rattle.mesh_lines.specs.Grammar.{Side}
use Rattle.built_meshes.specs.declared.Version.TheVariants.{Two}
use Rattle.building_tests.specs.Lent.{lists_in}
use Rattle.mesh_printing.specs.Printing.{side_part}
use Rattle.listing_printing.proofs.Laws.{written_same, lines_start, lines-turn-room, lines-turn, lines_end}
use Rattle.mesh_printing.specs.Faces.{side_in}
use Rattle.text_printing.proofs.Laws.{side-fits, from_more, side_same}
use Rattle.text_printing.proofs.write_sides.Goals as goal

pub loop-k-init : goal.loop-k-init
loop-k-init c = (
  refl,
  lines_start side_part _ _
      (side_in (lists_in Two [] c.args.sides.now c.args.firsts.now c.args.listed.now c.args.beside.now) c.args.f),
)

pub write_side-i-requires : goal.write_side-i-requires
write_side-i-requires c =
    let l = lists_in Two [] c.args.sides.now c.args.firsts.now c.args.listed.now c.args.beside.now in record {
      n_in_bounds = let h = side-fits l c.args.f c.args.a c.loop-k.k c.loop-k-test.true in
          omega arith;
      beside_len = c.requires.printing_room.intervals-fit;
      finite_intervals = c.requires.printing_room.all-finite;
      n_in_bounds_2 = let r = lines-turn-room side_part _ _ (side_in l c.args.f) c.loop-k.k c.loop-k.invariant.1 c.loop-k.auto.out c.loop-k-test.true
          c.requires.f_in_bounds in
          let s = ap (λ (d : Side). length (side_part d))
          (side_same c.args.sides.now c.args.firsts.now c.args.listed.now c.args.beside.now c.args.f c.args.a
          c.loop-k.k refl c.loop-k.invariant.0 c.index-n.ensures c.requires.printing_room.at-is) in
          omega arith;
    }

pub overflow_add-b : goal.overflow_add-b
overflow_add-b c =
    let l = lists_in Two [] c.args.sides.now c.args.firsts.now c.args.listed.now c.args.beside.now in
    let h = side-fits l c.args.f c.args.a c.loop-k.k
    c.loop-k-test.true in
    omega arith

pub loop-k-preserved : goal.loop-k-preserved
loop-k-preserved c =
    let l = lists_in Two [] c.args.sides.now c.args.firsts.now c.args.listed.now c.args.beside.now in (
      let m = from_more l c.args.f c.args.a c.loop-k.k in
          omega arith,
      lines-turn side_part _ _ (side_in l c.args.f) c.loop-k.k c.loop-k.invariant.1
          (written_same (ap side_part (side_same c.args.sides.now c.args.firsts.now c.args.listed.now c.args.beside.now
          c.args.f c.args.a c.loop-k.k refl c.loop-k.invariant.0 c.index-n.ensures c.requires.printing_room.at-is))
          c.write_side-i.ensures),
    )

pub returns : goal.returns
returns c =
    lines_end side_part _ _
    (side_in (lists_in Two [] c.args.sides.now c.args.firsts.now c.args.listed.now c.args.beside.now) c.args.f)
    c.loop-k.invariant.1 (omega arith) (omega arith)
