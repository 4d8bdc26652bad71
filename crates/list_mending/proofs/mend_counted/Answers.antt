-- mend_counted meets its contract: parts of local lists, as long as the places and the faces, are worked on.
use mathlib.Core.Path.{sym, ◌∙◌}
use native.Mathlib.Omega.{arith}
use Prim.Native.Nat.{◌/◌}
use lib.ListN.{length, drop}
use lib.Seq.{length-take-le}
use Rattle.built_meshes.specs.declared.Version.TheVariants.{Two}
use Rattle.building_tests.specs.Lent.{lists_in}
use Rattle.list_mending.proofs.Laws.{length_cut, fitted, places-room, turns-back}
use Rattle.list_mending.proofs.mend_counted.Goals as goal

pub slice_bounds-mates-end : goal.slice_bounds-mates-end
slice_bounds-mates-end c =
    (fitted c.args.coordinates.now c.args.sides.now c.args.firsts.now c.args.listed.now c.args.beside.now
    c.requires.beside_value).listed-few

pub slice_bounds-mend_places-end-3 : goal.slice_bounds-mend_places-end-3
slice_bounds-mend_places-end-3 c =
    length_cut (length c.args.listed.now) 16384 0
    (fitted c.args.coordinates.now c.args.sides.now c.args.firsts.now c.args.listed.now c.args.beside.now
    c.requires.beside_value).listed-few

pub slice_bounds-mend_places-end-4 : goal.slice_bounds-mend_places-end-4
slice_bounds-mend_places-end-4 c =
    omega (
      arith,
      (fitted c.args.coordinates.now c.args.sides.now c.args.firsts.now c.args.listed.now c.args.beside.now
          c.requires.beside_value).faces-few,
      c.requires.turned_len,
    )

pub slice_bounds-mend_places-end-5 : goal.slice_bounds-mend_places-end-5
slice_bounds-mend_places-end-5 c =
    sym (length-take-le (length c.args.sides.now / 4) c.args.turned.now
    (omega (
      arith,
      (fitted c.args.coordinates.now c.args.sides.now c.args.firsts.now c.args.listed.now c.args.beside.now
          c.requires.beside_value).faces-few,
      c.requires.turned_len,
    )))

pub mend_places-requires : goal.mend_places-requires
mend_places-requires c =
    record {
      beside_value = c.requires.beside_value;
      turning_room = places-room c.args.coordinates.now c.args.sides.now c.args.firsts.now c.args.listed.now c.args.beside.now
          c.args.turned.now (fitted c.args.coordinates.now c.args.sides.now c.args.firsts.now c.args.listed.now
          c.args.beside.now c.requires.beside_value) c.requires.turned_len;
    }

pub returns : goal.returns
returns c =
    let nf = length c.args.sides.now / 4 in record {
      value = c.mend_places.ensures.value;
      turns_if = turns-back (lists_in Two c.args.coordinates.now c.args.sides.now c.args.firsts.now c.args.listed.now
          c.args.beside.now) c.mend_places.new.turned (drop nf c.args.turned.now) c.mend_places.result
          (c.mend_places.auto.turned
          ∙ length-take-le nf c.args.turned.now
          (omega (
            arith,
            (fitted c.args.coordinates.now c.args.sides.now c.args.firsts.now c.args.listed.now c.args.beside.now
                c.requires.beside_value).faces-few,
            c.requires.turned_len,
          ))) c.mend_places.ensures.turns_if;
    }
