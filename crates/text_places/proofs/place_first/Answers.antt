-- place_first meets its contract: the first entries of the five lists are looked at.
use mathlib.Core.Path.{sym, ◌∙◌, ap}
use native.Mathlib.Omega.{arith}
use Prim.Native.Nat.{◌*◌}
use lib.ListN.{take}
use lib.Seq.{length-take-le}
use Rattle.std.specs.Prelude.{Result, ⊤}
use Rattle.refusal_places.specs.declared.Spot.{Spot}
use Rattle.refusal_places.specs.Spots.{where_of}
use Rattle.text_places.specs.TextPlaces.{place_at_check}
use Rattle.text_places.proofs.Laws.{few-faces}
use Rattle.text_places.proofs.place_first.Goals as goal

-- src/lib.rt:150:9
pub slice_bounds-spot_in-end : goal.slice_bounds-spot_in-end
slice_bounds-spot_in-end c =
    sym
    (length-take-le (3 * c.args.p) c.args.coordinates.now c.requires.p_in_bounds)

-- src/lib.rt:151:9
pub slice_bounds-spot_in-end-2 : goal.slice_bounds-spot_in-end-2
slice_bounds-spot_in-end-2 c =
    sym (length-take-le (4 * c.args.f) c.args.sides.now
    c.requires.f_in_bounds)

-- src/lib.rt:152:9
pub slice_bounds-spot_in-end-3 : goal.slice_bounds-spot_in-end-3
slice_bounds-spot_in-end-3 c =
    sym (length-take-le (4 * c.args.f) c.args.firsts.now c.requires.f_in_bounds_2)

-- src/lib.rt:153:9
pub slice_bounds-spot_in-end-4 : goal.slice_bounds-spot_in-end-4
slice_bounds-spot_in-end-4 c =
    sym (length-take-le c.args.n c.args.listed.now c.requires.n_in_bounds)

-- src/lib.rt:154:9
pub slice_bounds-spot_in-end-5 : goal.slice_bounds-spot_in-end-5
slice_bounds-spot_in-end-5 c =
    sym (length-take-le c.args.n c.args.beside.now c.requires.n_in_bounds_2)

-- src/lib.rt:148:9
pub spot_in-spot-requires : goal.spot_in-spot-requires
spot_in-spot-requires c =
    length-take-le (4 * c.args.f) c.args.firsts.now c.requires.f_in_bounds_2
    ∙ sym (length-take-le (4 * c.args.f) c.args.sides.now c.requires.f_in_bounds)

-- src/lib.rt:157:5
pub place_at-requires : goal.place_at-requires
place_at-requires c =
    record {
      np_bound = c.requires.p_bound;
      few_faces = few-faces c.args.bounds c.args.version (take (3 * c.args.p) c.args.coordinates.now)
          (take (4 * c.args.f) c.args.sides.now) (take (4 * c.args.f) c.args.firsts.now)
          (take c.args.n c.args.listed.now) (take c.args.n c.args.beside.now) c.spot_in-spot.result c.spot_in-spot.ensures
          (omega (arith, length-take-le (4 * c.args.f) c.args.sides.now c.requires.f_in_bounds, c.requires.f_bound));
    }

-- src/lib.rt:122:1
pub returns : goal.returns
returns c =
    c.place_at.ensures ∙ ap (λ (s : Result ⊤ Spot). place_at_check c.args.p (where_of s)) c.spot_in-spot.ensures
