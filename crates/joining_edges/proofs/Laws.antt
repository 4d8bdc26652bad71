-- A joining edge over plain variables: hs, gs, ms, ds are what stands at the places of the perimeter pe. Assumes nothing.
use mathlib.Core.Path.{◌≡◌}
use mathlib.Core.List.{List, [], ◌∷◌}
use Prim.Native.Nat.{ℕ, ◌+◌}
use lib.ListN.{get_or}
use lib.Ieee.{Float, nan, add, binary64}
use Rattle.perimeters.specs.Places.{next_place, prev_place}
use Rattle.refined_meshes.specs.State.{State, put_edge}
use Rattle.refined_meshes.specs.Ring.{face_row, put_join}
use Rattle.ring_rows.specs.declared.RingRows.{RingRows}
use Rattle.ring_rows.specs.Rings.{ring}

module _ (rows : RingRows) (i : ℕ) where
  module _ (pe hs gs ms : List ℕ) (ds : List Float) (s : State) where
    pub join-put : (next prev f g : ℕ) → next ≡ next_place rows.size i → prev ≡ prev_place rows.size i
        → f ≡ face_row (ring rows [] [] [] [] []) next → g ≡ face_row (ring rows [] [] [] [] []) i
        → put_edge (rows.joins + i)
        (record {
          connections = (rows.joins + next) ∷ get_or gs i 0 ∷ get_or hs i 0 ∷ (rows.joins + prev) ∷ [];
          face_left = f;
          face_right = g;
          origin = rows.centre;
          dest = get_or ms i 0;
          knot_interval = add binary64 (get_or ds next nan) (get_or ds prev nan);
        }) s
        ≡ put_join (ring rows pe hs gs ms ds) i s
    unfolding put_join
    join-put next prev f g a b x y = rw (x, y, a, b)
