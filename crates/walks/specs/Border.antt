-- The border of a face.
--     padded k xs          the list xs with 0 up to the length k
--     laid xs ys           the list ys with the elements of xs as its first
--     border_of m f w       what a walk about face f gives: how many edges it passed, or that it is lost; its edges, and the points at which it comes to them, the first
--                          four again; the rest is 0, and all of it where the walk is lost
--     border m ne f        the border of face f, by its walk along the edges below ne
--     BorderLaid ..        the border of face f is laid into arrays of any content, xs₀ and qs₀: what a walk about it answers, and the arrays then
use Rattle.std.specs.Prelude.{◌≡◌, List, [], ◌∷◌, ◌++◌, map, ℕ, ◌-◌, length, drop, replicate, Option, Some, None}
use Rattle.tables.specs.Layout.{longest_perimeter, longest_border}
use Rattle.tables.specs.Mesh.{Mesh}
use Rattle.audited_meshes.specs.Folds.{again}
use Rattle.audited_meshes.specs.Walks.{Walk, back, lost, first_point, face_walk}
use Rattle.walks.specs.declared.FaceBorder.{FaceBorder}
use Rattle.walks.specs.Steps.{passed_by}

unfoldable pub padded : ℕ → List ℕ → List ℕ
padded k xs = xs ++ replicate (k - length xs) 0

unfoldable pub laid : List ℕ → List ℕ → List ℕ
laid xs ys = xs ++ drop (length xs) ys

abbrev pub border_of : Mesh → ℕ → Walk → FaceBorder
border_of m f (back es) =
    record {
      passed = Some (length es);
      edges = padded longest_perimeter es;
      points = padded longest_border (again 4 (map (first_point m f) es));
    }
border_of m f lost = record { passed = None; edges = padded longest_perimeter []; points = padded longest_border [] }

unfoldable pub border : Mesh → ℕ → ℕ → FaceBorder
unfolding face_walk
border m ne f = border_of m f (face_walk m ne f)

pub record BorderLaid (m : Mesh) (ne f : ℕ) (answer : Option ℕ) (xs qs xs₀ qs₀ : List ℕ) : Type 0 where
  pub answered : answer ≡ passed_by (face_walk m ne f)
  pub edges-long : length xs ≡ length xs₀
  pub points-long : length qs ≡ length qs₀
  pub edges-laid : (es : List ℕ) → face_walk m ne f ≡ back es → xs ≡ laid es xs₀
  pub points-laid : (es : List ℕ) → face_walk m ne f ≡ back es → qs ≡ laid (again 4 (map (first_point m f) es)) qs₀
