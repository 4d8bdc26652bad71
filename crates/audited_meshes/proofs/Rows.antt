-- The mesh over bounded numbers that stands in tables that pass the audit. Assumes nothing.
use mathlib.Core.Path.{◌≡◌, refl}
use mathlib.Core.Logic.{◌⊎◌, inl, inr}
use mathlib.Core.Option.{Option, some}
use mathlib.Core.Option
use Prim.Native.Nat.{ℕ, ◌<◌}
use native.Mathlib.Omega.{arith}
use Rattle.closed_meshes.specs.Mesh.{MeshOver, Place, place0, place1, place2, place3}
use Rattle.closed_meshes.specs.Renumbering.{Row}
use Rattle.tables.specs.Mesh.{Mesh, none, valence, start, origin, dest, left_face, right_face, left_cw, left_acw, right_cw, right_acw, face_start, corner}
use Rattle.audited_meshes.specs.Audited.{Audited}
use Rattle.audited_meshes.specs.Rows.{place, corner_word, Stands, Fit}

-- the corner that a word stands for
abbrev pub corner_of : {np : ℕ} (w : ℕ) → (w < np) ⊎ (w ≡ none) → Option (Row np)
corner_of w (inl l) = some (w, l)
corner_of w (inr e) = Option.none

corner_word-of : {np : ℕ} (w : ℕ) (h : (w < np) ⊎ (w ≡ none)) → w ≡ corner_word (corner_of w h)
corner_word-of w (inl l) = refl
corner_word-of w (inr e) = e

abbrev pub place-below : (k : Place) → place k < 4
place-below place0 = omega arith
place-below place1 = omega arith
place-below place2 = omega arith
place-below place3 = omega arith

module _ (m : Mesh) {np ne nf : ℕ} (a : Audited m np ne nf) where
  abbrev pub rows : MeshOver (Row np) (Row ne) (Row nf)
  rows =
      record {
        valence = λ p. valence m p.0;
        start = λ p. (start m p.0, a.start-in-range p.0 p.1);
        origin = λ e. (origin m e.0, (a.edge-in-range e.0 e.1).origin-in-range);
        dest = λ e. (dest m e.0, (a.edge-in-range e.0 e.1).dest-in-range);
        left = λ e. (left_face m e.0, (a.edge-in-range e.0 e.1).left_face-in-range);
        right = λ e. (right_face m e.0, (a.edge-in-range e.0 e.1).right_face-in-range);
        left_cw = λ e. (left_cw m e.0, (a.edge-in-range e.0 e.1).left_cw-in-range);
        left_acw = λ e. (left_acw m e.0, (a.edge-in-range e.0 e.1).left_acw-in-range);
        right_cw = λ e. (right_cw m e.0, (a.edge-in-range e.0 e.1).right_cw-in-range);
        right_acw = λ e. (right_acw m e.0, (a.edge-in-range e.0 e.1).right_acw-in-range);
        face_start = λ f. (face_start m f.0, a.face_start-in-range f.0 f.1);
        corner = λ f k. corner_of (corner m f.0 (place k)) (a.corner-fit f.0 (place k) f.1 (place-below k));
      }

  pub rows-stand : Stands m rows
  rows-stand =
      record {
        valence-stands = λ p. refl;
        start-stands = λ p. refl;
        origin-stands = λ e. refl;
        dest-stands = λ e. refl;
        left_face-stands = λ e. refl;
        right_face-stands = λ e. refl;
        left_cw-stands = λ e. refl;
        left_acw-stands = λ e. refl;
        right_cw-stands = λ e. refl;
        right_acw-stands = λ e. refl;
        face_start-stands = λ f. refl;
        corner-stands = λ f k. corner_word-of (corner m f.0 (place k)) (a.corner-fit f.0 (place k) f.1 (place-below k));
      }

  pub rows_fit : Fit m np ne nf
  rows_fit =
      record {
        points-fit = a.points-fit;
        edges_fit = a.edges_fit;
        faces-fit = a.faces-fit;
        x-finite = a.x-finite;
        y-finite = a.y-finite;
        z-finite = a.z-finite;
        interval-fit = a.interval-fit;
        mark-fit = a.mark-fit;
      }
