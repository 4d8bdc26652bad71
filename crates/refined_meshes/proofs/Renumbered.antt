-- A mesh under other numbers of its rows and with other start edges. Assumes nothing.
--     renumbered            the mesh
--     renumbering           the isomorphism onto it
--     renumbered-touching   its start edges touch if those do that were put
use mathlib.Core.Path.{◌≡◌, ◌∙◌, ap}
use mathlib.Core.Option.{map}
use Rattle.closed_meshes.specs.Mesh.{MeshOver, Dart, edge, first, face}
use Rattle.closed_meshes.specs.Renumbering.{Bijection, Isomorphism, Touching}
use Rattle.closed_meshes.proofs.Isomorphisms.{edge-map_dart, dart_to, first_to, face-to}

module _
    {P E F P' E' F' : Type 0} (m : MeshOver P E F) (ps : Bijection P P') (es : Bijection E E') (fs : Bijection F F') (start : P → E)
    (face_start : F → E)
  where
    abbrev pub renumbered : MeshOver P' E' F'
    renumbered =
        record {
          valence = λ p. m.valence (ps.from p);
          start = λ p. es.to (start (ps.from p));
          origin = λ e. ps.to (m.origin (es.from e));
          dest = λ e. ps.to (m.dest (es.from e));
          left = λ e. fs.to (m.left (es.from e));
          right = λ e. fs.to (m.right (es.from e));
          left_cw = λ e. es.to (m.left_cw (es.from e));
          left_acw = λ e. es.to (m.left_acw (es.from e));
          right_cw = λ e. es.to (m.right_cw (es.from e));
          right_acw = λ e. es.to (m.right_acw (es.from e));
          face_start = λ f. es.to (face_start (fs.from f));
          corner = λ f k. map ps.to (m.corner (fs.from f) k);
        }

    abbrev pub renumbering : Isomorphism m renumbered
    renumbering =
        record {
          points = ps;
          edges = es;
          faces = fs;
          valence = λ p. ap m.valence (ps.from-to p);
          origin = λ e. ap (λ x. ps.to (m.origin x)) (es.from-to e);
          dest = λ e. ap (λ x. ps.to (m.dest x)) (es.from-to e);
          left = λ e. ap (λ x. fs.to (m.left x)) (es.from-to e);
          right = λ e. ap (λ x. fs.to (m.right x)) (es.from-to e);
          left_cw = λ e. ap (λ x. es.to (m.left_cw x)) (es.from-to e);
          left_acw = λ e. ap (λ x. es.to (m.left_acw x)) (es.from-to e);
          right_cw = λ e. ap (λ x. es.to (m.right_cw x)) (es.from-to e);
          right_acw = λ e. ap (λ x. es.to (m.right_acw x)) (es.from-to e);
          corner = λ f k. ap (λ x. map ps.to (m.corner x k)) (fs.from-to f);
        }

    pub renumbered-touching :
        ((p : P) → (d : Dart E) × (edge d ≡ start p) × (first m d ≡ p)) → ((f : F) → (d : Dart E) × (edge d ≡ face_start f) × (face m d ≡ f))
        → Touching renumbered
    renumbered-touching h k =
        record {
          start =
              λ p.
              let t = h (ps.from p) in (
                dart_to renumbering t.0,
                edge-map_dart es.to t.0 ∙ ap es.to t.1,
                first_to renumbering t.0 ∙ ap ps.to t.2 ∙ ps.to-from p,
              );
          face_start =
              λ f.
              let t = k (fs.from f) in (
                dart_to renumbering t.0,
                edge-map_dart es.to t.0 ∙ ap es.to t.1,
                face-to renumbering t.0 ∙ ap fs.to t.2 ∙ fs.to-from f,
              );
        }
