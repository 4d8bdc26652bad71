-- When a mesh is closed: document 01's audit, over any types of rows.
--     Closed m          the mesh is closed
-- Its data are the next and the previous dart about each face, the number of edges of each face, and the darts from which walks
-- begin; the laws settle them all but for the side from which a start edge is seen, and that is settled by what it touches.
use Rattle.std.specs.Prelude.{◌≡◌, ℕ, ◌≤◌}
use Rattle.closed_meshes.specs.Mesh.{MeshOver, Dart, edge, flip, first, second, face, acw, cw}
use Rattle.closed_meshes.specs.Cycles.{Cycles}

pub record Closed {P E F : Type 0} (m : MeshOver P E F) : Type 0 where
  -- The anticlockwise neighbour of d's edge on d's side, seen from the side of the same face, is the next dart; the clockwise
  -- neighbour is the previous one. They undo each other.
  pub next : Dart E → Dart E
  pub prev : Dart E → Dart E
  pub edge-next : (d : Dart E) → edge (next d) ≡ acw m d
  pub edge-prev : (d : Dart E) → edge (prev d) ≡ cw m d
  pub prev-next : (d : Dart E) → prev (next d) ≡ d
  pub next-prev : (d : Dart E) → next (prev d) ≡ d
  -- The border of a face runs head to tail.
  pub first_next : (d : Dart E) → first m (next d) ≡ second m d
  -- The ends of an edge differ, its faces differ, no two edges join the same two points, no face passes a point twice.
  pub ends-differ : (e : E) → ¬ (m.origin e ≡ m.dest e)
  pub sides-differ : (e : E) → ¬ (m.left e ≡ m.right e)
  pub one-edge : (d d' : Dart E) → first m d ≡ first m d' → second m d ≡ second m d' → edge d ≡ edge d'
  pub one-pass : (d d' : Dart E) → face m d ≡ face m d' → first m d ≡ first m d' → d ≡ d'
  -- The darts from which the walks begin are on the rows' start edges.
  pub face_dart : F → Dart E
  pub edge-face_dart : (f : F) → edge (face_dart f) ≡ m.face_start f
  pub point_dart : P → Dart E
  pub edge-point_dart : (p : P) → edge (point_dart p) ≡ m.start p
  -- The walk about a face passes each dart of that face once, 3 to 64 in all. One step anticlockwise goes to the next dart.
  pub size : F → ℕ
  pub size_low : (f : F) → 3 ≤ size f
  pub size-high : (f : F) → size f ≤ 64
  pub about-faces : Cycles next (face m) face_dart size
  -- The walk about a point passes each dart that begins there once, and their number, at least 2, is its valence. One step
  -- anticlockwise goes to the previous dart about the face, seen from its other side.
  pub valence-low : (p : P) → 2 ≤ m.valence p
  pub about-points : Cycles (λ d. flip (prev d)) (first m) point_dart m.valence
