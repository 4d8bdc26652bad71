-- Whether every `connect` of building finds a state of its two edges. The Rust ends building with an error where it finds none; the
-- definition `build` does not look.
--     turn_connects, places_connect, close_connects      of one place, of k places, of the first edge and the last
--     face_connects, faces_connect                      of a face with its tests, of k faces
--     AlwaysConnects                                 the claim: it always does
use Rattle.std.specs.Prelude.{◌≡◌, Bool, true, ◌&&◌, ℕ, zero, suc, ◌+◌, ◌≤◌, get_or, Result, Ok, Err, ⊤}
use Rattle.built_meshes.specs.declared.Ground.{Ground}
use Rattle.std.specs.Float.{nan}
use Rattle.tables.specs.Counted.{rows_for, zeroed_rows}
use Rattle.perimeters.specs.Places.{next_place}
use Rattle.tables.specs.declared.Sizes.{Sizes}
use Rattle.tables.specs.Mesh.{Mesh, none}
use Rattle.t_nurcc_edge.specs.Joinable.{joinable_rows}
use Rattle.built_meshes.specs.Lists.{Lists, points_of, faces_of, size, counts_fit, listed_fit, rows_of}
use Rattle.built_meshes.specs.Faces.{listed_at, face_verdict}
use Rattle.built_meshes.specs.Edges.{Entered, at, refused, entered}
use Rattle.built_meshes.specs.Perimeters.{BuildState, FaceState, Progress, on, stopped, interval_place, turn, places}
use Rattle.built_meshes.specs.Building.{face_passed}

-- place 0 has no place before it yet
abbrev pub turn_connects : FaceState → ℕ → Entered → Bool
turn_connects r zero x = true
turn_connects r (suc i) (at m k e) = joinable_rows m.edges m.intervals e r.before
turn_connects r (suc i) (refused g) = true

unfoldable pub places_connect : ℕ → Lists → ℕ → ℕ → ℕ → ℕ → Progress FaceState → Bool
unfolding turn entered joinable_rows
places_connect zero l f a n i r = true
places_connect (suc k) l f a n i (on r) =
    turn_connects r i (entered r.mesh r.edges f (listed_at l a i) (listed_at l a (next_place n i))
    (get_or l.intervals (a + interval_place l.version n i) nan))
    && places_connect k l f a n (suc i) (turn l f a n i r)
places_connect (suc k) l f a n i (stopped g m) = true

abbrev pub close_connects : Progress FaceState → Bool
close_connects (on r) = joinable_rows r.mesh.edges r.mesh.intervals r.first r.before
close_connects (stopped g m) = true

-- where the perimeter of a face begins
abbrev pub begun : BuildState → Progress FaceState
begun s = on (record { mesh = s.mesh; edges = s.edges; first = 0; before = 0 })

unfoldable pub face_connects : Lists → ℕ → ℕ → BuildState → Result ⊤ Ground → Bool
unfolding places_connect places joinable_rows
face_connects l f a s (Ok tt) =
    places_connect (size l f) l f a (size l f) 0 (begun s) && close_connects (places (size l f) l f a (size l f) 0 (begun s))
face_connects l f a s (Err g) = true

unfoldable pub faces_connect : ℕ → Lists → ℕ → ℕ → Progress BuildState → Bool
unfolding face_connects face_passed face_verdict
faces_connect zero l f a r = true
faces_connect (suc k) l f a (on s) =
    face_connects l f a s (face_verdict l (points_of l) f a) && faces_connect k l (suc f) (a + size l f) (face_passed l f a s)
faces_connect (suc k) l f a (stopped g m) = true

abbrev pub AlwaysConnects : Type 0
AlwaysConnects =
    (c : Sizes) (l : Lists) (m : Mesh) → c.faces ≤ none → counts_fit c l ≡ true → listed_fit l ≡ true → rows_for (rows_of l) m ≡ true →
    faces_connect (faces_of l) l 0 0 (on (record { mesh = zeroed_rows (rows_of l) m; edges = 0 })) ≡ true
