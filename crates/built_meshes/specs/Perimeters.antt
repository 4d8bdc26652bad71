-- One face entered into the tables, place by place: place i of a perimeter of n points is the edge from its point i to its point
-- i + 1, round to the start, and takes the interval written beside point i, or in version 2 beside point i + 1.
--     interval_place v n i     the place beside whose point the interval of place i is written
--     BuildState              the tables, and how many edges they hold
--     FaceState               the state within a face, with the face's edges at place 0 and at the place before
--     Progress                going on, or stopped by a ground with the tables as they stand then
--     turn, places            one place, and k places
--     perimeter               a whole face: its places, the first edge connected to the last, its row
use Rattle.std.specs.Prelude.{[], ◌∷◌, ℕ, zero, suc, ◌+◌, ◌*◌, get_or}
use Rattle.std.specs.Float.{nan}
use Rattle.t_spline.specs.declared.TnurccFace.{TnurccFace}
use Rattle.perimeters.specs.Places.{next_place}
use Rattle.tables.specs.Layout.{face_width}
use Rattle.tables.specs.Mesh.{Mesh, none, mesh_of}
use Rattle.tables.specs.Rows.{put_row}
use Rattle.tables.specs.Records.{face_words}
use Rattle.built_meshes.specs.Lists.{Lists, size}
use Rattle.built_meshes.specs.Faces.{listed_at}
use Rattle.built_meshes.specs.Edges.{Entered, at, refused, entered, joined}
use Rattle.built_meshes.specs.declared.Version.{Version}
use Rattle.built_meshes.specs.declared.Version.TheVariants.{One, Two}
use Rattle.built_meshes.specs.declared.Ground.{Ground}

pub record BuildState : Type 0 where
  pub mesh : Mesh
  pub edges : ℕ

pub record FaceState : Type 0 where
  pub mesh : Mesh
  pub edges : ℕ
  pub first : ℕ
  pub before : ℕ

pub data Progress (A : Type 0) : Type 0 where
  on : A → Progress A
  stopped : Ground → Mesh → Progress A

-- place 0 has no place before it yet
abbrev pub chained : ℕ → Mesh → ℕ → ℕ → Mesh
unfolding joined
chained zero m e o = m
chained (suc i) m e o = joined m e o

abbrev pub first_edge : ℕ → ℕ → ℕ → ℕ
first_edge zero e first = e
first_edge (suc i) e first = first

unfoldable pub turned : FaceState → ℕ → Entered → Progress FaceState
unfolding joined
turned r i (at m k e) = on (record { mesh = chained i m e r.before; edges = k; first = first_edge i e r.first; before = e })
turned r i (refused g) = stopped g r.mesh

abbrev pub interval_place : Version → ℕ → ℕ → ℕ
interval_place One n i = i
interval_place Two n i = next_place n i

-- place i of face f, whose n listed points stand from a on
unfoldable pub turn : Lists → ℕ → ℕ → ℕ → ℕ → FaceState → Progress FaceState
unfolding turned entered
turn l f a n i r =
    turned r i
    (entered r.mesh r.edges f (listed_at l a i) (listed_at l a (next_place n i)) (get_or l.intervals (a + interval_place l.version n i) nan))

-- k places from place i on
unfoldable pub places : ℕ → Lists → ℕ → ℕ → ℕ → ℕ → Progress FaceState → Progress FaceState
unfolding turn
places zero l f a n i r = r
places (suc k) l f a n i (on r) = places k l f a n (suc i) (turn l f a n i r)
places (suc k) l f a n i (stopped g m) = stopped g m

-- the row of a face: its start edge, no corners
abbrev pub face_of : ℕ → TnurccFace
face_of e = record { edge = e; corners = none ∷ none ∷ none ∷ none ∷ [] }

abbrev pub with_face : Mesh → ℕ → ℕ → Mesh
with_face m f e =
    mesh_of m.positions m.points m.edges m.intervals (put_row m.faces (f * face_width) (face_words (face_of e)))

-- the first edge connected to the last
unfoldable pub closed_up : ℕ → Progress FaceState → Progress BuildState
unfolding joined
closed_up f (on r) = on (record { mesh = with_face (joined r.mesh r.first r.before) f r.first; edges = r.edges })
closed_up f (stopped g m) = stopped g m

unfoldable pub perimeter : Lists → ℕ → ℕ → BuildState → Progress BuildState
unfolding places closed_up
perimeter l f a s =
    closed_up f (places (size l f) l f a (size l f) 0 (on (record { mesh = s.mesh; edges = s.edges; first = 0; before = 0 })))
