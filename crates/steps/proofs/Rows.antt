-- The rows that counts count: what stands in them, and that an audit looks at nothing else. Assumes nothing.
--     SameRows c m m'       the words and numbers of these rows are the same in both tables
--     holds_same            what holds of the mesh in the one holds of the mesh in the other
use mathlib.Core.Path.{◌≡◌, refl, sym, ◌∙◌, ap}
use mathlib.Core.List.{List}
use Prim.Native.Nat.{ℕ, ◌+◌, ◌*◌, ◌/◌, ◌≤◌, ◌<◌}
use native.Mathlib.Nat.{le-min, min-le_left, min-le_right}
use native.Mathlib.Omega.{arith}
use lib.ListN.{length, get_or, take, drop, length-take}
use lib.Seq.{get_or-take, length-take-le, take-append-le, take_all}
use lib.Ieee.{nan}
use Rattle.tables.specs.Mesh.{Mesh, point_rows, edge_rows, face_rows}
use Rattle.tables.specs.Rows.{over}
use Rattle.tables.specs.Records.{position_at}
use Rattle.tables.specs.declared.Counts.{Counts}
use Rattle.closed_meshes.specs.Mesh.{MeshOver}
use Rattle.closed_meshes.specs.Renumbering.{Row}
use Rattle.audited_meshes.specs.Rows.{place, Stands, Fit, HoldsClosed}
use Rattle.audited_meshes.proofs.Rows.{place-below}
use Rattle.tables.specs.Counted.{first_rows, over_rows}
use Rattle.steps.specs.Rows.{Room}

pub room-of-rows : (c : Counts) (t : Mesh) → c.points ≤ point_rows t → c.edges ≤ edge_rows t → c.faces ≤ face_rows t → Room c t
room-of-rows c t hp he hf =
    record {
      positions = omega (arith, min-le_left (length t.positions / 3) (length t.points / 3));
      points = omega (arith, min-le_right (length t.positions / 3) (length t.points / 3));
      edges = omega (arith, min-le_left (length t.edges / 8) (length t.intervals));
      intervals = omega (arith, min-le_right (length t.edges / 8) (length t.intervals));
      faces = omega arith;
    }

module _ {c : Counts} {t : Mesh} (r : Room c t) where
  pub points-fit : c.points ≤ point_rows t
  points-fit = le-min (omega (arith, r.positions)) (omega (arith, r.points))

  pub edges_fit : c.edges ≤ edge_rows t
  edges_fit = le-min (omega (arith, r.edges)) r.intervals

  pub faces-fit : c.faces ≤ face_rows t
  faces-fit = omega (arith, r.faces)

pub record SameRows (c : Counts) (m m' : Mesh) : Type 0 where
  pub positions : (i : ℕ) → i < c.points * 3 → get_or m'.positions i nan ≡ get_or m.positions i nan
  pub points : (i : ℕ) → i < c.points * 3 → get_or m'.points i 0 ≡ get_or m.points i 0
  pub edges : (i : ℕ) → i < c.edges * 8 → get_or m'.edges i 0 ≡ get_or m.edges i 0
  pub intervals : (i : ℕ) → i < c.edges → get_or m'.intervals i nan ≡ get_or m.intervals i nan
  pub faces : (i : ℕ) → i < c.faces * 5 → get_or m'.faces i 0 ≡ get_or m.faces i 0

-- Tables are the same in the rows that are taken of them.
pub same-first_rows : (c : Counts) (m : Mesh) → SameRows c m (first_rows c m)
unfolding first_rows
same-first_rows c m =
    record {
      positions = λ i h. get_or-take _ m.positions i nan h;
      points = λ i h. get_or-take _ m.points i 0 h;
      edges = λ i h. get_or-take _ m.edges i 0 h;
      intervals = λ i h. get_or-take _ m.intervals i nan h;
      faces = λ i h. get_or-take _ m.faces i 0 h;
    }

pub room-first_rows : (c : Counts) (m : Mesh) → Room c m → Room c (first_rows c m)
unfolding first_rows
room-first_rows c m r =
    record {
      positions = rw (length-take-le _ m.positions r.positions) (omega arith);
      points = rw (length-take-le _ m.points r.points) (omega arith);
      edges = rw (length-take-le _ m.edges r.edges) (omega arith);
      intervals = rw (length-take-le _ m.intervals r.intervals) (omega arith);
      faces = rw (length-take-le _ m.faces r.faces) (omega arith);
    }

module _ {c : Counts} {m m' : Mesh} (s : SameRows c m m') where
  pub stands_same : {t : MeshOver (Row c.points) (Row c.edges) (Row c.faces)} → Stands m t → Stands m' t
  stands_same h =
      record {
        valence-stands = λ p. s.points (p.0 * 3) (omega (arith, p.1)) ∙ h.valence-stands p;
        start-stands = λ p. s.points (p.0 * 3 + 1) (omega (arith, p.1)) ∙ h.start-stands p;
        origin-stands = λ e. s.edges (e.0 * 8) (omega (arith, e.1)) ∙ h.origin-stands e;
        dest-stands = λ e. s.edges (e.0 * 8 + 1) (omega (arith, e.1)) ∙ h.dest-stands e;
        left_face-stands = λ e. s.edges (e.0 * 8 + 2) (omega (arith, e.1)) ∙ h.left_face-stands e;
        right_face-stands = λ e. s.edges (e.0 * 8 + 3) (omega (arith, e.1)) ∙ h.right_face-stands e;
        left_cw-stands = λ e. s.edges (e.0 * 8 + 4) (omega (arith, e.1)) ∙ h.left_cw-stands e;
        left_acw-stands = λ e. s.edges (e.0 * 8 + 5) (omega (arith, e.1)) ∙ h.left_acw-stands e;
        right_cw-stands = λ e. s.edges (e.0 * 8 + 6) (omega (arith, e.1)) ∙ h.right_cw-stands e;
        right_acw-stands = λ e. s.edges (e.0 * 8 + 7) (omega (arith, e.1)) ∙ h.right_acw-stands e;
        face_start-stands = λ f. s.faces (f.0 * 5) (omega (arith, f.1)) ∙ h.face_start-stands f;
        corner-stands =
            λ f k. s.faces (f.0 * 5 + (place k + 1)) (omega (arith, f.1, place-below k)) ∙ h.corner-stands f k;
      }

  pub fit_same : Room c m' → Fit m c.points c.edges c.faces → Fit m' c.points c.edges c.faces
  fit_same r h =
      record {
        points-fit = points-fit r;
        edges_fit = edges_fit r;
        faces-fit = faces-fit r;
        x-finite = λ p l. rw (s.positions (p * 3) (omega arith)) (h.x-finite p l);
        y-finite = λ p l. rw (s.positions (p * 3 + 1) (omega arith)) (h.y-finite p l);
        z-finite = λ p l. rw (s.positions (p * 3 + 2) (omega arith)) (h.z-finite p l);
        interval-fit = λ e l. rw (s.intervals e l) (h.interval-fit e l);
        mark-fit = λ p l. rw (s.points (p * 3 + 2) (omega arith)) (h.mark-fit p l);
      }

  -- The same mesh, closed as it is.
  unfoldable pub holds_same : Room c m' → HoldsClosed m c.points c.edges c.faces → HoldsClosed m' c.points c.edges c.faces
  holds_same r h = record { mesh = h.mesh; stands = stands_same h.stands; closed = h.closed; fit = fit_same r h.fit }

-- The room of a mesh that fits its tables.
pub room-of-holds : {m : Mesh} {c : Counts} → HoldsClosed m c.points c.edges c.faces → Room c m
room-of-holds {m} {c} h = room-of-rows c m h.fit.points-fit h.fit.edges_fit h.fit.faces-fit

-- The mesh in the first rows is the mesh in the tables.
unfoldable pub holds-first_rows :
    {m : Mesh} {c : Counts} → HoldsClosed m c.points c.edges c.faces → HoldsClosed (first_rows c m) c.points c.edges c.faces
unfolding holds_same
holds-first_rows {m} {c} h = holds_same (same-first_rows c m) (room-first_rows c m (room-of-holds h)) h

-- Tables of the same first rows hold the same mesh.
pub same-of-first_rows : (c : Counts) (m m' : Mesh) → first_rows c m ≡ first_rows c m' → SameRows c m m'
same-of-first_rows c m m' e =
    let a = same-first_rows c m in
    let b = same-first_rows c m' in
    record {
      positions = λ i h. sym (b.positions i h) ∙ ap (λ t. get_or t.positions i nan) (sym e) ∙ a.positions i h;
      points = λ i h. sym (b.points i h) ∙ ap (λ t. get_or t.points i 0) (sym e) ∙ a.points i h;
      edges = λ i h. sym (b.edges i h) ∙ ap (λ t. get_or t.edges i 0) (sym e) ∙ a.edges i h;
      intervals = λ i h. sym (b.intervals i h) ∙ ap (λ t. get_or t.intervals i nan) (sym e) ∙ a.intervals i h;
      faces = λ i h. sym (b.faces i h) ∙ ap (λ t. get_or t.faces i 0) (sym e) ∙ a.faces i h;
    }

long : {A : Type 0} (n : ℕ) (xs ys : List A) → take n xs ≡ take n ys → n ≤ length xs → n ≤ length ys
long n xs ys e h =
    let l : n ≡ length (take n ys) = sym (length-take-le n xs h) ∙ ap length e in
    omega (arith, length-take n ys, min-le_right n (length ys))

pub room-of-first_rows : (c : Counts) (m m' : Mesh) → first_rows c m ≡ first_rows c m' → Room c m → Room c m'
unfolding first_rows
room-of-first_rows c m m' e r =
    record {
      positions = long _ m.positions m'.positions (ap (λ t. t.positions) e) r.positions;
      points = long _ m.points m'.points (ap (λ t. t.points) e) r.points;
      edges = long _ m.edges m'.edges (ap (λ t. t.edges) e) r.edges;
      intervals = long _ m.intervals m'.intervals (ap (λ t. t.intervals) e) r.intervals;
      faces = long _ m.faces m'.faces (ap (λ t. t.faces) e) r.faces;
    }

-- Tables of exactly the rows that the counts count.
pub record Exact (c : Counts) (n : Mesh) : Type 0 where
  pub positions : length n.positions ≡ c.points * 3
  pub points : length n.points ≡ c.points * 3
  pub edges : length n.edges ≡ c.edges * 8
  pub intervals : length n.intervals ≡ c.edges
  pub faces : length n.faces ≡ c.faces * 5

pub exact-first_rows : (c : Counts) (m : Mesh) → Room c m → Exact c (first_rows c m)
unfolding first_rows
exact-first_rows c m r =
    record {
      positions = length-take-le _ m.positions r.positions;
      points = length-take-le _ m.points r.points;
      edges = length-take-le _ m.edges r.edges;
      intervals = length-take-le _ m.intervals r.intervals;
      faces = length-take-le _ m.faces r.faces;
    }

pub room-of-exact : {c : Counts} {n : Mesh} → Exact c n → Room c n
room-of-exact x =
    record {
      positions = omega (arith, x.positions);
      points = omega (arith, x.points);
      edges = omega (arith, x.edges);
      intervals = omega (arith, x.intervals);
      faces = omega (arith, x.faces);
    }

-- The first elements of a list whose first elements are all of another.
take-over : {A : Type 0} (n : ℕ) (new xs : List A) → length new ≡ n → take n (over n new xs) ≡ new
unfolding over
take-over n new xs e =
    let f : take n new ≡ new = take_all n new (omega arith) in
    rw f (take-append-le n new (drop n xs) (omega arith) ∙ f)

-- Rows that are put over the first rows of tables are the first rows then.
pub first_rows-over_rows : (c : Counts) (n m : Mesh) → Exact c n → first_rows c (over_rows c n m) ≡ n
unfolding first_rows over_rows
first_rows-over_rows c n m x =
    rw (
      take-over _ n.positions m.positions x.positions,
      take-over _ n.points m.points x.points,
      take-over _ n.edges m.edges x.edges,
      take-over _ n.intervals m.intervals x.intervals,
      take-over _ n.faces m.faces x.faces,
    )

take_exact : {A : Type 0} (n : ℕ) (xs : List A) → length xs ≡ n → take n xs ≡ xs
take_exact n xs e = take_all n xs (omega arith)

first_rows-exact : (c : Counts) (n : Mesh) → Exact c n → first_rows c n ≡ n
unfolding first_rows
first_rows-exact c n x =
    rw (
      take_exact _ n.positions x.positions,
      take_exact _ n.points x.points,
      take_exact _ n.edges x.edges,
      take_exact _ n.intervals x.intervals,
      take_exact _ n.faces x.faces,
    )

-- Rows put over the first rows of tables stand there.
module _ (c : Counts) (n m : Mesh) (x : Exact c n) where
  first_rows-both : first_rows c n ≡ first_rows c (over_rows c n m)
  first_rows-both = first_rows-exact c n x ∙ sym (first_rows-over_rows c n m x)

  pub same-over_rows : SameRows c n (over_rows c n m)
  same-over_rows = same-of-first_rows c n (over_rows c n m) first_rows-both

  pub room-over_rows : Room c (over_rows c n m)
  room-over_rows = room-of-first_rows c n (over_rows c n m) first_rows-both (room-of-exact x)

-- The position of a row that is the same.
pub position-same : {c : Counts} {m m' : Mesh} → SameRows c m m' → (p : ℕ) → p < c.points → position_at m'.positions p ≡ position_at m.positions p
position-same s p l =
    rw (s.positions (p * 3) (omega arith), s.positions (p * 3 + 1) (omega arith), s.positions (p * 3 + 2) (omega arith))
