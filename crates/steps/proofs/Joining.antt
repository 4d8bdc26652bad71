-- Joining intervals are finite with sign bit clear where the face point is finite, and stored numbers are binary64. Assumes nothing.
--     joining-fit              the law of position_rules, at the darts of a closed mesh
--     binary64-first_rows       the intervals of the first rows
use mathlib.Core.Path.{◌≡◌, refl, sym, ◌∙◌, ap, subst}
use mathlib.Core.Bool.{true}
use mathlib.Core.List.{List}
use Prim.Native.Nat.{ℕ, ◌+◌, ◌-◌, ◌≤◌, ◌<◌}
use native.Mathlib.Nat.{min-le_left}
use native.Mathlib.Omega.{arith}
use native.Mathlib.Decide.{dec_lt}
use lib.Dec.{T}
use lib.ListN.{length, get_or, take, length-take, get_or-eq_default}
use lib.Seq.{get_or-take}
use lib.Ieee.{Float, nan, add, fits, binary64}
use lib.Ieee.Fits.{nan-fits}
use Rattle.perimeters.specs.Places.{around, next_place, prev_place}
use Rattle.perimeters.proofs.Laws.{next-below, prev-below, next-prev, next-around}
use Rattle.positions.specs.Position.{finite_position}
use Rattle.tables.specs.Mesh.{Mesh, interval}
use Rattle.tables.specs.declared.Counts.{Counts}
use Rattle.closed_meshes.specs.Mesh.{Dart, edge, face}
use Rattle.closed_meshes.specs.Renumbering.{Row}
use Rattle.audited_meshes.specs.Walks.{back, edges_of, face_walk}
use Rattle.audited_meshes.specs.Audit.{interval_fit}
use Rattle.audited_meshes.specs.Audited.{Audited, FaceWalked}
use Rattle.audited_meshes.specs.Rows.{HoldsClosed}
use Rattle.audited_meshes.proofs.Audited.{face_walk-is}
use Rattle.audited_meshes.proofs.Holds.{audited-of-closed}
use Rattle.refined_meshes.proofs.Places.{place, dart_at-place, place-below, dart_at-next, dart_at-prev}
use Rattle.refined_meshes.proofs.Perimeters.{perimeter-size, perimeter-edge}
use Rattle.position_rules.specs.FacePoint.{face_point_in}
use Rattle.position_rules.specs.Claims.{WholeOrHalf}
use Rattle.position_rules.proofs.Joins.{joining-fits}
use Rattle.tables.specs.Counted.{first_rows}
use Rattle.steps.specs.OneStep.{Binary64}

-- two places on from the place before, counted round, is the next place
around-next : (n i : ℕ) → i < n → around n (prev_place n i + 2) ≡ next_place n i
around-next n i l =
    let j : ℕ = prev_place n i + 1 in
    let two : prev_place n i + 2 ≡ j + 1 = omega arith in
    ap (around n) two ∙ sym (next-around n j) ∙ ap (next_place n) (next-prev n i l)

module _ (m : Mesh) {np ne nf : ℕ} (h : HoldsClosed m np ne nf) (held : (e : ℕ) → T (fits binary64 (interval m e))) (d : Dart (Row ne)) where
  f : Row nf
  f = face h.mesh d

  i : ℕ
  i = place h.closed d

  n : ℕ
  n = h.closed.size f

  es : List ℕ
  es = edges_of (face_walk m ne f.0)

  audited : Audited m np ne nf
  audited = audited-of-closed m h.mesh h.stands h.closed h.fit

  below : i < n
  unfolding i n f
  below = place-below h.closed d

  size_is : length es ≡ n
  unfolding es n
  size_is = perimeter-size m h.stands h.closed f

  came : face_walk m ne f.0 ≡ back es
  unfolding es
  came =
      let w : FaceWalked m ne f.0 = audited.face-walked f.0 f.1 in
      let b : face_walk m ne f.0 ≡ back w.edges = (face_walk-is m ne f.0 w.edges).1 (w.passes, w.at-most-64) in
      b ∙ ap back (sym (ap edges_of b))

  next_edge : get_or es (around (length es) (prev_place n i + 2)) 0 ≡ (edge (h.closed.next d)).0
  unfolding es n i f
  next_edge =
      ap (λ k. get_or es (around k (prev_place n i + 2)) 0) size_is
      ∙ ap (λ j. get_or es j 0) (around-next n i below)
      ∙ perimeter-edge m h.stands h.closed f (next_place n i) (next-below n i below)
      ∙ ap (λ (x : Dart (Row ne)). (edge x).0) (dart_at-next h.closed f i below ∙ ap h.closed.next (dart_at-place h.closed d))

  prev-edge : get_or es (prev_place n i) 0 ≡ (edge (h.closed.prev d)).0
  unfolding es n i f
  prev-edge =
      perimeter-edge m h.stands h.closed f (prev_place n i) (prev-below n i below)
      ∙ ap (λ (x : Dart (Row ne)). (edge x).0) (dart_at-prev h.closed f i below ∙ ap h.closed.prev (dart_at-place h.closed d))

  pub joining-fit :
      finite_position (face_point_in m ne (face h.mesh d).0) ≡ true → (u v : Float) → WholeOrHalf (interval m (edge (h.closed.next d)).0) u →
      WholeOrHalf (interval m (edge (h.closed.prev d)).0) v → interval_fit (add binary64 u v) ≡ true
  unfolding f
  joining-fit whole u v fu fv =
      joining-fits m np ne nf f.0 es (prev_place n i) u v audited held f.1 came (rw size_is (prev-below n i below))
      (subst (λ j. WholeOrHalf (interval m j) u) (sym next_edge) fu) (subst (λ j. WholeOrHalf (interval m j) v) (sym prev-edge) fv) whole

-- The intervals of the first rows, and nothing beyond them.
pub binary64-first_rows : (c : Counts) (m : Mesh) → Binary64 c m → (e : ℕ) → T (fits binary64 (interval (first_rows c m) e))
unfolding first_rows
binary64-first_rows c m b e = go (dec_lt e c.edges)
  where
    go : Dec (e < c.edges) → T (fits binary64 (interval (first_rows c m) e))
    go (yes l) = rw (get_or-take c.edges m.intervals e nan l) (b e l)
    go (no l) =
        rw (get_or-eq_default (take c.edges m.intervals) nan {n = e}
        (omega (arith, length-take c.edges m.intervals, min-le_left c.edges (length m.intervals))))
        (nan-fits binary64)
