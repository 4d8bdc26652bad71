-- Steps about a point undo each other on a mesh that passes the audit, since the mesh in its tables is closed. Assumes nothing.
--     next-first                 a border runs head to tail
--     corner                     about the point between an edge of a face and the next one: clockwise to the next, anticlockwise back
--     border-turns               so about the points of the border of a face
--     radial-back                so about a point, along its edges
use mathlib.Core.Path.{◌≡◌, sym, ◌∙◌, ap, ap₂, subst}
use mathlib.Core.Bool.{◌&&◌}
use mathlib.Core.List.{List, [], ◌∷◌, ◌++◌}
use mathlib.Core.Logic.{inl, inr}
use Prim.Native.Nat.{ℕ, zero, suc, ◌+◌, ◌<◌}
use native.Mathlib.Omega.{arith}
use native.Mathlib.Decide.{dec_lt}
use native.Mathlib.Numerals.{add-one}
use borrow.Author.Tests.{eq-eqb, ne_eqb}
use lib.Dec.{ltb}
use lib.ListN.{length, get_or, get_or-append}
use lib.Seq.{get_or_at}
use Rattle.perimeters.specs.Places.{next_place}
use Rattle.perimeters.proofs.Laws.{next_more, next_last}
use Rattle.closed_meshes.specs.Mesh.{MeshOver, Dart, lft, rgt, flip, edge, first, second, face, acw, cw}
use Rattle.closed_meshes.specs.Closed.{Closed}
use Rattle.closed_meshes.specs.Renumbering.{Row}
use Rattle.closed_meshes.proofs.Counting.{row-path}
use Rattle.closed_meshes.proofs.Darts.{flip-flip, edge-flip, first-flip}
use Rattle.tables.specs.Mesh.{Mesh, origin, start, face_start}
use Rattle.audited_meshes.specs.Walks.{back, face_walk, first_point, acw_of_face, borders}
use Rattle.audited_meshes.specs.Audited.{Borders, Audited}
use Rattle.audited_meshes.proofs.Audited.{on-face-is}
use Rattle.audited_meshes.proofs.Rows.{rows, rows-stand}
use Rattle.audited_meshes.proofs.Darts.{number, num, Seen, acw_of_face-dart, acw_of_point-dart, first_point-dart}
use Rattle.audited_meshes.proofs.Closed.{closed-rows}
use Rattle.walks.proofs.Back.{back-first, back_on, back-next}
use Rattle.position_rules.specs.Intervals.{acw_about, cw_about}
use Rattle.position_rules.specs.OldPoint.{radial_edge}
use Rattle.position_rules.specs.Fits.{CornersTurn}
use Rattle.position_rules.proofs.Sums.{radial_edge-none, radial_edge-more}

module _ (m : Mesh) (np ne nf : ℕ) (a : Audited m np ne nf) where
  abbrev t : MeshOver (Row np) (Row ne) (Row nf)
  t = rows m a

  closed : Closed t
  closed = closed-rows m a

  pub seen : Seen m t
  seen = record { stands = rows-stand m a; ends-differ = closed.ends-differ; sides-differ = closed.sides-differ }

  -- A step clockwise about the first point of a dart goes to the neighbour on its other side, one anticlockwise to the one on its own.
  cw_about-dart : (d : Dart (Row ne)) → cw_about m.edges (first t d).0 (num d) ≡ (acw t (flip d)).0
  unfolding cw_about
  cw_about-dart (lft e) =
      rw (eq-eqb (origin m e.0) (t.origin e).0 (seen.stands.origin-stands e)) (seen.stands.right_acw-stands e)
  cw_about-dart (rgt e) =
      rw (ne_eqb (origin m e.0) (t.dest e).0 (λ h. closed.ends-differ e (row-path _ _ (sym (seen.stands.origin-stands e) ∙ h))))
      (seen.stands.left_acw-stands e)

  acw_about-dart : (d : Dart (Row ne)) → acw_about m.edges (first t d).0 (num d) ≡ (cw t d).0
  unfolding acw_about
  acw_about-dart d = acw_of_point-dart seen d

  -- ---- about the point between an edge of a face and the next one

  corner-on-dart : (d : Dart (Row ne)) → cw_about m.edges (second t d).0 (num d) ≡ num (closed.next d)
  corner-on-dart d =
      ap₂ (λ (p e : ℕ). cw_about m.edges p e) (ap number (sym (first-flip t d))) (ap number (sym (edge-flip d)))
      ∙ cw_about-dart (flip d) ∙ ap (λ (x : Dart (Row ne)). (acw t x).0) (flip-flip d) ∙ ap number (sym (closed.edge-next d))

  corner-back-dart : (d : Dart (Row ne)) → acw_about m.edges (second t d).0 (num (closed.next d)) ≡ num d
  corner-back-dart d =
      ap (λ (p : ℕ). acw_about m.edges p (num (closed.next d))) (ap number (sym (closed.first_next d)))
      ∙ acw_about-dart (closed.next d) ∙ ap number (sym (closed.edge-prev (closed.next d))) ∙ ap num (closed.prev-next d)

  -- the next edge about the face of a dart, and where it begins
  next_edge : (d : Dart (Row ne)) → acw_of_face m (face t d).0 (num d) ≡ num (closed.next d)
  next_edge d = acw_of_face-dart seen d ∙ ap number (sym (closed.edge-next d))

  next-begins : (d : Dart (Row ne)) → first_point m (face t d).0 (num (closed.next d)) ≡ (second t d).0
  next-begins d =
      ap (λ (g : ℕ). first_point m g (num (closed.next d))) (sym (ap number (closed.about-faces.cls-step d)))
      ∙ first_point-dart seen (closed.next d) ∙ ap number (closed.first_next d)

  -- the next edge about the face of a dart begins where the dart ends
  pub next-first : (d : Dart (Row ne)) → first_point m (face t d).0 (acw_of_face m (face t d).0 (num d)) ≡ (second t d).0
  next-first d = ap (first_point m (face t d).0) (next_edge d) ∙ next-begins d

  -- the next edge about the face f after e is g, and g begins at p: clockwise about p from e to g, anticlockwise back
  Corner : ℕ → ℕ → ℕ → Type 0
  Corner p e g = (cw_about m.edges p e ≡ g) × (acw_about m.edges p g ≡ e)

  corner-dart : (d : Dart (Row ne)) → Corner (first_point m (face t d).0 (acw_of_face m (face t d).0 (num d))) (num d) (acw_of_face m (face t d).0 (num d))
  unfolding Corner
  corner-dart d =
      rw (next_edge d, next-begins d) (corner-on-dart d, corner-back-dart d)

  corner : (f e : ℕ) → e < ne → Borders m f e → Corner (first_point m f (acw_of_face m f e)) e (acw_of_face m f e)
  corner f e l (inl h) = subst (λ g. Corner (first_point m g (acw_of_face m g e)) e (acw_of_face m g e)) h (corner-dart (lft (e, l)))
  corner f e l (inr h) = subst (λ g. Corner (first_point m g (acw_of_face m g e)) e (acw_of_face m g e)) h (corner-dart (rgt (e, l)))

  module _ (f : ℕ) (es : List ℕ) (came : face_walk m ne f ≡ back es) where
    next-on-border : (j : ℕ) → j < length es → acw_of_face m f (get_or es j 0) ≡ get_or es (next_place (length es) j) 0
    unfolding face_walk
    next-on-border j b = go (dec_lt (j + 1) (length es))
      where
        next : acw_of_face m f (get_or es j 0) ≡ get_or (es ++ face_start m f ∷ []) (j + 1) 0
        next = back-next (acw_of_face m f) (λ e. ltb e ne && borders m f e) (face_start m f) 64 es came j b

        go : Dec (j + 1 < length es) → acw_of_face m f (get_or es j 0) ≡ get_or es (next_place (length es) j) 0
        go (yes h) =
            next ∙ get_or-append es (face_start m f ∷ []) 0 (j + 1) h
            ∙ ap (λ (i : ℕ). get_or es i 0) (add-one j ∙ sym (next_more (length es) j (omega arith)))
        go (no h) =
            let last : j + 1 ≡ length es = omega arith in
            next ∙ get_or_at es (face_start m f) [] 0 (j + 1) (sym last)
            ∙ sym (back-first (acw_of_face m f) (λ e. ltb e ne && borders m f e) (face_start m f) 64 es came).0
            ∙ ap (λ (i : ℕ). get_or es i 0) (sym (next_last (length es) j (omega arith)))

    corner-at : (j : ℕ) → j < length es
        → Corner (first_point m f (get_or es (next_place (length es) j) 0)) (get_or es j 0) (get_or es (next_place (length es) j) 0)
    unfolding face_walk
    corner-at j b =
        let on = (on-face-is m ne f (get_or es j 0)).0 (back_on (acw_of_face m f) (λ e. ltb e ne && borders m f e) (face_start m f) 64 es came j b) in
        subst (λ g. Corner (first_point m f g) (get_or es j 0) g) (next-on-border j b) (corner f (get_or es j 0) on.0 on.1)

    pub border-turns : CornersTurn m.edges (λ j. first_point m f (get_or es (next_place (length es) j) 0)) es (length es)
    unfolding Corner
    border-turns = record { goes_on = λ j b. (corner-at j b).0; goes_back = λ j b. (corner-at j b).1 }

  -- ---- about a point, along its edges

  -- the dart after i steps anticlockwise about a point from its start edge
  turned : Row np → ℕ → Dart (Row ne)
  turned p zero = closed.point_dart p
  turned p (suc i) = flip (closed.prev (turned p i))

  turned-first : (p : Row np) (i : ℕ) → first t (turned p i) ≡ p
  unfolding turned
  turned-first p zero = closed.about-points.cls-start p
  turned-first p (suc i) = closed.about-points.cls-step (turned p i) ∙ turned-first p i

  back-dart : (d : Dart (Row ne)) → cw_about m.edges (first t (flip (closed.prev d))).0 (num (flip (closed.prev d))) ≡ num d
  back-dart d =
      cw_about-dart (flip (closed.prev d)) ∙ ap (λ (x : Dart (Row ne)). (acw t x).0) (flip-flip (closed.prev d))
      ∙ ap number (sym (closed.edge-next (closed.prev d))) ∙ ap num (closed.next-prev d)

  radial-dart : (p : Row np) (i : ℕ) → radial_edge m.edges p.0 (start m p.0) i ≡ num (turned p i)
  unfolding turned
  radial-dart p zero =
      radial_edge-none m.edges p.0 (start m p.0) ∙ seen.stands.start-stands p ∙ ap number (sym (closed.edge-point_dart p))
  radial-dart p (suc i) =
      ap (radial_edge m.edges p.0 (start m p.0)) (sym (add-one i))
      ∙ radial_edge-more m.edges p.0 (start m p.0) i
      ∙ ap₂ (λ (q e : ℕ). acw_about m.edges q e) (ap number (sym (turned-first p i))) (radial-dart p i)
      ∙ acw_about-dart (turned p i)
      ∙ ap number (sym (edge-flip (closed.prev (turned p i)) ∙ closed.edge-prev (turned p i)))

  pub radial-back : (p : ℕ) → p < np → (i : ℕ)
      → cw_about m.edges p (radial_edge m.edges p (start m p) (i + 1)) ≡ radial_edge m.edges p (start m p) i
  unfolding turned
  radial-back p l i =
      ap (cw_about m.edges p) (ap (radial_edge m.edges p (start m p)) (add-one i) ∙ radial-dart (p, l) (suc i))
      ∙ ap (λ (q : Row np). cw_about m.edges q.0 (num (turned (p, l) (suc i)))) (sym (turned-first (p, l) (suc i)))
      ∙ back-dart (turned (p, l) i) ∙ sym (radial-dart (p, l) i)
