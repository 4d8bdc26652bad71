-- The names after an accepted step. Assumes nothing.
--     step-of-names         names by document 01's rules make the step of closed_meshes
--     named-after           there are such names
use mathlib.Core.Path.{◌≡◌, refl, sym, ◌∙◌, ap, ap₂, subst}
use mathlib.Core.List.{List}
use mathlib.Core.Option.{none, map}
use Prim.Native.Nat.{ℕ, ◌≤◌}
use native.Mathlib.Omega.{arith}
use Rattle.tables.specs.Mesh.{Mesh, origin, dest, corner}
use Rattle.tables.specs.declared.Counts.{Counts}
use Rattle.closed_meshes.specs.Mesh.{Place, place0, place1, place2, place3, Dart, edge, first, face}
use Rattle.closed_meshes.specs.Refinement.{NewPoint, old, mid, face_point, NewEdge, org, dst, join, refined}
use Rattle.closed_meshes.specs.Renumbering.{Row}
use Rattle.closed_meshes.specs.Names.{destination_half_of, joining_edge_of, new_face_of}
use Rattle.closed_meshes.specs.Runs.{new_point_name, new_edge_name, new_face_name, NamedStep}
use Rattle.closed_meshes.proofs.Counting.{row-path}
use Rattle.closed_meshes.proofs.Groupoid.{isomorphism-trans}
use Rattle.closed_meshes.proofs.Isomorphisms.{to-injective, onto}
use Rattle.audited_meshes.specs.Rows.{place, corner_word}
use Rattle.steps.specs.Step.{refined_counts}
use Rattle.tables.specs.Counted.{first_rows}
use Rattle.refined_meshes.specs.declared.Edition.{Edition}
use Rattle.steps.specs.OneStep.{Refinement}
use Rattle.runs.specs.Runs.{lent, NamedMesh, stage, NewNames}
use Rattle.runs.proofs.Readings.{PointsFirst, reading}

module _
    {start c : Counts} (m m' : Mesh) (n : NamedMesh start (lent m c)) {ed : Edition} {order : List ℕ}
    (r : Refinement ed (first_rows c m) c n.holds.mesh n.holds.closed order m')
  where
    -- the rows of kinds
    unfoldable pub point : NewPoint (Row c.points) (Row c.edges) (Row c.faces) → Row (refined_counts c).points
    point x = r.refines.numbering.points.to x

    unfoldable pub edge-no : NewEdge (Row c.edges) → Row (refined_counts c).edges
    edge-no x = r.refines.numbering.edges.to x

    unfoldable pub face-no : Dart (Row c.edges) → Row (refined_counts c).faces
    face-no d = r.refines.numbering.faces.to d

    -- what stands in the tables, by kind
    origin-there : (x : NewEdge (Row c.edges)) → origin m' (edge-no x).0 ≡ (point ((refined n.holds.mesh n.holds.closed).origin x)).0
    unfolding point edge-no
    origin-there x = r.refines.stands.origin-stands _ ∙ ap (λ p. p.0) (r.refines.numbering.origin x)

    dest-there : (x : NewEdge (Row c.edges)) → dest m' (edge-no x).0 ≡ (point ((refined n.holds.mesh n.holds.closed).dest x)).0
    unfolding point edge-no
    dest-there x = r.refines.stands.dest-stands _ ∙ ap (λ p. p.0) (r.refines.numbering.dest x)

    corner-there :
        (d : Dart (Row c.edges)) (k : Place) →
        corner m' (face-no d).0 (place k) ≡ corner_word (map point ((refined n.holds.mesh n.holds.closed).corner d k))
    unfolding point face-no
    corner-there d k = r.refines.stands.corner-stands _ k ∙ ap corner_word (r.refines.numbering.corner d k)

    -- Every corner of a new face is a point.
    pub refined-points-first : PointsFirst m' r.refines.mesh
    refined-points-first =
        onto r.refines.numbering.faces
        (λ f. (k : Place) → r.refines.mesh.corner f k ≡ none → (refined_counts c).points ≤ corner m' f.0 (place k)) go
      where
        go :
            (d : Dart (Row c.edges)) (k : Place) → r.refines.mesh.corner (r.refines.numbering.faces.to d) k ≡ none →
            (refined_counts c).points ≤ corner m' (r.refines.numbering.faces.to d).0 (place k)
        go d place0 e = absurd (let q = sym (r.refines.numbering.corner d place0) ∙ e in let z : ◌≡◌ {A = ℕ} 0 1 = cc in omega arith)
        go d place1 e = absurd (let q = sym (r.refines.numbering.corner d place1) ∙ e in let z : ◌≡◌ {A = ℕ} 0 1 = cc in omega arith)
        go d place2 e = absurd (let q = sym (r.refines.numbering.corner d place2) ∙ e in let z : ◌≡◌ {A = ℕ} 0 1 = cc in omega arith)
        go d place3 e = absurd (let q = sym (r.refines.numbering.corner d place3) ∙ e in let z : ◌≡◌ {A = ℕ} 0 1 = cc in omega arith)

    pub held-points-first : PointsFirst m' r.holds.mesh
    held-points-first = subst (PointsFirst m') (sym r.one-mesh) refined-points-first

    module _ (k : ℕ) (n' : NamedMesh start (lent m' (refined_counts c))) (a : NewNames k n n') where
      pub point-name : (x : NewPoint (Row c.points) (Row c.edges) (Row c.faces)) → n'.names.point (point x) ≡ new_point_name k n.holds.mesh n.names x
      unfolding point
      point-name (old p) = a.old-point p _ (r.refines.old_row p)
      point-name (mid e) = a.midpoint e _ (sym (r.refines.mid_row e))
      point-name (face_point f) = a.face-point f _ (sym (r.refines.centre-row f))

      pub edge-name : (x : NewEdge (Row c.edges)) → n'.names.edge (edge-no x) ≡ new_edge_name k n.holds.mesh n.names x
      unfolding point edge-no
      edge-name (org e) = a.origin-half e _ (r.refines.origin-row e)
      edge-name (dst e) =
          a.destination-half e (edge-no (dst e)) (origin-there (dst e) ∙ sym (r.refines.mid_row e))
          (dest-there (dst e) ∙ r.refines.old_row (n.holds.mesh.dest e) ∙ sym (n.holds.stands.dest-stands e))
      edge-name (join d) =
          a.joining-edge (face n.holds.mesh d) (edge d) (edge-no (join d))
          (origin-there (join d) ∙ sym (r.refines.centre-row (face n.holds.mesh d))) (dest-there (join d) ∙ sym (r.refines.mid_row (edge d)))

      pub face-name : (d : Dart (Row c.edges)) → n'.names.face (face-no d) ≡ new_face_name k n.holds.mesh n.names d
      unfolding point face-no
      face-name d =
          a.new-face (face n.holds.mesh d) (first n.holds.mesh d) (face-no d)
          (corner-there d place0 ∙ sym (r.refines.centre-row (face n.holds.mesh d)))
          (corner-there d place2 ∙ r.refines.old_row (first n.holds.mesh d))

      -- Names by the rules make a step.
      unfoldable pub step-of-names : NamedStep k (stage n) (stage n')
      unfolding isomorphism-trans reading point edge-no face-no
      step-of-names =
          record {
            numbering =
                isomorphism-trans r.refines.numbering
                (reading m' r.refines.mesh n'.holds.mesh r.refines.stands n'.holds.stands refined-points-first
                n'.corner-is-point);
            point-name = point-name;
            edge-name = edge-name;
            face-name = face-name;
          }

    -- Rows of one number are of one kind.
    point-is : (p : Row (refined_counts c).points) (x : NewPoint (Row c.points) (Row c.edges) (Row c.faces)) → p.0 ≡ (point x).0 → r.refines.numbering.points.from p ≡ x
    unfolding point
    point-is p x e = ap r.refines.numbering.points.from (row-path _ _ e) ∙ r.refines.numbering.points.from-to x

    same_point : (x y : NewPoint (Row c.points) (Row c.edges) (Row c.faces)) → (point x).0 ≡ (point y).0 → x ≡ y
    unfolding point
    same_point x y e = to-injective r.refines.numbering.points x y (row-path _ _ e)

    edge-is : (e : Row (refined_counts c).edges) (x : NewEdge (Row c.edges)) → e.0 ≡ (edge-no x).0 → r.refines.numbering.edges.from e ≡ x
    unfolding edge-no
    edge-is e x q = ap r.refines.numbering.edges.from (row-path _ _ q) ∙ r.refines.numbering.edges.from-to x

    module _ (k : ℕ) where
      -- The names of kinds.
      unfoldable pub named-after : NamedMesh start (lent m' (refined_counts c))
      named-after =
          record {
            holds = r.holds;
            corner-is-point = held-points-first;
            names =
                record {
                  point = λ p. new_point_name k n.holds.mesh n.names (r.refines.numbering.points.from p);
                  edge = λ e. new_edge_name k n.holds.mesh n.names (r.refines.numbering.edges.from e);
                  face = λ f. new_face_name k n.holds.mesh n.names (r.refines.numbering.faces.from f);
                };
          }

      -- the destination half, found by its ends
      destination-half-is :
          (e : Row c.edges) (e' : Row (refined_counts c).edges) → origin m' e'.0 ≡ dest m' e.0 → dest m' e'.0 ≡ dest m e.0 →
          new_edge_name k n.holds.mesh n.names (r.refines.numbering.edges.from e') ≡ destination_half_of k (n.names.edge e)
      unfolding point edge-no
      destination-half-is e =
          onto r.refines.numbering.edges
          (λ e'. origin m' e'.0 ≡ dest m' e.0 → dest m' e'.0 ≡ dest m e.0 →
          new_edge_name k n.holds.mesh n.names (r.refines.numbering.edges.from e') ≡ destination_half_of k (n.names.edge e))
          λ x ho hd. ap (new_edge_name k n.holds.mesh n.names) (r.refines.numbering.edges.from-to x) ∙ go x (sym (origin-there x) ∙ ho ∙ r.refines.mid_row e)
        where
          go :
              (x : NewEdge (Row c.edges)) → (point ((refined n.holds.mesh n.holds.closed).origin x)).0 ≡ (r.refines.numbering.points.to (mid e)).0 →
              new_edge_name k n.holds.mesh n.names x ≡ destination_half_of k (n.names.edge e)
          go (org i) q = absurd (let w = same_point (old (n.holds.mesh.origin i)) (mid e) q in let z : ◌≡◌ {A = ℕ} 0 1 = cc in omega arith)
          go (dst i) q = let w = same_point (mid i) (mid e) q in let v : i ≡ e = cc in ap (λ i. destination_half_of k (n.names.edge i)) v
          go (join d) q =
              absurd (let w = same_point (face_point (face n.holds.mesh d)) (mid e) q in let z : ◌≡◌ {A = ℕ} 0 1 = cc in omega arith)

      -- the joining edge, found by its ends
      joining-edge-is :
          (f : Row c.faces) (e : Row c.edges) (e' : Row (refined_counts c).edges) → origin m' e'.0 ≡ corner m' f.0 0 →
          dest m' e'.0 ≡ dest m' e.0 →
          new_edge_name k n.holds.mesh n.names (r.refines.numbering.edges.from e') ≡ joining_edge_of k (n.names.face f) (n.names.edge e)
      unfolding point edge-no
      joining-edge-is f e =
          onto r.refines.numbering.edges
          (λ e'. origin m' e'.0 ≡ corner m' f.0 0 → dest m' e'.0 ≡ dest m' e.0 →
          new_edge_name k n.holds.mesh n.names (r.refines.numbering.edges.from e') ≡ joining_edge_of k (n.names.face f) (n.names.edge e))
          λ x ho hd.
          ap (new_edge_name k n.holds.mesh n.names) (r.refines.numbering.edges.from-to x)
          ∙ go x (sym (origin-there x) ∙ ho ∙ r.refines.centre-row f) (sym (dest-there x) ∙ hd ∙ r.refines.mid_row e)
        where
          go :
              (x : NewEdge (Row c.edges)) → (point ((refined n.holds.mesh n.holds.closed).origin x)).0 ≡ (point (face_point f)).0 →
              (point ((refined n.holds.mesh n.holds.closed).dest x)).0 ≡ (point (mid e)).0 →
              new_edge_name k n.holds.mesh n.names x ≡ joining_edge_of k (n.names.face f) (n.names.edge e)
          go (org i) q q' = absurd (let w = same_point (old (n.holds.mesh.origin i)) (face_point f) q in let z : ◌≡◌ {A = ℕ} 0 1 = cc in omega arith)
          go (dst i) q q' = absurd (let w = same_point (mid i) (face_point f) q in let z : ◌≡◌ {A = ℕ} 0 1 = cc in omega arith)
          go (join d) q q' =
              let w = same_point (face_point (face n.holds.mesh d)) (face_point f) q in
              let w' = same_point (mid (edge d)) (mid e) q' in
              let v : face n.holds.mesh d ≡ f = cc in
              let v' : edge d ≡ e = cc in
              ap₂ (λ f e. joining_edge_of k (n.names.face f) (n.names.edge e)) v v'

      -- the new face, found by its corners
      new-face-is :
          (f : Row c.faces) (p : Row c.points) (f' : Row (refined_counts c).faces) → corner m' f'.0 0 ≡ corner m' f.0 0 →
          corner m' f'.0 2 ≡ p.0 →
          new_face_name k n.holds.mesh n.names (r.refines.numbering.faces.from f') ≡ new_face_of k (n.names.face f) (n.names.point p)
      unfolding point face-no
      new-face-is f p =
          onto r.refines.numbering.faces
          (λ f'. corner m' f'.0 0 ≡ corner m' f.0 0 → corner m' f'.0 2 ≡ p.0 →
          new_face_name k n.holds.mesh n.names (r.refines.numbering.faces.from f') ≡ new_face_of k (n.names.face f) (n.names.point p))
          λ d h0 h2.
          ap (new_face_name k n.holds.mesh n.names) (r.refines.numbering.faces.from-to d)
          ∙ (let w = same_point (face_point (face n.holds.mesh d)) (face_point f) (sym (corner-there d place0) ∙ h0 ∙ r.refines.centre-row f) in
          let w' = same_point (old (first n.holds.mesh d)) (old p) (sym (corner-there d place2) ∙ h2 ∙ sym (r.refines.old_row p)) in
          let v : face n.holds.mesh d ≡ f = cc in
          let v' : first n.holds.mesh d ≡ p = cc in
          ap₂ (λ f p. new_face_of k (n.names.face f) (n.names.point p)) v v')

      pub new-names : NewNames k n named-after
      unfolding named-after point edge-no
      new-names =
          record {
            old-point = λ p p' e. ap (new_point_name k n.holds.mesh n.names) (point-is p' (old p) (e ∙ sym (r.refines.old_row p)));
            origin-half = λ e e' q. ap (new_edge_name k n.holds.mesh n.names) (edge-is e' (org e) (q ∙ sym (r.refines.origin-row e)));
            midpoint = λ e p' q. ap (new_point_name k n.holds.mesh n.names) (point-is p' (mid e) (q ∙ r.refines.mid_row e));
            destination-half = destination-half-is;
            face-point = λ f p' q. ap (new_point_name k n.holds.mesh n.names) (point-is p' (face_point f) (q ∙ r.refines.centre-row f));
            joining-edge = joining-edge-is;
            new-face = new-face-is;
          }
