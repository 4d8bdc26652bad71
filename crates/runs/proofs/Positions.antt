-- The positions of a run with at most one accepted step, by the names of the points: a name says where its point stands, in the edition
-- of that step. Assumes nothing.
use mathlib.Core.Path.{◌≡◌, refl, sym, ◌∙◌, ap, subst}
use mathlib.Core.List.{List}
use Prim.Native.Nat.{ℕ, suc, ◌+◌, ◌<◌}
use native.Mathlib.Omega.{arith}
use Rattle.positions.specs.declared.Position.{Position}
use Rattle.positions.specs.Position.{zeros}
use Rattle.tables.specs.Mesh.{Mesh}
use Rattle.tables.specs.Records.{position_at}
use Rattle.tables.specs.declared.Counts.{Counts}
use Rattle.closed_meshes.specs.Refinement.{NewPoint, old, mid, face_point}
use Rattle.closed_meshes.specs.Renumbering.{Row}
use Rattle.closed_meshes.specs.Names.{PointName, EdgeName, FaceName, given_point, midpoint_of, face_point_of, given_edge, destination_half_of, joining_edge_of, given_face, new_face_of, given_names}
use Rattle.closed_meshes.specs.Runs.{new_point_name}
use Rattle.closed_meshes.proofs.Isomorphisms.{onto}
use Rattle.refined_meshes.specs.declared.Edition.{Edition}
use Rattle.position_rules.specs.FacePoint.{face_point_in}
use Rattle.position_rules.specs.Rules.{edge_point_in, old_point_in}
use Rattle.tables.specs.Counted.{first_rows}
use Rattle.steps.specs.OneStep.{Refinement, Binary64}
use Rattle.runs.specs.Runs.{Lent, Handed, accepted, editions, lent, NamedMesh, SameNames, Naming}
use Rattle.runs.proofs.Names.{point, point-name}
use Rattle.runs.proofs.Naming.{same-names-trans, EachEdition, along}

-- Where the point of a name stands after one accepted step of the edition ed, from the first mesh m and its counts c.
module _ (ed : Edition) (m : Mesh) (c : Counts) where
  of_edge : EdgeName (Row c.points) (Row c.edges) (Row c.faces) → Position
  of_edge (given_edge e) = edge_point_in m c.edges e.0
  of_edge (destination_half_of k e) = zeros
  of_edge (joining_edge_of k f e) = zeros

  of_face : FaceName (Row c.points) (Row c.edges) (Row c.faces) → Position
  of_face (given_face f) = face_point_in m c.edges f.0
  of_face (new_face_of k f p) = zeros

  pub after_one : PointName (Row c.points) (Row c.edges) (Row c.faces) → Position
  after_one (given_point p) = old_point_in ed m c.edges p.0
  after_one (midpoint_of k e) = of_edge e
  after_one (face_point_of k f) = of_face f

module _
    (ed : Edition) (c : Counts) (a : Mesh) (begun : NamedMesh c (lent a c)) (given : begun.names ≡ given_names)
  where
    -- With no accepted step all is as in the beginning; after one each name says where its point stands.
    pub record Positions (k : ℕ) (l : Lent) (n : NamedMesh c l) : Type 1 where
      pub none-accepted : k ≡ 0 → (lent a c ≡ l) × SameNames begun n
      pub one-accepted :
          k ≡ 1 → (p : Row l.counts.points) → position_at l.tables.positions p.0 ≡ after_one ed (first_rows c a) c (n.names.point p)

    positions-same : (k : ℕ) (l : Lent) (n : NamedMesh c l) → Positions k l n → (n' : NamedMesh c l) → SameNames n n' → Positions k l n'
    positions-same k l n r n' b =
        record {
          none-accepted = λ z. let w = r.none-accepted z in (w.0, same-names-trans w.1 b);
          one-accepted = λ z p. r.one-accepted z p ∙ ap (after_one ed (first_rows c a) c) (sym (b.points p p refl));
        }

    module _ {k : ℕ} {l : Lent} {n : NamedMesh c l} (r : Positions k l n) where
      -- The first accepted step: l is the first mesh still.
      module _ (z : k ≡ 0) {order : List ℕ} (m' : Mesh) (f : Refinement ed (first_rows l.counts l.tables) l.counts n.holds.mesh n.holds.closed order m') where
        here : lent a c ≡ l
        here = (r.none-accepted z).0

        place :
            (x : NewPoint (Row l.counts.points) (Row l.counts.edges) (Row l.counts.faces)) →
            position_at m'.positions (f.refines.numbering.points.to x).0
            ≡ after_one ed (first_rows c a) c (new_point_name (suc k) n.holds.mesh n.names x)
        unfolding after_one of_edge of_face
        place (old p) =
            let q : Row c.points = (p.0, subst (λ x. p.0 < x.counts.points) (sym here) p.1) in
            let name : n.names.point p ≡ given_point q = (r.none-accepted z).1.points q p refl ∙ ap (λ x. x.point q) given in
            f.old-point p
            ∙ ap (λ x. old_point_in ed (first_rows x.counts x.tables) x.counts.edges p.0) (sym here)
            ∙ ap (after_one ed (first_rows c a) c) (sym name)
        place (mid e) =
            let q : Row c.edges = (e.0, subst (λ x. e.0 < x.counts.edges) (sym here) e.1) in
            let name : n.names.edge e ≡ given_edge q = (r.none-accepted z).1.edges q e refl ∙ ap (λ x. x.edge q) given in
            f.edge-point e
            ∙ ap (λ x. edge_point_in (first_rows x.counts x.tables) x.counts.edges e.0) (sym here)
            ∙ ap (λ y. of_edge ed (first_rows c a) c y) (sym name)
        place (face_point g) =
            let q : Row c.faces = (g.0, subst (λ x. g.0 < x.counts.faces) (sym here) g.1) in
            let name : n.names.face g ≡ given_face q = (r.none-accepted z).1.faces q g refl ∙ ap (λ x. x.face q) given in
            f.face-point g
            ∙ ap (λ x. face_point_in (first_rows x.counts x.tables) x.counts.edges g.0) (sym here)
            ∙ ap (λ y. of_face ed (first_rows c a) c y) (sym name)

    pub positions :
        {k : ℕ} {l l' : Lent} {n : NamedMesh c l} {hs : List Handed} {n' : NamedMesh c l'} → Naming k l n hs l' n' →
        Binary64 l.counts l.tables → EachEdition (λ x. x ≡ ed) (editions l hs) → Positions k l n → Positions (k + accepted l hs) l' n'
    unfolding point
    positions =
        along (λ x. x ≡ ed) Positions positions-same λ k l n r x q order m' made n' b.
        let f =
        subst (λ x. Refinement x (first_rows l.counts l.tables) l.counts n.holds.mesh n.holds.closed order m') q (made n.holds) in
        record {
          none-accepted = λ z. absurd (omega arith);
          one-accepted =
              λ z.
              onto f.refines.numbering.points (λ p. position_at m'.positions p.0 ≡ after_one ed (first_rows c a) c (n'.names.point p))
              (λ x.
              place r (omega arith) m' f x ∙ ap (after_one ed (first_rows c a) c) (sym (point-name l.tables m' n f (suc k) n' b x)));
        }
