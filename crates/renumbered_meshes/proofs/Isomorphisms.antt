-- An isomorphism of closed meshes that keeps start edges, positions and intervals renumbers, so it keeps all new positions. Assumes
-- nothing.
--     number b                    the bijection b of rows, on their numbers
--     isomorphism-renumbers       the claim
--     same-positions              the claim
use mathlib.Core.Path.{◌≡◌, refl, sym, ◌∙◌, ap, subst}
use Prim.Native.Nat.{ℕ, ◌<◌}
use native.Mathlib.Decide.{dec_lt}
use Rattle.positions.specs.Position.{finite_position}
use Rattle.closed_meshes.specs.Renumbering.{Bijection, Row}
use Rattle.closed_meshes.proofs.Counting.{row-path}
use Rattle.closed_meshes.proofs.Isomorphisms.{to-injective}
use Rattle.tables.specs.Mesh.{valence, interval}
use Rattle.tables.specs.Records.{position_at}
use Rattle.audited_meshes.proofs.Holds.{audited-of-closed}
use Rattle.refined_meshes.specs.declared.Edition.{Edition}
use Rattle.refined_meshes.specs.declared.Edition.TheVariants.{First, Second}
use Rattle.position_rules.specs.FacePoint.{face_point_in}
use Rattle.position_rules.specs.Rules.{edge_point_in, weighted_in, old_point_in}
use Rattle.renumbered_meshes.specs.Claims.{Followed, NumberOf, IsomorphismRenumbers, SamePositions}
use Rattle.renumbered_meshes.proofs.Rules.{rules-follow}

module _ {n n' : ℕ} (b : Bijection (Row n) (Row n')) where
  -- a number that is no row is left as it is
  number_if : (k : ℕ) → Dec (k < n) → ℕ
  number_if k (yes l) = (b.to (k, l)).0
  number_if k (no l) = k

  pub number : ℕ → ℕ
  number k = number_if k (dec_lt k n)

  pub number-row : NumberOf number b
  unfolding number number_if
  number-row x = go (dec_lt x.0 n)
    where
      go : (d : Dec (x.0 < n)) → number_if x.0 d ≡ (b.to x).0
      go (yes l) = ap (λ y. (b.to y).0) (row-path (x.0, l) x refl)
      go (no l) = absurd (l x.1)

  number-below : (k : ℕ) → k < n → number k < n'
  number-below k l = subst (λ j. j < n') (sym (number-row (k, l))) (b.to (k, l)).1

  number-once : (k j : ℕ) → k < n → j < n → number k ≡ number j → k ≡ j
  number-once k j l h e =
      ap (λ x. x.0) (to-injective b (k, l) (j, h) (row-path _ _ (sym (number-row (k, l)) ∙ e ∙ number-row (j, h))))

-- A word that goes along from rows to rows goes along on the numbers.
module _ {n n' k k' : ℕ} (b : Bijection (Row n) (Row n')) (c : Bijection (Row k) (Row k')) where
  word-goes :
      (w w' : ℕ → ℕ) (v : Row n → Row k) (v' : Row n' → Row k') → ((x : Row n) → w x.0 ≡ (v x).0) → ((x : Row n') → w' x.0 ≡ (v' x).0) →
      ((x : Row n) → v' (b.to x) ≡ c.to (v x)) → (i : ℕ) → i < n → w' (number b i) ≡ number c (w i)
  word-goes w w' v v' s s' h i l =
      ap w' (number-row b (i, l)) ∙ s' (b.to (i, l)) ∙ ap (λ y. y.0) (h (i, l)) ∙ sym (ap (number c) (s (i, l)) ∙ number-row c (v (i, l)))

pub isomorphism-renumbers : IsomorphismRenumbers
isomorphism-renumbers m np ne nf m' np' ne' nf' h h' i k =
    let s = h.stands in
    let s' = h'.stands in (
      record {
        point = number i.points;
        edge = number i.edges;
        face = number i.faces;
        point-below = number-below i.points;
        edge-below = number-below i.edges;
        face-below = number-below i.faces;
        point-once = number-once i.points;
        edge-once = number-once i.edges;
        face-once = number-once i.faces;
        valence-goes = λ p l.
            ap (valence m') (number-row i.points (p, l)) ∙ s'.valence-stands (i.points.to (p, l)) ∙ i.valence (p, l) ∙ sym (s.valence-stands (p, l));
        start-goes = word-goes i.points i.edges _ _ h.mesh.start h'.mesh.start s.start-stands s'.start-stands k.starts-kept.start;
        origin-goes = word-goes i.edges i.points _ _ h.mesh.origin h'.mesh.origin s.origin-stands s'.origin-stands i.origin;
        dest-goes = word-goes i.edges i.points _ _ h.mesh.dest h'.mesh.dest s.dest-stands s'.dest-stands i.dest;
        left_face-goes = word-goes i.edges i.faces _ _ h.mesh.left h'.mesh.left s.left_face-stands s'.left_face-stands i.left;
        right_face-goes = word-goes i.edges i.faces _ _ h.mesh.right h'.mesh.right s.right_face-stands s'.right_face-stands i.right;
        left_cw-goes = word-goes i.edges i.edges _ _ h.mesh.left_cw h'.mesh.left_cw s.left_cw-stands s'.left_cw-stands i.left_cw;
        left_acw-goes = word-goes i.edges i.edges _ _ h.mesh.left_acw h'.mesh.left_acw s.left_acw-stands s'.left_acw-stands i.left_acw;
        right_cw-goes = word-goes i.edges i.edges _ _ h.mesh.right_cw h'.mesh.right_cw s.right_cw-stands s'.right_cw-stands i.right_cw;
        right_acw-goes =
            word-goes i.edges i.edges _ _ h.mesh.right_acw h'.mesh.right_acw s.right_acw-stands s'.right_acw-stands i.right_acw;
        face_start-goes =
            word-goes i.faces i.edges _ _ h.mesh.face_start h'.mesh.face_start s.face_start-stands s'.face_start-stands k.starts-kept.face_start;
        position-same = λ p l. ap (position_at m'.positions) (number-row i.points (p, l)) ∙ k.position-kept (p, l);
        interval-same = λ e l. ap (interval m') (number-row i.edges (e, l)) ∙ k.interval-kept (e, l);
      },
      number-row i.points,
      number-row i.edges,
      number-row i.faces,
    )

pub same-positions : SamePositions
unfolding edge_point_in old_point_in
same-positions m np ne nf m' np' ne' nf' h h' i k few few' =
    let w = isomorphism-renumbers m np ne nf m' np' ne' nf' h h' i k in
    let r = w.0 in
    let g : Followed r = rules-follow m np ne nf m' np' ne' nf' (audited-of-closed m h.mesh h.stands h.closed h.fit) few few' r in
    let ep : (e : ℕ) → e < ne → edge_point_in m' ne' (r.edge e) ≡ edge_point_in m ne e =
    g.edge-point (face_point_in m ne) (face_point_in m' ne') g.face-point in
    let weighed : (ed : Edition) (e : ℕ) → e < ne → weighted_in ed m' ne' (r.edge e) ≡ weighted_in ed m ne e = elim [ First ↦ ep | Second ↦ g.edge-middle ] in
    let faces : (f : Row nf) → face_point_in m' ne' (i.faces.to f).0 ≡ face_point_in m ne f.0 =
    λ f. ap (face_point_in m' ne') (sym (w.3 f)) ∙ g.face-point f.0 f.1 in
    let edges : (e : Row ne) → edge_point_in m' ne' (i.edges.to e).0 ≡ edge_point_in m ne e.0 =
    λ e. ap (edge_point_in m' ne') (sym (w.2 e)) ∙ ep e.0 e.1 in
    let olds : (ed : Edition) (p : Row np) → old_point_in ed m' ne' (i.points.to p).0 ≡ old_point_in ed m ne p.0 =
    λ ed p.
    ap (old_point_in ed m' ne') (sym (w.1 p))
    ∙ g.old-point (weighted_in ed m ne) (weighted_in ed m' ne') (face_point_in m ne) (face_point_in m' ne') (weighed ed) g.face-point p.0 p.1 in
    record {
      face-points = faces;
      edge-points = edges;
      old-points = olds;
      face-finite = λ f. ap finite_position (faces f);
      edge-finite = λ e. ap finite_position (edges e);
      old-finite = λ ed p. ap finite_position (olds ed p);
    }
