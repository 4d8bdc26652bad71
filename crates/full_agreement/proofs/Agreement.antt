-- The correspondence of two named meshes that steps of the second edition keep. Assumes nothing.
--     Agreement n n'         the meshes match by name, and the match keeps start edges, positions, intervals and marks; their counts and
--                            the lengths of their tables are the same
--     agreement-rows         the same rows agree, in any tables of the same lengths
--     agreement-same         the same names agree
--     agreement-new          one accepted step of each keeps it
--     by_name                what it says of rows of one name
use mathlib.Core.Path.{◌≡◌, refl, sym, ◌∙◌, ap}
use mathlib.Core.List.{List}
use Prim.Native.Nat.{ℕ, ◌+◌, ◌*◌, ◌≤◌}
use native.Mathlib.Omega.{arith}
use Rattle.tables.specs.Mesh.{Mesh, none, mark, interval}
use Rattle.tables.specs.Records.{position_at}
use Rattle.tables.specs.Counted.{first_rows}
use Rattle.tables.specs.declared.Counts.{Counts}
use Rattle.closed_meshes.specs.Mesh.{MeshOver}
use Rattle.closed_meshes.specs.Renumbering.{Isomorphism, KeepsStarts, Row}
use Rattle.closed_meshes.specs.Shared.{NamesDiffer}
use Rattle.closed_meshes.proofs.Counting.{row-path}
use Rattle.closed_meshes.proofs.Groupoid.{isomorphism-sym, isomorphism-trans}
use Rattle.closed_meshes.proofs.Starts.{keeps-sym, keeps-trans, keeps-lifted}
use Rattle.closed_meshes.proofs.Runs.{Matching, matching-step}
use Rattle.audited_meshes.specs.Rows.{Stands, Fit}
use Rattle.refined_meshes.specs.declared.Edition.TheVariants.{Second}
use Rattle.steps.specs.Step.{refined_counts}
use Rattle.steps.specs.OneStep.{Refinement}
use Rattle.steps.proofs.Rows.{SameRows, same-first_rows, stands_same, fit_same, room-first_rows, room-of-holds, position-same}
use Rattle.runs.specs.Lengths.{SameLengths}
use Rattle.runs.specs.Runs.{Lent, lent, NamedMesh, stage, NewNames, SameNames}
use Rattle.runs.proofs.Lengths.{lengths-refl, lengths-trans}
use Rattle.runs.proofs.Names.{step-of-names, refined-points-first}
use Rattle.runs.proofs.Readings.{PointsFirst, points-first-same, reading, reading-same, matching-same}
use Rattle.runs.proofs.Naming.{same-names-sym}
use Rattle.runs.proofs.Runs.{matching-trans, same-rows-refl}
use Rattle.renumbered_meshes.specs.Renumbered.{Kept}
use Rattle.full_agreement.specs.Agreement.{SameByName}
use Rattle.full_agreement.proofs.OnKinds.{MarksKept, position-lifted, mark-lifted, interval-lifted}

pub record Agreement {first : Counts} {l l' : Lent} (n : NamedMesh first l) (n' : NamedMesh first l') : Type 0 where
  pub counts : l.counts ≡ l'.counts
  pub lengths : SameLengths l.tables l'.tables
  pub matching : Matching (stage n) (stage n')
  pub kept : Kept l.tables l'.tables matching.isomorphism
  pub marks : MarksKept l.tables l'.tables matching.isomorphism

-- ---- readings of the same rows

-- Two readings of one table have the same start edges.
keeps-reading :
    (m : Mesh) {np ne nf : ℕ} (t t' : MeshOver (Row np) (Row ne) (Row nf)) (s : Stands m t) (s' : Stands m t') (l : PointsFirst m t)
    (l' : PointsFirst m t') → KeepsStarts (reading m t t' s s' l l')
unfolding reading
keeps-reading m t t' s s' l l' =
    record {
      start = λ p. row-path _ _ (sym (s'.start-stands p) ∙ s.start-stands p);
      face_start = λ f. row-path _ _ (sym (s'.face_start-stands f) ∙ s.face_start-stands f);
    }

mark-same : {c : Counts} {m m' : Mesh} → SameRows c m m' → (p : Row c.points) → mark m' p.0 ≡ mark m p.0
mark-same s p = s.points (p.0 * 3 + 2) (omega (arith, p.1))

module _ {first c : Counts} {m m' : Mesh} (s : SameRows c m m') (n : NamedMesh first (lent m c)) (n' : NamedMesh first (lent m' c)) (a : SameNames n n') where
  -- The same rows with the same names agree.
  pub agreement-rows : SameLengths m m' → Agreement n n'
  unfolding reading-same reading matching-same
  agreement-rows e =
      record {
        counts = refl;
        lengths = e;
        matching = matching-same s n n' a;
        kept =
            record {
              starts-kept = keeps-reading m' n.holds.mesh n'.holds.mesh (stands_same s n.holds.stands) n'.holds.stands
                  (points-first-same s n n') n'.corner-is-point;
              position-kept = λ p. position-same s p.0 p.1;
              interval-kept = λ e. s.intervals e.0 e.1;
            };
        marks = mark-same s;
      }

-- Agreements compose.
module _ {first : Counts} {l l' l'' : Lent} {n : NamedMesh first l} {n' : NamedMesh first l'} {n'' : NamedMesh first l''} where
  agreement-trans : Agreement n n' → Agreement n' n'' → Agreement n n''
  unfolding matching-trans isomorphism-trans
  agreement-trans a b =
      record {
        counts = a.counts ∙ b.counts;
        lengths = lengths-trans a.lengths b.lengths;
        matching = matching-trans a.matching b.matching;
        kept =
            record {
              starts-kept = keeps-trans a.kept.starts-kept b.kept.starts-kept;
              position-kept = λ p. b.kept.position-kept (a.matching.isomorphism.points.to p) ∙ a.kept.position-kept p;
              interval-kept = λ e. b.kept.interval-kept (a.matching.isomorphism.edges.to e) ∙ a.kept.interval-kept e;
            };
        marks = λ p. b.marks (a.matching.isomorphism.points.to p) ∙ a.marks p;
      }

-- Under the same names the same meshes agree.
module _ {first : Counts} {l l' : Lent} {n : NamedMesh first l} {n' : NamedMesh first l'} where
  pub agreement-same : Agreement n n' → (o : NamedMesh first l) (o' : NamedMesh first l') → SameNames n o → SameNames n' o' → Agreement o o'
  agreement-same a o o' s s' =
      agreement-trans (agreement-rows (same-rows-refl l.counts l.tables) o n (same-names-sym s) (lengths-refl l.tables))
      (agreement-trans a (agreement-rows (same-rows-refl l'.counts l'.tables) n' o' s' (lengths-refl l'.tables)))

-- ---- one accepted step of each

-- The rows that counts count hold what the tables hold.
module _
    {c c' : Counts} (m m' : Mesh) {t : MeshOver (Row c.points) (Row c.edges) (Row c.faces)}
    {t' : MeshOver (Row c'.points) (Row c'.edges) (Row c'.faces)} (i : Isomorphism t t')
  where
    pub kept-first_rows : Kept m m' i → Kept (first_rows c m) (first_rows c' m') i
    kept-first_rows k =
        let s = same-first_rows c m in
        let s' = same-first_rows c' m' in
        record {
          starts-kept = k.starts-kept;
          position-kept = λ p.
              position-same s' (i.points.to p).0 (i.points.to p).1 ∙ k.position-kept p ∙ sym (position-same s p.0 p.1);
          interval-kept = λ e.
              s'.intervals (i.edges.to e).0 (i.edges.to e).1 ∙ k.interval-kept e ∙ sym (s.intervals e.0 e.1);
        }

    marks-first_rows : MarksKept m m' i → MarksKept (first_rows c m) (first_rows c' m') i
    marks-first_rows k p =
        mark-same (same-first_rows c' m') (i.points.to p) ∙ k p ∙ sym (mark-same (same-first_rows c m) p)

-- What stands in the tables stands in their first rows, and fits.
module _ {first c : Counts} {m : Mesh} (n : NamedMesh first (lent m c)) where
  pub stands-first_rows : Stands (first_rows c m) n.holds.mesh
  stands-first_rows = stands_same (same-first_rows c m) n.holds.stands

  pub fit-first_rows : Fit (first_rows c m) c.points c.edges c.faces
  fit-first_rows = fit_same (same-first_rows c m) (room-first_rows c m (room-of-holds n.holds)) n.holds.fit

module _
    {first c c' : Counts} (m m' w w' : Mesh) (n : NamedMesh first (lent m c)) (n' : NamedMesh first (lent m' c')) (a : Agreement n n')
    (few : c.faces ≤ none) (few' : c'.faces ≤ none) {order order' : List ℕ}
    (r : Refinement Second (first_rows c m) c n.holds.mesh n.holds.closed order w)
    (r' : Refinement Second (first_rows c' m') c' n'.holds.mesh n'.holds.closed order' w')
    (starts : KeepsStarts r.refines.numbering) (starts' : KeepsStarts r'.refines.numbering)
    (k : ℕ) (o : NamedMesh first (lent w (refined_counts c))) (o' : NamedMesh first (lent w' (refined_counts c'))) (b : NewNames k n o)
    (b' : NewNames k n' o')
  where
    i : Isomorphism n.holds.mesh n'.holds.mesh
    i = a.matching.isomorphism

    pub agreement-new : SameLengths w w' → Agreement o o'
    unfolding i matching-step step-of-names reading isomorphism-trans isomorphism-sym
    agreement-new e =
        let d = n.holds.closed in
        let d' = n'.holds.closed in
        let kept = kept-first_rows m m' i a.kept in
        let marks = marks-first_rows m m' i a.marks in
        let s = stands-first_rows n in
        let s' = stands-first_rows n' in
        let fit = fit-first_rows n in
        let fit' = fit-first_rows n' in
        let N = r.refines.numbering in
        let read =
        keeps-reading w r.refines.mesh o.holds.mesh r.refines.stands o.holds.stands (refined-points-first m w n r) o.corner-is-point in
        let read' =
        keeps-reading w' r'.refines.mesh o'.holds.mesh r'.refines.stands o'.holds.stands (refined-points-first m' w' n' r')
        o'.corner-is-point in
        record {
          counts = ap refined_counts a.counts;
          lengths = e;
          matching = matching-step k (stage n) (stage n') (stage o) (stage o') a.matching (step-of-names m w n r k o b) (step-of-names m' w' n' r' k o' b');
          kept =
              record {
                starts-kept = keeps-trans (keeps-sym (keeps-trans starts read)) (keeps-trans (keeps-lifted d d' i kept.starts-kept) (keeps-trans starts' read'));
                position-kept = λ p.
                    position-lifted d d' s s' fit fit' i kept few few' marks r r' (N.points.from p)
                    ∙ ap (λ (q : Row (refined_counts c).points). position_at w.positions q.0) (N.points.to-from p);
                interval-kept = λ x.
                    interval-lifted d d' s s' fit fit' i kept few few' marks r r' (N.edges.from x)
                    ∙ ap (λ (q : Row (refined_counts c).edges). interval w q.0) (N.edges.to-from x);
              };
          marks = λ p.
              mark-lifted d d' s s' fit fit' i kept few few' marks r r' (N.points.from p)
              ∙ ap (λ (q : Row (refined_counts c).points). mark w q.0) (N.points.to-from p);
        }

-- ---- rows of one name

module _ {first : Counts} {l l' : Lent} {n : NamedMesh first l} {n' : NamedMesh first l'} (a : Agreement n n') (d : NamesDiffer (stage n')) where
  -- The row of a name is the one that corresponds.
  point-of : (p : Row l.counts.points) (p' : Row l'.counts.points) → n.names.point p ≡ n'.names.point p' → a.matching.isomorphism.points.to p ≡ p'
  point-of p p' h = d.points _ _ (a.matching.point p ∙ h)

  edge_of : (e : Row l.counts.edges) (e' : Row l'.counts.edges) → n.names.edge e ≡ n'.names.edge e' → a.matching.isomorphism.edges.to e ≡ e'
  edge_of e e' h = d.edges _ _ (a.matching.edge e ∙ h)

  face-of : (f : Row l.counts.faces) (f' : Row l'.counts.faces) → n.names.face f ≡ n'.names.face f' → a.matching.isomorphism.faces.to f ≡ f'
  face-of f f' h = d.faces _ _ (a.matching.face f ∙ h)

  pub by_name : SameByName n n'
  by_name =
      record {
        positions = λ p p' h.
            sym (a.kept.position-kept p) ∙ ap (λ (q : Row l'.counts.points). position_at l'.tables.positions q.0) (point-of p p' h);
        marks = λ p p' h. sym (a.marks p) ∙ ap (λ (q : Row l'.counts.points). mark l'.tables q.0) (point-of p p' h);
        starts = λ p p' h.
            sym (a.matching.edge (n.holds.mesh.start p))
            ∙ ap n'.names.edge (sym (a.kept.starts-kept.start p) ∙ ap n'.holds.mesh.start (point-of p p' h));
        intervals = λ e e' h. sym (a.kept.interval-kept e) ∙ ap (λ (q : Row l'.counts.edges). interval l'.tables q.0) (edge_of e e' h);
        face-starts = λ f f' h.
            sym (a.matching.edge (n.holds.mesh.face_start f))
            ∙ ap n'.names.edge (sym (a.kept.starts-kept.face_start f) ∙ ap n'.holds.mesh.face_start (face-of f f' h));
      }
