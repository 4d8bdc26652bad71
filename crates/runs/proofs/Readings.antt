-- Two readings of the same rows are one mesh. Assumes nothing.
--     reading               meshes that stand in tables of the same rows are isomorphic, each row to itself
--     matching-same         with the same names they match
--     first-reading         tables that pass the audit have a reading
use mathlib.Core.Path.{◌≡◌, refl, sym, ◌∙◌, ap}
use mathlib.Core.Logic.{◌⊎◌, inl, inr}
use mathlib.Core.Option.{Option, none, some, map}
use Prim.Native.Nat.{ℕ, ◌+◌, ◌*◌, ◌≤◌, ◌<◌}
use native.Mathlib.Omega.{arith}
use native.Mathlib.Decide.{dec_lt}
use Rattle.tables.specs.Mesh.{Mesh, none as no_row, corner}
use Rattle.tables.specs.declared.Counts.{Counts}
use Rattle.closed_meshes.specs.Mesh.{MeshOver, Place}
use Rattle.closed_meshes.specs.Renumbering.{Isomorphism, Row}
use Rattle.closed_meshes.proofs.Counting.{row-path}
use Rattle.closed_meshes.proofs.Groupoid.{identity}
use Rattle.closed_meshes.proofs.Runs.{Matching}
use Rattle.audited_meshes.specs.Audited.{Audited}
use Rattle.audited_meshes.specs.Rows.{place, corner_word, Stands, HoldsClosed}
use Rattle.audited_meshes.proofs.Rows.{corner_of, place-below, rows, rows-stand, rows_fit}
use Rattle.audited_meshes.proofs.Closed.{closed-rows}
use Rattle.steps.proofs.Rows.{SameRows, stands_same}
use Rattle.runs.specs.Runs.{lent, NamedMesh, stage, SameNames}

-- a corner that is the number of a point is that point
abbrev pub PointsFirst : {np ne nf : ℕ} → Mesh → MeshOver (Row np) (Row ne) (Row nf) → Type 0
PointsFirst {np} {ne} {nf} m t = (f : Row nf) (k : Place) → t.corner f k ≡ none → np ≤ corner m f.0 (place k)

pub same-corner :
    {np : ℕ} (w : ℕ) (o o' : Option (Row np)) → w ≡ corner_word o → w ≡ corner_word o' → (o ≡ none → np ≤ w) → (o' ≡ none → np ≤ w) →
    o' ≡ map (λ x. x) o
same-corner w none none h h' l l' = refl
same-corner w none (some q) h h' l l' = absurd (omega (arith, l refl, q.1))
same-corner w (some p) none h h' l l' = absurd (omega (arith, l' refl, p.1))
same-corner w (some p) (some q) h h' l l' = ap some (row-path q p (sym h' ∙ h))

-- The meshes that stand in the same tables.
module _
    (m : Mesh) {np ne nf : ℕ} (t t' : MeshOver (Row np) (Row ne) (Row nf)) (s : Stands m t) (s' : Stands m t') (l : PointsFirst m t)
    (l' : PointsFirst m t')
  where
    unfoldable pub reading : Isomorphism t t'
    reading =
        record {
          points = identity (Row np);
          edges = identity (Row ne);
          faces = identity (Row nf);
          valence = λ p. sym (s'.valence-stands p) ∙ s.valence-stands p;
          origin = λ e. row-path _ _ (sym (s'.origin-stands e) ∙ s.origin-stands e);
          dest = λ e. row-path _ _ (sym (s'.dest-stands e) ∙ s.dest-stands e);
          left = λ e. row-path _ _ (sym (s'.left_face-stands e) ∙ s.left_face-stands e);
          right = λ e. row-path _ _ (sym (s'.right_face-stands e) ∙ s.right_face-stands e);
          left_cw = λ e. row-path _ _ (sym (s'.left_cw-stands e) ∙ s.left_cw-stands e);
          left_acw = λ e. row-path _ _ (sym (s'.left_acw-stands e) ∙ s.left_acw-stands e);
          right_cw = λ e. row-path _ _ (sym (s'.right_cw-stands e) ∙ s.right_cw-stands e);
          right_acw = λ e. row-path _ _ (sym (s'.right_acw-stands e) ∙ s.right_acw-stands e);
          corner =
              λ f k.
              same-corner (corner m f.0 (place k)) (t.corner f k) (t'.corner f k) (s.corner-stands f k) (s'.corner-stands f k) (l f k)
              (l' f k);
        }

-- Two readings of tables of the same rows, with the same names, match.
module _ {first c : Counts} {m m' : Mesh} (s : SameRows c m m') (n : NamedMesh first (lent m c)) (n' : NamedMesh first (lent m' c)) where
  pub points-first-same : PointsFirst m' n.holds.mesh
  points-first-same f k e = rw (s.faces (f.0 * 5 + (place k + 1)) (omega (arith, f.1, place-below k))) (n.corner-is-point f k e)

  unfoldable pub reading-same : Isomorphism n.holds.mesh n'.holds.mesh
  unfolding reading
  reading-same =
      reading m' n.holds.mesh n'.holds.mesh (stands_same s n.holds.stands) n'.holds.stands points-first-same
      n'.corner-is-point

  unfoldable pub matching-same : SameNames n n' → Matching (stage n) (stage n')
  unfolding reading-same
  matching-same a =
      record {
        isomorphism = reading-same;
        point = λ p. a.points p p refl;
        edge = λ e. a.edges e e refl;
        face = λ f. a.faces f f refl;
      }

-- what a corner's word stands for: a point if it is the number of one
record Chosen (w np : ℕ) : Type 0 where
  choice : (w < np) ⊎ (w ≡ no_row)
  point-first : corner_of w choice ≡ none → np ≤ w

chosen : (w np : ℕ) → (w < np) ⊎ (w ≡ no_row) → Chosen w np
chosen w np h = go h (dec_lt w np)
  where
    go : (w < np) ⊎ (w ≡ no_row) → Dec (w < np) → Chosen w np
    go h (yes l) = record { choice = inl l; point-first = λ e. absurd (let z : ◌≡◌ {A = ℕ} 0 1 = cc in omega arith) }
    go (inl l) (no k) = absurd (k l)
    go (inr e) (no k) = record { choice = inr e; point-first = λ e. omega arith }

-- The mesh in tables that pass the audit, each corner read as a point if it is the number of one.
module _ (m : Mesh) (np ne nf : ℕ) (a : Audited m np ne nf) where
  corner-chosen : (f k : ℕ) → f < nf → k < 4 → Chosen (corner m f k) np
  corner-chosen f k l j = chosen (corner m f k) np (a.corner-fit f k l j)

  points-chosen : Audited m np ne nf
  points-chosen =
      record {
        points-fit = a.points-fit;
        edges_fit = a.edges_fit;
        faces-fit = a.faces-fit;
        start-in-range = a.start-in-range;
        edge-in-range = a.edge-in-range;
        face_start-in-range = a.face_start-in-range;
        x-finite = a.x-finite;
        y-finite = a.y-finite;
        z-finite = a.z-finite;
        interval-fit = a.interval-fit;
        ends-differ = a.ends-differ;
        sides-differ = a.sides-differ;
        one-edge = a.one-edge;
        left-acw = a.left-acw;
        right-acw = a.right-acw;
        left-cw = a.left-cw;
        right-cw = a.right-cw;
        face-walked = a.face-walked;
        point-walked = a.point-walked;
        corner-fit = λ f k l j. (corner-chosen f k l j).choice;
        mark-fit = a.mark-fit;
      }

  pub first-reading : HoldsClosed m np ne nf
  unfolding points-chosen
  first-reading =
      record {
        mesh = rows m points-chosen;
        stands = rows-stand m points-chosen;
        closed = closed-rows m points-chosen;
        fit = rows_fit m points-chosen;
      }

  pub first-points-first : PointsFirst m first-reading.mesh
  unfolding first-reading points-chosen
  first-points-first f k e = (corner-chosen f.0 (place k) f.1 (place-below k)).point-first e
