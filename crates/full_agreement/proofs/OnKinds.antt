-- One refinement of the second edition on either side: corresponding kinds of rows hold the same numbers. Assumes nothing.
--     MarksKept m m' i      an isomorphism keeps marks
--     position-lifted       positions, by the rules from meshes that correspond
--     mark-lifted           marks
--     interval-lifted       intervals, halves and quarters of the same ones
use mathlib.Core.Path.{◌≡◌, sym, ◌∙◌, ap, ap₂}
use mathlib.Core.List.{List}
use Prim.Native.Nat.{ℕ, ◌≤◌}
use Rattle.tables.specs.Mesh.{Mesh, none, mark, interval}
use Rattle.tables.specs.Records.{position_at}
use Rattle.tables.specs.declared.Counts.{Counts}
use Rattle.closed_meshes.specs.Mesh.{MeshOver, Dart, edge}
use Rattle.closed_meshes.specs.Closed.{Closed}
use Rattle.closed_meshes.specs.Refinement.{NewPoint, old, mid, face_point, NewEdge, org, dst, join}
use Rattle.closed_meshes.specs.Renumbering.{Isomorphism, Row}
use Rattle.closed_meshes.proofs.Isomorphisms.{dart_to, edge-map_dart}
use Rattle.closed_meshes.proofs.RefinementLifts.{lifted, next-to, prev-to}
use Rattle.audited_meshes.specs.Rows.{Stands, Fit}
use Rattle.refined_meshes.specs.declared.Edition.TheVariants.{Second}
use Rattle.refined_meshes.specs.Split.{half}
use Rattle.refined_meshes.specs.Settled.{quarter}
use Rattle.steps.specs.OneStep.{Refinement}
use Rattle.renumbered_meshes.specs.Renumbered.{Kept}
use Rattle.renumbered_meshes.specs.Claims.{SameNew}
use Rattle.renumbered_meshes.proofs.Isomorphisms.{same-positions}

abbrev pub MarksKept : (m m' : Mesh) {np ne nf np' ne' nf' : ℕ} {t : MeshOver (Row np) (Row ne) (Row nf)} {t' : MeshOver (Row np') (Row ne') (Row nf')} → Isomorphism t t' → Type 0
MarksKept m m' {np} i = (p : Row np) → mark m' (i.points.to p).0 ≡ mark m p.0

module _
    {c c' : Counts} {m m' : Mesh} {t : MeshOver (Row c.points) (Row c.edges) (Row c.faces)}
    {t' : MeshOver (Row c'.points) (Row c'.edges) (Row c'.faces)} (d : Closed t) (d' : Closed t') (s : Stands m t)
    (s' : Stands m' t') (fit : Fit m c.points c.edges c.faces) (fit' : Fit m' c'.points c'.edges c'.faces)
    (i : Isomorphism t t') (k : Kept m m' i) (few : c.faces ≤ none) (few' : c'.faces ≤ none)
  where
    -- Every new position is the same.
    pub new-same : SameNew (record { mesh = t; stands = s; closed = d; fit = fit }) (record { mesh = t'; stands = s'; closed = d'; fit = fit' }) i
    new-same = same-positions m c.points c.edges c.faces m' c'.points c'.edges c'.faces _ _ i k few few'

    module _
        {order order' : List ℕ} {w w' : Mesh} (marks : MarksKept m m' i) (r : Refinement Second m c t d order w)
        (r' : Refinement Second m' c' t' d' order' w')
      where
        pub position-lifted :
            (x : NewPoint (Row c.points) (Row c.edges) (Row c.faces)) →
            position_at w'.positions (r'.refines.numbering.points.to ((lifted d d' i).points.to x)).0
            ≡ position_at w.positions (r.refines.numbering.points.to x).0
        unfolding lifted
        position-lifted (old p) = r'.old-point (i.points.to p) ∙ new-same.old-points Second p ∙ sym (r.old-point p)
        position-lifted (mid e) = r'.edge-point (i.edges.to e) ∙ new-same.edge-points e ∙ sym (r.edge-point e)
        position-lifted (face_point f) = r'.face-point (i.faces.to f) ∙ new-same.face-points f ∙ sym (r.face-point f)

        pub mark-lifted :
            (x : NewPoint (Row c.points) (Row c.edges) (Row c.faces)) →
            mark w' (r'.refines.numbering.points.to ((lifted d d' i).points.to x)).0 ≡ mark w (r.refines.numbering.points.to x).0
        unfolding lifted
        mark-lifted (old p) =
            ap (mark w') (r'.refines.old_row (i.points.to p)) ∙ r'.refines.old-mark (i.points.to p) ∙ marks p
            ∙ sym (ap (mark w) (r.refines.old_row p) ∙ r.refines.old-mark p)
        mark-lifted (mid e) = r'.refines.mid-mark (i.edges.to e) ∙ sym (r.refines.mid-mark e)
        mark-lifted (face_point f) = r'.refines.centre-mark (i.faces.to f) ∙ sym (r.refines.centre-mark f)

        -- the interval of an edge that corresponds
        interval-of : (x : Dart (Row c.edges)) (x' : Dart (Row c'.edges)) → x' ≡ dart_to i x → interval m' (edge x').0 ≡ interval m (edge x).0
        interval-of x x' e =
            ap (λ (y : Dart (Row c'.edges)). interval m' (edge y).0) e ∙ ap (λ (y : Row c'.edges). interval m' y.0) (edge-map_dart i.edges.to x) ∙ k.interval-kept (edge x)

        pub interval-lifted :
            (x : NewEdge (Row c.edges)) →
            interval w' (r'.refines.numbering.edges.to ((lifted d d' i).edges.to x)).0 ≡ interval w (r.refines.numbering.edges.to x).0
        unfolding lifted
        interval-lifted (org e) =
            ap (interval w') (r'.refines.origin-row (i.edges.to e)) ∙ r'.refines.origin-interval (i.edges.to e) ∙ ap half (k.interval-kept e)
            ∙ sym (ap (interval w) (r.refines.origin-row e) ∙ r.refines.origin-interval e)
        interval-lifted (dst e) =
            r'.refines.destination-interval (i.edges.to e) ∙ ap half (k.interval-kept e) ∙ sym (r.refines.destination-interval e)
        interval-lifted (join x) =
            r'.refines.join-interval (dart_to i x)
            ∙ ap₂ quarter (interval-of (d.next x) _ (next-to d d' i x)) (interval-of (d.prev x) _ (prev-to d d' i x))
            ∙ sym (r.refines.join-interval x)
