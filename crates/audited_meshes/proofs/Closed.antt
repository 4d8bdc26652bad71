-- The mesh that stands in tables that pass the audit is closed. That borders run head to tail is no clause of the audit: it
-- follows from the clauses together. Assumes nothing.
use mathlib.Core.Path.{◌≡◌, refl, sym, ◌∙◌, ap, ap₂, subst}
use mathlib.Core.List.{List, map}
use mathlib.Core.Logic.{◌⊎◌, inl, inr, ◌≢◌}
use Prim.Native.Nat.{ℕ, ◌≤◌, ◌<◌}
use native.Mathlib.Omega.{arith}
use native.Mathlib.Decide.{dec_lt}
use lib.ListN.{length, get_or, length-map}
use Rattle.closed_meshes.specs.Mesh.{MeshOver, Dart, lft, rgt, edge, flip, first, second, face, acw, cw}
use Rattle.closed_meshes.specs.Closed.{Closed}
use Rattle.closed_meshes.specs.Cycles.{Cycles}
use Rattle.closed_meshes.specs.Renumbering.{Row}
use Rattle.closed_meshes.proofs.Counting.{row-path}
use Rattle.closed_meshes.proofs.Darts.{edge-flip, first-flip}
use Rattle.tables.specs.Mesh.{Mesh, valence, start, face_start}
use Rattle.audited_meshes.specs.Folds.{occurrences}
use Rattle.audited_meshes.specs.Walks.{acw_of_face, cw_of_face, acw_of_point, first_point, Touches}
use Rattle.audited_meshes.specs.Audited.{Borders, AcwLinks, CwLinks, FaceWalked, PointWalked, Audited}
use Rattle.audited_meshes.proofs.Walks.{passes-head, passes_on}
use Rattle.audited_meshes.proofs.Positions.{position, position-below, get_or-position, get_or-map-below, passes-step, passes-moves}
use Rattle.audited_meshes.proofs.Cycles.{cycles-of-walks}
use Rattle.audited_meshes.proofs.Rows.{rows, rows-stand}
use Rattle.audited_meshes.proofs.Darts.{number, num, Seen, acw_of_face-dart, cw_of_face-dart, acw_of_point-dart}
use Rattle.audited_meshes.proofs.Darts.{first_point-dart, borders-dart, touches-first, dart-of-borders}
use Rattle.audited_meshes.proofs.Darts.{dart-of-touches, settled-on-face, settled-at-point}

module _ (m : Mesh) {np ne nf : ℕ} (a : Audited m np ne nf) where
  abbrev t : MeshOver (Row np) (Row ne) (Row nf)
  t = rows m a

  seen : Seen m t
  seen =
      record {
        stands = rows-stand m a;
        ends-differ = λ e h. a.ends-differ e.0 e.1 (ap number h);
        sides-differ = λ e h. a.sides-differ e.0 e.1 (ap number h);
      }

  -- ---- next and previous

  acw-links : (d : Dart (Row ne)) → AcwLinks m (num d) (second t d).0 (face t d).0 (acw t d).0
  acw-links (lft e) = a.left-acw e.0 e.1
  acw-links (rgt e) = a.right-acw e.0 e.1

  cw-links : (d : Dart (Row ne)) → CwLinks m (num d) (face t d).0 (cw t d).0
  cw-links (lft e) = a.left-cw e.0 e.1
  cw-links (rgt e) = a.right-cw e.0 e.1

  -- the neighbour of a dart's edge on its face, seen from that face
  on-face : (d : Dart (Row ne)) → (x : Dart (Row ne)) × (edge x ≡ acw t d) × (face t x ≡ face t d)
  on-face d = dart-of-borders seen (face t d) (acw t d) (acw-links d).borders-face

  before-on-face : (d : Dart (Row ne)) → (x : Dart (Row ne)) × (edge x ≡ cw t d) × (face t x ≡ face t d)
  before-on-face d = dart-of-borders seen (face t d) (cw t d) (cw-links d).borders-face

  next : Dart (Row ne) → Dart (Row ne)
  next d = (on-face d).0

  prev : Dart (Row ne) → Dart (Row ne)
  prev d = (before-on-face d).0

  edge-next : (d : Dart (Row ne)) → edge (next d) ≡ acw t d
  unfolding next
  edge-next d = (on-face d).1

  edge-prev : (d : Dart (Row ne)) → edge (prev d) ≡ cw t d
  unfolding prev
  edge-prev d = (before-on-face d).1

  face-next : (d : Dart (Row ne)) → face t (next d) ≡ face t d
  unfolding next
  face-next d = (on-face d).2

  face-prev : (d : Dart (Row ne)) → face t (prev d) ≡ face t d
  unfolding prev
  face-prev d = (before-on-face d).2

  num-prev-next : (d : Dart (Row ne)) → num (prev (next d)) ≡ num d
  num-prev-next d =
      ap number (edge-prev (next d))
      ∙ sym (cw_of_face-dart seen (next d))
      ∙ ap₂ (λ (f : Row nf) (e : Row ne). cw_of_face m f.0 e.0) (face-next d) (edge-next d)
      ∙ (acw-links d).links-back

  prev-next : (d : Dart (Row ne)) → prev (next d) ≡ d
  prev-next d = settled-on-face seen (prev (next d)) d (num-prev-next d) (face-prev (next d) ∙ face-next d)

  num-next-prev : (d : Dart (Row ne)) → num (next (prev d)) ≡ num d
  num-next-prev d =
      ap number (edge-next (prev d))
      ∙ sym (acw_of_face-dart seen (prev d))
      ∙ ap₂ (λ (f : Row nf) (e : Row ne). acw_of_face m f.0 e.0) (face-prev d) (edge-prev d)
      ∙ (cw-links d).links-back

  next-prev : (d : Dart (Row ne)) → next (prev d) ≡ d
  next-prev d = settled-on-face seen (next (prev d)) d (num-next-prev d) (face-next (prev d) ∙ face-prev d)

  -- ---- the walks

  face-walk : (f : Row nf) → FaceWalked m ne f.0
  face-walk f = a.face-walked f.0 f.1

  point-walk : (p : Row np) → PointWalked m ne p.0
  point-walk p = a.point-walked p.0 p.1

  face-passed : (d : Dart (Row ne)) → 0 < occurrences (num d) (face-walk (face t d)).edges
  face-passed d = omega (arith, (face-walk (face t d)).each-once (num d) (edge d).1 (borders-dart seen d))

  point-passed : (d : Dart (Row ne)) → 0 < occurrences (num d) (point-walk (first t d)).edges
  point-passed d = omega (arith, (point-walk (first t d)).each-once (num d) (edge d).1 (touches-first seen d))

  -- ---- head to tail

  -- no dart is its own next one
  next-moves : (d : Dart (Row ne)) → next d ≢ d
  next-moves d same =
      let w = face-walk (face t d) in
      passes-moves _ _ _ w.edges w.passes (num d) (face-passed d) (omega (arith, w.at-least-3))
      (acw_of_face-dart seen d ∙ ap number (sym (edge-next d)) ∙ ap num same)

  -- the edge before a dart about its face touches the dart's first point, as the walk about that point goes there
  prev-touches : (d : Dart (Row ne)) → Touches m (first t d).0 (num (prev d))
  prev-touches d =
      let w = point-walk (first t d) in
      let there : acw_of_point m (first t d).0 (num d) ≡ num (prev d) = acw_of_point-dart seen d ∙ ap number (sym (edge-prev d)) in
      subst (λ i. Touches m (first t d).0 i) there
      (passes_on _ _ _ _ w.edges w.passes _ (passes-step _ _ _ w.edges w.passes (num d) (point-passed d))).1

  -- a point at an edge is one end of each dart of it
  end-of-touches : (d : Dart (Row ne)) (p : ℕ) → Touches m p (num d) → ((first t d).0 ≡ p) ⊎ ((second t d).0 ≡ p)
  end-of-touches (lft e) p (inl h) = inl h
  end-of-touches (lft e) p (inr h) = inr h
  end-of-touches (rgt e) p (inl h) = inr h
  end-of-touches (rgt e) p (inr h) = inl h

  second-differs : (d : Dart (Row ne)) → (first t d).0 ≢ (second t d).0
  second-differs (lft e) h = a.ends-differ e.0 e.1 h
  second-differs (rgt e) h = a.ends-differ e.0 e.1 (sym h)

  same_ends : (d d' : Dart (Row ne)) → (first t d).0 ≡ (first t d').0 → (second t d).0 ≡ (second t d').0 → num d ≡ num d'
  same_ends (lft e) (lft i) h k = a.one-edge e.0 i.0 e.1 i.1 (inl (h, k))
  same_ends (lft e) (rgt i) h k = a.one-edge e.0 i.0 e.1 i.1 (inr (h, k))
  same_ends (rgt e) (lft i) h k = a.one-edge e.0 i.0 e.1 i.1 (inr (k, h))
  same_ends (rgt e) (rgt i) h k = a.one-edge e.0 i.0 e.1 i.1 (inl (k, h))

  -- The next dart touches the second point of d. If it ended there, d would end there too and begin where it begins: the two
  -- would be one dart, and a dart is not its own next one.
  first_next : (d : Dart (Row ne)) → first t (next d) ≡ second t d
  first_next d = row-path _ _ (go (end-of-touches (next d) (second t d).0 touched))
    where
      touched : Touches m (second t d).0 (num (next d))
      touched = subst (λ (e : Row ne). Touches m (second t d).0 e.0) (sym (edge-next d)) (acw-links d).touches-end

      back-touches : Touches m (first t (next d)).0 (num d)
      back-touches = subst (λ x. Touches m (first t (next d)).0 (num x)) (prev-next d) (prev-touches (next d))

      clash : (second t (next d)).0 ≡ (second t d).0 → ((first t d).0 ≡ (first t (next d)).0) ⊎ ((second t d).0 ≡ (first t (next d)).0) → ⊥
      clash h (inl k) = next-moves d (settled-on-face seen (next d) d (same_ends (next d) d (sym k) h) (face-next d))
      clash h (inr k) = second-differs (next d) (sym k ∙ sym h)

      go : ((first t (next d)).0 ≡ (second t d).0) ⊎ ((second t (next d)).0 ≡ (second t d).0) → (first t (next d)).0 ≡ (second t d).0
      go (inl h) = h
      go (inr h) = absurd (clash h (end-of-touches d (first t (next d)).0 back-touches))

  -- ---- no face passes a point twice

  -- two darts at different places of their face's walk begin at different points
  places-differ :
      (d d' : Dart (Row ne)) → face t d ≡ face t d' → first t d ≡ first t d' →
      position (num d') (face-walk (face t d)).edges < position (num d) (face-walk (face t d)).edges → ⊥
  places-differ d d' f p l =
      let w = face-walk (face t d) in
      let es = w.edges in
      let on : 0 < occurrences (num d) es = face-passed d in
      let on' : 0 < occurrences (num d') es = subst (λ x. 0 < occurrences (num d') (face-walk x).edges) (sym f) (face-passed d') in
      let i = position (num d) es in
      let j = position (num d') es in
      let far : i < length es = position-below (num d) es on in
      let at : get_or (map (first_point m (face t d).0) es) i 0 ≡ (first t d).0
      = get_or-map-below (first_point m (face t d).0) es i far ∙ ap (first_point m (face t d).0) (get_or-position (num d) es on) ∙ first_point-dart seen d in
      let at' : get_or (map (first_point m (face t d).0) es) j 0 ≡ (first t d').0
      = get_or-map-below (first_point m (face t d).0) es j (omega (arith, position-below (num d') es on'))
      ∙ ap (first_point m (face t d).0) (get_or-position (num d') es on')
      ∙ ap (λ (x : Row nf). first_point m x.0 (num d')) f
      ∙ first_point-dart seen d' in
      w.no-point-twice i j (subst (λ n. i < n) (sym (length-map es (first_point m (face t d).0))) far) l (at ∙ ap number p ∙ sym at')

  one-pass : (d d' : Dart (Row ne)) → face t d ≡ face t d' → first t d ≡ first t d' → d ≡ d'
  one-pass d d' f p = go (dec_lt i j) (dec_lt j i)
    where
      es : List ℕ
      es = (face-walk (face t d)).edges

      i : ℕ
      i = position (num d) es

      j : ℕ
      j = position (num d') es

      on' : 0 < occurrences (num d') es
      on' = subst (λ x. 0 < occurrences (num d') (face-walk x).edges) (sym f) (face-passed d')

      go : Dec (i < j) → Dec (j < i) → d ≡ d'
      go (yes l) k =
          absurd (places-differ d' d (sym f) (sym p) (subst (λ x. position (num d) (face-walk x).edges < position (num d') (face-walk x).edges) f l))
      go (no h) (yes l) = absurd (places-differ d d' f p l)
      go (no h) (no k) =
          let same : i ≡ j = omega arith in
          settled-on-face seen d d' (sym (get_or-position (num d) es (face-passed d)) ∙ ap (λ x. get_or es x 0) same ∙ get_or-position (num d') es on') f

  -- ---- the darts from which the walks begin

  start-on-face : (f : Row nf) → (d : Dart (Row ne)) × (edge d ≡ t.face_start f) × (face t d ≡ f)
  start-on-face f =
      let w = face-walk f in
      dart-of-borders seen f (t.face_start f) (passes_on _ _ _ _ w.edges w.passes (face_start m f.0) (passes-head _ _ _ _ w.edges w.passes)).1

  start-at-point : (p : Row np) → (d : Dart (Row ne)) × (edge d ≡ t.start p) × (first t d ≡ p)
  start-at-point p =
      let w = point-walk p in
      dart-of-touches seen p (t.start p) (passes_on _ _ _ _ w.edges w.passes (start m p.0) (passes-head _ _ _ _ w.edges w.passes)).1

  -- ---- the cycles

  about-faces : Cycles next (face t) (λ f. (start-on-face f).0) (λ f. length (face-walk f).edges)
  about-faces =
      cycles-of-walks num next (face t) (λ f. (start-on-face f).0) (λ f. length (face-walk f).edges) (λ f. acw_of_face m f.0) (λ f e. (e < ne) × Borders m f.0 e)
      (λ f. face_start m f.0) (λ f. (face-walk f).edges) (λ f. (face-walk f).passes) (λ f. refl) face-passed (settled-on-face seen) face-next (λ f. (start-on-face f).2)
      (λ d. ap number (edge-next d) ∙ sym (acw_of_face-dart seen d))
      (λ f. ap number (start-on-face f).1)

  about-points : Cycles (λ d. flip (prev d)) (first t) (λ p. (start-at-point p).0) (λ p. valence m p.0)
  about-points =
      cycles-of-walks num (λ d. flip (prev d)) (first t) (λ p. (start-at-point p).0) (λ p. valence m p.0) (λ p. acw_of_point m p.0) (λ p e. (e < ne) × Touches m p.0 e)
      (λ p. start m p.0) (λ p. (point-walk p).edges) (λ p. (point-walk p).passes) (λ p. (point-walk p).is-valence) point-passed (settled-at-point seen)
      (λ d. first-flip t (prev d) ∙ sym (first_next (prev d)) ∙ ap (first t) (next-prev d)) (λ p. (start-at-point p).2)
      (λ d. ap number (edge-flip (prev d) ∙ edge-prev d) ∙ sym (acw_of_point-dart seen d))
      (λ p. ap number (start-at-point p).1)

  -- The mesh in tables that pass the audit is closed.
  pub closed-rows : Closed (rows m a)
  closed-rows =
      record {
        next = next;
        prev = prev;
        edge-next = edge-next;
        edge-prev = edge-prev;
        prev-next = prev-next;
        next-prev = next-prev;
        first_next = first_next;
        ends-differ = seen.ends-differ;
        sides-differ = seen.sides-differ;
        one-edge = λ d d' h k. row-path _ _ (same_ends d d' (ap number h) (ap number k));
        one-pass = one-pass;
        face_dart = λ f. (start-on-face f).0;
        edge-face_dart = λ f. (start-on-face f).1;
        point_dart = λ p. (start-at-point p).0;
        edge-point_dart = λ p. (start-at-point p).1;
        size = λ f. length (face-walk f).edges;
        size_low = λ f. (face-walk f).at-least-3;
        size-high = λ f. (face-walk f).at-most-64;
        about-faces = about-faces;
        valence-low = λ p. subst (λ n. 2 ≤ n) (point-walk p).is-valence (point-walk p).at-least-2;
        about-points = about-points;
      }
