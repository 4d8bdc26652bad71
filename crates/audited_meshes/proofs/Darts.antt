-- The darts of a mesh over bounded numbers that stands in tables: what stands at the edge of a dart. Assumes nothing.
use mathlib.Core.Path.{◌≡◌, refl, sym, ◌∙◌, ap}
use mathlib.Core.Logic.{inl, inr, ◌≢◌}
use Prim.Native.Nat.{ℕ}
use borrow.Author.Tests.{eq-eqb, ne_eqb}
use Rattle.closed_meshes.specs.Mesh.{MeshOver, Dart, lft, rgt, edge, first, face, acw, cw}
use Rattle.closed_meshes.specs.Renumbering.{Row}
use Rattle.closed_meshes.proofs.Counting.{row-path}
use Rattle.tables.specs.Mesh.{Mesh, origin, left_face}
use Rattle.audited_meshes.specs.Walks.{acw_of_face, cw_of_face, acw_of_point, first_point, Touches}
use Rattle.audited_meshes.specs.Audited.{Borders}
use Rattle.audited_meshes.specs.Rows.{Stands}

-- the number of a row, and of the edge of a dart
abbrev pub number : {n : ℕ} → Row n → ℕ
number r = r.0

abbrev pub num : {ne : ℕ} → Dart (Row ne) → ℕ
num d = number (edge d)

-- a mesh that stands in the tables, whose edges have two ends and two sides
pub record Seen (m : Mesh) {np ne nf : ℕ} (t : MeshOver (Row np) (Row ne) (Row nf)) : Type 0 where
  pub stands : Stands m t
  pub ends-differ : (e : Row ne) → ¬ (t.origin e ≡ t.dest e)
  pub sides-differ : (e : Row ne) → ¬ (t.left e ≡ t.right e)

module _ {m : Mesh} {np ne nf : ℕ} {t : MeshOver (Row np) (Row ne) (Row nf)} (s : Seen m t) where
  left_face-differs : (e : Row ne) → left_face m e.0 ≢ (t.right e).0
  left_face-differs e h = s.sides-differ e (row-path _ _ (sym (s.stands.left_face-stands e) ∙ h))

  origin-differs : (e : Row ne) → origin m e.0 ≢ (t.dest e).0
  origin-differs e h = s.ends-differ e (row-path _ _ (sym (s.stands.origin-stands e) ∙ h))

  -- A step about the face of a dart goes to its neighbour there, and a step about its first point to its clockwise neighbour.
  pub acw_of_face-dart : (d : Dart (Row ne)) → acw_of_face m (face t d).0 (num d) ≡ (acw t d).0
  acw_of_face-dart (lft e) =
      rw (eq-eqb (left_face m e.0) (t.left e).0 (s.stands.left_face-stands e)) (s.stands.left_acw-stands e)
  acw_of_face-dart (rgt e) =
      rw (ne_eqb (left_face m e.0) (t.right e).0 (left_face-differs e)) (s.stands.right_acw-stands e)

  pub cw_of_face-dart : (d : Dart (Row ne)) → cw_of_face m (face t d).0 (num d) ≡ (cw t d).0
  cw_of_face-dart (lft e) =
      rw (eq-eqb (left_face m e.0) (t.left e).0 (s.stands.left_face-stands e)) (s.stands.left_cw-stands e)
  cw_of_face-dart (rgt e) =
      rw (ne_eqb (left_face m e.0) (t.right e).0 (left_face-differs e)) (s.stands.right_cw-stands e)

  pub acw_of_point-dart : (d : Dart (Row ne)) → acw_of_point m (first t d).0 (num d) ≡ (cw t d).0
  acw_of_point-dart (lft e) =
      rw (eq-eqb (origin m e.0) (t.origin e).0 (s.stands.origin-stands e)) (s.stands.left_cw-stands e)
  acw_of_point-dart (rgt e) =
      rw (ne_eqb (origin m e.0) (t.dest e).0 (origin-differs e)) (s.stands.right_cw-stands e)

  pub first_point-dart : (d : Dart (Row ne)) → first_point m (face t d).0 (num d) ≡ (first t d).0
  first_point-dart (lft e) =
      rw (eq-eqb (left_face m e.0) (t.left e).0 (s.stands.left_face-stands e)) (s.stands.origin-stands e)
  first_point-dart (rgt e) =
      rw (ne_eqb (left_face m e.0) (t.right e).0 (left_face-differs e)) (s.stands.dest-stands e)

  -- The edge of a dart borders its face and touches its first point, and conversely.
  pub borders-dart : (d : Dart (Row ne)) → Borders m (face t d).0 (num d)
  borders-dart (lft e) = inl (s.stands.left_face-stands e)
  borders-dart (rgt e) = inr (s.stands.right_face-stands e)

  pub touches-first : (d : Dart (Row ne)) → Touches m (first t d).0 (num d)
  touches-first (lft e) = inl (s.stands.origin-stands e)
  touches-first (rgt e) = inr (s.stands.dest-stands e)

  pub dart-of-borders : (f : Row nf) (e : Row ne) → Borders m f.0 e.0 → (d : Dart (Row ne)) × (edge d ≡ e) × (face t d ≡ f)
  dart-of-borders f e (inl h) = (lft e, refl, row-path _ _ (sym (s.stands.left_face-stands e) ∙ h))
  dart-of-borders f e (inr h) = (rgt e, refl, row-path _ _ (sym (s.stands.right_face-stands e) ∙ h))

  pub dart-of-touches : (p : Row np) (e : Row ne) → Touches m p.0 e.0 → (d : Dart (Row ne)) × (edge d ≡ e) × (first t d ≡ p)
  dart-of-touches p e (inl h) = (lft e, refl, row-path _ _ (sym (s.stands.origin-stands e) ∙ h))
  dart-of-touches p e (inr h) = (rgt e, refl, row-path _ _ (sym (s.stands.dest-stands e) ∙ h))

  -- A dart is settled by its edge and its face, and by its edge and its first point.
  pub settled-on-face : (d d' : Dart (Row ne)) → num d ≡ num d' → face t d ≡ face t d' → d ≡ d'
  settled-on-face (lft e) (lft e') k h = ap lft (row-path e e' k)
  settled-on-face (lft e) (rgt e') k h = absurd (s.sides-differ e (h ∙ ap t.right (sym (row-path e e' k))))
  settled-on-face (rgt e) (lft e') k h = absurd (s.sides-differ e (ap t.left (row-path e e' k) ∙ sym h))
  settled-on-face (rgt e) (rgt e') k h = ap rgt (row-path e e' k)

  pub settled-at-point : (d d' : Dart (Row ne)) → num d ≡ num d' → first t d ≡ first t d' → d ≡ d'
  settled-at-point (lft e) (lft e') k h = ap lft (row-path e e' k)
  settled-at-point (lft e) (rgt e') k h = absurd (s.ends-differ e (h ∙ ap t.dest (sym (row-path e e' k))))
  settled-at-point (rgt e) (lft e') k h = absurd (s.ends-differ e (ap t.origin (row-path e e' k) ∙ sym h))
  settled-at-point (rgt e) (rgt e') k h = ap rgt (row-path e e' k)
