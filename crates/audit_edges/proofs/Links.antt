-- Half of the link tests follow from the other half: where every edge passes the test of its anticlockwise links, every edge
-- passes that of its clockwise links too. A dart is an edge seen from one of its sides. The anticlockwise link takes each dart to
-- a dart of the same face, from which the clockwise link leads back; so no two darts go to one, and as the darts are finite in
-- number, some dart goes to each: its edge is where the clockwise link leads. Assumes nothing.
use mathlib.Core.Path.{◌≡◌, refl, sym, ◌∙◌, ap, subst}
use mathlib.Core.Bool.{Bool, true, false, not, ◌&&◌}
use mathlib.Core.Logic.Iff
use mathlib.Core.Logic.{inl, inr, ◌≢◌}
use Prim.Native.Nat.{ℕ, ◌*◌, ◌<◌}
use lib.Dec.{eqb}
use borrow.Author.Tests.{eq-eqb, ne_eqb}
use Rattle.closed_meshes.specs.Mesh.{Dart, lft, rgt, edge}
use Rattle.closed_meshes.specs.Renumbering.{Injective, Bijection, Row}
use Rattle.closed_meshes.proofs.Counting.{row-path, numbered-onto}
use Rattle.closed_meshes.proofs.Counts.{count-darts}
use Rattle.closed_meshes.proofs.Groupoid.{identity}
use Rattle.closed_meshes.proofs.Isomorphisms.{to-injective}
use Rattle.tables.specs.Mesh.{Mesh, origin, dest, left_face, right_face, left_cw, left_acw, right_cw, right_acw, interval}
use Rattle.audited_meshes.specs.Folds.{every}
use Rattle.audited_meshes.specs.Walks.{acw_of_face, cw_of_face}
use Rattle.audited_meshes.specs.Audit.{edge_in_range, interval_fit, acw_links, cw_links, linked}
use Rattle.audited_meshes.specs.Audited.{Borders, EdgeInRange, AcwLinks, CwLinks}
use Rattle.audited_meshes.specs.Quick.{edge_fit}
use Rattle.audited_meshes.proofs.Tests.{Is, and_is, not_is, eqb_is, self-is, every-is, same_test}
use Rattle.audited_meshes.proofs.Audited.{edge_in_range-is, acw_links-is, cw_links-is}
use Rattle.linked_edges.specs.Links.{acw_linked}
use Rattle.audit_edges.specs.HalfLinks.{half_fit}

-- the tests of the half, and then those of the clockwise links
regrouped : (a b c d : Bool) → (a && (b && c && d)) ≡ (a && b && (c && d))
regrouped true true c d = refl
regrouped true false c d = refl
regrouped false b c d = refl

-- what the argument needs of one edge
pub record Half (m : Mesh) (ne e : ℕ) : Type 0 where
  pub left_acw-in-range : left_acw m e < ne
  pub right_acw-in-range : right_acw m e < ne
  pub sides-differ : left_face m e ≢ right_face m e
  pub left-acw : AcwLinks m e (dest m e) (left_face m e) (left_acw m e)
  pub right-acw : AcwLinks m e (origin m e) (right_face m e) (right_acw m e)

-- the sides of the edges below ne, over tables of any content
module _ (m : Mesh) (ne : ℕ) (half : (e : ℕ) → e < ne → Half m ne e) where
  -- the number of its edge
  num : Dart (Row ne) → ℕ
  num d = (edge d).0

  -- the face, and the links to both neighbours about it
  face_of : Dart (Row ne) → ℕ
  face_of (lft e) = left_face m e.0
  face_of (rgt e) = right_face m e.0

  acw_of : Dart (Row ne) → Row ne
  acw_of (lft e) = (left_acw m e.0, (half e.0 e.1).left_acw-in-range)
  acw_of (rgt e) = (right_acw m e.0, (half e.0 e.1).right_acw-in-range)

  cw_of : Dart (Row ne) → ℕ
  cw_of (lft e) = left_cw m e.0
  cw_of (rgt e) = right_cw m e.0

  -- the links of a dart are those that its face finds at its edge
  acw_of_face-dart : (d : Dart (Row ne)) → acw_of_face m (face_of d) (num d) ≡ (acw_of d).0
  unfolding num face_of acw_of
  acw_of_face-dart (lft e) = rw (eq-eqb (left_face m e.0) (left_face m e.0) refl)
  acw_of_face-dart (rgt e) = rw (ne_eqb (left_face m e.0) (right_face m e.0) (half e.0 e.1).sides-differ)

  cw_of_face-dart : (d : Dart (Row ne)) → cw_of_face m (face_of d) (num d) ≡ cw_of d
  unfolding num face_of cw_of
  cw_of_face-dart (lft e) = rw (eq-eqb (left_face m e.0) (left_face m e.0) refl)
  cw_of_face-dart (rgt e) = rw (ne_eqb (left_face m e.0) (right_face m e.0) (half e.0 e.1).sides-differ)

  borders-dart : (d : Dart (Row ne)) → Borders m (face_of d) (num d)
  unfolding num face_of
  borders-dart (lft e) = inl refl
  borders-dart (rgt e) = inr refl

  -- a dart is settled by its edge and its face
  settled : (d d' : Dart (Row ne)) → num d ≡ num d' → face_of d ≡ face_of d' → d ≡ d'
  unfolding num face_of
  settled (lft e) (lft e') k h = ap lft (row-path e e' k)
  settled (lft e) (rgt e') k h = absurd ((half e.0 e.1).sides-differ (h ∙ ap (right_face m) (sym k)))
  settled (rgt e) (lft e') k h = absurd ((half e.0 e.1).sides-differ (ap (left_face m) k ∙ sym h))
  settled (rgt e) (rgt e') k h = ap rgt (row-path e e' k)

  -- an edge that borders a face, seen from there
  record Seen (f : ℕ) (a : Row ne) : Type 0 where
    dart : Dart (Row ne)
    dart-num : num dart ≡ a.0
    dart-face : face_of dart ≡ f

  seen : (f : ℕ) (a : Row ne) → Borders m f a.0 → Seen f a
  unfolding num face_of
  seen f a (inl h) = record { dart = lft a; dart-num = refl; dart-face = h }
  seen f a (inr h) = record { dart = rgt a; dart-num = refl; dart-face = h }

  -- the anticlockwise link leads to an edge of the same face that links back
  borders-acw : (d : Dart (Row ne)) → Borders m (face_of d) (acw_of d).0
  unfolding face_of acw_of
  borders-acw (lft e) = (half e.0 e.1).left-acw.borders-face
  borders-acw (rgt e) = (half e.0 e.1).right-acw.borders-face

  back-acw : (d : Dart (Row ne)) → cw_of_face m (face_of d) (acw_of d).0 ≡ num d
  unfolding num face_of acw_of
  back-acw (lft e) = (half e.0 e.1).left-acw.links-back
  back-acw (rgt e) = (half e.0 e.1).right-acw.links-back

  -- the dart to which it leads, from which the clockwise link leads back
  next : (d : Dart (Row ne)) → Seen (face_of d) (acw_of d)
  next d = seen (face_of d) (acw_of d) (borders-acw d)

  cw-next : (d : Dart (Row ne)) → cw_of (next d).dart ≡ num d
  cw-next d =
      sym (cw_of_face-dart (next d).dart)
      ∙ ap (λ (f : ℕ). cw_of_face m f (num (next d).dart)) (next d).dart-face
      ∙ ap (cw_of_face m (face_of d)) (next d).dart-num
      ∙ back-acw d

  -- no two darts go to one
  next-injective : Injective (λ d. (next d).dart)
  next-injective d d' h =
      settled d d' (sym (cw-next d) ∙ ap cw_of h ∙ cw-next d') (sym (next d).dart-face ∙ ap face_of h ∙ (next d').dart-face)

  -- and so some dart goes to each
  next-onto : (d : Dart (Row ne)) → (x : Dart (Row ne)) × ((next x).dart ≡ d)
  next-onto d = (at.0, to-injective darts _ _ at.1)
    where
      darts : Bijection (Dart (Row ne)) (Row (2 * ne))
      darts = count-darts (identity (Row ne))

      at : (x : Dart (Row ne)) × (darts.to (next x).dart ≡ darts.to d)
      at =
          numbered-onto darts (λ x. darts.to (next x).dart)
          (λ x y h. next-injective x y (to-injective darts _ _ h))
          (darts.to d)

  -- the clockwise link leads to the edge of that dart
  cw-links : (d : Dart (Row ne)) → CwLinks m (num d) (face_of d) (cw_of d)
  cw-links d =
      let x = (next-onto d).0 in
      let same = (next-onto d).1 in
      let from : num x ≡ cw_of d = sym (cw-next x) ∙ ap cw_of same in
      let face : face_of x ≡ face_of d = sym (next x).dart-face ∙ ap face_of same in
      record {
        borders-face = subst (λ f. Borders m f (cw_of d)) face (subst (Borders m (face_of x)) from (borders-dart x));
        links-back =
            ap (acw_of_face m (face_of d)) (sym from)
            ∙ ap (λ (f : ℕ). acw_of_face m f (num x)) (sym face)
            ∙ acw_of_face-dart x ∙ sym (next x).dart-num ∙ ap num same;
      }

  pub left-cw : (e : ℕ) → e < ne → CwLinks m e (left_face m e) (left_cw m e)
  unfolding num face_of cw_of
  left-cw e l = cw-links (lft (e, l))

  pub right-cw : (e : ℕ) → e < ne → CwLinks m e (right_face m e) (right_cw m e)
  unfolding num face_of cw_of
  right-cw e l = cw-links (rgt (e, l))

-- ---- the tests

module _ (m : Mesh) (np ne nf : ℕ) where
  acw_linked-is :
      (e : ℕ) → Is (acw_linked m e) (AcwLinks m e (dest m e) (left_face m e) (left_acw m e) × AcwLinks m e (origin m e) (right_face m e) (right_acw m e))
  unfolding acw_linked
  acw_linked-is e = and_is (acw_links-is m e (dest m e) (left_face m e) (left_acw m e)) (acw_links-is m e (origin m e) (right_face m e) (right_acw m e))

  half_fit-is :
      (e : ℕ) →
      Is (half_fit m np ne nf e)
      ((((EdgeInRange m np ne nf e × (interval_fit (interval m e) ≡ true)) × (origin m e ≢ dest m e)) × (left_face m e ≢ right_face m e))
      × (AcwLinks m e (dest m e) (left_face m e) (left_acw m e) × AcwLinks m e (origin m e) (right_face m e) (right_acw m e)))
  unfolding half_fit
  half_fit-is e =
      and_is
      (and_is
      (and_is (and_is (edge_in_range-is m np ne nf e) (self-is (interval_fit (interval m e)))) (not_is (eqb_is (origin m e) (dest m e))))
      (not_is (eqb_is (left_face m e) (right_face m e))))
      (acw_linked-is e)

  -- the whole test is the half and the clockwise links
  fit-is-half :
      (e : ℕ) → edge_fit m np ne nf e ≡ (half_fit m np ne nf e && (cw_links m e (left_face m e) (left_cw m e) && cw_links m e (right_face m e) (right_cw m e)))
  unfolding edge_fit half_fit linked acw_linked
  fit-is-half e =
      regrouped
      (edge_in_range m np ne nf e && interval_fit (interval m e) && not (eqb (origin m e) (dest m e)) && not (eqb (left_face m e) (right_face m e)))
      (acw_links m e (dest m e) (left_face m e) (left_acw m e) && acw_links m e (origin m e) (right_face m e) (right_acw m e)) _ _

  fit_is :
      (e : ℕ) →
      Is (edge_fit m np ne nf e)
      ((half_fit m np ne nf e ≡ true) × (CwLinks m e (left_face m e) (left_cw m e) × CwLinks m e (right_face m e) (right_cw m e)))
  fit_is e =
      subst (λ b. Is b ((half_fit m np ne nf e ≡ true) × (CwLinks m e (left_face m e) (left_cw m e) × CwLinks m e (right_face m e) (right_cw m e))))
      (sym (fit-is-half e))
      (and_is (self-is (half_fit m np ne nf e)) (and_is (cw_links-is m e (left_face m e) (left_cw m e)) (cw_links-is m e (right_face m e) (right_cw m e))))

  half_of : (e : ℕ) → half_fit m np ne nf e ≡ true → Half m ne e
  half_of e t =
      let h = (half_fit-is e).0 t in
      record {
        left_acw-in-range = h.0.0.0.0.left_acw-in-range;
        right_acw-in-range = h.0.0.0.0.right_acw-in-range;
        sides-differ = h.0.1;
        left-acw = h.1.0;
        right-acw = h.1.1;
      }

  -- All edges pass the half exactly if all pass the whole.
  pub every-half : every ne (λ e. half_fit m np ne nf e) ≡ every ne (λ e. edge_fit m np ne nf e)
  every-half =
      same_test (every-is ne (λ e. self-is (half_fit m np ne nf e)))
      (Iff.trans (every-is ne fit_is) (
        λ h e l. (h e l).0,
        λ h e l.
            let half : (i : ℕ) → i < ne → Half m ne i = λ i k. half_of i (h i k) in
            (h e l, (left-cw m ne half e l, right-cw m ne half e l)),
      ))
