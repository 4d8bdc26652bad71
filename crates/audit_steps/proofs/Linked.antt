-- The laws of steps from an edge whose links may both be followed. Assumes nothing.
--     face-off, face-out-left, face-out-right, face-to        where a step about a face is lost, and where it leads
--     point-off, point-out-first, point-out-second, point-to  the same about a point
--     linked-face-step, linked-point-step                     where all links are below ne, it is the step of `walks`
--     face-next-below, point-next-below                       and it leads to an edge below ne
use mathlib.Core.Path.{◌≡◌, refl, sym, ◌∙◌, ap, ap₂}
use mathlib.Core.Bool.{Bool, true, false, ◌&&◌, ◌||◌, cond}
use mathlib.Core.List.{List}
use Prim.Native.Nat.{ℕ, ◌+◌, ◌*◌, ◌<◌, ◌≤◌}
use native.Mathlib.Omega.{arith}
use lib.Dec.{eqb, ltb}
use lib.ListN.{get_or}
use borrow.Author.Tests.{lt-ltb, le-ltb}
use Rattle.std.specs.Prelude.{Some, None}
use Rattle.tables.specs.Mesh.{Mesh, edge_table, left_face, origin, dest, left_cw, left_acw, right_cw, right_acw}
use Rattle.audited_meshes.specs.Walks.{borders, touches, acw_of_face, acw_of_point, first_point}
use Rattle.walks.specs.Places.{end_number}
use Rattle.walks.specs.Steps.{step_to, point_across, to_if, face_step, point_step}
use Rattle.walks.proofs.Places.{place-one-of, place-choice}
use Rattle.audit_steps.specs.Linked.{LinksBelow, linked_face_step, linked_point_step}

-- a step whose tests are t, a and b
lost-first : (t a b : Bool) (p e : ℕ) → t ≡ false → None ≡ to_if (t && (a && b)) p e
lost-first t a b p e h = rw h refl

lost-second : (t a b : Bool) (p e : ℕ) → t ≡ true → a ≡ false → None ≡ to_if (t && (a && b)) p e
lost-second t a b p e h k = rw (h, k) refl

lost-third : (t a b : Bool) (p e : ℕ) → t ≡ true → a ≡ true → b ≡ false → None ≡ to_if (t && (a && b)) p e
lost-third t a b p e h k l = rw (h, k, l) refl

made : (t a b : Bool) (p e q i : ℕ) → t ≡ true → a ≡ true → b ≡ true → p ≡ q → e ≡ i → Some (step_to p e) ≡ to_if (t && (a && b)) q i
made t a b p e q i h k l x y = rw (h, k, l, x, y) refl

-- what is chosen by the number of the end that has the row n, of two ends o and d
module _ (o d n : ℕ) {i s : ℕ} (first : i ≡ o) (at : s ≡ end_number i n) where
  number : s ≡ end_number o n
  number = at ∙ ap (λ (x : ℕ). end_number x n) first

  by_number : (x y : ℕ) → cond (eqb s 0) x y ≡ cond (eqb o n) x y
  by_number x y = ap (λ (j : ℕ). cond (eqb j 0) x y) number ∙ go (eqb o n)
    where
      go : (t : Bool) → cond (eqb (cond t 0 1) 0) x y ≡ cond t x y
      go true = refl
      go false = refl

  one_of : eqb (cond (eqb s 0) o d) n ≡ (eqb o n || eqb d n)
  one_of = ap (λ (x : ℕ). eqb x n) (by_number o d) ∙ go (eqb o n) refl
    where
      go : (t : Bool) → eqb o n ≡ t → eqb (cond t o d) n ≡ (t || eqb d n)
      go true h = h
      go false h = refl

module _ (es : List ℕ) (ne e : ℕ) where
  abbrev m : Mesh
  m = edge_table es

  -- ---- about a face: i is the left face, s the number of the side that has f, w the face on that side, l and r the two links

  module _ (f : ℕ) {i s w l r : ℕ} (first : i ≡ left_face m e) (at : s ≡ end_number i f) (word : w ≡ get_or es (e * 8 + 2 + s) 0)
      (left : l ≡ left_acw m e) (right : r ≡ right_acw m e) where
    borders-is : eqb w f ≡ borders m f e
    borders-is =
        place-one-of es (e * 8 + 2) f first at word
        ∙ ap (λ (j : ℕ). eqb (get_or es (e * 8 + 2) 0) f || eqb (get_or es j 0) f) (omega arith)

    pub face-off : eqb w f ≡ false → None ≡ linked_face_step es ne f e
    face-off h = lost-first (borders m f e) (ltb (left_acw m e) ne) (ltb (right_acw m e) ne) (first_point m f e) (acw_of_face m f e) (sym borders-is ∙ h)

    module _ (on : eqb w f ≡ true) where
      pub face-out-left : ne ≤ l → None ≡ linked_face_step es ne f e
      face-out-left h =
          lost-second (borders m f e) (ltb (left_acw m e) ne) (ltb (right_acw m e) ne) (first_point m f e) (acw_of_face m f e)
          (sym borders-is ∙ on) (rw (← left) (le-ltb l ne h))

      module _ (below : l < ne) where
        pub face-out-right : ne ≤ r → None ≡ linked_face_step es ne f e
        face-out-right h =
            lost-third (borders m f e) (ltb (left_acw m e) ne) (ltb (right_acw m e) ne) (first_point m f e) (acw_of_face m f e)
            (sym borders-is ∙ on) (rw (← left) (lt-ltb l ne below)) (rw (← right) (le-ltb r ne h))

        pub face-to : r < ne → (p next : ℕ) → p ≡ get_or es (e * 8 + s) 0 → next ≡ cond (eqb s 0) l r → Some (step_to p next) ≡ linked_face_step es ne f e
        face-to h p next point link =
            made (borders m f e) (ltb (left_acw m e) ne) (ltb (right_acw m e) ne) p next (first_point m f e) (acw_of_face m f e)
            (sym borders-is ∙ on) (rw (← left) (lt-ltb l ne below)) (rw (← right) (lt-ltb r ne h))
            (point ∙ place-choice es (e * 8 + 2) f first at (λ (j : ℕ). get_or es (e * 8 + j) 0) (ap (λ (j : ℕ). get_or es j 0) (omega arith)) refl)
            (link ∙ by_number (left_face m e) 0 f first at l r ∙ ap₂ (λ (x y : ℕ). cond (eqb (left_face m e) f) x y) left right)

  -- ---- about a point: o and d are the ends, s is the number of the end that p is, l and r are the two links

  module _ (p : ℕ) {i s o d l r : ℕ} (from : o ≡ origin m e) (to : d ≡ dest m e) (first : i ≡ o) (at : s ≡ end_number i p)
      (left : l ≡ left_cw m e) (right : r ≡ right_cw m e) where
    touches-is : eqb (cond (eqb s 0) o d) p ≡ touches m p e
    touches-is = one_of o d p first at ∙ ap₂ (λ (x y : ℕ). eqb x p || eqb y p) from to

    chosen_is : (x y : ℕ) → cond (eqb s 0) x y ≡ cond (eqb (origin m e) p) x y
    chosen_is x y = by_number o d p first at x y ∙ ap (λ (j : ℕ). cond (eqb j p) x y) from

    pub point-off : eqb (cond (eqb s 0) o d) p ≡ false → None ≡ linked_point_step es ne p e
    point-off h = lost-first (touches m p e) (ltb (left_cw m e) ne) (ltb (right_cw m e) ne) (point_across m p e) (acw_of_point m p e) (sym touches-is ∙ h)

    module _ (on : eqb (cond (eqb s 0) o d) p ≡ true) where
      pub point-out-first : ne ≤ l → None ≡ linked_point_step es ne p e
      point-out-first h =
          lost-second (touches m p e) (ltb (left_cw m e) ne) (ltb (right_cw m e) ne) (point_across m p e) (acw_of_point m p e)
          (sym touches-is ∙ on) (rw (← left) (le-ltb l ne h))

      module _ (below : l < ne) where
        pub point-out-second : ne ≤ r → None ≡ linked_point_step es ne p e
        point-out-second h =
            lost-third (touches m p e) (ltb (left_cw m e) ne) (ltb (right_cw m e) ne) (point_across m p e) (acw_of_point m p e)
            (sym touches-is ∙ on) (rw (← left) (lt-ltb l ne below)) (rw (← right) (le-ltb r ne h))

        pub point-to : r < ne → (q next : ℕ) → q ≡ cond (eqb s 0) d o → next ≡ cond (eqb s 0) l r → Some (step_to q next) ≡ linked_point_step es ne p e
        point-to h q next other link =
            made (touches m p e) (ltb (left_cw m e) ne) (ltb (right_cw m e) ne) q next (point_across m p e) (acw_of_point m p e)
            (sym touches-is ∙ on) (rw (← left) (lt-ltb l ne below)) (rw (← right) (lt-ltb r ne h))
            (other ∙ chosen_is d o ∙ ap₂ (λ (x y : ℕ). cond (eqb (origin m e) p) x y) to from)
            (link ∙ chosen_is l r ∙ ap₂ (λ (x y : ℕ). cond (eqb (origin m e) p) x y) left right)

-- ---- where all links are below ne

same_test : (t a b c : Bool) (p e : ℕ) → c ≡ true → a ≡ true → b ≡ true → to_if (t && (a && b)) p e ≡ to_if (c && t) p e
same_test t a b c p e h k l = rw (h, k, l) (go t)
  where
    go : (t : Bool) → to_if (t && (true && true)) p e ≡ to_if (true && t) p e
    go true = refl
    go false = refl

module _ (es : List ℕ) (ne : ℕ) (h : LinksBelow es ne) (e : ℕ) (l : e < ne) where
  pub linked-face-step : (f : ℕ) → linked_face_step es ne f e ≡ face_step es ne f e
  linked-face-step f =
      let m : Mesh = edge_table es in
      same_test (borders m f e) (ltb (left_acw m e) ne) (ltb (right_acw m e) ne) (ltb e ne) (first_point m f e) (acw_of_face m f e)
      (lt-ltb e ne l) (lt-ltb (left_acw m e) ne (h.left-acw-below e l)) (lt-ltb (right_acw m e) ne (h.right-acw-below e l))

  pub linked-point-step : (p : ℕ) → linked_point_step es ne p e ≡ point_step es ne p e
  linked-point-step p =
      let m : Mesh = edge_table es in
      same_test (touches m p e) (ltb (left_cw m e) ne) (ltb (right_cw m e) ne) (ltb e ne) (point_across m p e) (acw_of_point m p e)
      (lt-ltb e ne l) (lt-ltb (left_cw m e) ne (h.left-cw-below e l)) (lt-ltb (right_cw m e) ne (h.right-cw-below e l))

  either-below : (t : Bool) (i j : ℕ) → i < ne → j < ne → cond t i j < ne
  either-below true i j a c = a
  either-below false i j a c = c

  pub face-next-below : (f : ℕ) → acw_of_face (edge_table es) f e < ne
  face-next-below f = either-below (eqb (left_face (edge_table es) e) f) _ _ (h.left-acw-below e l) (h.right-acw-below e l)

  pub point-next-below : (p : ℕ) → acw_of_point (edge_table es) p e < ne
  point-next-below p = either-below (eqb (origin (edge_table es) e) p) _ _ (h.left-cw-below e l) (h.right-cw-below e l)
