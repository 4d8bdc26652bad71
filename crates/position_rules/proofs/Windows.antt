-- The edges of a face point's windows are the ones between their points. A border runs head to tail, since the mesh that stands in
-- tables that pass the audit is closed; and no two edges join the same two points. Assumes nothing.
use mathlib.Core.Path.{◌≡◌, sym, ◌∙◌, ap, subst, subst₂}
use mathlib.Core.Bool.{◌&&◌}
use mathlib.Core.List.{List, [], ◌∷◌, ◌++◌, map}
use mathlib.Core.Logic.{◌⊎◌, inl, inr, ◌↔◌, ◌≢◌}
use Prim.Native.Nat.{ℕ, ◌+◌, ◌-◌, ◌<◌, ◌≤◌}
use native.Mathlib.Omega.{arith}
use native.Mathlib.Decide.{dec_lt}
use lib.Dec.{ltb}
use lib.ListN.{length, get_or, get_or-append}
use lib.Seq.{get_or_at}
use Rattle.perimeters.specs.Places.{around}
use Rattle.perimeters.proofs.Laws.{around-same, around-more}
use Rattle.closed_meshes.specs.Mesh.{lft, rgt}
use Rattle.tables.specs.Mesh.{Mesh, origin, dest, face_start}
use Rattle.audited_meshes.specs.Walks.{back, face_walk, first_point, acw_of_face, borders, Touches}
use Rattle.audited_meshes.specs.Audited.{Borders, SameEnds, Audited}
use Rattle.audited_meshes.proofs.Audited.{on-face-is}
use Rattle.audited_meshes.proofs.Darts.{first_point-dart}
use Rattle.audited_meshes.specs.Folds.{again}
use Rattle.walks.proofs.Back.{back-first, back_on, back-next}
use Rattle.walks.proofs.Laws.{get_or-padded, border-point, border-point-again}
use Rattle.position_rules.specs.Claims.{border_point, WindowEdges}
use Rattle.position_rules.proofs.Audited.{border-of}
use Rattle.position_rules.proofs.Turning.{seen, next-first}

-- edge e joins p and q
Joins : Mesh → ℕ → ℕ → ℕ → Type 0
Joins m e p q = ((origin m e ≡ p) × (dest m e ≡ q)) ⊎ ((dest m e ≡ p) × (origin m e ≡ q))

module _ (m : Mesh) (np ne nf : ℕ) (a : Audited m np ne nf) where
  -- an edge joins its own first point and that of the next edge
  joins-next : (f e : ℕ) → e < ne → Borders m f e → Joins m e (first_point m f e) (first_point m f (acw_of_face m f e))
  unfolding Joins
  joins-next f e l (inl h) =
      subst (λ g. Joins m e (first_point m g e) (first_point m g (acw_of_face m g e))) h
      (inl (sym (first_point-dart (seen m np ne nf a) (lft (e, l))), sym (next-first m np ne nf a (lft (e, l)))))
  joins-next f e l (inr h) =
      subst (λ g. Joins m e (first_point m g e) (first_point m g (acw_of_face m g e))) h
      (inr (sym (first_point-dart (seen m np ne nf a) (rgt (e, l))), sym (next-first m np ne nf a (rgt (e, l)))))

  joins-touches : (e p q : ℕ) → Joins m e p q → Touches m p e × Touches m q e
  unfolding Joins
  joins-touches e p q (inl h) = (inl h.0, inr h.1)
  joins-touches e p q (inr h) = (inr h.0, inl h.1)

  -- the ends of an edge that joins two points differ
  joins-differ : (e p q : ℕ) → e < ne → Joins m e p q → p ≢ q
  unfolding Joins
  joins-differ e p q l (inl h) s = a.ends-differ e l (h.0 ∙ s ∙ sym h.1)
  joins-differ e p q l (inr h) s = a.ends-differ e l (h.1 ∙ sym s ∙ sym h.0)

  -- another edge at both points joins them too
  joins-of-touches : (e p q : ℕ) → p ≢ q → Touches m p e → Touches m q e → Joins m e p q
  unfolding Joins
  joins-of-touches e p q d (inl h) (inl k) = absurd (d (sym h ∙ k))
  joins-of-touches e p q d (inl h) (inr k) = inl (h, k)
  joins-of-touches e p q d (inr h) (inl k) = inr (h, k)
  joins-of-touches e p q d (inr h) (inr k) = absurd (d (sym h ∙ k))

  same_ends : (e i p q : ℕ) → Joins m e p q → Joins m i p q → SameEnds m e i
  unfolding Joins
  same_ends e i p q (inl h) (inl k) = inl (h.0 ∙ sym k.0, h.1 ∙ sym k.1)
  same_ends e i p q (inl h) (inr k) = inr (h.0 ∙ sym k.0, h.1 ∙ sym k.1)
  same_ends e i p q (inr h) (inl k) = inr (h.1 ∙ sym k.1, h.0 ∙ sym k.0)
  same_ends e i p q (inr h) (inr k) = inl (h.1 ∙ sym k.1, h.0 ∙ sym k.0)

  alone : (i p q : ℕ) → i < ne → Joins m i p q → (e : ℕ) → e < ne → (Touches m p e × Touches m q e) ↔ (e ≡ i)
  alone i p q l j e k = (
    λ t. a.one-edge e i k l (same_ends e i p q (joins-of-touches e p q (joins-differ i p q l j) t.0 t.1) j),
    λ s. subst (λ x. Touches m p x × Touches m q x) (sym s) (joins-touches i p q j),
  )

  module _ (f : ℕ) (es : List ℕ) (l : f < nf) (came : face_walk m ne f ≡ back es) where
    three : 3 ≤ length es
    three = (border-of m np ne nf f es a l came).at-least-3

    point_at : (i : ℕ) → i < length es → border_point m f es i ≡ first_point m f (get_or es i 0)
    point_at i b = sym (get_or-padded 68 (again 4 (map (first_point m f) es)) i) ∙ border-point m f es i b

    point-again : (k : ℕ) → k < 4 → border_point m f es (length es + k) ≡ border_point m f es k
    point-again k b =
        sym (get_or-padded 68 (again 4 (map (first_point m f) es)) (length es + k)) ∙ border-point-again m f es k (omega (arith, three)) b
        ∙ get_or-padded 68 (again 4 (map (first_point m f) es)) k

    -- the point after an edge of the border
    point-after : (j : ℕ) → j < length es → border_point m f es (j + 1) ≡ first_point m f (acw_of_face m f (get_or es j 0))
    unfolding face_walk
    point-after j b = go (dec_lt (j + 1) (length es))
      where
        next : acw_of_face m f (get_or es j 0) ≡ get_or (es ++ face_start m f ∷ []) (j + 1) 0
        next = back-next (acw_of_face m f) (λ e. ltb e ne && borders m f e) (face_start m f) 64 es came j b

        go : Dec (j + 1 < length es) → border_point m f es (j + 1) ≡ first_point m f (acw_of_face m f (get_or es j 0))
        go (yes h) = point_at (j + 1) h ∙ ap (first_point m f) (sym (next ∙ get_or-append es (face_start m f ∷ []) 0 (j + 1) h))
        go (no h) =
            let last : j + 1 ≡ length es = omega arith in
            ap (border_point m f es) (the_end j last) ∙ point-again 0 (omega arith) ∙ point_at 0 (omega (arith, three))
            ∙ ap (first_point m f) ((back-first (acw_of_face m f) (λ e. ltb e ne && borders m f e) (face_start m f) 64 es came).0
            ∙ sym (next ∙ get_or_at es (face_start m f) [] 0 (j + 1) (sym last)))
          where
            the_end : (j : ℕ) → j + 1 ≡ length es → j + 1 ≡ length es + 0
            the_end j h = omega arith

    first_round : (j e : ℕ) → j < length es → e < ne
        → (Touches m (border_point m f es j) e × Touches m (border_point m f es (j + 1)) e) ↔ (e ≡ get_or es j 0)
    unfolding face_walk
    first_round j e b k =
        let on = (on-face-is m ne f (get_or es j 0)).0
        (back_on (acw_of_face m f) (λ e. ltb e ne && borders m f e) (face_start m f) 64 es came j b) in
        subst₂ (λ (p q : ℕ). (Touches m p e × Touches m q e) ↔ (e ≡ get_or es j 0)) (sym (point_at j b)) (sym (point-after j b))
        (alone (get_or es j 0) _ _ on.0 (joins-next f (get_or es j 0) on.0 on.1) e k)

pub window-edges : WindowEdges
window-edges m np ne nf f es a l came j e b k = go (dec_lt j (length es))
  where
    go : Dec (j < length es) → (Touches m (border_point m f es j) e × Touches m (border_point m f es (j + 1)) e) ↔ (e ≡ get_or es (around (length es) j) 0)
    go (yes h) = rw (around-same (length es) j h) (first_round m np ne nf a f es l came j e h k)
    go (no h) =
        let i : ℕ = j - length es in
        let here : j ≡ length es + i = omega arith in
        let there : j + 1 ≡ length es + (i + 1) = omega arith in
        let few : i < 3 = omega arith in
        rw (around-more (length es) j (omega arith) (omega (arith, three m np ne nf a f es l came)))
        (subst₂ (λ (p q : ℕ). (Touches m p e × Touches m q e) ↔ (e ≡ get_or es i 0))
        (sym (ap (border_point m f es) here ∙ point-again m np ne nf a f es l came i (omega arith)))
        (sym (ap (border_point m f es) there ∙ point-again m np ne nf a f es l came (i + 1) (omega arith)))
        (first_round m np ne nf a f es l came i e (omega (arith, three m np ne nf a f es l came)) k))
