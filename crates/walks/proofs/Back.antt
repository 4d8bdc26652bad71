-- The edges of a walk that comes back, by their places. Assumes nothing.
--     back-first       the first is the start
--     back_on          each is an edge that the walk may pass
--     back-next        the step from each goes to the next, from the last to the start
--     back-within      they are no more than the bound
--     face_walk-within  about a face, no more than 64
use mathlib.Core.Path.{◌≡◌, refl, sym, ◌∙◌}
use mathlib.Core.Bool.{Bool, true, false, ◌&&◌}
use mathlib.Core.List.{List, [], ◌∷◌, ◌++◌}
use Prim.Native.Nat.{ℕ, zero, suc, ◌+◌, ◌<◌, ◌≤◌}
use native.Mathlib.Nat.{le_of_suc-le-suc}
use native.Mathlib.Omega.{arith}
use native.Mathlib.Numerals.{add-one}
use lib.Dec.{ltb}
use lib.ListN.{length, get_or, get_or-append}
use Rattle.tables.specs.Mesh.{Mesh, face_start}
use Rattle.audited_meshes.specs.Walks.{Walk, back, lost, passed, walk, acw_of_face, borders, face_walk}
use Rattle.audited_meshes.specs.Audited.{Passes, last, more}
use Rattle.audited_meshes.proofs.Tests.{self-is}
use Rattle.audited_meshes.proofs.Walks.{passes-of-walk}

module _ (step : ℕ → ℕ) (On : ℕ → Type 0) (s : ℕ) where
  passes-first : (e : ℕ) (es : List ℕ) → Passes step On s e es → (get_or es 0 0 ≡ e) × (0 < length es)
  passes-first e es (last o b) = (refl, omega arith)
  passes-first e es (more o b p) = (refl, omega arith)

  passes_at : (e : ℕ) (es : List ℕ) → Passes step On s e es → (i : ℕ) → i < length es → On (get_or es i 0)
  passes_at e es (last o b) zero l = o
  passes_at e es (last o b) (suc i) l = absurd (omega arith)
  passes_at e es (more o b p) zero l = o
  passes_at e es (more {es = rest} o b p) (suc i) l = passes_at _ rest p i (le_of_suc-le-suc l)

  passes-next : (e : ℕ) (es : List ℕ) → Passes step On s e es → (i : ℕ) → i < length es → step (get_or es i 0) ≡ get_or (es ++ s ∷ []) (suc i) 0
  passes-next e es (last o b) zero l = b
  passes-next e es (last o b) (suc i) l = absurd (omega arith)
  passes-next e es (more {e = k} {es = rest} o b p) zero l =
      let f = passes-first (step k) rest p in
      sym (get_or-append rest (s ∷ []) 0 0 f.1 ∙ f.0)
  passes-next e es (more {es = rest} o b p) (suc i) l = passes-next _ rest p i (le_of_suc-le-suc l)

module _ (step : ℕ → ℕ) (on : ℕ → Bool) (s k : ℕ) (es : List ℕ) (w : walk step on s k false (on s) s ≡ back es) where
  On : ℕ → Type 0
  On e = on e ≡ true

  way : Passes step On s s es
  unfolding On
  way = (passes-of-walk step On s on (λ e. self-is (on e)) k s es w).0

  pub back-first : (get_or es 0 0 ≡ s) × (0 < length es)
  back-first = passes-first step On s s es way

  pub back_on : (i : ℕ) → i < length es → on (get_or es i 0) ≡ true
  unfolding On
  back_on i l = passes_at step On s s es way i l

  pub back-next : (i : ℕ) → i < length es → step (get_or es i 0) ≡ get_or (es ++ s ∷ []) (i + 1) 0
  back-next i l = rw add-one (passes-next step On s s es way i l)

  pub back-within : length es ≤ k
  unfolding On
  back-within = (passes-of-walk step On s on (λ e. self-is (on e)) k s es w).1

face-back-within : (m : Mesh) (ne f : ℕ) (es : List ℕ) → face_walk m ne f ≡ back es → length es ≤ 64
unfolding face_walk
face-back-within m ne f es h = back-within (acw_of_face m f) (λ e. ltb e ne && borders m f e) (face_start m f) 64 es h

-- the walk about a face passes at most 64 edges
pub face_walk-within : (m : Mesh) (ne f : ℕ) → passed (face_walk m ne f) ≤ 64
face_walk-within m ne f = go (face_walk m ne f) refl
  where
    go : (w : Walk) → face_walk m ne f ≡ w → passed w ≤ 64
    go (back es) h = face-back-within m ne f es h
    go lost h = omega arith
