-- What is proved of walks. Assumes nothing.
use mathlib.Core.Path.{◌≡◌, refl, sym, ◌∙◌, ap}
use mathlib.Core.Bool.{Bool, true, false, ◌&&◌}
use mathlib.Core.List.{List}
use Prim.Native.Nat.{ℕ, zero, suc, ◌<◌, ◌≤◌}
use native.Mathlib.Omega.{arith}
use lib.Dec.{ltb}
use lib.ListN.{length}
use borrow.Author.Tests.{eq-eqb, ne_eqb}
use Rattle.std.specs.Prelude.{Some, None}
use Rattle.tables.specs.Mesh.{Mesh, start, face_start}
use Rattle.audited_meshes.specs.Folds.{one_if, occurrences}
use Rattle.audited_meshes.specs.Walks.{back, borders, touches, acw_of_face, acw_of_point, face_walk, point_walk, Touches}
use Rattle.audited_meshes.specs.Audited.{Passes, last, more, Borders, FaceWalked, PointWalked}
use Rattle.audited_meshes.proofs.Tests.{self-is}
use Rattle.audited_meshes.proofs.Folds.{sum_to-cong, length-sum_to}
use Rattle.audited_meshes.proofs.Walks.{passes_on, walk_of-passes, passes-of-walk}
use Rattle.audited_meshes.proofs.Audited.{borders-is, on-face-is, on-point-is}
use Rattle.walks.specs.Steps.{passed_by}
use Rattle.walks.specs.Neighbour.{seek, edge_to_point}
use Rattle.walks.specs.Claims.{perimeter_size, first_passing, CountIsPerimeter, CountIsValence, FirstFound}

-- a walk that passes each edge of its face, and no other, passes as many as there are
module _ (m : Mesh) (ne f : ℕ) (w : FaceWalked m ne f) where
  abbrev On : ℕ → Type 0
  On e = (e < ne) × Borders m f e

  face-came : face_walk m ne f ≡ back w.edges
  unfolding face_walk
  face-came =
      walk_of-passes (acw_of_face m f) On (face_start m f) (λ e. ltb e ne && borders m f e) (on-face-is m ne f) (face_start m f) w.edges w.passes 64 w.at-most-64

  passes-only : (e : ℕ) → 0 < occurrences e w.edges → On e
  passes-only = passes_on (acw_of_face m f) On (face_start m f) (face_start m f) w.edges w.passes

  each : (e : ℕ) → e < ne → (b : Bool) → borders m f e ≡ b → occurrences e w.edges ≡ one_if b
  each e h true o = w.each-once e h ((borders-is m f e).0 o)
  each e h false o = none (occurrences e w.edges) (λ q. let z : true ≡ false = sym ((borders-is m f e).1 (passes-only e q).1) ∙ o in cc)
    where
      none : (j : ℕ) → (0 < j → ◌≡◌ {A = ℕ} 0 1) → j ≡ 0
      none zero g = refl
      none (suc j) g = absurd (let z : ◌≡◌ {A = ℕ} 0 1 = g (omega arith) in omega arith)

  whole : length w.edges ≡ perimeter_size m ne f
  unfolding perimeter_size
  whole = length-sum_to ne w.edges (λ e q. (passes-only e q).0) ∙ sum_to-cong ne _ _ (λ e h. each e h (borders m f e) refl)

pub count-is-perimeter : CountIsPerimeter
count-is-perimeter m np ne nf f a l =
    let w = a.face-walked f l in
    ap passed_by (face-came m ne f w) ∙ ap Some (whole m ne f w)

pub count-is-valence : CountIsValence
unfolding point_walk
count-is-valence m np ne nf k p a l fits =
    let w : PointWalked m ne p = a.point-walked p l in
    ap passed_by
    (walk_of-passes (acw_of_point m p) (λ e. (e < ne) × Touches m p e) (start m p) (λ e. ltb e ne && touches m p e) (on-point-is m ne p)
    (start m p) w.edges w.passes k (omega (arith, w.is-valence)))
    ∙ ap Some w.is-valence

-- the search passes the edges of the walk
module _ (step : ℕ → ℕ) (on test : ℕ → Bool) (s : ℕ) where
  seek-met : (k : ℕ) (here : Bool) (e : ℕ) → seek step on test s k true here e ≡ None
  unfolding seek
  seek-met zero here e = refl
  seek-met (suc k) here e = refl

  seek-passes : (k e : ℕ) (es : List ℕ) → Passes step (λ i. on i ≡ true) s e es → length es ≤ k → seek step on test s k false (on e) e ≡ first_passing test es
  unfolding seek
  seek-passes zero e es (last o b) l = absurd (omega arith)
  seek-passes zero e es (more o b p) l = absurd (omega arith)
  seek-passes (suc k) e es (last {e = i} o b) l = rw (o, eq-eqb (step i) s b, seek-met k (on (step i)) (step i))
  seek-passes (suc k) e es (more {e = i} {es = rest} o b p) l =
      rw (o, ne_eqb (step i) s b, seek-passes k (step i) rest p (omega arith))

pub first_found : FirstFound
unfolding point_walk edge_to_point
first_found m ne k p q es w =
    let on : ℕ → Bool = λ e. ltb e ne && touches m p e in
    let f = passes-of-walk (acw_of_point m p) (λ e. on e ≡ true) (start m p) on (λ e. self-is (on e)) k (start m p) es w in
    seek-passes (acw_of_point m p) on (touches m q) (start m p) k (start m p) es f.0 f.1
