-- One step about a point and about a face goes along with the row numbers. Assumes nothing.
--     eqb-once                                   numbers that go to different numbers are compared the same
--     cond-to, cond_below                        a choice goes along, and is of one of two rows
--     touches-to, borders-to                     the tests of walks
--     acw_of_point-to .. first_point-to             the steps of walks
--     acw_about-to, cw_about-to                    the steps about a point as the rules take them
--     acw_of_point-below .. first_point-below       they come to rows
use mathlib.Core.Path.{◌≡◌, ◌∙◌, ap, ap₂}
use mathlib.Core.Bool.{Bool, true, false, ◌||◌, cond}
use Prim.Native.Nat.{ℕ, ◌<◌}
use lib.Dec.{eqb}
use borrow.Author.Tests.{eqb-true, eq-eqb}
use Rattle.tables.specs.Mesh.{Mesh, origin, dest, left_face, right_face, left_acw, right_acw, left_cw, right_cw}
use Rattle.audited_meshes.specs.Walks.{touches, borders, acw_of_point, acw_of_face, cw_of_face, first_point}
use Rattle.audited_meshes.specs.Audited.{Audited}
use Rattle.audited_meshes.proofs.Tests.{eqb_is, same_test}
use Rattle.position_rules.specs.Intervals.{acw_about, cw_about}
use Rattle.renumbered_meshes.specs.Renumbered.{Renumbered}

pub eqb-once :
    (g : ℕ → ℕ) (n : ℕ) → ((x y : ℕ) → x < n → y < n → g x ≡ g y → x ≡ y) → (x y : ℕ) → x < n → y < n → eqb (g x) (g y) ≡ eqb x y
eqb-once g n h x y l k = same_test (λ e. h x y l k (eqb-true (g x) (g y) e), λ e. eq-eqb (g x) (g y) (ap g e)) (eqb_is x y)

pub cond-to :
    {A B : Type 0} (g : A → B) (b b' : Bool) (x y : A) (x' y' : B) → b' ≡ b → x' ≡ g x → y' ≡ g y → cond b' x' y' ≡ g (cond b x y)
cond-to g true b' x y x' y' e h k = rw (e, h)
cond-to g false b' x y x' y' e h k = rw (e, k)

pub cond_below : (n : ℕ) (b : Bool) (x y : ℕ) → x < n → y < n → cond b x y < n
cond_below n true x y l k = l
cond_below n false x y l k = k

module _ {m : Mesh} {np ne nf : ℕ} {m' : Mesh} {np' ne' nf' : ℕ} (a : Audited m np ne nf) (r : Renumbered m np ne nf m' np' ne' nf') where
  pub eqb-edge : (e i : ℕ) → e < ne → i < ne → eqb (r.edge e) (r.edge i) ≡ eqb e i
  eqb-edge = eqb-once r.edge ne r.edge-once

  -- the ends of an edge and its faces, compared with a point and with a face
  eqb-origin : (p e : ℕ) → p < np → e < ne → eqb (origin m' (r.edge e)) (r.point p) ≡ eqb (origin m e) p
  eqb-origin p e l k =
      ap (λ x. eqb x (r.point p)) (r.origin-goes e k) ∙ eqb-once r.point np r.point-once (origin m e) p (a.edge-in-range e k).origin-in-range l

  eqb-dest : (p e : ℕ) → p < np → e < ne → eqb (dest m' (r.edge e)) (r.point p) ≡ eqb (dest m e) p
  eqb-dest p e l k =
      ap (λ x. eqb x (r.point p)) (r.dest-goes e k) ∙ eqb-once r.point np r.point-once (dest m e) p (a.edge-in-range e k).dest-in-range l

  eqb-left : (f e : ℕ) → f < nf → e < ne → eqb (left_face m' (r.edge e)) (r.face f) ≡ eqb (left_face m e) f
  eqb-left f e l k =
      ap (λ x. eqb x (r.face f)) (r.left_face-goes e k) ∙ eqb-once r.face nf r.face-once (left_face m e) f (a.edge-in-range e k).left_face-in-range l

  eqb-right : (f e : ℕ) → f < nf → e < ne → eqb (right_face m' (r.edge e)) (r.face f) ≡ eqb (right_face m e) f
  eqb-right f e l k =
      ap (λ x. eqb x (r.face f)) (r.right_face-goes e k)
      ∙ eqb-once r.face nf r.face-once (right_face m e) f (a.edge-in-range e k).right_face-in-range l

  pub touches-to : (p e : ℕ) → p < np → e < ne → touches m' (r.point p) (r.edge e) ≡ touches m p e
  touches-to p e l k = ap₂ ◌||◌ (eqb-origin p e l k) (eqb-dest p e l k)

  pub borders-to : (f e : ℕ) → f < nf → e < ne → borders m' (r.face f) (r.edge e) ≡ borders m f e
  borders-to f e l k = ap₂ ◌||◌ (eqb-left f e l k) (eqb-right f e l k)

  pub acw_of_point-to : (p e : ℕ) → p < np → e < ne → acw_of_point m' (r.point p) (r.edge e) ≡ r.edge (acw_of_point m p e)
  acw_of_point-to p e l k =
      cond-to r.edge (eqb (origin m e) p) _ (left_cw m e) (right_cw m e) _ _ (eqb-origin p e l k) (r.left_cw-goes e k) (r.right_cw-goes e k)

  pub acw_of_point-below : (p e : ℕ) → e < ne → acw_of_point m p e < ne
  acw_of_point-below p e k =
      cond_below ne (eqb (origin m e) p) _ _ (a.edge-in-range e k).left_cw-in-range (a.edge-in-range e k).right_cw-in-range

  pub acw_of_face-to : (f e : ℕ) → f < nf → e < ne → acw_of_face m' (r.face f) (r.edge e) ≡ r.edge (acw_of_face m f e)
  acw_of_face-to f e l k =
      cond-to r.edge (eqb (left_face m e) f) _ (left_acw m e) (right_acw m e) _ _ (eqb-left f e l k) (r.left_acw-goes e k) (r.right_acw-goes e k)

  pub acw_of_face-below : (f e : ℕ) → e < ne → acw_of_face m f e < ne
  acw_of_face-below f e k =
      cond_below ne (eqb (left_face m e) f) _ _ (a.edge-in-range e k).left_acw-in-range (a.edge-in-range e k).right_acw-in-range

  pub cw_of_face-to : (f e : ℕ) → f < nf → e < ne → cw_of_face m' (r.face f) (r.edge e) ≡ r.edge (cw_of_face m f e)
  cw_of_face-to f e l k =
      cond-to r.edge (eqb (left_face m e) f) _ (left_cw m e) (right_cw m e) _ _ (eqb-left f e l k) (r.left_cw-goes e k) (r.right_cw-goes e k)

  pub first_point-to : (f e : ℕ) → f < nf → e < ne → first_point m' (r.face f) (r.edge e) ≡ r.point (first_point m f e)
  first_point-to f e l k =
      cond-to r.point (eqb (left_face m e) f) _ (origin m e) (dest m e) _ _ (eqb-left f e l k) (r.origin-goes e k) (r.dest-goes e k)

  pub first_point-below : (f e : ℕ) → e < ne → first_point m f e < np
  first_point-below f e k =
      cond_below np (eqb (left_face m e) f) _ _ (a.edge-in-range e k).origin-in-range (a.edge-in-range e k).dest-in-range

  pub acw_about-to : (p e : ℕ) → p < np → e < ne → acw_about m'.edges (r.point p) (r.edge e) ≡ r.edge (acw_about m.edges p e)
  unfolding acw_about
  acw_about-to p e l k = acw_of_point-to p e l k

  pub acw_about-below : (p e : ℕ) → e < ne → acw_about m.edges p e < ne
  unfolding acw_about
  acw_about-below p e k = acw_of_point-below p e k

  pub cw_about-to : (p e : ℕ) → p < np → e < ne → cw_about m'.edges (r.point p) (r.edge e) ≡ r.edge (cw_about m.edges p e)
  unfolding cw_about
  cw_about-to p e l k =
      cond-to r.edge (eqb (origin m e) p) _ (right_acw m e) (left_acw m e) _ _ (eqb-origin p e l k) (r.right_acw-goes e k) (r.left_acw-goes e k)

  pub cw_about-below : (p e : ℕ) → e < ne → cw_about m.edges p e < ne
  unfolding cw_about
  cw_about-below p e k =
      cond_below ne (eqb (origin m e) p) _ _ (a.edge-in-range e k).right_acw-in-range (a.edge-in-range e k).left_acw-in-range
