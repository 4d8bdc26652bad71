-- Walks go along with the row numbers. Assumes nothing.
--     walk-to, seek-to                 a walk and a search by any steps that go along
--     face_walk-to, point_walk-to        the walks about a face and a point
--     edge_to_point-to                        the edge to a neighbour
--     AllBelow n xs                    every number of the list is below n
--     border-back                      the walk about a face of an audited mesh comes back, along its edges
--     again-to, again-below            the points followed by the first ones again
--     border-size-to, border-edge-to, border-point-to      borders
use mathlib.Core.Path.{◌≡◌, refl, sym, ◌∙◌, ap, ap₂, subst}
use mathlib.Core.Bool.{Bool, true, false, ◌&&◌}
use mathlib.Core.List.{List, [], ◌∷◌, ◌++◌, map}
use Prim.Native.Nat.{ℕ, zero, suc, ◌+◌, ◌<◌}
use native.Mathlib.Omega.{arith}
use native.Mathlib.Decide.{dec_lt}
use lib.Dec.{eqb, ltb}
use lib.ListN.{length, get_or, length-append, length-map, get_or-append}
use lib.Seq.{get_or_at}
use borrow.Author.Tests.{lt-ltb}
use Rattle.std.specs.Prelude.{Option, Some}
use Rattle.tables.specs.Mesh.{Mesh, start, face_start}
use Rattle.audited_meshes.specs.Folds.{again}
use Rattle.audited_meshes.specs.Walks.{Walk, back, lost, pass, walk, touches, borders, acw_of_point, acw_of_face, first_point, face_walk, point_walk}
use Rattle.audited_meshes.specs.Audited.{Audited}
use Rattle.walks.specs.Neighbour.{found_if, seek, edge_to_point}
use Rattle.walks.specs.Border.{border_of, border}
use Rattle.walks.proofs.Laws.{length-again, get_or-padded, get_d_map, border-walk}
use Rattle.position_rules.specs.Fits.{FacePointFits}
use Rattle.position_rules.proofs.Audited.{face-point-fits}
use Rattle.renumbered_meshes.specs.Renumbered.{Renumbered, walk_to, found_to}
use Rattle.renumbered_meshes.proofs.Steps.{eqb-edge, touches-to, borders-to, acw_of_point-to, acw_of_point-below, acw_of_face-to, acw_of_face-below, first_point-to, first_point-below}

pass-to : (g : ℕ → ℕ) (e : ℕ) (w : Walk) → pass (g e) (walk_to g w) ≡ walk_to g (pass e w)
pass-to g e (back es) = refl
pass-to g e lost = refl

found_if-to : (g : ℕ → ℕ) (b : Bool) (e : ℕ) (w : Option ℕ) → found_if b (g e) (found_to g w) ≡ found_to g (found_if b e w)
found_if-to g true e w = refl
found_if-to g false e w = refl

-- The steps of a walk along edges below n, which begins at s, and of the renumbered one.
module _
    (g : ℕ → ℕ) (n : ℕ) (step step' : ℕ → ℕ) (on on' : ℕ → Bool) (s : ℕ) (begins : s < n) (stays : (e : ℕ) → e < n → step e < n)
    (step-to : (e : ℕ) → e < n → step' (g e) ≡ g (step e)) (on-to : (e : ℕ) → e < n → on' (g e) ≡ on e)
    (met-to : (e i : ℕ) → e < n → i < n → eqb (g e) (g i) ≡ eqb e i)
  where
    pub walk-to : (k : ℕ) (met here : Bool) (e : ℕ) → e < n → walk step' on' (g s) k met here (g e) ≡ walk_to g (walk step on s k met here e)
    unfolding walk
    walk-to zero true here e l = refl
    walk-to zero false here e l = refl
    walk-to (suc k) true here e l = refl
    walk-to (suc k) false false e l = refl
    walk-to (suc k) false true e l =
        rw (step-to e l, met-to (step e) s (stays e l) begins, on-to (step e) (stays e l))
        (ap (pass (g e)) (walk-to k (eqb (step e) s) (on (step e)) (step e) (stays e l)) ∙ pass-to g e (walk step on s k (eqb (step e) s) (on (step e)) (step e)))

    module _ (test test' : ℕ → Bool) (test-to : (e : ℕ) → e < n → test' (g e) ≡ test e) where
      pub seek-to :
          (k : ℕ) (met here : Bool) (e : ℕ) → e < n →
          seek step' on' test' (g s) k met here (g e) ≡ found_to g (seek step on test s k met here e)
      unfolding seek
      seek-to zero met here e l = refl
      seek-to (suc k) true here e l = refl
      seek-to (suc k) false false e l = refl
      seek-to (suc k) false true e l =
          rw (step-to e l, met-to (step e) s (stays e l) begins, on-to (step e) (stays e l), test-to e l)
          (ap (found_if (test e) (g e)) (seek-to k (eqb (step e) s) (on (step e)) (step e) (stays e l)) ∙ found_if-to g (test e) e _)

module _ {m : Mesh} {np ne nf : ℕ} {m' : Mesh} {np' ne' nf' : ℕ} (a : Audited m np ne nf) (r : Renumbered m np ne nf m' np' ne' nf') where
  -- an edge in range is in range
  in-range : (e : ℕ) → e < ne → ltb (r.edge e) ne' ≡ ltb e ne
  in-range e l = lt-ltb (r.edge e) ne' (r.edge-below e l) ∙ sym (lt-ltb e ne l)

  on-face : (f e : ℕ) → f < nf → e < ne → (ltb (r.edge e) ne' && borders m' (r.face f) (r.edge e)) ≡ (ltb e ne && borders m f e)
  on-face f e l k = ap₂ ◌&&◌ (in-range e k) (borders-to a r f e l k)

  on-point : (p e : ℕ) → p < np → e < ne → (ltb (r.edge e) ne' && touches m' (r.point p) (r.edge e)) ≡ (ltb e ne && touches m p e)
  on-point p e l k = ap₂ ◌&&◌ (in-range e k) (touches-to a r p e l k)

  pub face_walk-to : (f : ℕ) → f < nf → face_walk m' ne' (r.face f) ≡ walk_to r.edge (face_walk m ne f)
  unfolding face_walk
  face_walk-to f l =
      let b = a.face_start-in-range f l in
      rw (r.face_start-goes f l, on-face f (face_start m f) l b)
      (walk-to r.edge ne (acw_of_face m f) (acw_of_face m' (r.face f)) (λ e. ltb e ne && borders m f e)
      (λ e. ltb e ne' && borders m' (r.face f) e) (face_start m f) b (λ e k. acw_of_face-below a r f e k)
      (λ e k. acw_of_face-to a r f e l k) (λ e k. on-face f e l k) (eqb-edge a r) 64 false
      (ltb (face_start m f) ne && borders m f (face_start m f)) (face_start m f) b)

  pub point_walk-to : (k p : ℕ) → p < np → point_walk m' ne' k (r.point p) ≡ walk_to r.edge (point_walk m ne k p)
  unfolding point_walk
  point_walk-to k p l =
      let b = a.start-in-range p l in
      rw (r.start-goes p l, on-point p (start m p) l b)
      (walk-to r.edge ne (acw_of_point m p) (acw_of_point m' (r.point p)) (λ e. ltb e ne && touches m p e)
      (λ e. ltb e ne' && touches m' (r.point p) e) (start m p) b (λ e j. acw_of_point-below a r p e j)
      (λ e j. acw_of_point-to a r p e l j) (λ e j. on-point p e l j) (eqb-edge a r) k false
      (ltb (start m p) ne && touches m p (start m p)) (start m p) b)

  pub edge_to_point-to : (k p q : ℕ) → p < np → q < np → edge_to_point m' ne' k (r.point p) (r.point q) ≡ found_to r.edge (edge_to_point m ne k p q)
  unfolding edge_to_point
  edge_to_point-to k p q l c =
      let b = a.start-in-range p l in
      rw (r.start-goes p l, on-point p (start m p) l b)
      (seek-to r.edge ne (acw_of_point m p) (acw_of_point m' (r.point p)) (λ e. ltb e ne && touches m p e)
      (λ e. ltb e ne' && touches m' (r.point p) e) (start m p) b (λ e j. acw_of_point-below a r p e j)
      (λ e j. acw_of_point-to a r p e l j) (λ e j. on-point p e l j) (eqb-edge a r) (touches m q) (touches m' (r.point q))
      (λ e j. touches-to a r q e c j) k false (ltb (start m p) ne && touches m p (start m p)) (start m p) b)

-- ---- lists

abbrev pub AllBelow : ℕ → List ℕ → Type 0
AllBelow n xs = (j : ℕ) → j < length xs → get_or xs j 0 < n

-- functions that agree below n agree on a list of numbers below n
map_below :
    (n : ℕ) (g h : ℕ → ℕ) → ((e : ℕ) → e < n → g e ≡ h e) → (xs : List ℕ) → AllBelow n xs → map g xs ≡ map h xs
map_below n g h s [] b = refl
map_below n g h s (x ∷ xs) b = ap₂ ◌∷◌ (s x (b 0 (omega arith))) (map_below n g h s xs (λ j l. b (suc j) (omega arith)))

map-again : (g h : ℕ → ℕ) (xs : List ℕ) → map g (map h xs) ≡ map (λ x. g (h x)) xs
map-again g h [] = refl
map-again g h (x ∷ xs) = ap (λ (t : List ℕ). g (h x) ∷ t) (map-again g h xs)

map_last : (g : ℕ → ℕ) (xs : List ℕ) (v : ℕ) → map g (xs ++ v ∷ []) ≡ map g xs ++ g v ∷ []
map_last g [] v = refl
map_last g (x ∷ xs) v = ap (λ (t : List ℕ). g x ∷ t) (map_last g xs v)

again-to : (g : ℕ → ℕ) (k : ℕ) (ps : List ℕ) → 0 < length ps → again k (map g ps) ≡ map g (again k ps)
unfolding again
again-to g zero ps l = refl
again-to g (suc k) ps l =
    rw (again-to g k ps l, get_d_map g (again k ps) k (omega (arith, length-again k ps))) (sym (map_last g (again k ps) (get_or (again k ps) k 0)))

again-below : (n k : ℕ) (ps : List ℕ) → 0 < length ps → AllBelow n ps → AllBelow n (again k ps)
unfolding again
again-below n zero ps l b j h = b j h
again-below n (suc k) ps l b j h = go (again-below n k ps l b) (dec_lt j (length (again k ps)))
  where
    go : AllBelow n (again k ps) → Dec (j < length (again k ps)) → get_or (again k ps ++ get_or (again k ps) k 0 ∷ []) j 0 < n
    go fewer (yes i) = rw (get_or-append (again k ps) (get_or (again k ps) k 0 ∷ []) 0 j i) (fewer j i)
    go fewer (no i) =
        rw (get_or_at (again k ps) (get_or (again k ps) k 0) [] 0 j (omega (arith, h, length-append (again k ps) (get_or (again k ps) k 0 ∷ []))))
        (fewer k (omega (arith, length-again k ps)))

module _ {m : Mesh} {np ne nf : ℕ} {m' : Mesh} {np' ne' nf' : ℕ} (a : Audited m np ne nf) (r : Renumbered m np ne nf m' np' ne' nf') where
  module _ (f : ℕ) (es : List ℕ) (l : f < nf) (some : 0 < length es) (b : AllBelow ne es) where
    points-below : AllBelow np (map (first_point m f) es)
    points-below j h =
        rw (get_d_map (first_point m f) es j (rw length-map at h)) (first_point-below a r f (get_or es j 0) (b j (rw length-map at h)))

    -- the points of the border, with the first four again
    pub border-points-below : AllBelow np (again 4 (map (first_point m f) es))
    border-points-below = again-below np 4 (map (first_point m f) es) (rw length-map some) points-below

    pub border-points-to :
        again 4 (map (first_point m' (r.face f)) (map r.edge es)) ≡ map r.point (again 4 (map (first_point m f) es))
    border-points-to =
        ap (again 4)
        (map-again (first_point m' (r.face f)) r.edge es
        ∙ map_below ne (λ e. first_point m' (r.face f) (r.edge e)) (λ e. r.point (first_point m f e)) (λ e k. first_point-to a r f e l k) es b
        ∙ sym (map-again r.point (first_point m f) es))
        ∙ again-to r.point 4 (map (first_point m f) es) (rw length-map some)

-- the edges of the walk about a face of an audited mesh
pub record WalkedRound (m : Mesh) (ne f : ℕ) : Type 0 where
  pub edges : List ℕ
  pub came : face_walk m ne f ≡ back edges
  pub some : 0 < length edges
  pub below : AllBelow ne edges

pub walked-round : {m : Mesh} {np ne nf : ℕ} → Audited m np ne nf → (f : ℕ) → f < nf → WalkedRound m ne f
unfolding face_walk
walked-round {m} {np} {ne} {nf} a f l =
    let h : FacePointFits m.positions m.edges m.intervals m.faces ne f = face-point-fits m np ne nf a f l in
    record { edges = h.border; came = h.walked; some = omega (arith, h.at-least-3); below = h.edges-below }

module _ {m : Mesh} {np ne nf : ℕ} {m' : Mesh} {np' ne' nf' : ℕ} (a : Audited m np ne nf) (r : Renumbered m np ne nf m' np' ne' nf') where
  module _ (f : ℕ) (l : f < nf) where
    here : border m ne f ≡ border_of m f (back (walked-round a f l).edges)
    here = border-walk m ne f ∙ ap (border_of m f) (walked-round a f l).came

    there : border m' ne' (r.face f) ≡ border_of m' (r.face f) (back (map r.edge (walked-round a f l).edges))
    there = border-walk m' ne' (r.face f) ∙ ap (border_of m' (r.face f)) (face_walk-to a r f l ∙ ap (walk_to r.edge) (walked-round a f l).came)

    came-back : (border m ne f).passed ≡ Some (length (walked-round a f l).edges)
    came-back = ap (λ b. b.passed) here

    size_is : (n : ℕ) → (border m ne f).passed ≡ Some n → n ≡ length (walked-round a f l).edges
    size_is n e = let q : Some n ≡ Some (length (walked-round a f l).edges) = sym e ∙ came-back in cc

    pub border-size-to : (border m' ne' (r.face f)).passed ≡ (border m ne f).passed
    border-size-to = ap (λ b. b.passed) there ∙ ap Some (length-map (walked-round a f l).edges r.edge) ∙ sym came-back

    pub border-edge-to :
        (j n : ℕ) → (border m ne f).passed ≡ Some n → j < n →
        get_or (border m' ne' (r.face f)).edges j 0 ≡ r.edge (get_or (border m ne f).edges j 0)
    border-edge-to j n e h =
        let es : List ℕ = (walked-round a f l).edges in
        ap (λ b. get_or b.edges j 0) there
        ∙ get_or-padded 64 (map r.edge es) j
        ∙ get_d_map r.edge es j (subst (λ (k : ℕ). j < k) (size_is n e) h)
        ∙ ap r.edge (sym (ap (λ b. get_or b.edges j 0) here ∙ get_or-padded 64 es j))

    pub border-point-to :
        (j n : ℕ) → (border m ne f).passed ≡ Some n → j < n + 4 →
        get_or (border m' ne' (r.face f)).points j 0 ≡ r.point (get_or (border m ne f).points j 0)
    border-point-to j n e h =
        let w = walked-round a f l in
        let ps : List ℕ = again 4 (map (first_point m f) w.edges) in
        let few : j < length w.edges + 4 = subst (λ (k : ℕ). j < k + 4) (size_is n e) h in
        ap (λ b. get_or b.points j 0) there
        ∙ get_or-padded 68 (again 4 (map (first_point m' (r.face f)) (map r.edge w.edges))) j
        ∙ ap (λ x. get_or x j 0) (border-points-to a r f w.edges l w.some w.below)
        ∙ get_d_map r.point ps j (omega (arith, length-again 4 (map (first_point m f) w.edges), length-map w.edges (first_point m f)))
        ∙ ap r.point (sym (ap (λ b. get_or b.points j 0) here ∙ get_or-padded 68 ps j))
