-- The laws of borders. Assumes nothing.
--     get_or-padded                                an element of a padded list
--     laid-set, get_or-laid, length-laid           one more element is laid into a list, one is read, and how long the list is
--     laid-zeros                                 a list laid into one of 0 is padded
--     length-again, get_or-again, get_or-again-more  the points followed by the first k again: how many, the points, the first again
--     four-again                                 what stands after the first four were stored behind the last
--     border-walk, border-point, border-point-again                  the border by the walk, and its points by their places where it comes back
--     border-passed, passed-back, passed-lost    what the walk answers, and how many edges that are
use mathlib.Core.Path.{◌≡◌, refl, sym, ◌∙◌, ap, subst}
use mathlib.Core.List.{List, [], ◌∷◌, ◌++◌, append_assoc, map}
use Prim.Native.Nat.{ℕ, zero, suc, ◌+◌, ◌-◌, ◌<◌, ◌≤◌}
use native.Mathlib.Nat.{le_of_suc-le-suc}
use native.Mathlib.Omega.{arith}
use native.Mathlib.Decide.{dec_lt}
use lib.ListN.{length, get_or, set, drop, replicate, length-append, length-drop, get_or-append, length-map}
use lib.Seq.{set-append_seam, get_or_at, drop-cons}
use Rattle.std.specs.Prelude.{Some, None}
use Rattle.tables.specs.Mesh.{Mesh}
use Rattle.audited_meshes.specs.Walks.{Walk, back, lost, passed, first_point, face_walk}
use Rattle.walks.specs.Border.{padded, laid, border_of, border}
use Rattle.walks.specs.Steps.{passed_by}
use Rattle.audited_meshes.specs.Folds.{again}

one_more : (n : ℕ) → suc n ≡ n + 1
one_more n = omega arith

pub laid-set : (xs ys : List ℕ) (v : ℕ) → length xs < length ys → set (laid xs ys) (length xs) v ≡ laid (xs ++ v ∷ []) ys
unfolding laid
laid-set xs ys v l =
    rw (drop-cons ys (length xs) 0 l, set-append_seam, length-append, append_assoc)
    (ap (λ (j : ℕ). xs ++ v ∷ drop j ys) (one_more (length xs)))

pub get_or-laid : (xs ys : List ℕ) (i : ℕ) → i < length xs → get_or (laid xs ys) i 0 ≡ get_or xs i 0
unfolding laid
get_or-laid xs ys i l = get_or-append xs (drop (length xs) ys) 0 i l

pub length-laid : (xs ys : List ℕ) → length xs ≤ length ys → length (laid xs ys) ≡ length ys
unfolding laid
length-laid xs ys l = length-append xs (drop (length xs) ys) ∙ rw length-drop (omega arith)

zeros-dropped : (i k : ℕ) → ◌≡◌ {A = List ℕ} (drop i (replicate k 0)) (replicate (k - i) 0)
zeros-dropped zero k = ap (λ (j : ℕ). replicate {A = ℕ} j 0) (none-less k)
  where
    none-less : (k : ℕ) → k ≡ k - 0
    none-less k = omega arith
zeros-dropped (suc i) zero = ap (λ (j : ℕ). replicate {A = ℕ} j 0) (none_left i)
  where
    none_left : (i : ℕ) → 0 ≡ 0 - suc i
    none_left i = omega arith
zeros-dropped (suc i) (suc k) = zeros-dropped i k ∙ ap (λ (j : ℕ). replicate {A = ℕ} j 0) (both-less k i)
  where
    both-less : (k i : ℕ) → k - i ≡ suc k - suc i
    both-less k i = omega arith

pub laid-zeros : (k : ℕ) (xs : List ℕ) → laid xs (replicate k 0) ≡ padded k xs
unfolding laid padded
laid-zeros k xs = ap (λ (t : List ℕ). xs ++ t) (zeros-dropped (length xs) k)

get_d_replicate : (j i : ℕ) → ◌≡◌ {A = ℕ} (get_or (replicate j 0) i 0) 0
get_d_replicate zero i = refl
get_d_replicate (suc j) zero = refl
get_d_replicate (suc j) (suc i) = get_d_replicate j i

get_or-zeros : (j : ℕ) (xs : List ℕ) (i : ℕ) → get_or (xs ++ replicate j 0) i 0 ≡ get_or xs i 0
get_or-zeros j [] i = get_d_replicate j i
get_or-zeros j (x ∷ xs) zero = refl
get_or-zeros j (x ∷ xs) (suc i) = get_or-zeros j xs i

pub get_or-padded : (k : ℕ) (xs : List ℕ) (i : ℕ) → get_or (padded k xs) i 0 ≡ get_or xs i 0
unfolding padded
get_or-padded k xs i = get_or-zeros (k - length xs) xs i

pub length-again : (k : ℕ) (ps : List ℕ) → length (again k ps) ≡ length ps + k
unfolding again
length-again zero ps = omega arith
length-again (suc k) ps = length-append (again k ps) (get_or (again k ps) k 0 ∷ []) ∙ omega (arith, length-again k ps)

-- one point more is laid behind the last
pub laid-again : (k : ℕ) (ps qs : List ℕ) → 0 < length ps → length ps + k < length qs
    → set (laid (again k ps) qs) (length ps + k) (get_or (laid (again k ps) qs) k 0) ≡ laid (again (suc k) ps) qs
unfolding again
laid-again k ps qs some l =
    rw (get_or-laid (again k ps) qs k (omega (arith, length-again k ps)), sym (length-again k ps))
    (laid-set (again k ps) qs (get_or (again k ps) k 0) (omega (arith, length-again k ps)))

pub get_or-again : (k : ℕ) (ps : List ℕ) (i : ℕ) → i < length ps → get_or (again k ps) i 0 ≡ get_or ps i 0
unfolding again
get_or-again zero ps i l = refl
get_or-again (suc k) ps i l =
    get_or-append (again k ps) (get_or (again k ps) k 0 ∷ []) 0 i (omega (arith, length-again k ps)) ∙ get_or-again k ps i l

-- the place j behind the last point has what stands at the place j
pub get_or-again-more : (k : ℕ) (ps : List ℕ) (j : ℕ) → 0 < length ps → j < k → get_or (again k ps) (length ps + j) 0 ≡ get_or (again k ps) j 0
unfolding again
get_or-again-more zero ps j h l = absurd (omega arith)
get_or-again-more (suc k) ps j h l = go (dec_lt j k) (get_or-again-more k ps j h)
  where
    longer : (i : ℕ) → i < length ps + k → get_or (again (suc k) ps) i 0 ≡ get_or (again k ps) i 0
    longer i b = get_or-append (again k ps) (get_or (again k ps) k 0 ∷ []) 0 i (omega (arith, length-again k ps))

    last : get_or (again (suc k) ps) (length ps + k) 0 ≡ get_or (again k ps) k 0
    last = get_or_at (again k ps) (get_or (again k ps) k 0) [] 0 (length ps + k) (length-again k ps)

    go : Dec (j < k) → (j < k → get_or (again k ps) (length ps + j) 0 ≡ get_or (again k ps) j 0)
        → get_or (again (suc k) ps) (length ps + j) 0 ≡ get_or (again (suc k) ps) j 0
    go (yes b) ih = longer (length ps + j) (omega arith) ∙ ih b ∙ sym (longer j (omega arith))
    go (no b) ih =
        let same : j ≡ k = omega arith in
        subst (λ i. get_or (again (suc k) ps) (length ps + i) 0 ≡ get_or (again (suc k) ps) i 0) (sym same) (last ∙ sym (longer k (omega arith)))

-- the first four are laid behind the last, one after the other
module _ (ps qs : List ℕ) (n : ℕ) (h : n ≤ 64) (some : 0 < n) (q : length ps ≡ n) (long : length qs ≡ 68) where
  once_more : (k i : ℕ) → k < 4 → n + k ≡ i → set (laid (again k ps) qs) i (get_or (laid (again k ps) qs) k 0) ≡ laid (again (suc k) ps) qs
  once_more k i l e =
      subst (λ j. set (laid (again k ps) qs) j (get_or (laid (again k ps) qs) k 0) ≡ laid (again (suc k) ps) qs)
      (ap (λ (j : ℕ). j + k) q ∙ e) (laid-again k ps qs (omega arith) (omega arith))

  pub four-again : (a b c d e : List ℕ) → a ≡ laid ps qs
      → b ≡ set a n (get_or a 0 0) → c ≡ set b (n + 1) (get_or b 1 0) → d ≡ set c (n + 2) (get_or c 2 0) → e ≡ set d (n + 3) (get_or d 3 0)
      → e ≡ laid (again 4 ps) qs
  unfolding again
  four-again a b c d e ha hb hc hd he =
      let pb : b ≡ laid (again 1 ps) qs = hb ∙ rw ha (once_more 0 n (omega arith) (omega arith)) in
      let pc : c ≡ laid (again 2 ps) qs = hc ∙ rw pb (once_more 1 (n + 1) (omega arith) (omega arith)) in
      let pd : d ≡ laid (again 3 ps) qs = hd ∙ rw pc (once_more 2 (n + 2) (omega arith) (omega arith)) in
      he ∙ rw pd (once_more 3 (n + 3) (omega arith) (omega arith))

pub border-walk : (m : Mesh) (ne f : ℕ) → border m ne f ≡ border_of m f (face_walk m ne f)
unfolding border
border-walk m ne f = refl

-- what a walk answers is how many edges it passed, or that it passed none
pub passed-back : (w : Walk) {n : ℕ} → passed_by w ≡ Some n → passed w ≡ n
passed-back (back es) h = cc
passed-back lost h = cc

pub passed-lost : (w : Walk) → passed_by w ≡ None → passed w ≡ 0
passed-lost (back es) h = cc
passed-lost lost h = refl

pub border-passed : (m : Mesh) (ne f : ℕ) → (border m ne f).passed ≡ passed_by (face_walk m ne f)
unfolding border
border-passed m ne f = go (face_walk m ne f)
  where
    go : (w : Walk) → (border_of m f w).passed ≡ passed_by w
    go (back es) = refl
    go lost = refl

pub get_d_map : (g : ℕ → ℕ) (xs : List ℕ) (i : ℕ) → i < length xs → get_or (map g xs) i 0 ≡ g (get_or xs i 0)
get_d_map g [] i l = absurd (omega arith)
get_d_map g (x ∷ xs) zero l = refl
get_d_map g (x ∷ xs) (suc i) l = get_d_map g xs i (le_of_suc-le-suc l)

-- the point i is the first point of the edge i
pub border-point : (m : Mesh) (f : ℕ) (es : List ℕ) (i : ℕ) → i < length es
    → get_or (border_of m f (back es)).points i 0 ≡ first_point m f (get_or es i 0)
border-point m f es i l =
    get_or-padded 68 (again 4 (map (first_point m f) es)) i
    ∙ get_or-again 4 (map (first_point m f) es) i (rw length-map l)
    ∙ get_d_map (first_point m f) es i l

-- the four points behind the last are the first four
pub border-point-again : (m : Mesh) (f : ℕ) (es : List ℕ) (j : ℕ) → 0 < length es → j < 4
    → get_or (border_of m f (back es)).points (length es + j) 0 ≡ get_or (border_of m f (back es)).points j 0
border-point-again m f es j h l =
    let ps : List ℕ = map (first_point m f) es in
    get_or-padded 68 (again 4 ps) (length es + j)
    ∙ subst (λ i. get_or (again 4 ps) (i + j) 0 ≡ get_or (again 4 ps) j 0) (length-map es (first_point m f)) (get_or-again-more 4 ps j (rw length-map h) l)
    ∙ sym (get_or-padded 68 (again 4 ps) j)
