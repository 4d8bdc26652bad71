-- The face that two edges have in common, with the side as a number: 0 if a test holds, else 1. Assumes nothing.
--     number-at-most        such a number is at most 1
--     side-at-most          so is the side that has_face compares
--     has-face-answer       the face on the side by number is compared: so are both
--     likely-answer         the face on the side by number is the likely face
--     likely-common         the likely face is the common one, where it is a face and the next edge has it
use mathlib.Core.Path.{◌≡◌, refl, sym, ◌∙◌, ap}
use mathlib.Core.Bool.{Bool, true, false, cond}
use mathlib.Core.List.{List}
use Prim.Native.Nat.{ℕ, ◌+◌, ◌*◌, ◌≤◌}
use native.Mathlib.Omega.{arith}
use lib.Dec.{eqb}
use lib.ListN.{get_or}
use lib.Ieee.{Float}
use Rattle.t_spline.specs.Edge.{none, same_face, common_face}
use Rattle.tables.specs.Layout.{edge_width, left_face_word, right_face_word}
use Rattle.tables.specs.Records.{edge_at}
use Rattle.common_faces.specs.Sides.{has_face, likely_face}

pub number-at-most : (s : ℕ) (t : Bool) → s ≡ cond t 0 1 → s ≤ 1
number-at-most s true h = let z : s ≡ 0 = h in omega arith
number-at-most s false h = let z : s ≡ 1 = h in omega arith

-- w is where the left face stands, w' where the right one does
compared : (es : List ℕ) (w w' f s : ℕ) (t : Bool) → w + 1 ≡ w' → eqb f (get_or es w 0) ≡ t → s ≡ cond t 0 1
    → eqb f (get_or es (w + s) 0) ≡ cond t true (eqb f (get_or es w' 0))
compared es w w' f s true n q h =
    let z : s ≡ 0 = h in
    ap (λ (k : ℕ). eqb f (get_or es k 0)) (omega arith) ∙ q
compared es w w' f s false n q h =
    let z : s ≡ 1 = h in
    ap (λ (k : ℕ). eqb f (get_or es k 0)) (omega arith)

chosen : (es : List ℕ) (w w' s : ℕ) (t : Bool) → w + 1 ≡ w' → s ≡ cond t 0 1
    → get_or es (w + s) 0 ≡ cond t (get_or es w 0) (get_or es w' 0)
chosen es w w' s true n h =
    let z : s ≡ 0 = h in
    ap (λ (k : ℕ). get_or es k 0) (omega arith)
chosen es w w' s false n h =
    let z : s ≡ 1 = h in
    ap (λ (k : ℕ). get_or es k 0) (omega arith)

pub side-at-most : (es : List ℕ) (e f s : ℕ) → s ≡ cond (eqb f (get_or es (e * edge_width + left_face_word) 0)) 0 1 → s ≤ 1
side-at-most es e f s h = number-at-most s (eqb f (get_or es (e * edge_width + left_face_word) 0)) h

pub has-face-answer : (es : List ℕ) (e f s : ℕ) → s ≡ cond (eqb f (get_or es (e * edge_width + left_face_word) 0)) 0 1
    → eqb f (get_or es (e * edge_width + left_face_word + s) 0) ≡ has_face es e f
has-face-answer es e f s h =
    compared es (e * edge_width + left_face_word) (e * edge_width + right_face_word) f s (eqb f (get_or es (e * edge_width + left_face_word) 0))
    (omega arith) refl h

pub likely-answer : (es : List ℕ) (r next s : ℕ) (t : Bool) → t ≡ has_face es next (get_or es (r * edge_width + left_face_word) 0) → s ≡ cond t 0 1
    → get_or es (r * edge_width + left_face_word + s) 0 ≡ likely_face es r next
likely-answer es r next s t q h =
    chosen es (r * edge_width + left_face_word) (r * edge_width + right_face_word) s (has_face es next (get_or es (r * edge_width + left_face_word) 0))
    (omega arith) (h ∙ ap (λ (b : Bool). cond b 0 1) q)

-- one face compared with both faces of the next edge, as common_face does: n says that it is none, a and b that it is the left and the right one
had : (n a b : Bool) (f rest : ℕ) → cond n false (cond a true b) ≡ true → cond (cond n false a) f (cond (cond n false b) f rest) ≡ f
had false true b f rest h = refl
had false false true f rest h = refl
had false false false f rest h = let z : false ≡ true = h in cc
had true a b f rest h = let z : false ≡ true = h in cc

not-had : (n a b : Bool) (f rest : ℕ) → cond a true b ≡ false → cond (cond n false a) f (cond (cond n false b) f rest) ≡ rest
not-had n true b f rest h = let z : true ≡ false = h in cc
not-had n false true f rest h = let z : true ≡ false = h in cc
not-had false false false f rest h = refl
not-had true false false f rest h = refl

abbrev first_of : ℕ → ℕ → ℕ → ℕ → ℕ
first_of nl nr rest f = cond (same_face f nl) f (cond (same_face f nr) f rest)

-- l and r are the faces of an edge, nl and nr those of the next one
common : (l r nl nr f : ℕ) (b : Bool) → cond (eqb l nl) true (eqb l nr) ≡ b → f ≡ cond b l r
    → cond (eqb f none) false (cond (eqb f nl) true (eqb f nr)) ≡ true → f ≡ first_of nl nr (first_of nl nr none r) l
common l r nl nr f true q h g =
    sym (had (eqb f none) (eqb f nl) (eqb f nr) f (first_of nl nr none r) g)
    ∙ ap (λ (k : ℕ). first_of nl nr (first_of nl nr none r) k) h
common l r nl nr f false q h g =
    sym (had (eqb f none) (eqb f nl) (eqb f nr) f none g)
    ∙ ap (λ (k : ℕ). first_of nl nr none k) h
    ∙ sym (not-had (eqb l none) (eqb l nl) (eqb l nr) l (first_of nl nr none r) q)

pub likely-common : (es : List ℕ) (is : List Float) (r next f : ℕ) (t : Bool) → f ≡ likely_face es r next
    → t ≡ cond (eqb f none) false (has_face es next f) → t ≡ true → f ≡ common_face (edge_at es is r) (edge_at es is next)
likely-common es is r next f t h q y =
    common (get_or es (r * edge_width + left_face_word) 0) (get_or es (r * edge_width + right_face_word) 0)
    (get_or es (next * edge_width + left_face_word) 0) (get_or es (next * edge_width + right_face_word) 0) f
    (has_face es next (get_or es (r * edge_width + left_face_word) 0)) refl h (sym q ∙ y)
