-- A side run backwards, and a face of four sides turned round: what stands where. Assumes nothing.
use mathlib.Core.Path.{◌≡◌, refl, sym, ap, ◌∙◌}
use mathlib.Core.Bool.{Bool, true, false, cond}
use mathlib.Core.Logic.{◌≢◌}
use mathlib.Core.List.{List, [], ◌∷◌, ◌++◌, map, append_assoc, append-nil}
use Prim.Native.Nat.{ℕ, zero, suc, ◌+◌, ◌-◌, ◌≤◌, ◌<◌}
use native.Mathlib.Omega.{arith}
use native.Mathlib.Decide.{ℕ_discrete, dec_lt}
use lib.ListN.{length, get_or, length-append, length-map}
use lib.Ieee.{Float, nan}
use Rattle.mesh_lines.specs.Grammar.{Listed, Side, flat, points_in, intervals_in, side_first, side_count, side_points, side_intervals}
use Rattle.text_numbers.specs.Numbers.{float}
use Rattle.built_meshes.specs.Faces.{last_before}
use Rattle.mended_lists.specs.Reversal.{turned_point, turned_interval, turned_side, turned_first}
use Rattle.mended_lists.proofs.Reversal.{turned-last, turned-other}
use Rattle.mended_texts.specs.Turning.{backward_from, backward, turned_onto, turned_face, turned_if}

-- ---- one side

-- the last point of the way that goes on from a through ps
abbrev pub end_from : ℕ → List Listed → ℕ
end_from a [] = a
end_from a (p ∷ ps) = end_from p.point ps

-- the points of listed points joined
pub points-join : (ps qs : List Listed) → points_in (ps ++ qs) ≡ points_in ps ++ points_in qs
points-join [] qs = refl
points-join (p ∷ ps) qs = ap (λ (l : List ℕ). p.point ∷ l) (points-join ps qs)

pub intervals-join : (ps qs : List Listed) → intervals_in (ps ++ qs) ≡ intervals_in ps ++ intervals_in qs
intervals-join [] qs = refl
intervals-join (p ∷ ps) qs = ap (λ (l : List Float). float p.interval ∷ l) (intervals-join ps qs)

pub backward-first : (a : ℕ) (ps qs : List Listed) → (backward_from a ps qs).first ≡ end_from a ps
unfolding backward_from
backward-first a [] qs = refl
backward-first a (p ∷ ps) qs = backward-first p.point ps (record { point = a; interval = p.interval } ∷ qs)

pub backward-count : (a : ℕ) (ps qs : List Listed) → length (backward_from a ps qs).listed ≡ length ps + length qs
unfolding backward_from
backward-count a [] qs = omega arith
backward-count a (p ∷ ps) qs =
    let r = backward-count p.point ps (record { point = a; interval = p.interval } ∷ qs) in omega arith

-- what the way is run back to stays
pub backward-onto : (a : ℕ) (ps qs : List Listed) → (backward_from a ps qs).listed ≡ (backward_from a ps []).listed ++ qs
unfolding backward_from
backward-onto a [] qs = refl
backward-onto a (p ∷ ps) qs =
    let b : Listed = record { point = a; interval = p.interval } in
    backward-onto p.point ps (b ∷ qs)
    ∙ sym (append_assoc (backward_from p.point ps []).listed (b ∷ []) qs)
    ∙ ap (λ (l : List Listed). l ++ qs) (sym (backward-onto p.point ps (b ∷ [])))

-- a way that is run in two stretches
pub backward-join :
    (a : ℕ) (ps rs qs : List Listed) → backward_from a (ps ++ rs) qs ≡ backward_from (end_from a ps) rs (backward_from a ps qs).listed
unfolding backward_from
backward-join a [] rs qs = refl
backward-join a (p ∷ ps) rs qs = backward-join p.point ps rs (record { point = a; interval = p.interval } ∷ qs)

pub end-join : (a : ℕ) (ps rs : List Listed) → end_from a (ps ++ rs) ≡ end_from (end_from a ps) rs
end-join a [] rs = refl
end-join a (p ∷ ps) rs = end-join p.point ps rs

-- ---- what stands where in a way run back

points-past :
    (a : ℕ) (ps qs : List Listed) (j : ℕ) → get_or (points_in (backward_from a ps qs).listed) (length ps + j) 0 ≡ get_or (points_in qs) j 0
unfolding backward_from
points-past a [] qs j = let z : 0 + j ≡ j = omega arith in ap (λ (i : ℕ). get_or (points_in qs) i 0) z
points-past a (p ∷ ps) qs j =
    let b : Listed = record { point = a; interval = p.interval } in
    let z : suc (length ps) + j ≡ length ps + suc j = omega arith in
    ap (λ (i : ℕ). get_or (points_in (backward_from p.point ps (b ∷ qs)).listed) i 0) z ∙ points-past p.point ps (b ∷ qs) (suc j)

intervals-past :
    (a : ℕ) (ps qs : List Listed) (j : ℕ) →
    get_or (intervals_in (backward_from a ps qs).listed) (length ps + j) nan ≡ get_or (intervals_in qs) j nan
unfolding backward_from
intervals-past a [] qs j = let z : 0 + j ≡ j = omega arith in ap (λ (i : ℕ). get_or (intervals_in qs) i nan) z
intervals-past a (p ∷ ps) qs j =
    let b : Listed = record { point = a; interval = p.interval } in
    let z : suc (length ps) + j ≡ length ps + suc j = omega arith in
    ap (λ (i : ℕ). get_or (intervals_in (backward_from p.point ps (b ∷ qs)).listed) i nan) z
    ∙ intervals-past p.point ps (b ∷ qs) (suc j)

-- the points come in opposite order, and the last of them is a
pub points-back :
    (a : ℕ) (ps qs : List Listed) (i : ℕ) → i < length ps →
    get_or (points_in (backward_from a ps qs).listed) i 0 ≡ get_or (a ∷ points_in ps) (length ps - 1 - i) 0
unfolding backward_from
points-back a [] qs i h = absurd (omega arith)
points-back a (p ∷ ps) qs i h = go (ℕ_discrete i (length ps)) (λ b. points-back p.point ps (record { point = a; interval = p.interval } ∷ qs) i b)
  where
    b : Listed
    b = record { point = a; interval = p.interval }

    go :
        Dec (i ≡ length ps) →
        (i < length ps →
        get_or (points_in (backward_from p.point ps (b ∷ qs)).listed) i 0 ≡ get_or (p.point ∷ points_in ps) (length ps - 1 - i) 0) →
        get_or (points_in (backward_from p.point ps (b ∷ qs)).listed) i 0
        ≡ get_or (a ∷ p.point ∷ points_in ps) (suc (length ps) - 1 - i) 0
    go (yes e) before =
        let z : i ≡ length ps + 0 = omega arith in
        let y : suc (length ps) - 1 - i ≡ 0 = omega arith in
        ap (λ (x : ℕ). get_or (points_in (backward_from p.point ps (b ∷ qs)).listed) x 0) z ∙ points-past p.point ps (b ∷ qs) 0
        ∙ sym (ap (λ (x : ℕ). get_or (a ∷ p.point ∷ points_in ps) x 0) y)
    go (no e) before =
        let y : suc (length ps) - 1 - i ≡ suc (length ps - 1 - i) = omega arith in
        before (omega arith) ∙ sym (ap (λ (x : ℕ). get_or (a ∷ p.point ∷ points_in ps) x 0) y)

pub intervals-back :
    (a : ℕ) (ps qs : List Listed) (i : ℕ) → i < length ps →
    get_or (intervals_in (backward_from a ps qs).listed) i nan ≡ get_or (intervals_in ps) (length ps - 1 - i) nan
unfolding backward_from
intervals-back a [] qs i h = absurd (omega arith)
intervals-back a (p ∷ ps) qs i h =
    go (ℕ_discrete i (length ps)) (λ b. intervals-back p.point ps (record { point = a; interval = p.interval } ∷ qs) i b)
  where
    b : Listed
    b = record { point = a; interval = p.interval }

    go :
        Dec (i ≡ length ps) →
        (i < length ps →
        get_or (intervals_in (backward_from p.point ps (b ∷ qs)).listed) i nan ≡ get_or (intervals_in ps) (length ps - 1 - i) nan) →
        get_or (intervals_in (backward_from p.point ps (b ∷ qs)).listed) i nan
        ≡ get_or (float p.interval ∷ intervals_in ps) (suc (length ps) - 1 - i) nan
    go (yes e) before =
        let z : i ≡ length ps + 0 = omega arith in
        let y : suc (length ps) - 1 - i ≡ 0 = omega arith in
        ap (λ (x : ℕ). get_or (intervals_in (backward_from p.point ps (b ∷ qs)).listed) x nan) z
        ∙ intervals-past p.point ps (b ∷ qs) 0
        ∙ sym (ap (λ (x : ℕ). get_or (float p.interval ∷ intervals_in ps) x nan) y)
    go (no e) before =
        let y : suc (length ps) - 1 - i ≡ suc (length ps - 1 - i) = omega arith in
        before (omega arith) ∙ sym (ap (λ (x : ℕ). get_or (float p.interval ∷ intervals_in ps) x nan) y)

-- the last point
pub end-last : (a : ℕ) (ps : List Listed) → 0 < length ps → end_from a ps ≡ get_or (points_in ps) (length ps - 1) 0
end-last a [] h = absurd (omega arith)
end-last a (p ∷ []) h = refl
end-last a (p ∷ q ∷ ps) h =
    let y : suc (suc (length ps)) - 1 ≡ suc (suc (length ps) - 1) = omega arith in
    end-last p.point (q ∷ ps) (omega arith) ∙ sym (ap (λ (x : ℕ). get_or (p.point ∷ points_in (q ∷ ps)) x 0) y)
