-- The laws of the numbered order. Assumes nothing.
--     length-numbered         how long it is
--     take-numbered           its first entries
--     get_d_numbered           each entry
--     numbered-once           it is each face once
use mathlib.Core.Path.{◌≡◌, refl, sym, ap, ◌∙◌}
use mathlib.Core.Bool.{true}
use mathlib.Core.List.{[], ◌∷◌, ◌++◌}
use Prim.Native.Nat.{ℕ, zero, suc, ◌+◌, ◌≤◌, ◌<◌}
use native.Mathlib.Decide.{ℕ_discrete}
use native.Mathlib.Omega.{arith}
use lib.ListN.{length, take, get_or, length-append, get_or-append}
use lib.Seq.{take-append-le, take_all, get_or-append-add}
use Rattle.audited_meshes.specs.Folds.{distinct}
use Rattle.audited_meshes.proofs.Tests.{and_is, eqb_is, ltb-is, not_is, every-is}
use Rattle.steps.specs.Step.{each_face_once}
use Rattle.runs.specs.Runs.{numbered}

pub length-numbered : (n : ℕ) → length (numbered n) ≡ n
unfolding numbered
length-numbered zero = refl
length-numbered (suc n) =
    let a = length-append (numbered n) (n ∷ []) in
    let h = length-numbered n in
    omega arith

pub take-numbered : (k n : ℕ) → k ≤ n → take k (numbered n) ≡ numbered k
unfolding numbered
take-numbered k zero h = let z : k ≡ 0 = omega arith in rw z
take-numbered k (suc n) h = go (ℕ_discrete k (suc n)) (take-numbered k n)
  where
    go : Dec (k ≡ suc n) → (k ≤ n → take k (numbered n) ≡ numbered k) → take k (numbered (suc n)) ≡ numbered k
    go (yes e) earlier =
        let l = length-numbered (suc n) in
        rw e (take_all (suc n) (numbered (suc n)) (omega arith))
    go (no e) earlier =
        let l = length-numbered n in
        take-append-le k (numbered n) (n ∷ []) (omega arith) ∙ earlier (omega arith)

pub get_d_numbered : (n i : ℕ) → i < n → get_or (numbered n) i 0 ≡ i
unfolding numbered
get_d_numbered zero i h = absurd (omega arith)
get_d_numbered (suc n) i h = go (ℕ_discrete i n) (get_d_numbered n i)
  where
    go : Dec (i ≡ n) → (i < n → get_or (numbered n) i 0 ≡ i) → get_or (numbered (suc n)) i 0 ≡ i
    go (yes e) earlier =
        let l = length-numbered n in
        let k : i ≡ length (numbered n) + 0 = omega arith in
        ap (λ j. get_or (numbered n ++ (n ∷ [])) j 0) k ∙ get_or-append-add (numbered n) (n ∷ []) 0 0 ∙ sym e
    go (no e) earlier =
        let l = length-numbered n in
        get_or-append (numbered n) (n ∷ []) 0 i (omega arith) ∙ earlier (omega arith)

pub numbered-once : (n : ℕ) → each_face_once n (numbered n) ≡ true
unfolding each_face_once distinct
numbered-once n =
    (and_is (and_is (eqb_is (length (numbered n)) n) (every-is n (λ i. ltb-is (get_or (numbered n) i 0) n)))
    (every-is (length (numbered n)) (λ i. every-is i (λ j. not_is (eqb_is (get_or (numbered n) i 0) (get_or (numbered n) j 0)))))).1 (
      (length-numbered n, λ i h. rw (get_d_numbered n i h) h),
      λ i hi j hj e.
          let l = length-numbered n in
          let ei = get_d_numbered n i (omega arith) in
          let ej = get_d_numbered n j (omega arith) in
          omega arith,
    )
