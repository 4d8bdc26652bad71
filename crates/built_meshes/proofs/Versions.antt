-- What the tests of a face by version say: the first points (43) and the side sums (13). Assumes nothing.
--     firsts-agree, firsts-apart    where they pass, the first point of a side is the point listed last before it; where they fail, some is not
--     sums-agree, sums_apart        where they pass, no sums are apart; where they fail, some are
use mathlib.Core.Path.{◌≡◌, refl, sym, ◌∙◌, subst}
use mathlib.Core.Bool.{Bool, true, false, ◌&&◌, true≢false}
use mathlib.Core.Logic.{◌⊎◌, inl, inr, ⊎_elim, ◌≢◌}
use Prim.Native.Nat.{ℕ, zero, suc, ◌<◌}
use native.Mathlib.Omega.{arith}
use lib.Ieee.{Float, sub, binary64}
use borrow.Author.Tests.{eqb-false}
use Rattle.positions.specs.Position.{small}
use Rattle.audited_meshes.specs.Folds.{every}
use Rattle.audited_meshes.proofs.Tests.{eqb_is, every-is}
use Rattle.built_meshes.specs.Lists.{Lists, size}
use Rattle.built_meshes.specs.Faces.{listed_at, side_from, last_before, first_at, first_fit, firsts_fit, sums_agree, sum_of_side, sums_fit}
use Rattle.built_meshes.specs.Grounds.{LastBefore, SumsApart, together, first-pair, second-pair}
use Rattle.built_meshes.specs.declared.Version.{Version}
use Rattle.built_meshes.specs.declared.Version.TheVariants.{One, Two}

-- a test of each number below n that fails, fails of some number
pub every-false : (n : ℕ) (test : ℕ → Bool) → every n test ≡ false → (k : ℕ) × (k < n) × (test k ≡ false)
unfolding every
every-false zero test h = absurd (true≢false h)
every-false (suc n) test h = go (every n test) refl (every-false n test) h
  where
    go : (b : Bool) → every n test ≡ b → (every n test ≡ false → (k : ℕ) × (k < n) × (test k ≡ false)) → b && test n ≡ false → (k : ℕ) × (k < suc n) × (test k ≡ false)
    go true e ih h = (n, omega arith, h)
    go false e ih h = let w = ih e in (w.0, omega (arith, w.1), w.2)

-- a conjunction that fails
pub and-false : (a b : Bool) → a && b ≡ false → (a ≡ false) ⊎ (b ≡ false)
and-false true b h = inr h
and-false false b h = inl refl

-- ---- the first points

last-is : (n b j : ℕ) → (suc j ≡ b) ⊎ ((b ≡ 0) × (suc j ≡ n)) → last_before n b ≡ j
last-is n b j (inl h) = subst (λ b. last_before n b ≡ j) h refl
last-is n b j (inr h) = subst (λ b. last_before n b ≡ j) (sym h.0) (let e = h.1 in omega arith)

is_last : (n b : ℕ) → 0 < n → (suc (last_before n b) ≡ b) ⊎ ((b ≡ 0) × (suc (last_before n b) ≡ n))
is_last n zero h = inr (refl, omega arith)
is_last n (suc b) h = inl refl

pub firsts-agree :
    (l : Lists) (f a k j : ℕ) → l.version ≡ Two → firsts_fit l.version l f a ≡ true → k < 4 → LastBefore l f k j → first_at l f k ≡ listed_at l a j
unfolding firsts_fit
firsts-agree l f a k j two h b last =
    subst (λ j. first_at l f k ≡ listed_at l a j) (last-is (size l f) (side_from l f 0 k) j last) (fits (subst (λ v. firsts_fit v l f a ≡ true) two h))
  where
    fits : firsts_fit Two l f a ≡ true → first_at l f k ≡ listed_at l a (last_before (size l f) (side_from l f 0 k))
    fits z = (every-is 4 (λ k. eqb_is (first_at l f k) (listed_at l a (last_before (size l f) (side_from l f 0 k))))).0 z k b

pub record FirstApart (l : Lists) (f a : ℕ) : Type 0 where
  pub two : l.version ≡ Two
  pub side : ℕ
  pub is-side : side < 4
  pub place : ℕ
  pub last : LastBefore l f side place
  pub differs : first_at l f side ≢ listed_at l a place

pub firsts-apart : (l : Lists) (f a : ℕ) → 0 < size l f → firsts_fit l.version l f a ≡ false → FirstApart l f a
unfolding firsts_fit
firsts-apart l f a some h = go l.version refl h
  where
    go : (v : Version) → l.version ≡ v → firsts_fit v l f a ≡ false → FirstApart l f a
    go One e z = absurd (true≢false z)
    go Two e z =
        let w = every-false 4 (λ k. first_fit l f a k) z in
        record {
          two = e;
          side = w.0;
          is-side = w.1;
          place = last_before (size l f) (side_from l f 0 w.0);
          last = is_last (size l f) (side_from l f 0 w.0) some;
          differs = eqb-false _ _ w.2;
        }

-- ---- the side sums

agree-apart : (v : Version) (s0 s1 s2 s3 : Float) → sums_agree v s0 s1 s2 s3 ≡ true → ¬ SumsApart s0 s1 s2 s3 v
agree-apart v s0 s1 s2 s3 h (together z) = true≢false (sym h ∙ z)
agree-apart v s0 s1 s2 s3 h (first-pair z) = true≢false (sym h ∙ (let e : small (sub binary64 s0 s2) && small (sub binary64 s1 s3) ≡ false = rw z in e))
agree-apart v s0 s1 s2 s3 h (second-pair z) = go (small (sub binary64 s0 s2)) h
  where
    go : (b : Bool) → b && small (sub binary64 s1 s3) ≡ true → ⊥
    go true y = true≢false (sym y ∙ z)
    go false y = true≢false (sym y)

disagree-apart : (v : Version) (s0 s1 s2 s3 : Float) → sums_agree v s0 s1 s2 s3 ≡ false → SumsApart s0 s1 s2 s3 v
disagree-apart One s0 s1 s2 s3 h = together h
disagree-apart Two s0 s1 s2 s3 h = ⊎_elim (λ z. first-pair z) (λ z. second-pair z) (and-false (small (sub binary64 s0 s2)) (small (sub binary64 s1 s3)) h)

pub sums-agree :
    (l : Lists) (f a : ℕ) → sums_fit l.version l f a ≡ true →
    ¬ SumsApart (sum_of_side l f a 0) (sum_of_side l f a 1) (sum_of_side l f a 2) (sum_of_side l f a 3) l.version
unfolding sums_fit
sums-agree l f a h = agree-apart l.version (sum_of_side l f a 0) (sum_of_side l f a 1) (sum_of_side l f a 2) (sum_of_side l f a 3) h

pub sums_apart :
    (l : Lists) (f a : ℕ) → sums_fit l.version l f a ≡ false →
    SumsApart (sum_of_side l f a 0) (sum_of_side l f a 1) (sum_of_side l f a 2) (sum_of_side l f a 3) l.version
unfolding sums_fit
sums_apart l f a h = disagree-apart l.version (sum_of_side l f a 0) (sum_of_side l f a 1) (sum_of_side l f a 2) (sum_of_side l f a 3) h
