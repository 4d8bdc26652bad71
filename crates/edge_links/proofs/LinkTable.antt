-- The laws of the table of links: what stands at a face state and a vertex state. Assumes nothing.
use mathlib.Core.Path.{◌≡◌, refl, ◌∙◌}
use mathlib.Core.Bool.{Bool, true, false, ◌&&◌, cond}
use mathlib.Core.List.{List, [], ◌∷◌}
use Prim.Native.Nat.{ℕ, ◌+◌, ◌*◌, ◌/◌, ◌%◌, ◌<◌, ◌≤◌}
use native.Mathlib.Omega.{arith}
use borrow.Author.Tests.{ne_eqb}
use lib.Dec.{eqb}
use lib.ListN.{get_or}
use Rattle.std.specs.Prelude.{Option, Some, None}
use Rattle.edge_ends.specs.Connection.{index_of, connection_at}
use Rattle.edge_ends.specs.declared.TnurccConnection.{TnurccConnection}
use Rattle.edge_links.specs.Connect.{links_of}
use Rattle.edge_ends.proofs.Laws.{index_below, connection-at-index}
use Rattle.edge_links.proofs.Table.{at}

-- the numbers by which the table names links, 4 for a mismatch
abbrev pub own_number : Option (TnurccConnection × TnurccConnection) → ℕ
own_number (Some (c, d)) = index_of c
own_number None = 4

abbrev pub other_number : Option (TnurccConnection × TnurccConnection) → ℕ
other_number (Some (c, d)) = index_of d
other_number None = 4

abbrev pub table : List ℕ
table =
    0 ∷ 1 ∷ 1 ∷ 0 ∷ 4 ∷ 4 ∷ 4 ∷ 4 ∷ 3 ∷ 2 ∷ 2 ∷ 3 ∷ 4 ∷ 4 ∷ 4 ∷ 4
    ∷ 4 ∷ 4 ∷ 4 ∷ 4 ∷ 0 ∷ 3 ∷ 1 ∷ 2 ∷ 4 ∷ 4 ∷ 4 ∷ 4 ∷ 3 ∷ 0 ∷ 2 ∷ 1 ∷ []

-- what stands at the place k of the table
rule : ℕ → ℕ
rule k =
    cond (eqb (k % 2) 0) (own_number (links_of (k / 8) (k / 2 % 4))) (other_number (links_of (k / 8) (k / 2 % 4)))

entry : (k : ℕ) → k < 32 → get_or table k 0 ≡ rule k
unfolding rule links_of
entry k h = at rule table refl k h

pub own-entry : (f v : ℕ) → f < 4 → v < 4 → get_or table (f * 8 + v * 2) 0 ≡ own_number (links_of f v)
unfolding rule
own-entry f v hf hv =
    let k = f * 8 + v * 2 in
    let even : k % 2 ≡ 0 = omega arith in
    let face : k / 8 ≡ f = omega arith in
    let half : k / 2 ≡ f * 4 + v = omega arith in
    let vert : k / 2 % 4 ≡ v = rw half (omega arith) in
    entry k (omega arith) ∙ rw (even, face, vert)

pub other-entry : (f v : ℕ) → f < 4 → v < 4 → get_or table (f * 8 + v * 2 + 1) 0 ≡ other_number (links_of f v)
unfolding rule
other-entry f v hf hv =
    let k = f * 8 + v * 2 + 1 in
    let odd : k % 2 ≡ 1 = omega arith in
    let face : k / 8 ≡ f = omega arith in
    let half : k / 2 ≡ f * 4 + v = omega arith in
    let vert : k / 2 % 4 ≡ v = rw half (omega arith) in
    entry k (omega arith) ∙ rw (odd, face, vert)

pub mismatch-of-number : (l : Option (TnurccConnection × TnurccConnection)) → own_number l ≡ 4 → l ≡ None
mismatch-of-number (Some (c, d)) h = absurd (never (index_below c) h)
  where
    never : {n : ℕ} → n < 4 → n ≡ 4 → ⊥
    never a b = omega arith
mismatch-of-number None h = refl

pub both-of-numbers : (l : Option (TnurccConnection × TnurccConnection)) → (own_number l ≡ 4 → ⊥) → Some (connection_at (own_number l), connection_at (other_number l)) ≡ l
both-of-numbers (Some (c, d)) h = rw (connection-at-index c, connection-at-index d)
both-of-numbers None h = absurd (h refl)

and-false : (b : Bool) → b && false ≡ false
and-false true = refl
and-false false = refl

pub links-face-past : (f v : ℕ) → 4 ≤ f → links_of f v ≡ None
unfolding links_of
links-face-past f v h =
    simp (
      ne_eqb 0 f (λ (e : 0 ≡ f). omega arith),
      ne_eqb 1 f (λ (e : 1 ≡ f). omega arith),
      ne_eqb 2 f (λ (e : 2 ≡ f). omega arith),
      ne_eqb 3 f (λ (e : 3 ≡ f). omega arith),
    )

pub links-vertex-past : (f v : ℕ) → 4 ≤ v → links_of f v ≡ None
unfolding links_of
links-vertex-past f v h =
    simp (
      ne_eqb 0 v (λ (e : 0 ≡ v). omega arith),
      ne_eqb 1 v (λ (e : 1 ≡ v). omega arith),
      ne_eqb 2 v (λ (e : 2 ≡ v). omega arith),
      ne_eqb 3 v (λ (e : 3 ≡ v). omega arith),
      and-false,
    )
