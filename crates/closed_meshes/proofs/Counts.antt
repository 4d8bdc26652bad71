-- How many rows a refined mesh has: of np points, ne edges and nf faces it has np + ne + nf points, 4 ne edges and 2 ne faces.
-- Assumes nothing.
use mathlib.Core.Path.{◌≡◌, refl, ap, subst}
use mathlib.Core.Logic.{◌⊎◌, inl, inr}
use Prim.Native.Nat.{ℕ, ◌+◌, ◌-◌, ◌*◌, ◌<◌}
use native.Mathlib.Omega.{arith}
use native.Mathlib.Decide.{dec_lt}
use Rattle.closed_meshes.specs.Mesh.{Dart, lft, rgt}
use Rattle.closed_meshes.specs.Refinement.{NewPoint, old, mid, face_point, NewEdge, org, dst, join}
use Rattle.closed_meshes.specs.Renumbering.{Injective, Bijection, Row}
use Rattle.closed_meshes.proofs.Counting.{row-path, bijection}
use Rattle.closed_meshes.proofs.Groupoid.{composed}
use Rattle.closed_meshes.proofs.Isomorphisms.{inverse}

-- One table after another.
module _ (a b : ℕ) where
  joint : Row a ⊎ Row b → Row (a + b)
  joint (inl i) = (i.0, omega (arith, i.1))
  joint (inr i) = (a + i.0, omega (arith, i.1))

  joint-injective : Injective joint
  unfolding joint
  joint-injective (inl i) (inl j) h = ap inl (row-path i j (ap (λ r. r.0) h))
  joint-injective (inl i) (inr j) h = let e : i.0 ≡ a + j.0 = ap (λ r. r.0) h in absurd (omega (arith, i.1))
  joint-injective (inr i) (inl j) h = let e : a + i.0 ≡ j.0 = ap (λ r. r.0) h in absurd (omega (arith, j.1))
  joint-injective (inr i) (inr j) h = let e : a + i.0 ≡ a + j.0 = ap (λ r. r.0) h in ap inr (row-path i j (omega arith))

  joint-onto : (y : Row (a + b)) → (x : Row a ⊎ Row b) × (joint x ≡ y)
  unfolding joint
  joint-onto y = go (dec_lt y.0 a)
    where
      go : Dec (y.0 < a) → (x : Row a ⊎ Row b) × (joint x ≡ y)
      go (yes h) = (inl (y.0, h), row-path _ _ refl)
      go (no h) = (inr (y.0 - a, omega (arith, y.1)), row-path _ _ (omega arith))

  rows-joint : Bijection (Row a ⊎ Row b) (Row (a + b))
  rows-joint = bijection joint joint-injective joint-onto

-- A bijection of two types each makes one of their sums.
either : {A B A' B' : Type 0} → (A → A') → (B → B') → A ⊎ B → A' ⊎ B'
either g h (inl x) = inl (g x)
either g h (inr y) = inr (h y)

either-back :
    {A B A' B' : Type 0} (k : Bijection A A') (l : Bijection B B') (x : A ⊎ B) →
    either k.from l.from (either k.to l.to x) ≡ x
unfolding either
either-back k l (inl x) = ap inl (k.from-to x)
either-back k l (inr y) = ap inr (l.from-to y)

both : {A B : Type 0} {a b : ℕ} → Bijection A (Row a) → Bijection B (Row b) → Bijection (A ⊎ B) (Row (a + b))
both {A} {B} {a} {b} k l = composed halves (rows-joint a b)
  where
    halves : Bijection (A ⊎ B) (Row a ⊎ Row b)
    halves =
        record {
          to = either k.to l.to;
          from = either k.from l.from;
          from-to = either-back k l;
          to-from = either-back (inverse k) (inverse l);
        }

-- The kinds of rows as sums.
kinds-of-darts : {E : Type 0} → Bijection (Dart E) (E ⊎ E)
kinds-of-darts =
    record {
      to = elim [ lft e ↦ inl e | rgt e ↦ inr e ];
      from = elim [ inl e ↦ lft e | inr e ↦ rgt e ];
      from-to = elim [ lft e ↦ refl | rgt e ↦ refl ];
      to-from = elim [ inl e ↦ refl | inr e ↦ refl ];
    }

kinds-of-points : {P E F : Type 0} → Bijection (NewPoint P E F) ((P ⊎ E) ⊎ F)
kinds-of-points =
    record {
      to = elim [ old p ↦ inl (inl p) | mid e ↦ inl (inr e) | face_point f ↦ inr f ];
      from = elim [ inl (inl p) ↦ old p | inl (inr e) ↦ mid e | inr f ↦ face_point f ];
      from-to = elim [ old p ↦ refl | mid e ↦ refl | face_point f ↦ refl ];
      to-from = elim [ inl (inl p) ↦ refl | inl (inr e) ↦ refl | inr f ↦ refl ];
    }

kinds-of-edges : {E : Type 0} → Bijection (NewEdge E) ((E ⊎ E) ⊎ Dart E)
kinds-of-edges =
    record {
      to = elim [ org e ↦ inl (inl e) | dst e ↦ inl (inr e) | join d ↦ inr d ];
      from = elim [ inl (inl e) ↦ org e | inl (inr e) ↦ dst e | inr d ↦ join d ];
      from-to = elim [ org e ↦ refl | dst e ↦ refl | join d ↦ refl ];
      to-from = elim [ inl (inl e) ↦ refl | inl (inr e) ↦ refl | inr d ↦ refl ];
    }

-- The same rows under another name of their number.
recounted : {A : Type 0} {n n' : ℕ} → n ≡ n' → Bijection A (Row n) → Bijection A (Row n')
recounted {A} e b = subst (λ n. Bijection A (Row n)) e b

module _
    {P E F : Type 0} {np ne nf : ℕ} (points : Bijection P (Row np)) (edges : Bijection E (Row ne)) (faces : Bijection F (Row nf))
  where
    pub count-points : Bijection (NewPoint P E F) (Row (np + ne + nf))
    count-points = composed kinds-of-points (both (both points edges) faces)

module _ {E : Type 0} {ne : ℕ} (edges : Bijection E (Row ne)) where
  pub count-darts : Bijection (Dart E) (Row (2 * ne))
  count-darts = recounted {n = ne + ne} (omega arith) (composed kinds-of-darts (both edges edges))

  pub count-edges : Bijection (NewEdge E) (Row (4 * ne))
  count-edges = recounted {n = ne + ne + 2 * ne} (omega arith) (composed kinds-of-edges (both (both edges edges) count-darts))
