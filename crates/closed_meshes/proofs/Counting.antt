-- Rows are counted: an injective map between rows goes to no fewer, and one onto as many is a bijection. Assumes nothing.
use mathlib.Core.Path.{◌≡◌, refl, sym, ◌∙◌, ap, subst}
use mathlib.Core.Logic.{◌⊎◌, inl, inr}
use Prim.Native.Nat.{ℕ, zero, suc, ◌≤◌, ◌<◌}
use native.Mathlib.Omega.{arith}
use native.Mathlib.Bridge.{le_prop}
use native.Mathlib.Decide.{dec_lt, ℕ_discrete}
use mathlib.Core.HLevel.{Σ_prop_path}
use Rattle.closed_meshes.specs.Renumbering.{Injective, Bijection, Row}

-- Rows with one number are one.
pub row-path : {n : ℕ} (i j : Row n) → i.0 ≡ j.0 → i ≡ j
row-path {n} i j e = Σ_prop_path (λ (k : ℕ). le_prop {n = suc k} {m = n}) {u = i} {v = j} e

-- the rows of a table with one row more: the old ones and the last
abbrev pub former : {n : ℕ} → Row n → Row (suc n)
former {n} i = (i.0, omega (arith, i.1))

abbrev pub latter : {n : ℕ} → Row (suc n)
latter {n} = (n, omega arith)

-- One row fewer on both sides: what goes to the last row goes to the row z instead, which is free.
module _ {n m : ℕ} (g : Row (suc n) → Row (suc m)) (injective : Injective g) where
  Lowered : Row n → Row m → Type 0
  Lowered i y = (((g (former i)).0 ≡ m) × (y.0 ≡ (g latter).0)) ⊎ ((¬ ((g (former i)).0 ≡ m)) × (y.0 ≡ (g (former i)).0))

  not_last : (i : Row n) → ¬ ((g (former i)).0 ≡ (g latter).0)
  not_last i e =
      let h : i.0 ≡ n = ap (λ r. r.0) (injective (former i) latter (row-path _ _ e)) in
      omega (arith, i.1)

  former-injective : (i j : Row n) → (g (former i)).0 ≡ (g (former j)).0 → i ≡ j
  former-injective i j e = row-path i j (ap (λ r. r.0) (injective (former i) (former j) (row-path _ _ e)))

  lowered : (i : Row n) → (y : Row m) × Lowered i y
  unfolding Lowered
  lowered i = go (ℕ_discrete (g (former i)).0 m)
    where
      go : Dec ((g (former i)).0 ≡ m) → (y : Row m) × Lowered i y
      go (yes e) =
          let h : ¬ ((g latter).0 ≡ m) = λ h. not_last i (e ∙ sym h) in
          (((g latter).0, omega (arith, (g latter).1, h)), inl (e, refl))
      go (no h) = (((g (former i)).0, omega (arith, (g (former i)).1, h)), inr (h, refl))

  lowered-injective : (i j : Row n) (y : Row m) → Lowered i y → Lowered j y → i ≡ j
  unfolding Lowered
  lowered-injective i j y (inl s) (inl t) = former-injective i j (s.0 ∙ sym t.0)
  lowered-injective i j y (inl s) (inr t) = absurd (not_last j (sym t.1 ∙ s.1))
  lowered-injective i j y (inr s) (inl t) = absurd (not_last i (sym s.1 ∙ t.1))
  lowered-injective i j y (inr s) (inr t) = former-injective i j (sym s.1 ∙ t.1)

-- An injective map goes to no fewer rows.
pub rows-le : (n m : ℕ) (g : Row n → Row m) → Injective g → n ≤ m
rows-le zero m g h = omega arith
rows-le (suc n) zero g h = absurd (omega (arith, (g latter).1))
rows-le (suc n) (suc m) g h =
    let le : n ≤ m =
    rows-le n m (λ i. (lowered g h i).0) λ i j e.
    lowered-injective g h i j (lowered g h i).0 (lowered g h i).1 (subst (Lowered g h j) (sym e) (lowered g h j).1) in
    omega arith

-- A row is a former one or the last.
abbrev Parted : {n : ℕ} → Row (suc n) → Type 0
Parted {n} x = ((i : Row n) × (x ≡ former i)) ⊎ (x ≡ latter)

parted : {n : ℕ} (x : Row (suc n)) → Parted x
parted {n} x = go (dec_lt x.0 n)
  where
    go : Dec (x.0 < n) → Parted x
    go (yes h) = inl ((x.0, h), row-path _ _ refl)
    go (no h) = inr (row-path _ _ (omega (arith, x.1)))

-- Either some row goes to y or none does.
found : {m : ℕ} (n : ℕ) (g : Row n → Row m) (y : Row m) → ((x : Row n) × (g x ≡ y)) ⊎ ((x : Row n) → ¬ (g x ≡ y))
found zero g y = inr λ x. absurd (omega (arith, x.1))
found (suc n) g y = go (found n (λ i. g (former i)) y) (ℕ_discrete (g latter).0 y.0)
  where
    go :
        ((x : Row n) × (g (former x) ≡ y)) ⊎ ((x : Row n) → ¬ (g (former x) ≡ y)) → Dec ((g latter).0 ≡ y.0) →
        ((x : Row (suc n)) × (g x ≡ y)) ⊎ ((x : Row (suc n)) → ¬ (g x ≡ y))
    go (inl x) d = inl (former x.0, x.1)
    go (inr h) (yes e) = inl (latter, row-path _ _ e)
    go (inr h) (no k) = inr λ x. none x (parted x)
      where
        none : (x : Row (suc n)) → Parted x → ¬ (g x ≡ y)
        none x (inl t) e = h t.0 (ap g (sym t.1) ∙ e)
        none x (inr t) e = k (ap (λ r. (g r).0) (sym t) ∙ ap (λ r. r.0) e)

module _ {n : ℕ} (g : Row n → Row n) (injective : Injective g) where
  -- One more row goes to y.
  extended : (y : Row n) (x : Row (suc n)) → Parted x → Row n
  extended y x (inl t) = g t.0
  extended y x (inr t) = y

  extended-injective :
      (y : Row n) → ((x : Row n) → ¬ (g x ≡ y)) → (u v : Row (suc n)) (s : Parted u) (t : Parted v) →
      extended y u s ≡ extended y v t → u ≡ v
  unfolding extended
  extended-injective y free u v (inl s) (inl t) e = s.1 ∙ ap former (injective s.0 t.0 e) ∙ sym t.1
  extended-injective y free u v (inl s) (inr t) e = absurd (free s.0 e)
  extended-injective y free u v (inr s) (inl t) e = absurd (free t.0 (sym e))
  extended-injective y free u v (inr s) (inr t) e = s ∙ sym t

  -- An injective map of n rows into n rows is onto.
  pub injective-onto : (y : Row n) → (x : Row n) × (g x ≡ y)
  injective-onto y = go (found n g y)
    where
      go : ((x : Row n) × (g x ≡ y)) ⊎ ((x : Row n) → ¬ (g x ≡ y)) → (x : Row n) × (g x ≡ y)
      go (inl t) = t
      go (inr free) =
          let le : suc n ≤ n =
          rows-le (suc n) n (λ x. extended y x (parted x)) (λ u v. extended-injective y free u v (parted u) (parted v)) in
          absurd (omega arith)

-- An injective map that is onto is a bijection.
abbrev pub bijection : {A B : Type 0} (g : A → B) → Injective g → ((y : B) → (x : A) × (g x ≡ y)) → Bijection A B
bijection g injective at =
    record { to = g; from = λ y. (at y).0; from-to = λ x. injective _ _ (at (g x)).1; to-from = λ y. (at y).1 }

-- Numbers that are injective and in range number the rows of a type that has as many.
pub numbered-onto :
    {A : Type 0} {n : ℕ} → Bijection A (Row n) → (g : A → Row n) → Injective g → (y : Row n) → (x : A) × (g x ≡ y)
numbered-onto {A} {n} b g injective y = (b.from at.0, at.1)
  where
    at : (x : Row n) × (g (b.from x) ≡ y)
    at =
        injective-onto (λ x. g (b.from x))
        (λ x y e. sym (b.to-from x) ∙ ap b.to (injective (b.from x) (b.from y) e) ∙ b.to-from y)
        y

abbrev pub numbering : {A : Type 0} {n : ℕ} → Bijection A (Row n) → (g : A → Row n) → Injective g → Bijection A (Row n)
numbering b g injective = bijection g injective (numbered-onto b g injective)
