-- The claims of the finder's answers. Assumes nothing.
use mathlib.Core.Path.{◌≡◌, refl, sym, ◌∙◌, ap, subst}
use mathlib.Core.Bool.{Bool, true, false, false≢true}
use Prim.Native.Nat.{ℕ, ◌<◌}
use native.Mathlib.Omega.{arith}
use native.Mathlib.Decide.{dec_lt}
use lib.Ieee.{Float}
use lib.Ieee.Scale.{finite}
use Rattle.std.specs.Prelude.{Result, Ok, Err}
use Rattle.crossings.specs.declared.NoCrossing.{NoCrossing}
use Rattle.crossings.specs.declared.NoCrossing.TheVariants.{NotFiniteDepth, NotClosed, Nowhere}
use Rattle.tables.specs.Mesh.{Mesh}
use Rattle.tables.specs.declared.Counts.{Counts}
use Rattle.audited_meshes.specs.Audit.{audit}
use Rattle.audited_meshes.specs.Audited.{Audited}
use Rattle.audited_meshes.proofs.Audited.{audit-is-audited}
use Rattle.crossings.specs.Crossings.{crosses, Searchable, Finds, first_from, find}
use Rattle.crossings.specs.Claims.{Exactly, FindFinds, Lowest, LowestExactly, JoinedFound}
use Rattle.crossings.proofs.First.{FirstOf, first-is}
use Rattle.crossings.proofs.Joined.{chain-crosses}

-- a test that fails does not pass
clash : {A : Type 0} {b : Bool} → b ≡ true → b ≡ false → A
clash t f = absurd (false≢true (sym f ∙ t))

-- two numbers that differ
differ : {A : Type 0} {k n : ℕ} → (k ≡ n → ⊥) → k ≡ n → A
differ h e = absurd (h e)

pub exactly : Exactly
exactly m c d (Err NotFiniteDepth) f =
    record {
      not_finite = (λ e. f, λ h. refl);
      not-closed = (differ (λ e. omega arith), λ h. clash h.0 f);
      nowhere = (differ (λ e. omega arith), λ h. clash h.0.0 f);
      somewhere = (differ (λ e. omega arith), λ h. clash h.0.0 f);
    }
exactly m c d (Err NotClosed) (f, a) =
    record {
      not_finite = (differ (λ e. omega arith), λ h. clash f h);
      not-closed = (λ e. (f, a), λ h. refl);
      nowhere = (differ (λ e. omega arith), λ h. clash h.0.1 a);
      somewhere = (differ (λ e. omega arith), λ h. clash h.0.1 a);
    }
exactly m c d (Err Nowhere) (ready, none) =
    record {
      not_finite = (differ (λ e. omega arith), λ h. clash ready.0 h);
      not-closed = (differ (λ e. omega arith), λ h. clash ready.1 h.1);
      nowhere = (λ e. (ready, none), λ h. refl);
      somewhere = (differ (λ e. omega arith), λ h. let (e, l, t) = h.1 in clash t (none e l));
    }
exactly m c d (Ok e) (ready, l, t) =
    record {
      not_finite = (differ (λ e. omega arith), λ h. clash ready.0 h);
      not-closed = (differ (λ e. omega arith), λ h. clash ready.1 h.1);
      nowhere = (differ (λ e. omega arith), λ h. clash t (h.1 e l));
      somewhere = (λ e'. (ready, (e, l, t)), λ h. refl);
    }

-- the cases of the finder's answer
module _ (m : Mesh) (c : Counts) (d : Float) where
  pub find-not-finite : finite d ≡ false → find m c d ≡ Err NotFiniteDepth
  find-not-finite f = rw f

  pub find-not-closed : finite d ≡ true → audit m c.points c.edges c.faces ≡ false → find m c d ≡ Err NotClosed
  find-not-closed f a = rw (f, a)

  abbrev first : Result ℕ NoCrossing
  first = first_from (λ e. crosses m d e) c.edges 0

  pub find_first : Searchable m c d → find m c d ≡ first
  find_first (f, a) = rw (f, a)

  -- r is the first of the edges that cross, or none does
  abbrev IsFirst : Result ℕ NoCrossing → Type 0
  IsFirst r = FirstOf (λ e. crosses m d e) c.edges 0 r

  first-is-first : IsFirst first
  first-is-first = first-is (λ e. crosses m d e) c.edges 0

  finds-of-first : (r : Result ℕ NoCrossing) → Searchable m c d → IsFirst r → Finds m c d r
  finds-of-first (Ok e) ready (l, t, none) = (ready, omega arith, t)
  finds-of-first (Err Nowhere) ready none = (ready, λ e l. none e (omega arith) (omega arith))
  finds-of-first (Err NotFiniteDepth) ready h = absurd h
  finds-of-first (Err NotClosed) ready h = absurd h

  -- an edge that crosses while none before it does is the first
  first-of-lowest : (e : ℕ) → Lowest m c d e → (r : Result ℕ NoCrossing) → IsFirst r → r ≡ Ok e
  first-of-lowest e w (Ok i) (l, t, none) = ap Ok (same (dec_lt i e) (dec_lt e i))
    where
      same : Dec (i < e) → Dec (e < i) → i ≡ e
      same (yes l) h = clash t (w.none-lower i l)
      same (no g) (yes l) = clash w.crossing (none e (omega arith) l)
      same (no g) (no h) = omega arith
  first-of-lowest e w (Err Nowhere) none = let l = w.in-range in clash w.crossing (none e (omega arith) (omega arith))
  first-of-lowest e w (Err NotFiniteDepth) h = absurd h
  first-of-lowest e w (Err NotClosed) h = absurd h

pub find-finds : FindFinds
find-finds m c d = go (finite d) refl (audit m c.points c.edges c.faces) refl
  where
    answers : {r : Result ℕ NoCrossing} → find m c d ≡ r → Finds m c d r → Finds m c d (find m c d)
    answers e h = subst (λ (r : Result ℕ NoCrossing). Finds m c d r) (sym e) h

    go : (b : Bool) → finite d ≡ b → (p : Bool) → audit m c.points c.edges c.faces ≡ p → Finds m c d (find m c d)
    go false f p a = answers (find-not-finite m c d f) f
    go true f false a = answers (find-not-closed m c d f a) (f, a)
    go true f true a = answers (find_first m c d (f, a)) (finds-of-first m c d (first m c d) (f, a) (first-is-first m c d))

pub lowest-exactly : LowestExactly
lowest-exactly m c d e = (lowest, found)
  where
    lowest : find m c d ≡ Ok e → Lowest m c d e
    lowest h =
        let (ready, l, t) = subst (λ (r : Result ℕ NoCrossing). Finds m c d r) h (find-finds m c d) in
        let none = (subst (λ (r : Result ℕ NoCrossing). IsFirst m c d r) (sym (find_first m c d ready) ∙ h) (first-is-first m c d)).2 in
        record { ready = ready; in-range = l; crossing = t; none-lower = λ i g. none i (omega arith) g }

    found : Lowest m c d e → find m c d ≡ Ok e
    found w = find_first m c d w.ready ∙ first-of-lowest m c d e w (first m c d) (first-is-first m c d)

pub joined-found : JoinedFound
joined-found m c d ready joined low high lp hp below above = go (find m c d) refl (find-finds m c d)
  where
    audited : Audited m c.points c.edges c.faces
    audited = (audit-is-audited m c.points c.edges c.faces).0 ready.1

    edge : (e : ℕ) × (e < c.edges) × (crosses m d e ≡ true)
    edge = chain-crosses m c.points c.edges c.faces audited d ready.0 (joined low high lp hp) lp below above

    go : (r : Result ℕ NoCrossing) → find m c d ≡ r → Finds m c d r → (e : ℕ) × (find m c d ≡ Ok e)
    go (Ok e) q h = (e, q)
    go (Err Nowhere) q (_, none) = let (e, l, t) = edge in clash t (none e l)
    go (Err NotFiniteDepth) q f = clash ready.0 f
    go (Err NotClosed) q (_, a) = clash ready.1 a
