-- The laws of joining the faces of all places. Assumes nothing.
use mathlib.Core.Path.{◌≡◌, refl, sym, ◌∙◌, ap}
use mathlib.Core.Bool.{Bool, true, false, ◌||◌, or-false, or-true}
use mathlib.Core.Logic.{◌≢◌}
use mathlib.Core.List.{List}
use Prim.Native.Nat.{ℕ, zero, suc, ◌+◌, ◌-◌, ◌≤◌, ◌<◌}
use native.Mathlib.Omega.{arith}
use native.Mathlib.Decide.{ℕ_discrete}
use lib.Dec.{eqb}
use lib.ListN.{length, get_or, set, length-set}
use lib.Seq.{get_or-set_same, get_or-set_other}
use Rattle.mended_lists.specs.declared.Part.{Part}
use Rattle.mended_lists.specs.Edges.{FacePlace, place_at, same_way, mate}
use Rattle.mended_lists.specs.Parts.{Parts, differ, lone_part, parts_joined, parts_met, parts_to}
use Rattle.face_parts.specs.Kept.{shifted, Falling, PartsKept, FoundPart, JoinedParts}
use Rattle.face_choices.specs.Mates.{MatesFit, Mates, Started, JoinedAt, JoinedTo, Settled, Chosen}

-- ---- the start

-- the first n faces point to themselves
pub record Pointing (ups₀ : List ℕ) (odds₀ : List Bool) (ups : List ℕ) (odds : List Bool) (n : ℕ) : Type 0 where
  pub ups-length : length ups ≡ length ups₀
  pub odds-length : length odds ≡ length odds₀
  pub not-past : n ≤ length ups₀
  pub itself : (f : ℕ) → f < n → get_or ups f 0 ≡ f
  pub even : (f : ℕ) → f < n → get_or odds f false ≡ false

pub pointing-none : (ups : List ℕ) (odds : List Bool) → Pointing ups odds ups odds 0
pointing-none ups odds =
    record {
      ups-length = refl;
      odds-length = refl;
      not-past = omega arith;
      itself = λ f b. absurd (never f b);
      even = λ f b. absurd (never f b);
    }
  where
    never : (f : ℕ) → f < 0 → ⊥
    never f b = omega arith

pub pointing-more :
    (ups₀ : List ℕ) (odds₀ : List Bool) (ups : List ℕ) (odds : List Bool) (n : ℕ) → length odds₀ ≡ length ups₀ →
    Pointing ups₀ odds₀ ups odds n → n < length ups → Pointing ups₀ odds₀ (set ups n n) (set odds n false) (n + 1)
pointing-more ups₀ odds₀ ups odds n like p b =
    record {
      ups-length = length-set ups n n ∙ p.ups-length;
      odds-length = length-set odds n false ∙ p.odds-length;
      not-past = omega (arith, p.ups-length);
      itself = λ f h. itself f h (ℕ_discrete f n);
      even = λ f h. even f h (ℕ_discrete f n);
    }
  where
    itself : (f : ℕ) → f < n + 1 → Dec (f ≡ n) → get_or (set ups n n) f 0 ≡ f
    itself f h (yes e) = rw (e, get_or-set_same ups n n 0 b)
    itself f h (no e) = rw (get_or-set_other ups n f n 0 e) (p.itself f (omega arith))

    even : (f : ℕ) → f < n + 1 → Dec (f ≡ n) → get_or (set odds n false) f false ≡ false
    even f h (yes e) = rw (e, get_or-set_same odds n false false (omega (arith, p.odds-length, p.ups-length)))
    even f h (no e) = rw (get_or-set_other odds n f false false e) (p.even f (omega arith))

pub pointing-all :
    (ups₀ : List ℕ) (odds₀ : List Bool) (ups : List ℕ) (odds : List Bool) (n : ℕ) → length odds₀ ≡ length ups₀ → length ups ≤ n →
    Pointing ups₀ odds₀ ups odds n → Started ups odds
pointing-all ups₀ odds₀ ups odds n like e p =
    record {
      falling =
          record {
            like = p.odds-length ∙ like ∙ sym p.ups-length;
            below = λ f b. omega (arith, p.itself f (omega arith));
          };
      kept = λ ps. unfold parts_to in
          record {
            step = λ f b. rw (p.itself f (omega arith), p.even f (omega arith));
            top = λ f b t. refl;
          };
    }

-- ---- one place

or-joined : (t : Bool) → t ≡ (t || false)
or-joined t = sym (or-false t)

pub join-none :
    (listed faces mates : List ℕ) (k : ℕ) (ups : List ℕ) (odds : List Bool) → Falling ups odds → get_or mates k 0 ≡ 0 →
    JoinedAt listed faces mates k ups odds ups odds false
unfolding parts_met
join-none listed faces mates k ups odds falling z =
    record {
      same_length = refl;
      falling = falling;
      twisted = λ ps ms s h. rw (sym (ms.mate-is k (omega arith)) ∙ z) (or-joined s.twisted);
      kept = λ ps ms s h. rw (sym (ms.mate-is k (omega arith)) ∙ z) h;
    }

pub join-mate :
    (listed faces mates : List ℕ) (k j : ℕ) (ups : List ℕ) (odds : List Bool) (ups' : List ℕ) (odds' : List Bool) (r : Bool) →
    get_or mates k 0 ≡ suc j → j < k →
    JoinedParts ups odds ups' odds' (get_or faces j 0) (get_or faces k 0) (eqb (get_or listed j 0) (get_or listed k 0)) r →
    JoinedAt listed faces mates k ups odds ups' odds' r
unfolding parts_met
join-mate listed faces mates k j ups odds ups' odds' r m less p =
    record {
      same_length = p.same_length;
      falling = p.falling;
      twisted =
          λ ps ms s h.
          rw (
            sym (ms.mate-is k (omega arith)) ∙ m,
            ← (ms.face j (omega arith)),
            ← (ms.face k (omega arith)),
            ← (ms.from j (omega arith)),
            ← (ms.from k (omega arith)),
          )
          (p.twisted s h);
      kept =
          λ ps ms s h.
          rw (
            sym (ms.mate-is k (omega arith)) ∙ m,
            ← (ms.face j (omega arith)),
            ← (ms.face k (omega arith)),
            ← (ms.from j (omega arith)),
            ← (ms.from k (omega arith)),
          )
          (p.kept s h);
    }

-- ---- all places

fewer : (ps : List FacePlace) (listed faces mates : List ℕ) (k n : ℕ) → k ≤ n → Mates ps listed faces mates n → Mates ps listed faces mates k
fewer ps listed faces mates k n l m =
    record {
      from = λ i b. m.from i (omega arith);
      face = λ i b. m.face i (omega arith);
      mate-is = λ i b. m.mate-is i (omega arith);
    }

pub joined-none :
    (listed faces mates ups : List ℕ) (odds : List Bool) → Started ups odds → JoinedTo listed faces mates 0 (length ups) ups odds false
joined-none listed faces mates ups odds st =
    record { same_length = refl; falling = st.falling; twisted = λ ps m. unfold parts_to in refl; kept = λ ps m. st.kept ps }

pub joined-more :
    (listed faces mates : List ℕ) (k nf : ℕ) (ups : List ℕ) (odds : List Bool) (ups' : List ℕ) (odds' : List Bool) (t r t' : Bool) →
    JoinedTo listed faces mates k nf ups odds t → JoinedAt listed faces mates k ups odds ups' odds' r → t' ≡ (t || r) →
    JoinedTo listed faces mates (k + 1) nf ups' odds' t'
unfolding parts_to
joined-more listed faces mates k nf ups odds ups' odds' t r t' a p e =
    let s : k + 1 ≡ suc k = omega arith in
    rw s
    (record {
      same_length = p.same_length ∙ a.same_length;
      falling = p.falling;
      twisted =
          λ ps m. p.twisted ps m (parts_to ps k) (a.kept ps (fewer ps listed faces mates k (suc k) (omega arith) m))
          ∙ ap (λ (x : Bool). x || r) (a.twisted ps (fewer ps listed faces mates k (suc k) (omega arith) m)) ∙ sym e;
      kept = λ ps m. p.kept ps m (parts_to ps k) (a.kept ps (fewer ps listed faces mates k (suc k) (omega arith) m));
    })

pub at-end :
    (listed faces mates : List ℕ) (k nf : ℕ) (ups : List ℕ) (odds : List Bool) (t : Bool) → k ≡ length mates →
    JoinedTo listed faces mates k nf ups odds t → JoinedTo listed faces mates (length mates) nf ups odds t
at-end listed faces mates k nf ups odds t e j = rw e at j

pub mates-fit-like :
    (listed faces mates : List ℕ) (nf n : ℕ) → n ≡ nf → MatesFit listed faces mates nf → MatesFit listed faces mates n
mates-fit-like listed faces mates nf n e m = rw e m

-- ---- the answers of all faces

pub record Settling (ups₀ : List ℕ) (odds₀ : List Bool) (turned₀ : List Bool) (ups : List ℕ) (odds turned : List Bool) (n : ℕ) : Type 0 where
  pub same_length : length ups ≡ length ups₀
  pub falling : Falling ups odds
  pub turned-length : length turned ≡ length turned₀
  pub kept : (s : Parts) → PartsKept ups₀ odds₀ s → PartsKept ups odds s
  pub told : (s : Parts) → PartsKept ups₀ odds₀ s → (f : ℕ) → f < n → get_or turned f false ≡ (s.part f).odd

pub settling-none :
    (ups : List ℕ) (odds turned : List Bool) → Falling ups odds → Settling ups odds turned ups odds turned 0
settling-none ups odds turned falling =
    record {
      same_length = refl;
      falling = falling;
      turned-length = refl;
      kept = λ s k. k;
      told = λ s k f b. absurd (never f b);
    }
  where
    never : (f : ℕ) → f < 0 → ⊥
    never f b = omega arith

pub settling-more :
    (ups₀ : List ℕ) (odds₀ turned₀ : List Bool) (ups : List ℕ) (odds turned : List Bool) (ups' : List ℕ) (odds' : List Bool) (n : ℕ) (p : Part) →
    Settling ups₀ odds₀ turned₀ ups odds turned n → n < length turned → FoundPart ups odds ups' odds' n p →
    Settling ups₀ odds₀ turned₀ ups' odds' (set turned n p.odd) (n + 1)
settling-more ups₀ odds₀ turned₀ ups odds turned ups' odds' n p i b found =
    record {
      same_length = found.same_length ∙ i.same_length;
      falling = found.falling;
      turned-length = length-set turned n p.odd ∙ i.turned-length;
      kept = λ s k. found.kept s (i.kept s k);
      told = λ s k f h. told s k f h (ℕ_discrete f n);
    }
  where
    told :
        (s : Parts) → PartsKept ups₀ odds₀ s → (f : ℕ) → f < n + 1 → Dec (f ≡ n) → get_or (set turned n p.odd) f false ≡ (s.part f).odd
    told s k f h (yes e) =
        rw (e, get_or-set_same turned n p.odd false b) (sym (ap (λ (x : Part). x.odd) (found.part s (i.kept s k))))
    told s k f h (no e) = rw (get_or-set_other turned n f p.odd false e) (i.told s k f (omega arith))

pub chosen :
    (listed faces mates : List ℕ) (nf : ℕ) (ups : List ℕ) (odds turned : List Bool) (r : Bool) →
    JoinedTo listed faces mates (length mates) nf ups odds r → Settled ups odds turned → Chosen listed faces mates turned r
chosen listed faces mates nf ups odds turned r j s =
    record { twisted = j.twisted; turns = λ ps m f b. s (parts_to ps (length mates)) (j.kept ps m) f b }
