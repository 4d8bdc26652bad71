-- Lists whose faces are turned are lists of the same kind: a face turned twice is as it was, and mended lists need nothing. Assumes
-- nothing.
use mathlib.Core.Path.{◌≡◌, refl, sym, ◌∙◌, ap}
use mathlib.Core.Bool.{Bool, true, false, cond, false≢true}
use mathlib.Core.Logic.{inl, inr}
use mathlib.Core.List.{List}
use Prim.Native.Nat.{ℕ, ◌+◌, ◌-◌, ◌*◌, ◌<◌}
use native.Mathlib.Omega.{arith}
use lib.ListN.{length, get_or}
use lib.Ieee.{Float, nan}
use Rattle.tables.specs.declared.Sizes.{Sizes}
use Rattle.tables.specs.Mesh.{Mesh}
use Rattle.built_meshes.specs.Lists.{Lists, faces_of, side_length, size, offset}
use Rattle.built_meshes.specs.Faces.{first_at}
use Rattle.built_meshes.specs.declared.Version.{Version}
use Rattle.built_meshes.specs.Places.{point_of, beside_of, IsPlace, Runs, Between, Differ, Earlier}
use Rattle.built_meshes.specs.Grounds.{Met, Where, triple-face, same_way, missing-face}
use Rattle.built_meshes.specs.declared.Ground.TheVariants.{EdgeTripleFace, SameWay, MissingFace}
use Rattle.mended_lists.specs.InTurn.{in_turn}
use Rattle.mended_lists.specs.Reversal.{turned_point, turned_interval, turned_side, turned_first, Choice, reversed}
use Rattle.mended_lists.specs.Parts.{faces_turned, twisted}
use Rattle.mended_lists.specs.Claims.{Fitting, Sound, Paired, Opposite, Works, TurnedBack, NeedsNothing, Twice, ThenBuilt}
use Rattle.mended_lists.proofs.InTurn.{sum_to-four, length-in_turn, get_or-in_turn, in_turn-is}
use Rattle.mended_lists.proofs.Reversal.{mirrored, mirrored-mirrored, turned-below, turned-turned, reversed-faces}
use Rattle.mended_lists.proofs.Reversal.{reversed-size, reversed-offset, side-reversed, first-reversed, first_below, first-first}
use Rattle.mended_lists.proofs.Reversal.{point-kept, point-turned, is-place-before, runs-before-kept, runs-before-turned}
use Rattle.mended_lists.proofs.Reversal.{runs-kept, runs-turned}
use Rattle.mended_lists.proofs.Choices.{mirrored-injective, between-place}
use Rattle.mended_lists.proofs.Theorem.{twisted-exactly, found, only_one}

same_lists :
    (v v' : Version) (cs cs' : List Float) (ss ss' fs fs' ls ls' : List ℕ) (is is' : List Float) →
    v ≡ v' → cs ≡ cs' → ss ≡ ss' → fs ≡ fs' → ls ≡ ls' → is ≡ is' →
    ◌≡◌ {A = Lists} (record { version = v; coordinates = cs; sides = ss; firsts = fs; listed = ls; intervals = is })
    (record { version = v'; coordinates = cs'; sides = ss'; firsts = fs'; listed = ls'; intervals = is' })
same_lists v v' cs cs' ss ss' fs fs' ls ls' is is' a b c d e f = rw (a, b, c, d, e, f)

-- the lists m are the lists l with the faces of c turned, value by value
pub record Turned (c : Choice) (l m : Lists) : Type 0 where
  pub version : l.version ≡ m.version
  pub coordinates : l.coordinates ≡ m.coordinates
  pub firsts-length : length m.firsts ≡ faces_of l * 4
  pub sides-length : length m.sides ≡ faces_of l * 4
  pub listed-length : length m.listed ≡ offset l (faces_of l)
  pub intervals-length : length m.intervals ≡ offset l (faces_of l)
  pub side : (f k : ℕ) → f < faces_of l → k < 4 → get_or m.sides (f * 4 + k) 0 ≡ side_length l f (cond (c f) (turned_side k) k)
  pub first : (f k : ℕ) → f < faces_of l → k < 4 → get_or m.firsts (f * 4 + k) 0 ≡ first_at l f (cond (c f) (turned_first k) k)
  pub point :
      (f i : ℕ) → IsPlace l f i → get_or m.listed (offset l f + i) 0 ≡ point_of l f (cond (c f) (turned_point (size l f) i) i)
  pub interval :
      (f i : ℕ) → IsPlace l f i →
      get_or m.intervals (offset l f + i) nan ≡ beside_of l f (cond (c f) (turned_interval (size l f) i) i)

pub reversed-is : (c : Choice) (l m : Lists) → Turned c l m → reversed c l ≡ m
unfolding reversed offset
reversed-is c l m t =
    same_lists l.version m.version l.coordinates m.coordinates
    (in_turn (faces_of l) (λ f. 4) (λ f k. side_length l f (cond (c f) (turned_side k) k))) m.sides
    (in_turn (faces_of l) (λ f. 4) (λ f k. first_at l f (cond (c f) (turned_first k) k))) m.firsts
    (in_turn (faces_of l) (λ f. size l f) (λ f i. point_of l f (cond (c f) (turned_point (size l f) i) i))) m.listed
    (in_turn (faces_of l) (λ f. size l f) (λ f i. beside_of l f (cond (c f) (turned_interval (size l f) i) i))) m.intervals t.version
    t.coordinates
    (in_turn-is (faces_of l) (λ f. 4) (λ f k. side_length l f (cond (c f) (turned_side k) k)) m.sides 0
    (t.sides-length ∙ sym (sum_to-four (faces_of l)))
    (λ f k a b. ap (λ (x : ℕ). get_or m.sides (x + k) 0) (sum_to-four f) ∙ t.side f k a b))
    (in_turn-is (faces_of l) (λ f. 4) (λ f k. first_at l f (cond (c f) (turned_first k) k)) m.firsts 0
    (t.firsts-length ∙ sym (sum_to-four (faces_of l)))
    (λ f k a b. ap (λ (x : ℕ). get_or m.firsts (x + k) 0) (sum_to-four f) ∙ t.first f k a b))
    (in_turn-is (faces_of l) (λ f. size l f) (λ f i. point_of l f (cond (c f) (turned_point (size l f) i) i)) m.listed 0 t.listed-length
    (λ f i a b. t.point f i (a, b)))
    (in_turn-is (faces_of l) (λ f. size l f) (λ f i. beside_of l f (cond (c f) (turned_interval (size l f) i) i)) m.intervals nan
    t.intervals-length (λ f i a b. t.interval f i (a, b)))

-- ---- no face turned

pub reversed-none : (c : Choice) (l : Lists) → Fitting l → ((f : ℕ) → f < faces_of l → c f ≡ false) → reversed c l ≡ l
reversed-none c l fit none =
    reversed-is c l l
    (record {
      version = refl;
      coordinates = refl;
      firsts-length = fit.firsts;
      sides-length = fit.sides;
      listed-length = fit.listed;
      intervals-length = fit.intervals;
      side = λ f k a b. rw (none f a);
      first = λ f k a b. rw (none f a);
      point = λ f i at. rw (none f at.0);
      interval = λ f i at. rw (none f at.0);
    })

-- ---- turned lists

module _ (c : Choice) (l : Lists) where
  pub reversed-fitting : Fitting (reversed c l)
  unfolding reversed offset
  reversed-fitting =
      record {
        sides =
            length-in_turn (faces_of l) (λ f. 4) (λ f k. side_length l f (cond (c f) (turned_side k) k)) ∙ sum_to-four (faces_of l)
            ∙ ap (λ (x : ℕ). x * 4) (sym (reversed-faces c l));
        firsts =
            length-in_turn (faces_of l) (λ f. 4) (λ f k. first_at l f (cond (c f) (turned_first k) k)) ∙ sum_to-four (faces_of l)
            ∙ ap (λ (x : ℕ). x * 4) (sym (reversed-faces c l));
        listed =
            length-in_turn (faces_of l) (λ f. size l f) (λ f i. point_of l f (cond (c f) (turned_point (size l f) i) i))
            ∙ sym (reversed-offset c l (faces_of l) (omega arith))
            ∙ ap (offset (reversed c l)) (sym (reversed-faces c l));
        intervals =
            length-in_turn (faces_of l) (λ f. size l f)
            (λ f i. beside_of l f (cond (c f) (turned_interval (size l f) i) i))
            ∙ sym (reversed-offset c l (faces_of l) (omega arith))
            ∙ ap (offset (reversed c l)) (sym (reversed-faces c l));
      }

  -- where place i of face f was
  abbrev pub old_place : ℕ → ℕ → ℕ
  old_place f i = cond (c f) (mirrored (size l f) i) i

  pub between-before : (f i p q : ℕ) → Between (reversed c l) f i p q → Between l f (old_place f i) p q
  between-before f i p q b = go (c f) refl b
    where
      go : (t : Bool) → c f ≡ t → Between (reversed c l) f i p q → Between l f (cond t (mirrored (size l f) i) i) p q
      go true e (inl r) = inr (runs-before-turned c l f i p q e r)
      go true e (inr r) = inl (runs-before-turned c l f i q p e r)
      go false e (inl r) = inl (runs-before-kept c l f i p q e r)
      go false e (inr r) = inr (runs-before-kept c l f i q p e r)

  old-injective :
      (f i g j : ℕ) → i < size l f → j < size l g → f ≡ g → old_place f i ≡ old_place g j → i ≡ j
  old-injective f i g j a b e s = go (c f) (c g) (ap c e) s
    where
      go : (t u : Bool) → t ≡ u → cond t (mirrored (size l f) i) i ≡ cond u (mirrored (size l g) j) j → i ≡ j
      go true true d s = mirrored-injective (size l f) (size l g) i j (ap (λ (x : ℕ). size l x) e) a b s
      go true false d s = absurd (false≢true (sym d))
      go false true d s = absurd (false≢true d)
      go false false d s = s

  differ-before :
      (f i g j p q : ℕ) → Between (reversed c l) f i p q → Between (reversed c l) g j p q → Differ f i g j →
      Differ f (old_place f i) g (old_place g j)
  differ-before f i g j p q a b d (e, s) =
      d (
        e,
        old-injective f i g j (is-place-before c l f i (between-place (reversed c l) f i p q a)).1
            (is-place-before c l g j (between-place (reversed c l) g j p q b)).1 e s,
      )

  pub reversed-sound : Sound l → Sound (reversed c l)
  reversed-sound sound = record { no_loop = loop; at_most_two = two }
    where
      loop : (f i p : ℕ) → ¬ Runs (reversed c l) f i p p
      loop f i p r = go (between-before f i p p (inl r))
        where
          go : Between l f (old_place f i) p p → ⊥
          go (inl s) = sound.no_loop f (old_place f i) p s
          go (inr s) = sound.no_loop f (old_place f i) p s

      two :
          (f i g j h k p q : ℕ) → Between (reversed c l) f i p q → Between (reversed c l) g j p q → Between (reversed c l) h k p q →
          Differ f i g j → Differ f i h k → Differ g j h k → ⊥
      two f i g j h k p q a b d x y z =
          sound.at_most_two f (old_place f i) g (old_place g j) h (old_place h k) p q (between-before f i p q a) (between-before g j p q b)
          (between-before h k p q d) (differ-before f i g j p q a b x) (differ-before f i h k p q a d y) (differ-before g j h k p q b d z)

-- ---- the claims

pub needs-nothing : NeedsNothing
needs-nothing l fit sound opposite =
    let same : reversed (λ f. false) l ≡ l = reversed-none (λ f. false) l fit (λ f a. refl) in
    let works : Works l (λ f. false) = rw same opposite in (
      go (twisted l) refl works,
      reversed-none (faces_turned l) l fit (λ f a. sym (only_one l (λ f. false) sound works (λ f a lowest. refl) f a)),
    )
  where
    go : (t : Bool) → twisted l ≡ t → Works l (λ f. false) → t ≡ false
    go true e works = absurd ((twisted-exactly l sound).0 e (λ f. false) works)
    go false e works = refl

pub twice : Twice
twice l sound t =
    needs-nothing (reversed (faces_turned l) l) (reversed-fitting (faces_turned l) l) (reversed-sound (faces_turned l) l sound) (found l sound t).0

module _ (c : Choice) (l : Lists) where
  pub interval-at :
      (f i : ℕ) → IsPlace l f i →
      get_or (reversed c l).intervals (offset l f + i) nan ≡ get_or l.intervals (offset l f + cond (c f) (turned_interval (size l f) i) i) nan
  unfolding reversed offset
  interval-at f i (a, b) =
      get_or-in_turn (faces_of l) (λ f. size l f)
      (λ f i. beside_of l f (cond (c f) (turned_interval (size l f) i) i)) f i nan a b

module _ (c : Choice) (l : Lists) (fit : Fitting l) where
  sides-back : (f k : ℕ) → f < faces_of l → k < 4 → side_length l f k ≡ side_length (reversed c l) f (cond (c f) (turned_side k) k)
  sides-back f k a b = go (c f) refl
    where
      go : (t : Bool) → c f ≡ t → side_length l f k ≡ side_length (reversed c l) f (cond t (turned_side k) k)
      go true e =
          let d : 3 - (3 - k) ≡ k = omega arith in
          sym (side-reversed c l f (3 - k) a (omega arith) ∙ rw (e, d))
      go false e = sym (side-reversed c l f k a b ∙ rw e)

  firsts-back : (f k : ℕ) → f < faces_of l → k < 4 → first_at l f k ≡ first_at (reversed c l) f (cond (c f) (turned_first k) k)
  firsts-back f k a b = go (c f) refl
    where
      go : (t : Bool) → c f ≡ t → first_at l f k ≡ first_at (reversed c l) f (cond t (turned_first k) k)
      go true e =
          sym
          (first-reversed c l f (turned_first k) a (first_below k b)
          ∙ rw e (ap (λ (x : ℕ). first_at l f x) (first-first k b)))
      go false e = sym (first-reversed c l f k a b ∙ rw e)

  points-back : (f i : ℕ) → IsPlace l f i → point_of l f i ≡ point_of (reversed c l) f (cond (c f) (turned_point (size l f) i) i)
  points-back f i at = go (c f) refl
    where
      go : (t : Bool) → c f ≡ t → point_of l f i ≡ point_of (reversed c l) f (cond t (turned_point (size l f) i) i)
      go true e =
          sym
          (point-turned c l f (turned_point (size l f) i) (at.0, turned-below (size l f) i at.1) e
          ∙ ap (λ (x : ℕ). point_of l f x) (turned-turned (size l f) i at.1))
      go false e = sym (point-kept c l f i at e)

  intervals-back :
      (f i : ℕ) → IsPlace l f i →
      get_or l.intervals (offset l f + i) nan
      ≡ get_or (reversed c l).intervals (offset l f + cond (c f) (turned_interval (size l f) i) i) nan
  intervals-back f i at = go (c f) refl
    where
      go :
          (t : Bool) → c f ≡ t →
          get_or l.intervals (offset l f + i) nan
          ≡ get_or (reversed c l).intervals (offset l f + cond t (turned_interval (size l f) i) i) nan
      go true e =
          let below : size l f - 1 - i < size l f = omega (arith, at.1) in
          let d : size l f - 1 - (size l f - 1 - i) ≡ i = omega (arith, at.1) in
          sym (interval-at c l f (size l f - 1 - i) (at.0, below) ∙ rw (e, d))
      go false e = sym (interval-at c l f i at ∙ rw e)

  turned-back-lists : Turned c (reversed c l) l
  turned-back-lists =
      record {
        version = unfold reversed in refl;
        coordinates = unfold reversed in refl;
        firsts-length = fit.firsts ∙ ap (λ (x : ℕ). x * 4) (sym (reversed-faces c l));
        sides-length = fit.sides ∙ ap (λ (x : ℕ). x * 4) (sym (reversed-faces c l));
        listed-length = fit.listed ∙ sym last-offset;
        intervals-length = fit.intervals ∙ sym last-offset;
        side = λ f k a b. sides-back f k (rw (reversed-faces c l) at a) b;
        first = λ f k a b. firsts-back f k (rw (reversed-faces c l) at a) b;
        point =
            λ f i at. let old : IsPlace l f i = is-place-before c l f i at in
            rw (reversed-offset c l f (omega (arith, old.0)), reversed-size c l f old.0) (at_offset f i old);
        interval =
            λ f i at. let old : IsPlace l f i = is-place-before c l f i at in
            rw (reversed-offset c l f (omega (arith, old.0)), reversed-size c l f old.0) (intervals-back f i old);
      }
    where
      last-offset : offset (reversed c l) (faces_of (reversed c l)) ≡ offset l (faces_of l)
      last-offset = ap (offset (reversed c l)) (reversed-faces c l) ∙ reversed-offset c l (faces_of l) (omega arith)

      at_offset :
          (f i : ℕ) → IsPlace l f i →
          get_or l.listed (offset l f + i) 0
          ≡ get_or (reversed c l).listed (offset l f + cond (c f) (turned_point (size l f) i) i) 0
      at_offset f i at =
          points-back f i at
          ∙ ap (λ (x : ℕ). get_or (reversed c l).listed (x + cond (c f) (turned_point (size l f) i) i) 0)
          (reversed-offset c l f (omega (arith, at.0)))

pub turned-back : TurnedBack
turned-back c l fit = reversed-is c (reversed c l) l (turned-back-lists c l fit)

-- ---- what building then makes of it

module _ (c : Choice) (l : Lists) where
  -- where place i of face f goes
  between-after : (f i p q : ℕ) → Between l f i p q → Between (reversed c l) f (old_place c l f i) p q
  between-after f i p q b = go (c f) refl b
    where
      go : (t : Bool) → c f ≡ t → Between l f i p q → Between (reversed c l) f (cond t (mirrored (size l f) i) i) p q
      go true e (inl r) = inr (runs-turned c l f i p q e r)
      go true e (inr r) = inl (runs-turned c l f i q p e r)
      go false e (inl r) = inl (runs-kept c l f i p q e r)
      go false e (inr r) = inr (runs-kept c l f i q p e r)

  old-old : (f i : ℕ) → i < size l f → old_place c l f (old_place c l f i) ≡ i
  old-old f i a = go (c f)
    where
      go : (t : Bool) → cond t (mirrored (size l f) (cond t (mirrored (size l f) i) i)) (cond t (mirrored (size l f) i) i) ≡ i
      go true = mirrored-mirrored (size l f) i a
      go false = refl

  pub reversed-paired : Paired l → Paired (reversed c l)
  reversed-paired paired f i p q r = go (between-before c l f i p q (inl r))
    where
      again : (g j : ℕ) → Differ f (old_place c l f i) g j → IsPlace l g j → Differ f i g (old_place c l g j)
      again g j d at (e, s) =
          d (
            e,
            ap (old_place c l f) s ∙ ap (λ (x : ℕ). old_place c l x (old_place c l g j)) e ∙ old-old g j at.1,
          )

      from :
          (p' q' : ℕ) → Runs l f (old_place c l f i) p' q' → ((g j : ℕ) → Between l g j p' q' → Between l g j p q) →
          (g : ℕ) × (j : ℕ) × Differ f i g j × Between (reversed c l) g j p q
      from p' q' s turn = this (paired f (old_place c l f i) p' q' s)
        where
          this :
              (g : ℕ) × (j : ℕ) × Differ f (old_place c l f i) g j × Between l g j p' q' →
              (g : ℕ) × (j : ℕ) × Differ f i g j × Between (reversed c l) g j p q
          this (g, j, d, b) =
              (g, old_place c l g j, again g j d (between-place l g j p' q' b), between-after g j p q (turn g j b))

      go : Between l f (old_place c l f i) p q → (g : ℕ) × (j : ℕ) × Differ f i g j × Between (reversed c l) g j p q
      go (inl s) = from p q s (λ g j b. b)
      go (inr s) = from q p s (λ g j b. swapped g j b)
        where
          swapped : (g j : ℕ) → Between l g j q p → Between l g j p q
          swapped g j (inl x) = inr x
          swapped g j (inr x) = inl x

module _ (l : Lists) (sound : Sound l) (opposite : Opposite l) (c : Sizes) (m : Mesh) where
  earlier-differ : (f i g j : ℕ) → Earlier g j f i → Differ g j f i
  earlier-differ f i g j (inl a) (e, s) = omega arith
  earlier-differ f i g j (inr a) (e, s) = omega arith

  no_third : (w : Where) → Met c l m w EdgeTripleFace → ⊥
  no_third w (triple-face f i g j h k p q r a b x y d) =
      sound.at_most_two g j h k f i p q a b (inl r) d (earlier-differ f i g j x) (earlier-differ f i h k y)

  no-same-way : (w : Where) → Met c l m w SameWay → ⊥
  no-same-way w (same_way f i g j p q r s x) = earlier-differ f i g j x (opposite g j f i p q s r)

  no-missing : Paired l → (w : Where) → Met c l m w MissingFace → ⊥
  no-missing paired w (missing-face h) = go (paired h.f h.i h.p h.q h.runs)
    where
      go : (g : ℕ) × (j : ℕ) × Differ h.f h.i g j × Between l g j h.p h.q → ⊥
      go (g, j, d, inl r) = d (opposite h.f h.i g j h.p h.q h.runs r)
      go (g, j, d, inr r) = h.none-back g j r

pub then-built : ThenBuilt
then-built l sound paired t c m =
    let s : Sound (reversed (faces_turned l) l) = reversed-sound (faces_turned l) l sound in
    let o : Opposite (reversed (faces_turned l) l) = (found l sound t).0 in (
      λ h. no_third (reversed (faces_turned l) l) s o c m h.0 h.1,
      λ h. no-same-way (reversed (faces_turned l) l) s o c m h.0 h.1,
      λ h. no-missing (reversed (faces_turned l) l) s o c m (reversed-paired (faces_turned l) l paired) h.0 h.1,
    )
