-- The claims of building from a text. Assumes nothing.
--     of-lists               a text that stands for t is answered as building from the lists of t is
--     accepts-exactly, not-text-exactly, over-exactly, untouched-early, accepted-within     the claims of `specs/Claims.antt`
use mathlib.Core.Path.{◌≡◌, refl, sym, ap, ◌∙◌}
use mathlib.Core.Bool.{Bool, true, false}
use mathlib.Core.List.{List, [], ◌∷◌}
use mathlib.Core.Logic.{◌⊎◌, inl, inr}
use Prim.Native.Nat.{ℕ, zero, suc, ◌+◌, ◌<◌, ◌≤◌}
use native.Mathlib.Omega.{arith}
use lib.ListN.{length, get_or}
use Rattle.std.specs.Prelude.{Result, Ok, Err}
use Rattle.tables.specs.Mesh.{Mesh, none as no_row}
use Rattle.tables.specs.declared.Counts.{Counts}
use Rattle.closed_meshes.specs.Renumbering.{sum_to}
use Rattle.text_numbers.specs.Form.{Parsed, parsed, unparsed}
use Rattle.text_numbers.proofs.Laws.{total}
use Rattle.mesh_text.specs.Text.{text, TextMesh}
use Rattle.mesh_text.specs.Lists.{lengths, listed_points}
use Rattle.mesh_text.proofs.Read.{length-coordinates, length-lengths, length-firsts, length-intervals, total-lengths}
use Rattle.built_meshes.specs.Lists.{counts_fit}
use Rattle.tables.specs.declared.Sizes.{Sizes}
use Rattle.built_meshes.specs.Building.{build}
use Rattle.built_meshes.specs.Grounds.{Holds, lists, over-counts, IsOverCounts, many-points, many-faces, many-listed, point-cut, face-cut, unlike, sum-unlike, firsts-unlike}
use Rattle.built_meshes.specs.declared.Ground.{Ground}
use Rattle.built_meshes.specs.declared.Ground.TheVariants.{OverCounts}
use Rattle.built_meshes.proofs.Begin.{Counted, counts-is, counts-fail, counted-fits}
use Rattle.built_meshes.proofs.Theorem.{over-of, refusals-hold, accepts-exactly as lists-accept-exactly, accepted-audited, untouched-beyond}
use Rattle.building_tests.specs.Lent.{limits_of}
use Rattle.building_tests.specs.declared.Bounds.{Bounds}
use Rattle.building_tests.specs.declared.Bounds.TheVariants.{General, Refine}
use Rattle.text_meshes.specs.TextBuilding.{is_too_long, lists_of, told, TextOutcome, told_outcome, of_form, build_text_if, build_text}
use Rattle.text_meshes.specs.Claims.{StandsFor, OverText, over-bytes, AcceptsTextExactly, NotTextExactly, OverExactly}
use Rattle.text_meshes.specs.Within.{UntouchedEarly, WithinLimits, AcceptedWithin}
use Rattle.text_meshes.specs.Claims as Claims
use Rattle.text_meshes.specs.declared.TextRefusal.TheVariants.{NotText, Refused}

pub few-faces : (b : Bounds) → (limits_of b).faces ≤ no_row
few-faces General = omega arith
few-faces Refine = omega arith

-- ---- the lists of a text agree in their lengths

sum_to-first : (n : ℕ) (g : ℕ → ℕ) → sum_to (suc n) g ≡ g 0 + sum_to n (λ k. g (suc k))
unfolding sum_to
sum_to-first zero g = omega arith
sum_to-first (suc n) g = let r = sum_to-first n g in omega arith

sum_to-total : (l : List ℕ) → sum_to (length l) (λ k. get_or l k 0) ≡ total (λ (k : ℕ). k) l
unfolding total sum_to
sum_to-total [] = refl
sum_to-total (x ∷ l) = sum_to-first (length l) (λ k. get_or (x ∷ l) k 0) ∙ ap (λ v. x + v) (sum_to-total l)

module _ (c : Sizes) (s : List ℕ) (t : TextMesh) (n : ℕ) (e : text s ≡ parsed t n) where
  over-means : IsOverCounts c (lists_of t)
      → (c.points < length t.points) ⊎ ((c.faces < length t.faces) ⊎ (c.listed < length (listed_points t)))
  over-means (many-points h) = let lc = length-coordinates s t n e in inl (omega arith)
  over-means (many-faces h) = let ll = length-lengths s t n e in inr (inl (omega arith))
  over-means (many-listed h) = inr (inr h)
  over-means (point-cut h) = let lc = length-coordinates s t n e in absurd (h (omega arith))
  over-means (face-cut h) = let ll = length-lengths s t n e in absurd (h (omega arith))
  over-means (unlike h) = absurd (h (sym (length-intervals t)))
  over-means (sum-unlike h) = absurd (h (sum_to-total (lengths t) ∙ total-lengths t))
  over-means (firsts-unlike two h) = absurd (h (length-firsts s t n e ∙ sym (length-lengths s t n e)))

  means-over : (c.points < length t.points) ⊎ ((c.faces < length t.faces) ⊎ (c.listed < length (listed_points t)))
      → IsOverCounts c (lists_of t)
  means-over (inl h) = let lc = length-coordinates s t n e in many-points (omega arith)
  means-over (inr (inl h)) = let ll = length-lengths s t n e in many-faces (omega arith)
  means-over (inr (inr h)) = many-listed h

-- ---- what is answered

module _ (b : Bounds) (s : List ℕ) (m : Mesh) where
  pub of-lists : {t : TextMesh} → StandsFor b s t → build_text b s m ≡ told_outcome (build (limits_of b) (lists_of t) m)
  unfolding build_text
  of-lists h = rw (h.short, h.form)

  -- what comes of a text
  data Came : TextOutcome → Type 0 where
    bytes : is_too_long b (length s) ≡ true → Came (record { answer = Err (Refused OverCounts); tables = m })
    formless : is_too_long b (length s) ≡ false → text s ≡ unparsed → Came (record { answer = Err NotText; tables = m })
    formed : {t : TextMesh} → StandsFor b s t → Came (told_outcome (build (limits_of b) (lists_of t) m))

  came : Came (build_text b s m)
  unfolding build_text
  came = go (is_too_long b (length s)) refl
    where
      form : is_too_long b (length s) ≡ false → (x : Parsed TextMesh) → text s ≡ x → Came (of_form b m x)
      form eb (parsed t n) e = formed (record { short = eb; place = n; form = e })
      form eb unparsed e = formless eb e

      go : (x : Bool) → is_too_long b (length s) ≡ x → Came (build_text_if x b s m)
      go true eb = bytes eb
      go false eb = form eb (text s) refl

told-accepted : (a : Result Counts Ground) {k : Counts} → told a ≡ Ok k → a ≡ Ok k
told-accepted (Ok k') {k} e = let z : k' ≡ k = cc in ap Ok z
told-accepted (Err g) e = cc

pub told-refused : (a : Result Counts Ground) {g : Ground} → told a ≡ Err (Refused g) → a ≡ Err g
told-refused (Ok k) e = cc
told-refused (Err g') {g} e = let z : g' ≡ g = cc in ap Err z

told_text : (a : Result Counts Ground) → told a ≡ Err NotText → ⊥
told_text (Ok k) e = let z : ◌≡◌ {A = ℕ} 0 1 = cc in omega arith
told_text (Err g) e = let z : ◌≡◌ {A = ℕ} 0 1 = cc in omega arith

-- ---- the claims

pub accepts-exactly : AcceptsTextExactly
accepts-exactly b s m = (λ a. to (build_text b s m) (came b s m) a.0 a.1, from)
  where
    to : (o : TextOutcome) → Came b s m o → (k : Counts) → o.answer ≡ Ok k
        → (t : TextMesh) × StandsFor b s t × ((g : Ground) → ¬ Holds (limits_of b) (lists_of t) m g)
    to o (bytes h) k a = let z : ◌≡◌ {A = ℕ} 0 1 = cc in absurd (omega arith)
    to o (formless h e) k a = let z : ◌≡◌ {A = ℕ} 0 1 = cc in absurd (omega arith)
    to o (formed {t = t} h) k a = (t, h, (lists-accept-exactly (limits_of b) (lists_of t) m (few-faces b)).0 (k, told-accepted (build (limits_of b) (lists_of t) m).answer a))

    from : (t : TextMesh) × StandsFor b s t × ((g : Ground) → ¬ Holds (limits_of b) (lists_of t) m g) → (k : Counts) × ((build_text b s m).answer ≡ Ok k)
    from (t, h, n) =
        let (k, e) = (lists-accept-exactly (limits_of b) (lists_of t) m (few-faces b)).1 n in
        (k, ap (λ (o : TextOutcome). o.answer) (of-lists b s m h) ∙ ap told e)

pub not-text-exactly : NotTextExactly
unfolding build_text
not-text-exactly b s m = (to (build_text b s m) (came b s m), from)
  where
    to : (o : TextOutcome) → Came b s m o → o.answer ≡ Err NotText → (is_too_long b (length s) ≡ false) × (text s ≡ unparsed)
    to o (bytes h) a = let z : ◌≡◌ {A = ℕ} 0 1 = cc in absurd (omega arith)
    to o (formless h e) a = (h, e)
    to o (formed {t = t} h) a = absurd (told_text (build (limits_of b) (lists_of t) m).answer a)

    from : (is_too_long b (length s) ≡ false) × (text s ≡ unparsed) → (build_text b s m).answer ≡ Err NotText
    from (h, e) = rw (h, e)

pub over-exactly : OverExactly
unfolding build_text build
over-exactly b s m = (to (build_text b s m) (came b s m), from)
  where
    which : (t : TextMesh) → StandsFor b s t
        → ((limits_of b).points < length t.points) ⊎ (((limits_of b).faces < length t.faces) ⊎ ((limits_of b).listed < length (listed_points t))) → OverText b s
    which t h (inl k) = Claims.over-points t h k
    which t h (inr (inl k)) = Claims.over-faces t h k
    which t h (inr (inr k)) = Claims.over-listed t h k

    to : (o : TextOutcome) → Came b s m o → o.answer ≡ Err (Refused OverCounts) → OverText b s
    to o (bytes h) a = over-bytes h
    to o (formless h e) a = let z : ◌≡◌ {A = ℕ} 0 1 = cc in absurd (omega arith)
    to o (formed {t = t} h) a = which t h
        (over-means (limits_of b) s t h.place h.form
        (over-of (limits_of b) (lists_of t) m
        (refusals-hold (limits_of b) (lists_of t) m (few-faces b) OverCounts
        (told-refused (build (limits_of b) (lists_of t) m).answer a)).holds))

    refuses : (t : TextMesh) → StandsFor b s t → IsOverCounts (limits_of b) (lists_of t) → (build_text b s m).answer ≡ Err (Refused OverCounts)
    refuses t h k = ap (λ (o : TextOutcome). o.answer) (of-lists b s m h) ∙ ap told (go (counts_fit (limits_of b) (lists_of t)) refl)
      where
        go : (f : Bool) → counts_fit (limits_of b) (lists_of t) ≡ f → (build (limits_of b) (lists_of t) m).answer ≡ Err OverCounts
        go true e = absurd (counted-fits _ _ (counts-is (limits_of b) (lists_of t) e) k)
        go false e = rw e

    from : OverText b s → (build_text b s m).answer ≡ Err (Refused OverCounts)
    from (over-bytes h) = rw h
    from (Claims.over-points t h k) = refuses t h (means-over (limits_of b) s t h.place h.form (inl k))
    from (Claims.over-faces t h k) = refuses t h (means-over (limits_of b) s t h.place h.form (inr (inl k)))
    from (Claims.over-listed t h k) = refuses t h (means-over (limits_of b) s t h.place h.form (inr (inr k)))

pub untouched-early : UntouchedEarly
untouched-early b s m = go (build_text b s m) (came b s m)
  where
    go : (o : TextOutcome) → Came b s m o → (o.answer ≡ Err NotText) ⊎ (o.answer ≡ Err (Refused OverCounts)) → o.tables ≡ m
    go o (bytes h) a = refl
    go o (formless h e) a = refl
    go o (formed {t = t} h) (inl a) = absurd (told_text (build (limits_of b) (lists_of t) m).answer a)
    go o (formed {t = t} h) (inr a) =
        (refusals-hold (limits_of b) (lists_of t) m (few-faces b) OverCounts (told-refused (build (limits_of b) (lists_of t) m).answer a)).untouched (omega arith)

pub accepted-within : AcceptedWithin
accepted-within b s m k answer = go (build_text b s m) (came b s m) answer
  where
    few : (t : TextMesh) → (build (limits_of b) (lists_of t) m).answer ≡ Ok k → (f : Bool) → counts_fit (limits_of b) (lists_of t) ≡ f
        → Counted (limits_of b) (lists_of t)
    few t a true e = counts-is (limits_of b) (lists_of t) e
    few t a false e =
        absurd ((lists-accept-exactly (limits_of b) (lists_of t) m (few-faces b)).0 (k, a) OverCounts (lists, over-counts (counts-fail (limits_of b) (lists_of t) e)))

    go : (o : TextOutcome) → Came b s m o → o.answer ≡ Ok k → WithinLimits b m o.tables k
    go o (bytes h) a = let z : ◌≡◌ {A = ℕ} 0 1 = cc in absurd (omega arith)
    go o (formless h e) a = let z : ◌≡◌ {A = ℕ} 0 1 = cc in absurd (omega arith)
    go o (formed {t = t} h) a =
        let a' = told-accepted (build (limits_of b) (lists_of t) m).answer a in
        let x = accepted-audited (limits_of b) (lists_of t) m (few-faces b) k a' in
        let w = untouched-beyond (limits_of b) (lists_of t) m (few-faces b) in
        let c = few t a' (counts_fit (limits_of b) (lists_of t)) refl in
        let ep = x.all-points in
        let ef = x.all-faces in
        let ee = x.half-listed in
        let hp = c.points-few in
        let hf = c.faces-few in
        let hl = c.listed-few in
        record {
          passes = x.passes;
          few-points = omega arith;
          few-edges = omega arith;
          few-faces = omega arith;
          as_long =
              record {
                positions = w.positions.0;
                points = w.points.0;
                edges = w.edges.0;
                intervals = w.intervals.0;
                faces = w.faces.0;
              };
        }
