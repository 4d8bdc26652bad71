-- The claims of `specs/Claims.antt`. Assumes nothing.
--     once                    a text says one thing
--     Came, came              what the mending of a text comes to
--     whole                   a text that says t is the printing of t
--     mended                  what is left of a text whose lists are mended
--     none-turned             turning no face leaves a text
use mathlib.Core.Path.{◌≡◌, refl, sym, ap, ◌∙◌, subst}
use mathlib.Core.Bool.{Bool, true, false, cond}
use mathlib.Core.Logic.{◌⊎◌, inl, inr, ◌≢◌, ◌↔◌}
use mathlib.Core.List.{List, [], ◌∷◌}
use Prim.Native.Nat.{ℕ, suc, ◌<◌}
use native.Mathlib.Omega.{arith}
use lib.ListN.{length}
use Rattle.std.specs.Prelude.{Result, Ok, Err, ⊤}
use Rattle.tables.specs.Mesh.{Mesh}
use Rattle.text_numbers.specs.Form.{Parsed, parsed, unparsed}
use Rattle.mesh_lines.specs.Grammar.{Side}
use Rattle.mesh_text.specs.Text.{TextMesh, text}
use Rattle.built_meshes.specs.Lists.{Lists, faces_of, general_limits}
use Rattle.built_meshes.specs.Grounds.{Where, Holds}
use Rattle.built_meshes.specs.Building.{build}
use Rattle.built_meshes.specs.declared.Version.{Version}
use Rattle.built_meshes.specs.declared.Version.TheVariants.{One, Two}
use Rattle.built_meshes.specs.declared.Ground.{Ground}
use Rattle.built_meshes.specs.declared.Ground.TheVariants.{OverCounts, EdgeTripleFace, SameWay, MissingFace}
use Rattle.built_meshes.proofs.Theorem.{refusals-hold}
use Rattle.building_tests.specs.Lent.{limits_of}
use Rattle.building_tests.specs.declared.Bounds.{Bounds}
use Rattle.text_meshes.specs.TextBuilding.{is_too_long, lists_of, TextOutcome, build_text_if, build_text}
use Rattle.text_meshes.specs.declared.TextRefusal.TheVariants as Text
use Rattle.text_meshes.proofs.Theorem.{few-faces, told-refused, of-lists as built-of-lists}
use Rattle.mesh_printing.specs.Printing.{printed_text, FitText}
use Rattle.mesh_printing.proofs.Theorem.{text-exactly}
use Rattle.mended_lists.specs.Reversal.{Choice, reversed}
use Rattle.mended_lists.specs.Parts.{faces_turned, twisted}
use Rattle.mended_lists.specs.Mending.{mending}
use Rattle.mended_lists.specs.declared.Unmended.{Unmended}
use Rattle.mended_lists.specs.declared.Unmended.TheVariants as Lists
use Rattle.mended_lists.specs.Claims.{Fitting, Sound, Opposite, Works}
use Rattle.mended_lists.specs.Grounds.{MeetsFirst, MeetsNone}
use Rattle.mended_lists.proofs.Theorem.{lowest-stay, only_one}
use Rattle.mended_lists.proofs.Again.{reversed-none, then-built as lists-then-built}
use Rattle.mended_lists.proofs.Passed.{passed, mended-parts, mended-exactly}
use Rattle.mended_lists.proofs.Grounds.{first-ground, none-answer, answer-none, twisted-last, else-mended}
use Rattle.mended_lists.proofs.Turned.{turned-meets-none}
use Rattle.mended_texts.specs.Turning.{turned_faces, turned_text}
use Rattle.mended_texts.specs.Mending.{MendOutcome, mending_of, mend_form, mend_text}
use Rattle.mended_texts.specs.declared.TextMending.{TextMending}
use Rattle.mended_texts.specs.declared.TextMending.TheVariants.{Mended, NotText, Refused, Twisted}
use Rattle.mended_texts.specs.Claims.{Says, SaysTwo, TurnedRight, MendedText, SameBytes, RefusalsLeave, NotTextExactly}
use Rattle.mended_texts.specs.Claims.{GroundsInOrder, TwistedText, TextMended, ReversalRead, Unchanged, Twice, ThenBuilt}
use Rattle.mended_texts.proofs.Turned.{faces-count}
use Rattle.mended_texts.proofs.Printed.{length-turned, fit-turned, four-of-fit}
use Rattle.mended_texts.proofs.Past.{Past, text-fitting, text-turned, same-turned}
use Rattle.mended_texts.proofs.Outcome.{formless, of-lists, first-version}

-- ---- what a text says

once : (s : List ℕ) (t u : TextMesh) → Says s t → Says s u → t ≡ u
once s t u (n, e) (k, h) = same n k (sym e ∙ h)
  where
    same : (n k : ℕ) → parsed t n ≡ parsed u k → t ≡ u
    same n k e = cc

-- the printing of what it says
whole : (s : List ℕ) (t : TextMesh) → Says s t → FitText t × (s ≡ printed_text t)
whole s t says = (text-exactly s t).0 says

printed-says : (t : TextMesh) → FitText t → Says (printed_text t) t
printed-says t fit = (text-exactly (printed_text t) t).1 (fit, refl)

-- ---- what the mending comes to

data Came (s : List ℕ) : MendOutcome → Type 0 where
  no-form : text s ≡ unparsed → Came s (record { answer = NotText; text = s })
  of_one : (t : TextMesh) → Says s t → t.version ≡ One → Came s (record { answer = NotText; text = s })
  of_two : (t : TextMesh) → SaysTwo s t → Came s (mending_of (mending general_limits (lists_of t)) s t)

came : (s : List ℕ) → Came s (mend_text s)
came s = go (text s) refl
  where
    version : (t : TextMesh) (n : ℕ) → text s ≡ parsed t n → (v : Version) → t.version ≡ v → Came s (mend_text s)
    version t n e One one = subst (Came s) (sym (first-version s t n e one)) (of_one t (n, e) one)
    version t n e Two two = subst (Came s) (sym (of-lists s t n e two)) (of_two t ((n, e), two))

    go : (x : Parsed TextMesh) → text s ≡ x → Came s (mend_text s)
    go (parsed t n) e = version t n e t.version refl
    go unparsed e = subst (Came s) (sym (formless s e)) (no-form e)

-- the answer to a text of version 2 is that to its lists
by-lists : (s : List ℕ) (t : TextMesh) → SaysTwo s t → mend_text s ≡ mending_of (mending general_limits (lists_of t)) s t
by-lists s t ((n, e), two) = of-lists s t n e two

module _ (s : List ℕ) (t : TextMesh) where
  told-mended : (r : Result ⊤ Unmended) → (mending_of r s t).answer ≡ Mended → r ≡ Ok tt
  told-mended (Ok tt) e = refl
  told-mended (Err (Lists.Refused g)) e = let z : ◌≡◌ {A = ℕ} 0 1 = cc in absurd (omega arith)
  told-mended (Err Lists.Twisted) e = let z : ◌≡◌ {A = ℕ} 0 1 = cc in absurd (omega arith)

  told-refused-by : (r : Result ⊤ Unmended) (g : Ground) → (mending_of r s t).answer ≡ Refused g → r ≡ Err (Lists.Refused g)
  told-refused-by (Ok tt) g e = let z : ◌≡◌ {A = ℕ} 0 1 = cc in absurd (omega arith)
  told-refused-by (Err (Lists.Refused h)) g e = let z : h ≡ g = cc in ap (λ (x : Ground). Err (Lists.Refused x)) z
  told-refused-by (Err Lists.Twisted) g e = let z : ◌≡◌ {A = ℕ} 0 1 = cc in absurd (omega arith)

  told-twisted : (r : Result ⊤ Unmended) → (mending_of r s t).answer ≡ Twisted → r ≡ Err Lists.Twisted
  told-twisted (Ok tt) e = let z : ◌≡◌ {A = ℕ} 0 1 = cc in absurd (omega arith)
  told-twisted (Err (Lists.Refused g)) e = let z : ◌≡◌ {A = ℕ} 0 1 = cc in absurd (omega arith)
  told-twisted (Err Lists.Twisted) e = refl

  told_text : (r : Result ⊤ Unmended) → (mending_of r s t).answer ≡ NotText → ⊥
  told_text (Ok tt) e = let z : ◌≡◌ {A = ℕ} 0 1 = cc in omega arith
  told_text (Err (Lists.Refused g)) e = let z : ◌≡◌ {A = ℕ} 0 1 = cc in omega arith
  told_text (Err Lists.Twisted) e = let z : ◌≡◌ {A = ℕ} 0 1 = cc in omega arith

  told-left : (r : Result ⊤ Unmended) → (mending_of r s t).answer ≢ Mended → (mending_of r s t).text ≡ s
  told-left (Ok tt) d = absurd (d refl)
  told-left (Err (Lists.Refused g)) d = refl
  told-left (Err Lists.Twisted) d = refl

  told-length : s ≡ printed_text t → (r : Result ⊤ Unmended) → length (mending_of r s t).text ≡ length s
  told-length e (Ok tt) = length-turned (faces_turned (lists_of t)) t ∙ ap length (sym e)
  told-length e (Err (Lists.Refused g)) = refl
  told-length e (Err Lists.Twisted) = refl

-- ---- claims of every text

pub same_bytes : SameBytes
same_bytes s = go (mend_text s) (came s)
  where
    go : (o : MendOutcome) → Came s o → length o.text ≡ length s
    go o (no-form e) = refl
    go o (of_one t says one) = refl
    go o (of_two t (says, two)) = told-length s t (whole s t says).1 (mending general_limits (lists_of t))

pub refusals-leave : RefusalsLeave
refusals-leave s d = go (mend_text s) (came s) d
  where
    go : (o : MendOutcome) → Came s o → o.answer ≢ Mended → o.text ≡ s
    go o (no-form e) d = refl
    go o (of_one t says one) d = refl
    go o (of_two t says) d = told-left s t (mending general_limits (lists_of t)) d

abbrev answer_of : MendOutcome → TextMending
answer_of o = o.answer

pub not-text-exactly : NotTextExactly
not-text-exactly s = (to (mend_text s) (came s), from)
  where
    to : (o : MendOutcome) → Came s o → o.answer ≡ NotText → (text s ≡ unparsed) ⊎ ((t : TextMesh) × Says s t × (t.version ≡ One))
    to o (no-form e) a = inl e
    to o (of_one t says one) a = inr (t, says, one)
    to o (of_two t says) a = absurd (told_text s t (mending general_limits (lists_of t)) a)

    from : (text s ≡ unparsed) ⊎ ((t : TextMesh) × Says s t × (t.version ≡ One)) → (mend_text s).answer ≡ NotText
    from (inl e) = ap answer_of (formless s e)
    from (inr (t, (n, e), one)) = ap answer_of (first-version s t n e one)

-- ---- a text whose answer is by its lists

-- an answer other than 1 is that to the lists of a text of version 2
two-of : (s : List ℕ) → (mend_text s).answer ≢ NotText → (t : TextMesh) × SaysTwo s t
two-of s d = go (mend_text s) (came s) d
  where
    go : (o : MendOutcome) → Came s o → o.answer ≢ NotText → (t : TextMesh) × SaysTwo s t
    go o (no-form e) d = absurd (d refl)
    go o (of_one t says one) d = absurd (d refl)
    go o (of_two t says) d = (t, says)

mended-two : (s : List ℕ) → (mend_text s).answer ≡ Mended → (t : TextMesh) × SaysTwo s t × (mending general_limits (lists_of t) ≡ Ok tt)
mended-two s a =
    let (t, says) = two-of s (λ e. clash (sym a ∙ e)) in
    (t, says, told-mended s t (mending general_limits (lists_of t)) (sym (ap answer_of (by-lists s t says)) ∙ a))
  where
    clash : Mended ≡ NotText → ⊥
    clash e = let z : ◌≡◌ {A = ℕ} 0 1 = cc in omega arith

pub grounds-in-order : GroundsInOrder
grounds-in-order s g = (to, from)
  where
    clash : Refused g ≡ NotText → ⊥
    clash e = let z : ◌≡◌ {A = ℕ} 0 1 = cc in omega arith

    to : (mend_text s).answer ≡ Refused g → (t : TextMesh) × SaysTwo s t × ((w : Where) × MeetsFirst general_limits (lists_of t) w g)
    to a =
        let (t, says) = two-of s (λ e. clash (sym a ∙ e)) in (
          t,
          says,
          (first-ground general_limits (lists_of t) g).0
              (told-refused-by s t (mending general_limits (lists_of t)) g (sym (ap answer_of (by-lists s t says)) ∙ a)),
        )

    from : (t : TextMesh) × SaysTwo s t × ((w : Where) × MeetsFirst general_limits (lists_of t) w g) → (mend_text s).answer ≡ Refused g
    from (t, says, first) =
        ap answer_of (by-lists s t says)
        ∙ ap (λ (r : Result ⊤ Unmended). (mending_of r s t).answer) ((first-ground general_limits (lists_of t) g).1 first)

-- the lists of the text with the faces of a choice turned, where no ground is met
turned-lists :
    (s : List ℕ) (t : TextMesh) → SaysTwo s t → MeetsNone general_limits (lists_of t) → (c : Choice) →
    lists_of (turned_text c t) ≡ reversed c (lists_of t)
turned-lists s t (says, two) none c = text-turned t (whole s t says).0 two (none-answer general_limits (lists_of t) none) c

right-works :
    (s : List ℕ) (t : TextMesh) → SaysTwo s t → MeetsNone general_limits (lists_of t) → (c : Choice) → TurnedRight t c → Works (lists_of t) c
right-works s t says none c = subst Opposite (turned-lists s t says none c)

works-right :
    (s : List ℕ) (t : TextMesh) → SaysTwo s t → MeetsNone general_limits (lists_of t) → (c : Choice) → Works (lists_of t) c → TurnedRight t c
works-right s t says none c = subst Opposite (sym (turned-lists s t says none c))

pub twisted-text : TwistedText
twisted-text s = (to, from)
  where
    clash : Twisted ≡ NotText → ⊥
    clash e = let z : ◌≡◌ {A = ℕ} 0 1 = cc in omega arith

    to :
        (mend_text s).answer ≡ Twisted →
        (t : TextMesh) × SaysTwo s t × MeetsNone general_limits (lists_of t) × ((c : Choice) → ¬ TurnedRight t c)
    to a =
        let (t, says) = two-of s (λ e. clash (sym a ∙ e)) in
        let (none, not) =
        (twisted-last general_limits (lists_of t)).0
        (told-twisted s t (mending general_limits (lists_of t)) (sym (ap answer_of (by-lists s t says)) ∙ a))
        in
        (t, says, none, λ c right. not c (right-works s t says none c right))

    from :
        (t : TextMesh) × SaysTwo s t × MeetsNone general_limits (lists_of t) × ((c : Choice) → ¬ TurnedRight t c) → (mend_text s).answer ≡ Twisted
    from (t, says, none, not) =
        ap answer_of (by-lists s t says)
        ∙ ap (λ (r : Result ⊤ Unmended). (mending_of r s t).answer)
        ((twisted-last general_limits (lists_of t)).1 (none, λ c works. not c (works-right s t says none c works)))

pub mended-text : TextMended
mended-text s = (to, from)
  where
    to :
        (mend_text s).answer ≡ Mended → (t : TextMesh) × SaysTwo s t × MeetsNone general_limits (lists_of t) × ((c : Choice) × TurnedRight t c)
    to a =
        let (t, says, e) = mended-two s a in
        let (none, (c, works)) = (else-mended general_limits (lists_of t)).0 e in
        (t, says, none, (c, works-right s t says none c works))

    from :
        (t : TextMesh) × SaysTwo s t × MeetsNone general_limits (lists_of t) × ((c : Choice) × TurnedRight t c) → (mend_text s).answer ≡ Mended
    from (t, says, none, (c, right)) =
        ap answer_of (by-lists s t says)
        ∙ ap (λ (r : Result ⊤ Unmended). (mending_of r s t).answer)
        ((else-mended general_limits (lists_of t)).1 (none, (c, right-works s t says none c right)))

-- ---- a mended text

module _ (s : List ℕ) (t : TextMesh) (says : SaysTwo s t) (e : mending general_limits (lists_of t) ≡ Ok tt) where
  past : Past general_limits (lists_of t)
  past = inl e

  none-met : MeetsNone general_limits (lists_of t)
  none-met = answer-none general_limits (lists_of t) past

  -- the text that is left
  left : mend_text s ≡ record { answer = Mended; text = printed_text (turned_text (faces_turned (lists_of t)) t) }
  left = by-lists s t says ∙ ap (λ (r : Result ⊤ Unmended). mending_of r s t) e

  fit : FitText (turned_text (faces_turned (lists_of t)) t)
  fit = fit-turned (faces_turned (lists_of t)) t (whole s t says.0).0

  left-says : SaysTwo (printed_text (turned_text (faces_turned (lists_of t)) t)) (turned_text (faces_turned (lists_of t)) t)
  left-says = (printed-says (turned_text (faces_turned (lists_of t)) t) fit, says.1)

  left-opposite : TurnedRight t (faces_turned (lists_of t))
  left-opposite =
      works-right s t says none-met (faces_turned (lists_of t)) ((mended-exactly general_limits (lists_of t) past).1.0 e)

  mended : MendedText s t (faces_turned (lists_of t))
  mended =
      record {
        says =
            subst (λ (o : MendOutcome). SaysTwo o.text (turned_text (faces_turned (lists_of t)) t)) (sym left) left-says;
        lists = turned-lists s t says none-met (faces_turned (lists_of t));
        opposite = left-opposite;
        lowest-stay = lowest-stay (lists_of t);
        only_one =
            λ d right stay f b.
            only_one (lists_of t) d (passed general_limits (lists_of t) past).0 (right-works s t says none-met d right) stay f
            (rw (faces-count t (four-of-fit t (whole s t says.0).0)) b);
      }

  -- its lists meet no ground
  left-none : MeetsNone general_limits (lists_of (turned_text (faces_turned (lists_of t)) t))
  left-none =
      subst (MeetsNone general_limits) (sym (turned-lists s t says none-met (faces_turned (lists_of t))))
      (turned-meets-none general_limits (lists_of t) (faces_turned (lists_of t)) none-met)

pub reversal-read : ReversalRead
reversal-read s t says a =
    let (u, two, e) = mended-two s a in
    subst (λ (t : TextMesh). (c : Choice) × MendedText s t c) (once s u t two.0 says) (faces_turned (lists_of u), mended s u two e)

-- ---- a text that needs nothing

none-turned : (fs : List (List Side)) → turned_faces (λ f. false) fs ≡ fs
unfolding turned_faces
none-turned [] = refl
none-turned (f ∷ fs) = ap (λ (x : List (List Side)). f ∷ x) (none-turned fs)

needs-none : (l : Lists) → Fitting l → Sound l → Opposite l → (f : ℕ) → f < faces_of l → faces_turned l f ≡ false
needs-none l fit sound opposite f b =
    sym
    (only_one l (λ f. false) sound (rw (reversed-none (λ f. false) l fit (λ f a. refl)) opposite) (λ f a lowest. refl) f b)

module _ (s : List ℕ) (t : TextMesh) (says : SaysTwo s t) (none : MeetsNone general_limits (lists_of t)) (opposite : Opposite (lists_of t)) where
  fit-text : FitText t
  fit-text = (whole s t says.0).0

  answer : mending general_limits (lists_of t) ≡ Ok tt
  answer =
      (else-mended general_limits (lists_of t)).1 (
        none,
        (λ f. false, rw (reversed-none (λ f. false) (lists_of t) (text-fitting t fit-text) (λ f a. refl)) opposite),
      )

  same-faces : turned_faces (faces_turned (lists_of t)) t.faces ≡ t.faces
  same-faces =
      same-turned (faces_turned (lists_of t)) (λ f. false) t.faces
      (λ f b.
      needs-none (lists_of t) (text-fitting t fit-text) (passed general_limits (lists_of t) (inl answer)).0 opposite f
      (rw (faces-count t (four-of-fit t fit-text)) b))
      ∙ none-turned t.faces

  same_text : printed_text (turned_text (faces_turned (lists_of t)) t) ≡ s
  same_text =
      ap (λ (fs : List (List Side)). printed_text (record { version = t.version; points = t.points; faces = fs })) same-faces
      ∙ sym (whole s t says.0).1

  stays : mend_text s ≡ record { answer = Mended; text = s }
  stays = left s t says answer ∙ ap (λ (x : List ℕ). record { answer = Mended; text = x }) same_text

pub unchanged : Unchanged
unchanged s t says none opposite =
    (ap answer_of (stays s t says none opposite), ap (λ (o : MendOutcome). o.text) (stays s t says none opposite))

pub twice : Twice
twice s = go (mend_text s) (came s) refl
  where
    again : (o : MendOutcome) → mend_text s ≡ o → mend_text o.text ≡ o → mend_text (mend_text s).text ≡ mend_text s
    again o e h = rw e h

    by : (t : TextMesh) → SaysTwo s t → (r : Result ⊤ Unmended) → mending general_limits (lists_of t) ≡ r → mend_text (mend_text s).text ≡ mend_text s
    by t says (Ok tt) e =
        again (record { answer = Mended; text = printed_text (turned_text (faces_turned (lists_of t)) t) }) (left s t says e)
        (stays (printed_text (turned_text (faces_turned (lists_of t)) t)) (turned_text (faces_turned (lists_of t)) t) (left-says s t says e) (left-none s t says e)
        (left-opposite s t says e))
    by t says (Err (Lists.Refused g)) e =
        let h : mend_text s ≡ record { answer = Refused g; text = s } = by-lists s t says ∙ ap (λ (r : Result ⊤ Unmended). mending_of r s t) e in
        again (record { answer = Refused g; text = s }) h h
    by t says (Err Lists.Twisted) e =
        let h : mend_text s ≡ record { answer = Twisted; text = s } = by-lists s t says ∙ ap (λ (r : Result ⊤ Unmended). mending_of r s t) e in
        again (record { answer = Twisted; text = s }) h h

    go : (o : MendOutcome) → Came s o → mend_text s ≡ o → mend_text (mend_text s).text ≡ mend_text s
    go o (no-form e) h = again (record { answer = NotText; text = s }) h h
    go o (of_one t says one) h = again (record { answer = NotText; text = s }) h h
    go o (of_two t says) h = by t says (mending general_limits (lists_of t)) refl

-- ---- what building then makes of it

module _ (b : Bounds) (s : List ℕ) (m : Mesh) (t : TextMesh) (says : Says s t) where
  refused-holds : (g : Ground) → (build_text b s m).answer ≡ Err (Text.Refused g) → (g ≡ OverCounts) ⊎ Holds (limits_of b) (lists_of t) m g
  unfolding build_text build_text_if
  refused-holds g = go (is_too_long b (length s)) refl
    where
      go :
          (x : Bool) → is_too_long b (length s) ≡ x → (build_text b s m).answer ≡ Err (Text.Refused g) →
          (g ≡ OverCounts) ⊎ Holds (limits_of b) (lists_of t) m g
      go true e a = let z : Err (Text.Refused OverCounts) ≡ Err (Text.Refused g) = rw e at a in let y : g ≡ OverCounts = cc in inl y
      go false e a =
          inr
          (refusals-hold (limits_of b) (lists_of t) m (few-faces b) g
          (told-refused (build (limits_of b) (lists_of t) m).answer
          (sym (ap (λ (o : TextOutcome). o.answer) (built-of-lists b s m (record { short = e; place = says.0; form = says.1 }))) ∙ a))
          ).holds

module _ (s : List ℕ) (t : TextMesh) (says : SaysTwo s t) (e : mending general_limits (lists_of t) ≡ Ok tt) (b : Bounds) (m : Mesh) where
  straight : twisted (lists_of t) ≡ false
  straight = which (twisted (lists_of t)) (sym e ∙ (mended-parts general_limits (lists_of t) (inl e)).2)
    where
      which : (x : Bool) → ◌≡◌ {A = Result ⊤ Unmended} (Ok tt) (cond x (Err Lists.Twisted) (Ok tt)) → x ≡ false
      which true h = let z : ◌≡◌ {A = ℕ} 0 1 = cc in absurd (omega arith)
      which false h = refl

  not-refused :
      (g : Ground) → g ≢ OverCounts → ¬ Holds (limits_of b) (reversed (faces_turned (lists_of t)) (lists_of t)) m g →
      (build_text b (mend_text s).text m).answer ≢ Err (Text.Refused g)
  not-refused g other not h =
      go (refused-holds b (mend_text s).text m (turned_text (faces_turned (lists_of t)) t) (mended s t says e).says.0 g h)
    where
      go : (g ≡ OverCounts) ⊎ Holds (limits_of b) (lists_of (turned_text (faces_turned (lists_of t)) t)) m g → ⊥
      go (inl z) = other z
      go (inr holds) = not (subst (λ (l : Lists). Holds (limits_of b) l m g) (mended s t says e).lists holds)

  none-refused :
      ((build_text b (mend_text s).text m).answer ≢ Err (Text.Refused EdgeTripleFace))
      × ((build_text b (mend_text s).text m).answer ≢ Err (Text.Refused SameWay))
      × ((build_text b (mend_text s).text m).answer ≢ Err (Text.Refused MissingFace))
  none-refused =
      let (sound, paired) = passed general_limits (lists_of t) (inl e) in
      let (third, same, missing) = lists-then-built (lists_of t) sound paired straight (limits_of b) m in (
        not-refused EdgeTripleFace (λ z. let y : ◌≡◌ {A = ℕ} 0 1 = cc in omega arith) third,
        not-refused SameWay (λ z. let y : ◌≡◌ {A = ℕ} 0 1 = cc in omega arith) same,
        not-refused MissingFace (λ z. let y : ◌≡◌ {A = ℕ} 0 1 = cc in omega arith) missing,
      )

pub then-built : ThenBuilt
then-built s a b m = let (t, says, e) = mended-two s a in none-refused s t says e b m
