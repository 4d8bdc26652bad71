-- The claims of `specs/Claims.antt`. Assumes nothing.
use mathlib.Core.Path.{◌≡◌, refl, sym, ◌∙◌, ap}
use mathlib.Core.Bool.{Bool, true, false, false≢true}
use mathlib.Core.Logic.{inl}
use Prim.Native.Nat.{ℕ, suc, ◌+◌, ◌≤◌, ◌<◌}
use native.Mathlib.Omega.{arith}
use native.Mathlib.Decide.{dec_lt}
use lib.ListN.{length}
use Rattle.built_meshes.specs.Lists.{Lists, offset}
use Rattle.built_meshes.specs.Places.{point_of, next_of, IsPlace, Between}
use Rattle.mended_lists.specs.Reversal.{Choice}
use Rattle.mended_lists.specs.Edges.{places_of, place_at, mate}
use Rattle.mended_lists.specs.declared.Part.{Part}
use Rattle.mended_lists.specs.Parts.{differ, lone_part, parts_of, faces_turned, twisted}
use Rattle.mended_lists.specs.Claims.{Sound, Works, Share, InPart, itself, beside, LowestStay, TwistedExactly, ChoiceFound, OnlyOne}
use Rattle.mended_lists.proofs.Parts.{parts-rooted, parts-follow, parts-agree, parts_within, Follows}
use Rattle.mended_lists.proofs.Edges.{mate-last, places-at, number-below, number-face, Numbered, numbered}
use Rattle.mended_lists.proofs.Choices.{works-opposite, opposite-works, only-mate, between-place, edge-between}

-- ---- parts

share_back : (l : Lists) (f g : ℕ) → Share l f g → Share l g f
share_back l f g s = record { i = s.j; j = s.i; p = s.p; q = s.q; one = s.other; other = s.one }

part-on : (l : Lists) (f g h : ℕ) → InPart l f g → InPart l g h → InPart l f h
part-on l f g h a itself = a
part-on l f g h a (beside {g = k} b s) = beside (part-on l f g k a b) s

part-back : (l : Lists) (f g : ℕ) → InPart l f g → InPart l g f
part-back l f g itself = itself
part-back l f g (beside {g = k} a s) = part-on l g k f (beside itself (share_back l k g s)) (part-back l f k a)

-- a place and its mate share an edge
mates-share :
    (l : Lists) (i j : ℕ) → i < length (places_of l) → mate (places_of l) i ≡ suc j →
    Share l (place_at (places_of l) j).face (place_at (places_of l) i).face
mates-share l i j b e =
    let less : j < i = (mate-last (places_of l) i j e).in-range in
    let u : Numbered l j = numbered l j (omega arith) in
    let v : Numbered l i = numbered l i b in
    let same = rw (u.at, v.at) at (mate-last (places_of l) i j e).passes in
    let runs : Between l v.face v.place (point_of l v.face v.place) (next_of l v.face v.place) =
    inl (record { is-place = v.is-place; begins = refl; ends = refl })
    in
    rw (u.at, v.at)
    (record {
      i = u.place;
      j = v.place;
      p = point_of l v.face v.place;
      q = next_of l v.face v.place;
      one =
          edge-between l u.face u.place v.face v.place (point_of l v.face v.place) (next_of l v.face v.place)
          u.is-place runs same;
      other = runs;
    })

module _ (l : Lists) where
  abbrev root_of : ℕ → ℕ
  unfolding parts_of
  root_of f = ((parts_of l).part f).root

  root-in-part : (f : ℕ) → InPart l f (root_of f)
  unfolding parts_of root_of
  root-in-part =
      parts_within (places_of l) (InPart l) (λ f. itself) (part-back l) (part-on l) (length (places_of l))
      (λ i j b e. beside itself (mates-share l i j b e))

  root_below : (f : ℕ) → root_of f ≤ f
  unfolding parts_of root_of
  root_below f = (parts-rooted (places_of l) (length (places_of l))).below f

  root-stays : (f : ℕ) → (parts_of l).part (root_of f) ≡ lone_part (root_of f)
  unfolding parts_of root_of
  root-stays f = (parts-rooted (places_of l) (length (places_of l))).stays f

  module _ (sound : Sound l) where
    -- faces with an edge in common have one root
    share-root : (f g : ℕ) → Share l f g → root_of f ≡ root_of g
    unfolding parts_of root_of
    share-root f g s = go (dec_lt (offset l f + s.i) (offset l g + s.j)) (dec_lt (offset l g + s.j) (offset l f + s.i))
      where
        at_f : IsPlace l f s.i
        at_f = between-place l f s.i s.p s.q s.one

        at_g : IsPlace l g s.j
        at_g = between-place l g s.j s.p s.q s.other

        go : Dec (offset l f + s.i < offset l g + s.j) → Dec (offset l g + s.j < offset l f + s.i) → root_of f ≡ root_of g
        go (yes less) d =
            rw (places-at l f s.i at_f, places-at l g s.j at_g) at
            (parts-agree (places_of l) (length (places_of l)) (offset l g + s.j) (offset l f + s.i) (number-below l g s.j at_g)
            (only-mate l sound f s.i g s.j s.p s.q s.one s.other less)).root
        go (no d) (yes less) =
            sym
            (rw (places-at l f s.i at_f, places-at l g s.j at_g) at
            (parts-agree (places_of l) (length (places_of l)) (offset l f + s.i) (offset l g + s.j) (number-below l f s.i at_f)
            (only-mate l sound g s.j f s.i s.p s.q s.other s.one less)).root)
        go (no d) (no d') =
            let e : offset l f + s.i ≡ offset l g + s.j = omega arith in
            ap (λ (x : ℕ). ((parts_of l).part x).root) (number-face l f s.i g s.j at_f at_g e)

    part-root : (f g : ℕ) → InPart l f g → root_of f ≡ root_of g
    part-root f g itself = refl
    part-root f g (beside {g = k} a s) = part-root f k a ∙ share-root k g s

    -- the root is the lowest of its part
    root-lowest : (f g : ℕ) → InPart l (root_of f) g → root_of f ≤ g
    unfolding root_of parts_of
    root-lowest f g a =
        let e : root_of (root_of f) ≡ root_of g = part-root (root_of f) g a in
        let r : root_of (root_of f) ≡ root_of f = ap (λ (p : Part). p.root) (root-stays f) in
        let b : root_of g ≤ g = root_below g in
        low (root_of (root_of f)) (root_of f) (root_of g) g r e b
      where
        low : (a b c d : ℕ) → a ≡ b → a ≡ c → c ≤ d → b ≤ d
        low a b c d x y z = omega arith

-- ---- the choice

module _ (l : Lists) where
  pub lowest-stay : LowestStay l (faces_turned l)
  unfolding faces_turned parts_of root_of
  lowest-stay f a lowest =
      let r : root_of l f ≡ f = same (root_of l f) (lowest (root_of l f) (root-in-part l f)) (root_below l f) in
      ap (λ (p : Part). p.odd) (ap (λ (x : ℕ). (parts_of l).part x) (sym r) ∙ root-stays l f)
    where
      same : (r : ℕ) → f ≤ r → r ≤ f → r ≡ f
      same r a b = omega arith

  module _ (sound : Sound l) where
    pub found-works : twisted l ≡ false → Works l (faces_turned l)
    unfolding faces_turned twisted parts_of
    found-works t =
        opposite-works l sound (faces_turned l)
        (λ k b j e. (parts-agree (places_of l) (length (places_of l)) k j b e).turned t)

    works-follow : (c : Choice) → Works l c → Follows c (parts_of l) × (twisted l ≡ false)
    unfolding twisted parts_of
    works-follow c works = parts-follow (places_of l) c (length (places_of l)) (works-opposite l c sound works)

pub twisted-exactly : TwistedExactly
twisted-exactly l sound = (λ t c works. false≢true (sym (works-follow l sound c works).1 ∙ t), λ none. go (twisted l) refl none)
  where
    go : (t : Bool) → twisted l ≡ t → ((c : Choice) → ¬ Works l c) → t ≡ true
    go true e none = refl
    go false e none = absurd (none (faces_turned l) (found-works l sound e))

pub found : ChoiceFound
found l sound t = (found-works l sound t, lowest-stay l)

pub only_one : OnlyOne
unfolding faces_turned parts_of root_of
only_one l c sound works stay f a =
    let b : root_of l f ≤ f = root_below l f in
    (works-follow l sound c works).0 f
    ∙ ap (λ (x : Bool). differ x (faces_turned l f)) (stay (root_of l f) (omega arith) (root-lowest l sound f))
