-- The mender's outcome by what a text says, and by its head. Assumes nothing.
--     of-lists                a text of version 2 is answered by its lists
--     formless, first-version what is left of other texts
--     head-two, other-head    what the head says of the version
use mathlib.Core.Path.{◌≡◌, refl, sym, ap, ◌∙◌, subst}
use mathlib.Core.Bool.{Bool, true, false, false≢true}
use mathlib.Core.List.{List, ◌++◌}
use Prim.Native.Nat.{ℕ}
use native.Mathlib.Omega.{arith}
use lib.ListN.{get_or}
use Rattle.text_numbers.specs.Form.{bytes, Parsed, parsed, unparsed, stands}
use Rattle.mesh_lines.specs.Grammar.{flat}
use Rattle.mesh_text.specs.Text.{TextMesh, text}
use Rattle.listings.proofs.Exact.{stands_parts, first-stands}
use Rattle.listings.proofs.Whole.{stands-whole}
use Rattle.built_meshes.specs.Lists.{general_limits}
use Rattle.built_meshes.specs.declared.Version.{Version}
use Rattle.built_meshes.specs.declared.Version.TheVariants.{One, Two}
use Rattle.text_meshes.specs.TextBuilding.{lists_of}
use Rattle.mesh_printing.specs.Printing.{head_line, text_point_line, text_face_line, printed_text}
use Rattle.mesh_printing.proofs.Theorem.{text-exactly}
use Rattle.mended_lists.specs.Mending.{mending}
use Rattle.mended_texts.specs.Mending.{MendOutcome, mending_of, mend_text}
use Rattle.mended_texts.specs.declared.TextMending.TheVariants.{NotText}

module _ (s : List ℕ) where
  pub formless : text s ≡ unparsed → mend_text s ≡ record { answer = NotText; text = s }
  unfolding mend_text
  formless e = rw e

  module _ (t : TextMesh) (n : ℕ) (e : text s ≡ parsed t n) where
    pub of-lists : t.version ≡ Two → mend_text s ≡ mending_of (mending general_limits (lists_of t)) s t
    unfolding mend_text
    of-lists two = rw (e, two)

    pub first-version : t.version ≡ One → mend_text s ≡ record { answer = NotText; text = s }
    unfolding mend_text
    first-version one = rw (e, one)

    -- the head that a text has
    headed : stands s 0 (head_line t.version) ≡ true
    headed =
        let all : stands s 0 (printed_text t) ≡ true =
        subst (λ (x : List ℕ). stands s 0 x ≡ true) ((text-exactly s t).0 (n, e)).1 (stands-whole s) in
        (stands_parts s (head_line t.version) (flat text_point_line t.points ++ (flat text_face_line t.faces ++ bytes "[end]\n")) 0 all).0

    -- byte 6 is the number of the version
    pub head-two : stands s 0 (bytes "[mesh 2]\n") ≡ true → t.version ≡ Two
    head-two h = go t.version headed
      where
        go : (v : Version) → stands s 0 (head_line v) ≡ true → v ≡ Two
        go Two g = refl
        go One g =
            let a : get_or s 6 0 ≡ 50 = (first-stands s 6 50 (bytes "]\n") (stands_parts s (bytes "[mesh ") (bytes "2]\n") 0 h).1).0 in
            let b : get_or s 6 0 ≡ 49 = (first-stands s 6 49 (bytes "]\n") (stands_parts s (bytes "[mesh ") (bytes "1]\n") 0 g).1).0 in
            absurd (omega arith)

    other-version : stands s 0 (bytes "[mesh 2]\n") ≡ false → t.version ≡ One
    other-version h = go t.version headed
      where
        go : (v : Version) → stands s 0 (head_line v) ≡ true → v ≡ One
        go One g = refl
        go Two g = absurd (false≢true (sym h ∙ g))

  pub other-head : stands s 0 (bytes "[mesh 2]\n") ≡ false → mend_text s ≡ record { answer = NotText; text = s }
  other-head h = go (text s) refl
    where
      go : (x : Parsed TextMesh) → text s ≡ x → mend_text s ≡ record { answer = NotText; text = s }
      go (parsed t n) e = first-version t n e (other-version t n e h)
      go unparsed e = formless e
