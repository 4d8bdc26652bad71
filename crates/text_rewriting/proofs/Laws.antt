-- The laws of mending a text by its lists: what holds between the stages. Assumes nothing.
--     turn-room               the lists of a text can be turned
--     write-room              the lines of the turned faces have room where the face lines of the text stand
--     rewritten               they leave the mended text
--     can-mend, refused, twisted      what the answer to the lists says of the text
use mathlib.Core.Path.{◌≡◌, refl, sym, ap, ◌∙◌, subst}
use mathlib.Core.Bool.{Bool, false}
use mathlib.Core.Logic.{inl}
use mathlib.Core.List.{List, [], ◌++◌}
use Prim.Native.Nat.{ℕ, zero, suc, ◌+◌, ◌*◌, ◌/◌, ◌≤◌, ◌<◌}
use native.Mathlib.Omega.{arith}
use lib.ListN.{length, get_or, length-append}
use lib.Seq.{sets}
use lib.Ieee.{Float, nan}
use lib.Ieee.Scale.{finite}
use Rattle.std.specs.Prelude.{Result, Ok, Err, ⊤}
use Rattle.text_numbers.specs.Form.{bytes}
use Rattle.mesh_lines.specs.Grammar.{Side, flat}
use Rattle.mesh_text.specs.Text.{TextMesh}
use Rattle.mesh_text.proofs.Read.{length-coordinates}
use Rattle.built_meshes.specs.Lists.{Lists, general_limits, faces_of, offset}
use Rattle.built_meshes.specs.Faces.{side_from}
use Rattle.built_meshes.specs.declared.Version.{Version}
use Rattle.built_meshes.specs.declared.Version.TheVariants.{Two}
use Rattle.built_meshes.specs.declared.Ground.{Ground}
use Rattle.built_meshes.proofs.Begin.{Counted, counts-is}
use Rattle.building_tests.specs.Lent.{lists_in}
use Rattle.mesh_answers.specs.Writing.{Written}
use Rattle.mesh_printing.specs.Printing.{FitText, head_line, text_point_line, text_face_line, printed_text}
use Rattle.mesh_printing.proofs.Theorem.{text-exactly}
use Rattle.text_meshes.specs.TextBuilding.{lists_of}
use Rattle.listings.specs.Handing.{up_to}
use Rattle.mesh_printing.specs.Faces.{side_at, faces_in, PrintingRooms, FiniteIntervals}
use Rattle.mesh_printing.proofs.Again.{faces-again}
use Rattle.mended_lists.specs.Reversal.{Choice, reversed}
use Rattle.mended_lists.specs.Parts.{faces_turned}
use Rattle.mended_lists.specs.Mending.{mending}
use Rattle.mended_lists.specs.Claims.{Fitting}
use Rattle.mended_lists.specs.declared.Unmended.{Unmended}
use Rattle.mended_lists.specs.declared.Unmended.TheVariants as Lists
use Rattle.mended_lists.proofs.Reversal.{reversed-faces, reversed-offset}
use Rattle.mended_lists.proofs.Again.{reversed-fitting}
use Rattle.face_turning.specs.Moved.{AllTurned}
use Rattle.face_turning.proofs.Faces.{fitting-with}
use Rattle.mended_texts.specs.Turning.{turned_faces, turned_text}
use Rattle.mended_texts.specs.Mending.{mending_of, mend_text}
use Rattle.mended_texts.specs.declared.TextMending.TheVariants.{Mended, Refused, Twisted}
use Rattle.mended_texts.proofs.Printed.{fit-turned, faces-bytes, four-of-fit}
use Rattle.mended_texts.proofs.Turned.{faces-count}
use Rattle.mended_texts.proofs.Past.{Past, past-numbers, finite-intervals, interval-from, text-fitting, text-turned, same-turned}
use Rattle.mended_texts.proofs.Outcome.{of-lists}
use Rattle.text_rewriting.specs.Said.{Said, Mendable}
use Rattle.text_rewriting.proofs.Bytes.{points-bytes, written_over}

-- ---- coordinates do not matter for faces

module _ (cs cs' : List Float) (ss fs ls : List ℕ) (is : List Float) where
  from-with :
      (f k : ℕ) →
      side_from (lists_in Two cs ss fs ls is) f (offset (lists_in Two cs ss fs ls is) f) k
      ≡ side_from (lists_in Two cs' ss fs ls is) f (offset (lists_in Two cs' ss fs ls is) f) k
  unfolding offset
  from-with f zero = refl
  from-with f (suc k) = ap (λ (x : ℕ). x + get_or ss (f * 4 + k) 0) (from-with f k)

  faces-with : faces_in (lists_in Two cs ss fs ls is) ≡ faces_in (lists_in Two cs' ss fs ls is)
  faces-with =
      λ i. up_to (length ss / 4) (λ f. up_to 4 (λ k.
      side_at (lists_in Two cs ss fs ls is) (get_or fs (f * 4 + k) 0) (from-with f k i) (get_or ss (f * 4 + k) 0)))

module _ (s : List ℕ) (cs : List Float) (ss fs ls : List ℕ) (is : List Float) where
  abbrev l : Lists
  l = lists_in Two cs ss fs ls is

  -- ---- what is said

  module _ (said : Said s cs ss fs ls is) where
    abbrev t : TextMesh
    t = said.what

    fit : FitText t
    fit = ((text-exactly s t).0 (said.place, said.form)).0

    is-printed : s ≡ printed_text t
    is-printed = ((text-exactly s t).0 (said.place, said.form)).1

    fitting : Fitting l
    fitting = subst (λ (x : Lists). Fitting x) said.lists (text-fitting t fit)

    answered : mend_text s ≡ mending_of (mending general_limits l) s t
    answered =
        of-lists s t said.place said.form said.two ∙ ap (λ (x : Lists). mending_of (mending general_limits x) s t) said.lists

    pub refused : {r : Result ⊤ Unmended} {g : Ground} → r ≡ mending general_limits l → r ≡ Err (Lists.Refused g) → record { answer = Refused g; text = s } ≡ mend_text s
    refused e h = sym (answered ∙ ap (λ (x : Result ⊤ Unmended). mending_of x s t) (sym e ∙ h))

    pub twisted : {r : Result ⊤ Unmended} → r ≡ mending general_limits l → r ≡ Err Lists.Twisted → record { answer = Twisted; text = s } ≡ mend_text s
    twisted e h = sym (answered ∙ ap (λ (x : Result ⊤ Unmended). mending_of x s t) (sym e ∙ h))

    pub can-mend :
        {r : Result ⊤ Unmended} (ts : List Bool) → r ≡ mending general_limits l →
        (r ≡ Ok tt → (f : ℕ) → f < faces_of l → get_or ts f false ≡ faces_turned l f) → length ts ≡ 4096 → r ≡ Ok tt →
        Mendable s cs ss fs ls is ts
    can-mend ts e c room h = record { said = said; mended = sym e ∙ h; chosen = c h; room = room }

  -- ---- faces turned

  module _ (ts : List Bool) (able : Mendable s cs ss fs ls is ts) where
    abbrev said : Said s cs ss fs ls is
    said = able.said

    abbrev choice : Choice
    choice = λ f. get_or ts f false

    counted : Counted general_limits l
    counted = counts-is general_limits l (past-numbers general_limits l (inl able.mended)).0

    pub turn-room :
        Fitting (lists_in Two [] ss fs ls is) × (length ss / 4 ≤ 4096) × (length ss / 4 ≤ length ts) × (length ls ≤ 16384)
    turn-room =
        let few : length ss / 4 ≤ 4096 = counted.faces-few in
        let room = able.room in
        (fitting-with cs [] ss fs ls is (fitting said), few, omega arith, counted.listed-few)

    points-count : length cs / 3 ≡ length (t said).points
    points-count =
        let e : length cs ≡ 3 * length (t said).points =
        ap (λ (x : Lists). length x.coordinates) (sym said.lists) ∙ length-coordinates s (t said) said.place said.form in
        omega arith

    pub few-points : length cs / 3 ≤ 4096
    few-points = counted.points-few

    past : Past general_limits (lists_of (t said))
    past = inl (ap (λ (x : Lists). mending general_limits x) said.lists ∙ able.mended)

    module _ {ss' fs' ls' : List ℕ} {is' : List Float} (turned : AllTurned choice ss fs ls is ss' fs' ls' is') where
      abbrev m : Lists
      m = lists_in Two cs ss' fs' ls' is'

      m-fitting : Fitting m
      m-fitting = subst (λ (x : Lists). Fitting x) (sym (turned cs)) (reversed-fitting choice l)

      m-faces : faces_of m ≡ faces_of l
      m-faces = ap faces_of (turned cs) ∙ reversed-faces choice l

      m-listed : length ls' ≡ length ls
      m-listed =
          m-fitting.listed ∙ ap (offset m) m-faces ∙ ap (λ (x : Lists). offset x (faces_of l)) (turned cs)
          ∙ reversed-offset choice l (faces_of l) (omega arith) ∙ sym (fitting said).listed

      m-finite : FiniteIntervals is'
      m-finite k h =
          let (j, b, e) = interval-from choice l (fitting said) k (subst (λ (x : Lists). k < length x.intervals) (turned cs) h) in
          ap (λ (x : Lists). finite (get_or x.intervals k nan)) (turned cs) ∙ ap finite e
          ∙ finite-intervals l (past-numbers general_limits l (inl able.mended)).1 j b

      m-is : m ≡ lists_of (turned_text choice (t said))
      m-is =
          turned cs ∙ ap (λ (x : Lists). reversed choice x) (sym said.lists)
          ∙ sym (text-turned (t said) (fit said) said.two past choice)

      m-faces-are : faces_in (lists_in Two [] ss' fs' ls' is') ≡ turned_faces choice (t said).faces
      m-faces-are =
          faces-with [] cs ss' fs' ls' is' ∙ ap faces_in m-is
          ∙ faces-again (turned_text choice (t said)) (fit-turned choice (t said) (fit said))
          (subst (λ (x : Lists). FiniteIntervals x.intervals) m-is m-finite)

      lines-length : length (flat text_face_line (faces_in (lists_in Two [] ss' fs' ls' is'))) ≡ length (flat text_face_line (t said).faces)
      lines-length = ap (λ (x : List (List Side)). length (flat text_face_line x)) m-faces-are ∙ faces-bytes choice (t said).faces

      module _ (at : ℕ) (place : at ≡ 9 + 59 * (length cs / 3)) where
        at-is : at ≡ length (head_line (t said).version) + length (flat text_point_line (t said).points)
        at-is =
            let e = points-bytes (t said).points (fit said).points-fit in
            let h : length (head_line (t said).version) ≡ 9 = ap (λ (v : Version). length (head_line v)) said.two in
            let c = points-count in
            omega arith

        pub write-room :
            PrintingRooms ss' fs' ls' is' × (at + length (flat text_face_line (faces_in (lists_in Two [] ss' fs' ls' is'))) ≤ length s)
        unfolding offset
        write-room =
            let few : length ls ≤ 16384 = counted.listed-few in
            let faces : length ss / 4 ≤ 4096 = counted.faces-few in
            let e = m-faces in
            let f = m-listed in
            let x = m-fitting.sides in
            let y = m-fitting.firsts in
            let z = m-fitting.intervals in
            let w = m-fitting.listed in (
              record {
                all_listed = sym w;
                firsts-fit = y ∙ sym x;
                intervals-fit = z ∙ sym w;
                few = omega arith;
                few-faces = omega arith;
                all-finite = m-finite;
              },
              room,
            )
          where
            room : at + length (flat text_face_line (faces_in (lists_in Two [] ss' fs' ls' is'))) ≤ length s
            room =
                let h = head_line (t said).version in
                let p = flat text_point_line (t said).points in
                let f = flat text_face_line (t said).faces in
                let e0 : length s ≡ length (h ++ (p ++ (f ++ bytes "[end]\n"))) = ap length (is-printed said) in
                let e1 = length-append h (p ++ (f ++ bytes "[end]\n")) in
                let e2 = length-append p (f ++ bytes "[end]\n") in
                let e3 = length-append f (bytes "[end]\n") in
                let e4 = lines-length in
                let e5 = at-is in
                omega arith

        chosen : (f : ℕ) → f < length (t said).faces → choice f ≡ faces_turned (lists_of (t said)) f
        chosen f h =
            let b : f < faces_of (lists_of (t said)) = rw (faces-count (t said) (four-of-fit (t said) (fit said))) h in
            able.chosen f (subst (λ (x : Lists). f < faces_of x) said.lists b) ∙ ap (λ (x : Lists). faces_turned x f) (sym said.lists)

        pub rewritten :
            {r : ℕ} {s' : List ℕ} → Written s at (flat text_face_line (faces_in (lists_in Two [] ss' fs' ls' is'))) r s' →
            record { answer = Mended; text = s' } ≡ mend_text s
        rewritten {s' = s'} w =
            let h = head_line (t said).version in
            let p = flat text_point_line (t said).points in
            let g = flat text_face_line (turned_faces choice (t said).faces) in
            let e : s' ≡ printed_text (turned_text (faces_turned (lists_of (t said))) (t said)) =
            w.list
            ∙ ap (λ (x : List (List Side)). sets s at (flat text_face_line x)) m-faces-are
            ∙ ap (λ (x : List ℕ). sets x at g) (is-printed said)
            ∙ written_over h p (flat text_face_line (t said).faces) (bytes "[end]\n") g at (faces-bytes choice (t said).faces) at-is
            ∙ ap (λ (x : List (List Side)). h ++ (p ++ (flat text_face_line x ++ bytes "[end]\n")))
            (same-turned choice (faces_turned (lists_of (t said))) (t said).faces chosen) in
            ap (λ (x : List ℕ). record { answer = Mended; text = x }) e
            ∙ sym (answered said ∙ ap (λ (x : Result ⊤ Unmended). mending_of x s (t said)) able.mended)
