-- The laws of mending a text: what the reader's answer says of it. Assumes nothing.
--     not-text, over-limits, said-first   what the reader's answer says of the text
--     promised                an outcome, and its answer in the documents' numbers
use mathlib.Core.Path.{◌≡◌, sym, ap, ◌∙◌}
use mathlib.Core.Bool.{true, false}
use mathlib.Core.List.{List}
use Prim.Native.Nat.{ℕ, ◌*◌, ◌≤◌}
use lib.ListN.{length, take}
use Rattle.std.specs.Prelude.{Result, Ok, Err, ⊤}
use Rattle.tables.specs.declared.Sizes.{Sizes}
use Rattle.text_numbers.specs.Form.{bytes, stands}
use Rattle.mesh_text.specs.Reading.{TextLists, read_into}
use Rattle.mesh_text.specs.declared.ReadingGround.{ReadingGround}
use Rattle.built_meshes.specs.Lists.{Lists, general_limits, counts_fit}
use Rattle.built_meshes.specs.declared.Version.{Version}
use Rattle.built_meshes.specs.declared.Ground.TheVariants.{OverCounts}
use Rattle.building_tests.specs.Lent.{lists_in, limits_of}
use Rattle.building_tests.specs.declared.Bounds.TheVariants.{General}
use Rattle.text_meshes.specs.TextBuilding.{lists_of}
use Rattle.text_building.proofs.Laws.{no-form, over-text, means, first-lists}
use Rattle.mended_lists.specs.Mending.{mending_if, mending}
use Rattle.mended_lists.specs.declared.Unmended.{Unmended}
use Rattle.mended_lists.specs.declared.Unmended.TheVariants as Lists
use Rattle.mended_texts.specs.Mending.{MendOutcome, mending_of, mend_text, text_mending_number}
use Rattle.mended_texts.specs.declared.TextMending.TheVariants.{NotText, Refused}
use Rattle.mended_texts.proofs.Outcome.{of-lists, formless, head-two}
use Rattle.text_rewriting.specs.Said.{Said}

over-refused : (l : Lists) → counts_fit general_limits l ≡ false → mending general_limits l ≡ Err (Lists.Refused OverCounts)
unfolding mending mending_if
over-refused l e = rw e

module _ (s : List ℕ) (lent : TextLists) {r : Result (Version × Sizes) ReadingGround} {left : TextLists} {limits : Sizes} (eb : limits ≡ limits_of General)
    (e : record { reading = r; lists = left } ≡ read_into s limits lent) where
  pub not-text : r ≡ Err ReadingGround.NotText → record { answer = NotText; text = s } ≡ mend_text s
  not-text h = sym (formless s (no-form General s lent eb e h))

  module _ (head : stands s 0 (bytes "[mesh 2]\n") ≡ true) where
    pub over-limits :
        12288 ≤ length lent.coordinates → 16384 ≤ length lent.lengths → 16384 ≤ length lent.firsts →
        16384 ≤ length lent.listed → 16384 ≤ length lent.intervals → r ≡ Err ReadingGround.OverLimits →
        record { answer = Refused OverCounts; text = s } ≡ mend_text s
    over-limits rx rl rq rp rd h =
        let (t, n, et, ec) = over-text General s lent eb e rx rl rp rd rq h in
        sym
        (of-lists s t n et (head-two s t n et head) ∙ ap (λ (x : Result ⊤ Unmended). mending_of x s t) (over-refused (lists_of t) ec))

    pub said-first :
        {v : Version} {c : Sizes} → r ≡ Ok (v, c) →
        Said s (take (3 * c.points) left.coordinates) (take (4 * c.faces) left.lengths) (take (4 * c.faces) left.firsts)
        (take c.listed left.listed) (take c.listed left.intervals)
    said-first {v} {c} h =
        let x = means General s lent eb e h in
        let two = head-two s x.what x.place x.form head in
        record {
          what = x.what;
          place = x.place;
          form = x.form;
          two = two;
          lists =
              sym (first-lists General s lent eb e h)
              ∙ ap
              (λ (w : Version).
              lists_in w (take (3 * c.points) left.coordinates) (take (4 * c.faces) left.lengths) (take (4 * c.faces) left.firsts)
              (take c.listed left.listed) (take c.listed left.intervals))
              (sym x.versioned ∙ two);
        }

-- an outcome, and its answer in the documents' numbers
pub promised : {o p : MendOutcome} → o ≡ p → (o ≡ p) × (text_mending_number o.answer ≡ text_mending_number p.answer)
promised e = (e, ap (λ (o : MendOutcome). text_mending_number o.answer) e)
