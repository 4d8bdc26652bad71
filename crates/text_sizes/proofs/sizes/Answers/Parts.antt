-- The whole text counted: h is the answer for the head, which names version v; r is the answer for the point lines, p of them, which end
-- at i; q that for the face lines.
use mathlib.Core.List.{List}
use mathlib.Core.Path.{◌≡◌, refl, sym, ◌∙◌}
use mathlib.Core.Bool.{true, false}
use Prim.Native.Nat.{ℕ, ◌≤◌}
use lib.ListN.{length}
use Rattle.std.specs.Prelude.{Option, Some, None}
use Rattle.text_numbers.specs.Form.{bytes, parsed}
use Rattle.mesh_lines.specs.Grammar.{Side, point_form, face_form, flat, side_points}
use Rattle.mesh_text.specs.Text.{head_form, ends, mesh, text}
use Rattle.mesh_lines.specs.Parts.{run_answer, lines_answer}
use Rattle.mesh_text.specs.Parts.{head_of, total_of}
use Rattle.mesh_lines.specs.declared.Lines.{Lines}
use Rattle.built_meshes.specs.declared.Version.{Version}
use Rattle.text_numbers.proofs.Laws.{takes-many}
use Rattle.mesh_lines.proofs.Laws.{takes-point, takes-face}
use Rattle.mesh_text.proofs.Stored.{point_lines, face_lines}
use Rattle.mesh_text.proofs.Heads.{head_read, head-none}
use Rattle.mesh_lines.proofs.Answers.{run_of, run_none, lines_are, lines_none}

module _ (s : List ℕ) {h : Option Version} (eh : h ≡ head_of (head_form s 0)) where
  pub no-head : h ≡ None → None ≡ total_of (text s)
  unfolding mesh text
  no-head en = rw (head-none (head_form s 0) (sym eh ∙ en))

  module _ {v : Version} (ev : h ≡ Some v) where
    is-head : head_form s 0 ≡ parsed v 9
    is-head = (head_read s v (sym eh ∙ ev)).0

    pub head-inside : 9 ≤ length s
    head-inside = (head_read s v (sym eh ∙ ev)).1

    module _ {r : Option (ℕ × ℕ)} (er : r ≡ run_answer length (point_lines s 9)) where
      pub no-points : r ≡ None → None ≡ total_of (text s)
      unfolding mesh text
      no-points en = rw (is-head, run_none length (point_lines s 9) (sym er ∙ en))

      module _ {p i : ℕ} (ep : r ≡ Some (p, i)) where
        points-read : (a : List (List ℕ)) × (point_lines s 9 ≡ parsed a i) × (length a ≡ p)
        points-read = run_of length (point_lines s 9) (sym er ∙ ep)

        pub points-inside : i ≤ length s
        points-inside =
            (takes-many s (bytes "[point") (λ l. 0) (point_form s) (length s) refl (takes-point s) 9 head-inside points-read.0 i points-read.1).1

        module _ {q : Option Lines} (eq : q ≡ lines_answer (face_lines s i)) where
          pub no-faces : q ≡ None → None ≡ total_of (text s)
          unfolding mesh text
          no-faces en = rw (is-head, points-read.1, lines_none (face_lines s i) (sym eq ∙ en))

          module _ {lines : Lines} (ef : q ≡ Some lines) where
            faces-read : (a : List (List Side)) × (face_lines s i ≡ parsed a lines.after) × (length a ≡ lines.faces) × (length (flat (flat side_points) a) ≡ lines.listed)
            faces-read = lines_are (face_lines s i) (sym eq ∙ ef)

            pub faces-inside : lines.after ≤ length s
            faces-inside = (takes-many s (bytes "[face") _ (face_form s) (length s) refl (takes-face s) i points-inside faces-read.0 lines.after faces-read.1).1

            pub no_end : ends s lines.after ≡ false → None ≡ total_of (text s)
            unfolding mesh text
            no_end en = rw (is-head, points-read.1, faces-read.1, en)

            read : ends s lines.after ≡ true → text s ≡ parsed (record { version = v; points = points-read.0; faces = faces-read.0 }) lines.after
            unfolding mesh text
            read ee = rw (is-head, points-read.1, faces-read.1, ee)

            pub whole : ends s lines.after ≡ true → Some (v, record { points = p; faces = lines.faces; listed = lines.listed }) ≡ total_of (text s)
            whole ee = rw (read ee, points-read.2, faces-read.2, faces-read.3)
