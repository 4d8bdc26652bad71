-- The lines of a text that is of the form, and what they leave in the lists. Assumes nothing.
--     point_lines s, face_lines s      the point lines and the face lines, as forms
--     parts-of                       the parts of a text
--     points-there, faces-there      its point lines stand after the head, its face lines after them
--     stored-points, stored-faces    what is stored of its lines is what is stored of the text
use mathlib.Core.List.{List, map}
use mathlib.Core.Path.{◌≡◌, refl, sym, ap, subst, ◌∙◌}
use mathlib.Core.Bool.{Bool, true, false}
use Prim.Native.Nat.{ℕ, ◌≤◌}
use native.Mathlib.Omega.{arith}
use lib.ListN.{length}
use lib.Ieee.{Float}
use Rattle.std.specs.Prelude.{Some}
use Rattle.text_numbers.specs.Form.{bytes, parsed, unparsed, Form, pure, choose, many}
use Rattle.text_numbers.specs.Numbers.{float}
use Rattle.text_numbers.proofs.Laws.{takes-many, onward-found}
use Rattle.mesh_lines.specs.Grammar.{Side, point_form, face_form, flat}
use Rattle.mesh_lines.specs.Parts.{Parses, place_after, stored}
use Rattle.mesh_lines.proofs.Laws.{takes-point}
use Rattle.mesh_text.specs.Text.{TextMesh, head_form, ends, mesh, text}
use Rattle.mesh_text.specs.Lists.{coordinates}
use Rattle.mesh_text.specs.Parts.{head_of}
use Rattle.built_meshes.specs.declared.Version.{Version}
use Rattle.mesh_text.proofs.Heads.{head_read}

abbrev pub point_lines : List ℕ → Form (List (List ℕ))
point_lines s = many s (bytes "[point") (point_form s) (length s)

abbrev pub face_lines : List ℕ → Form (List (List Side))
face_lines s = many s (bytes "[face") (face_form s) (length s)

record TextParts (s : List ℕ) : Type 0 where
  what : TextMesh
  last : ℕ
  form : text s ≡ parsed what last
  head-inside : 9 ≤ length s
  middle : ℕ
  points : point_lines s 9 ≡ parsed what.points middle
  points-inside : middle ≤ length s
  end : ℕ
  faces : face_lines s middle ≡ parsed what.faces end

parts-of : (s : List ℕ) → Parses (text s) → TextParts s
unfolding mesh text
parts-of s (m, n, e) =
    let (v, k, eh, e1) = onward-found _ (head_form s 0) e in
    let named : head_of (head_form s 0) ≡ Some v = ap head_of eh in
    let (h9, inside) = head_read s v named in
    let k9 : k ≡ 9 = cc in
    let (ps, i, ep, e2) = onward-found _ (point_lines s k) e1 in
    let (fs, j, ef, e3) = onward-found _ (face_lines s i) e2 in
    let ep9 = subst (λ (a : ℕ). point_lines s a ≡ parsed ps i) k9 ep in
    let within = (takes-many s (bytes "[point") (λ l. 0) (point_form s) (length s) refl (takes-point s) 9 inside ps i ep9).1 in
    whole v ps i fs j inside ep9 within ef (ends s j) e3
  where
    whole : (v : Version) (ps : List (List ℕ)) (i : ℕ) (fs : List (List Side)) (j : ℕ) → 9 ≤ length s
        → point_lines s 9 ≡ parsed ps i → i ≤ length s → face_lines s i ≡ parsed fs j → (b : Bool)
        → choose b (pure (record { version = v; points = ps; faces = fs })) (λ a. unparsed) j ≡ parsed m n → TextParts s
    whole v ps i fs j inside ep within ef true e3 =
        let em : record { version = v; points = ps; faces = fs } ≡ m = cc in
        record {
          what = m;
          last = n;
          form = e;
          head-inside = inside;
          middle = i;
          points = ep ∙ ap (λ (t : TextMesh). parsed t.points i) em;
          points-inside = within;
          end = j;
          faces = ef ∙ ap (λ (t : TextMesh). parsed t.faces j) em;
        }
    whole v ps i fs j inside ep within ef false e3 = let z : ◌≡◌ {A = ℕ} 0 1 = cc in absurd (omega arith)

module _ (s : List ℕ) (h : Parses (text s)) where
  pub points-there : (9 ≤ length s) × Parses (point_lines s 9)
  points-there = let t = parts-of s h in (t.head-inside, (t.what.points, t.middle, t.points))

  pub stored-points : (xs : List Float) {xs' : List Float} → xs' ≡ stored (flat (map float)) xs 0 (point_lines s 9)
      → xs' ≡ stored coordinates xs 0 (text s)
  stored-points xs e = let t = parts-of s h in rw t.form (rw t.points at e)

  module _ {i : ℕ} (ei : i ≡ place_after (point_lines s 9)) where
    at-middle : i ≡ (parts-of s h).middle
    at-middle = ei ∙ ap place_after (parts-of s h).points

    pub faces-there : (i ≤ length s) × Parses (face_lines s i)
    faces-there =
        let t = parts-of s h in (
          subst (λ (k : ℕ). k ≤ length s) (sym at-middle) t.points-inside,
          subst (λ (k : ℕ). Parses (face_lines s k)) (sym at-middle) (t.what.faces, t.end, t.faces),
        )

    pub stored-faces : {B : Type 0} (F : List (List Side) → List B) (l : List B) {l' : List B} → l' ≡ stored F l 0 (face_lines s i)
        → l' ≡ stored (λ (m : TextMesh). F m.faces) l 0 (text s)
    stored-faces F l {l'} e =
        let t = parts-of s h in
        let e' = subst (λ (k : ℕ). l' ≡ stored F l 0 (face_lines s k)) at-middle e in
        rw t.form (rw t.faces at e')
