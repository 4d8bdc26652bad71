-- The whole listing: r is the answer for the point lines, p of them, which end at i; q that for the edge lines, e of them, which end
-- at j; u that for the face lines, f of them, which end at k.
use mathlib.Core.List.{List}
use mathlib.Core.Path.{◌≡◌, refl, sym, ◌∙◌}
use mathlib.Core.Bool.{true, false}
use Prim.Native.Nat.{ℕ, ◌≤◌}
use native.Mathlib.Omega.{arith}
use lib.ListN.{length}
use lib.Ieee.{Float}
use Rattle.std.specs.Prelude.{Option, Some, None, OnSome}
use Rattle.text_numbers.specs.Form.{bytes, parsed, Form, many, stands}
use Rattle.text_numbers.proofs.Laws.{takes-many, stands-inside}
use Rattle.text_numbers.proofs.Turns.{literal-found, literal-none}
use Rattle.mesh_lines.specs.Parts.{run_answer, stored}
use Rattle.mesh_lines.proofs.Answers.{run_of, run_none}
use Rattle.mesh_text.specs.Text.{ends}
use Rattle.tables.specs.declared.Counts.{Counts}
use Rattle.listings.specs.Printing.{ListedRow}
use Rattle.listings.specs.Grammar.{point_row_form, edge_row_form, face_row_form, rows, listing}
use Rattle.listings.specs.Handing.{numbers_in, words_in}
use Rattle.listing_lines.proofs.Laws.{takes-point, takes-edge, takes-face}
use Rattle.listing_lines.specs.Parts.{rows_total, Listing, positions_listed, points_listed, edges_listed, intervals_listed, faces_listed}

abbrev point_lines : List ℕ → Form (List ListedRow)
point_lines s = many s (bytes "[point") (point_row_form s) (length s)

abbrev edge_lines : List ℕ → Form (List ListedRow)
edge_lines s = many s (bytes "[edge") (edge_row_form s) (length s)

abbrev face_lines : List ℕ → Form (List ListedRow)
face_lines s = many s (bytes "[face") (face_row_form s) (length s)

module _ (s : List ℕ) where
  pub no-head : stands s 0 (bytes "[mesh 3]\n") ≡ false → None ≡ rows_total (listing s)
  unfolding rows listing
  no-head e = rw (literal-none s (bytes "[mesh 3]\n") 0 e)

  module _ (h : stands s 0 (bytes "[mesh 3]\n") ≡ true) where
    pub head-inside : 9 ≤ length s
    head-inside = stands-inside s (bytes "[mesh 3]\n") 0 refl (omega arith) h

    module _ {r : Option (ℕ × ℕ)} (er : r ≡ run_answer length (point_lines s 9)) where
      pub no-points : r ≡ None → None ≡ rows_total (listing s)
      unfolding rows listing
      no-points en = rw (literal-found s (bytes "[mesh 3]\n") 0 h, run_none length (point_lines s 9) (sym er ∙ en))

      module _ {p i : ℕ} (ep : r ≡ Some (p, i)) where
        points-read : (a : List ListedRow) × (point_lines s 9 ≡ parsed a i) × (length a ≡ p)
        points-read = run_of length (point_lines s 9) (sym er ∙ ep)

        pub points-inside : i ≤ length s
        points-inside =
            (takes-many s (bytes "[point") (λ l. 3) (point_row_form s) (length s) refl (takes-point s) 9 head-inside points-read.0 i points-read.1).1

        module _ {q : Option (ℕ × ℕ)} (eq : q ≡ run_answer length (edge_lines s i)) where
          pub no_edges : q ≡ None → None ≡ rows_total (listing s)
          unfolding rows listing
          no_edges en = rw (literal-found s (bytes "[mesh 3]\n") 0 h, points-read.1, run_none length (edge_lines s i) (sym eq ∙ en))

          module _ {e j : ℕ} (ee : q ≡ Some (e, j)) where
            edges-read : (a : List ListedRow) × (edge_lines s i ≡ parsed a j) × (length a ≡ e)
            edges-read = run_of length (edge_lines s i) (sym eq ∙ ee)

            pub edges-inside : j ≤ length s
            edges-inside =
                (takes-many s (bytes "[edge") (λ l. 8) (edge_row_form s) (length s) refl (takes-edge s) i points-inside edges-read.0 j edges-read.1).1

            module _ {u : Option (ℕ × ℕ)} (eu : u ≡ run_answer length (face_lines s j)) where
              pub no-faces : u ≡ None → None ≡ rows_total (listing s)
              unfolding rows listing
              no-faces en =
                  rw (literal-found s (bytes "[mesh 3]\n") 0 h, points-read.1, edges-read.1, run_none length (face_lines s j) (sym eu ∙ en))

              module _ {f k : ℕ} (ef : u ≡ Some (f, k)) where
                faces-read : (a : List ListedRow) × (face_lines s j ≡ parsed a k) × (length a ≡ f)
                faces-read = run_of length (face_lines s j) (sym eu ∙ ef)

                pub faces-inside : k ≤ length s
                faces-inside =
                    (takes-many s (bytes "[face") (λ l. 5) (face_row_form s) (length s) refl (takes-face s) j edges-inside faces-read.0 k faces-read.1).1

                pub no_end : ends s k ≡ false → None ≡ rows_total (listing s)
                unfolding rows listing
                no_end en = rw (literal-found s (bytes "[mesh 3]\n") 0 h, points-read.1, edges-read.1, faces-read.1, en)

                read : ends s k ≡ true → listing s ≡ parsed (record { points = points-read.0; edges = edges-read.0; faces = faces-read.0 }) k
                unfolding rows listing
                read en = rw (literal-found s (bytes "[mesh 3]\n") 0 h, points-read.1, edges-read.1, faces-read.1, en)

                pub whole : ends s k ≡ true → (xs : List Float) (ps es : List ℕ) (ds : List Float) (fs : List ℕ)
                    {xs' : List Float} {ps' es' : List ℕ} {ds' : List Float} {fs' : List ℕ}
                    → OnSome r (xs' ≡ stored numbers_in xs 0 (point_lines s 9)) → OnSome r (ps' ≡ stored words_in ps 0 (point_lines s 9))
                    → OnSome q (es' ≡ stored words_in es 0 (edge_lines s i)) → OnSome q (ds' ≡ stored numbers_in ds 0 (edge_lines s i))
                    → OnSome u (fs' ≡ stored words_in fs 0 (face_lines s j))
                    → (Some (record { points = p; edges = e; faces = f }) ≡ rows_total (listing s))
                    × ((xs' ≡ stored positions_listed xs 0 (listing s))
                    × ((ps' ≡ stored points_listed ps 0 (listing s))
                    × ((es' ≡ stored edges_listed es 0 (listing s))
                    × ((ds' ≡ stored intervals_listed ds 0 (listing s)) × (fs' ≡ stored faces_listed fs 0 (listing s))))))
                whole en xs ps es ds fs ex ep' ee' ed ef' =
                    let t = read en in (
                      rw (t, points-read.2, edges-read.2, faces-read.2),
                      (
                        rw t (rw (ep, points-read.1) at ex),
                        (
                          rw t (rw (ep, points-read.1) at ep'),
                          (
                            rw t (rw (ee, edges-read.1) at ee'),
                            (rw t (rw (ee, edges-read.1) at ed), rw t (rw (ef, faces-read.1) at ef')),
                          ),
                        ),
                      ),
                    )

-- what a scan of a listing promises, holds
pub at-listing : (s : List ℕ) → Listing s → (q : Option Counts) → q ≡ rows_total (listing s) → (P : Type 0) → OnSome q P → P
at-listing s (t, n, e) q eq P h = rw (eq, e) at h
