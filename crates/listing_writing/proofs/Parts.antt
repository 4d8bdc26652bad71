-- What an audited mesh within the ceilings gives the writer, and its listing from its parts. Assumes nothing.
--     sizes-of ready_of        the rows are there and their numbers are finite
--     length-of                how long the listing is, by the words of the tables
--     head-room .. end-room    there is room for each part where there is room for the listing
--     whole                    the parts written one after the other
--     not-closed .. all        the answers in turn
use mathlib.Core.Path.{◌≡◌, refl, sym, ap, ◌∙◌}
use mathlib.Core.Bool.{Bool, true, false, ◌&&◌}
use mathlib.Core.List.{List, [], ◌∷◌, ◌++◌, append_assoc}
use Prim.Native.Nat.{ℕ, zero, suc, ◌+◌, ◌*◌, ◌/◌, ◌%◌, ◌≤◌, ◌<◌}
use native.Mathlib.Omega.{arith}
use lib.Dec.{leb}
use lib.ListN.{length, get_or, length-append}
use lib.Seq.{sets}
use lib.Ieee.{nan}
use lib.Ieee.Scale.{finite}
use borrow.Author.Tests.{leb-true, le-leb, lt-leb}
use Rattle.std.specs.Prelude.{Ok, Err}
use Rattle.text_numbers.specs.Form.{bytes}
use Rattle.text_numbers.proofs.Laws.{and_both}
use Rattle.tables.specs.Mesh.{Mesh, mesh_of}
use Rattle.tables.specs.declared.Counts.{Counts}
use Rattle.audited_meshes.specs.Audit.{audit}
use Rattle.audited_meshes.specs.Audited.{Audited}
use Rattle.audited_meshes.proofs.Audited.{audit-is-audited}
use Rattle.steps.specs.Step.{within_ceilings}
use Rattle.steps.specs.Rows.{Room}
use Rattle.steps.proofs.Rows.{room-of-rows}
use Rattle.mesh_lines.specs.Grammar.{flat}
use Rattle.mesh_answers.specs.Writing.{Written}
use Rattle.mesh_answers.proofs.Laws.{written-append}
use Rattle.listings.specs.Printing.{point_line, edge_line, face_line, printed}
use Rattle.listings.specs.Handing.{up_to, point_line_row, edge_line_row, face_line_row, listing_rows, listing_of, passes_audit, WritingOutcome, written, write_listing}
use Rattle.listings.specs.declared.WritingRefusal.{WritingRefusal}
use Rattle.listings.specs.declared.WritingRefusal.TheVariants as WritingRefusal
use Rattle.listings.proofs.ReadBack.{finite-fit}
use Rattle.listing_printing.specs.Fields.{word_fields}
use Rattle.listing_printing.proofs.Laws.{written_same}
use Rattle.listing_printing.proofs.Lengths.{points-length, edges-length, faces-length}
use Rattle.listing_writing.specs.Parts.{WordRows, length_by, RowsReady}

-- counts within the ceilings
few : (c : Counts) → within_ceilings c ≡ true → (c.points ≤ 65536) × (c.edges ≤ 131072) × (c.faces ≤ 65536)
unfolding within_ceilings
few c h =
    let (a, f) = and_both (leb c.points 65536 && leb c.edges 131072) (leb c.faces 65536) h in
    let (p, e) = and_both (leb c.points 65536) (leb c.edges 131072) a in
    (leb-true c.points 65536 p, leb-true c.edges 131072 e, leb-true c.faces 65536 f)

module _ (c : Counts) (m : Mesh) where
  -- three coordinates of each point
  coordinate-finite : Audited m c.points c.edges c.faces → (i : ℕ) → i < c.points * 3 → finite (get_or m.positions i nan) ≡ true
  coordinate-finite a i h = go (i % 3) refl
    where
      go : (k : ℕ) → i % 3 ≡ k → finite (get_or m.positions i nan) ≡ true
      go zero e =
          let p : i / 3 * 3 ≡ i = omega arith in
          rw p at (a.x-finite (i / 3) (omega arith))
      go (suc zero) e =
          let p : i / 3 * 3 + 1 ≡ i = omega arith in
          rw p at (a.y-finite (i / 3) (omega arith))
      go (suc (suc zero)) e =
          let p : i / 3 * 3 + 2 ≡ i = omega arith in
          rw p at (a.z-finite (i / 3) (omega arith))
      go (suc (suc (suc k))) e = absurd (omega arith)

  pub ready_of : passes_audit m c ≡ true → RowsReady c m
  ready_of h =
      let a = (audit-is-audited m c.points c.edges c.faces).0 h in
      record {
        room = room-of-rows c m a.points-fit a.edges_fit a.faces-fit;
        positions-finite = coordinate-finite a;
        intervals-finite = λ i k. finite-fit (get_or m.intervals i nan) (a.interval-fit i k);
      }

  pub sizes-of : passes_audit m c ≡ true → within_ceilings c ≡ true → WordRows c m.points m.edges m.faces
  sizes-of h w =
      let r = (ready_of h).room in
      let (p, e, f) = few c w in
      record { points = r.points; edges = r.edges; faces = r.faces; few-points = p; few-edges = e; few-faces = f }

  -- how long the listing is
  pub length-parts : length (listing_of m c)
      ≡ 9 + (length (flat point_line (up_to c.points (point_line_row m))) + (length (flat edge_line (up_to c.edges (edge_line_row m)))
      + (length (flat face_line (up_to c.faces (face_line_row m))) + 6)))
  length-parts =
      let p = flat point_line (up_to c.points (point_line_row m)) in
      let e = flat edge_line (up_to c.edges (edge_line_row m)) in
      let f = flat face_line (up_to c.faces (face_line_row m)) in
      let lf = length-append f (bytes "[end]\n") in
      let le = length-append e (f ++ bytes "[end]\n") in
      let lp = length-append p (e ++ (f ++ bytes "[end]\n")) in
      omega arith

  pub length-of : Room c m → length (listing_of m c) ≡ length_by c m.points m.edges m.faces
  length-of r =
      let l = length-parts in
      let p = points-length c.points m.positions m.points r.points in
      let e = edges-length c.edges m.edges m.intervals r.edges in
      let f = faces-length c.faces m.faces r.faces in
      omega arith

-- the parts of a listing written one after the other
pub whole : {out o1 o2 o3 o4 o5 : List ℕ} {i j k l n : ℕ} {ps es fs : List ℕ}
    → Written out 0 (bytes "[mesh 3]\n") i o1 → Written o1 i ps j o2 → Written o2 j es k o3 → Written o3 k fs l o4 → Written o4 l (bytes "[end]\n") n o5
    → o5 ≡ sets out 0 (bytes "[mesh 3]\n" ++ (ps ++ (es ++ (fs ++ bytes "[end]\n"))))
whole {out} {o1} {o2} {o3} {o4} {o5} {i} {j} {k} {l} {n} {ps} {es} {fs} h p e f z =
    let f' : Written o3 k (fs ++ bytes "[end]\n") n o5 = written-append f z in
    let e' : Written o2 j (es ++ (fs ++ bytes "[end]\n")) n o5 = written-append e f' in
    let p' : Written o1 i (ps ++ (es ++ (fs ++ bytes "[end]\n"))) n o5 = written-append p e' in
    let h' : Written out 0 (bytes "[mesh 3]\n" ++ (ps ++ (es ++ (fs ++ bytes "[end]\n")))) n o5 = written-append h p' in
    h'.list

-- the answers in turn
module _ (m : Mesh) (c : Counts) (out : List ℕ) where
  pub not-closed : passes_audit m c ≡ false → record { answer = Err WritingRefusal.NotClosed; text = out } ≡ write_listing m c out
  unfolding write_listing
  not-closed e = rw e

  pub over : passes_audit m c ≡ true → within_ceilings c ≡ false → record { answer = Err WritingRefusal.OverCeilings; text = out } ≡ write_listing m c out
  unfolding write_listing
  over e w = rw (e, w)

  pub short : passes_audit m c ≡ true → within_ceilings c ≡ true → (n : ℕ) → n ≡ length_by c m.points m.edges m.faces → length out < n
      → record { answer = Err WritingRefusal.TooShort; text = out } ≡ write_listing m c out
  unfolding write_listing
  short e w n en l =
      let lo = length-of c m (ready_of c m e).room in
      rw (e, w, lt-leb (length (listing_of m c)) (length out) (omega arith))

  pub all : passes_audit m c ≡ true → within_ceilings c ≡ true → (n : ℕ) → n ≡ length_by c m.points m.edges m.faces → n ≤ length out
      → (out' : List ℕ) → out' ≡ sets out 0 (listing_of m c) → record { answer = Ok n; text = out' } ≡ write_listing m c out
  unfolding write_listing
  all e w n en l out' eo =
      let lo = length-of c m (ready_of c m e).room in
      let nl : n ≡ length (listing_of m c) = en ∙ sym lo in
      rw (e, w, le-leb (length (listing_of m c)) (length out) (omega arith)) (λ i. record { answer = Ok (nl i); text = eo i })
