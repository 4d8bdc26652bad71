-- The laws of the edge that is told of a text, as the code reads it. Assumes nothing. The definition's own law is that of `explained_edges`.
--     too_long, not-text, over-limits, first-entries     what the tests and the reader's answers say of it
use mathlib.Core.Path.{◌≡◌, refl, sym, ◌∙◌, ap}
use mathlib.Core.Bool.{Bool, true, false, cond, false≢true}
use mathlib.Core.List.{List, []}
use Prim.Native.Nat.{ℕ, zero, suc, ◌*◌, ◌≤◌}
use native.Mathlib.Omega.{arith}
use lib.Dec.{leb}
use lib.Ieee.{Float}
use lib.ListN.{length, take}
use borrow.Author.Tests.{leb-true}
use Rattle.std.specs.Prelude.{Result, Ok, Err}
use Rattle.tables.specs.Mesh.{Mesh, mesh_of}
use Rattle.tables.specs.declared.Sizes.{Sizes}
use Rattle.text_numbers.proofs.Laws.{and_both}
use Rattle.mesh_text.specs.Text.{TextMesh}
use Rattle.mesh_text.specs.Reading.{TextLists, within, read_into}
use Rattle.mesh_text.specs.Lists.{listed_points}
use Rattle.mesh_text.specs.declared.ReadingGround.{ReadingGround}
use Rattle.built_meshes.specs.Lists.{Lists, offset, counts_fit}
use Rattle.built_meshes.specs.Building.{build}
use Rattle.built_meshes.specs.Places.{point_of, next_of}
use Rattle.built_meshes.specs.declared.Version.{Version}
use Rattle.built_meshes.specs.declared.Ground.TheVariants.{OverCounts}
use Rattle.building_tests.specs.Lent.{lists, lists_in, limits_of}
use Rattle.building_tests.specs.declared.Bounds.{Bounds}
use Rattle.text_meshes.specs.TextBuilding.{is_too_long, lists_of, told, TextOutcome}
use Rattle.text_meshes.specs.Claims.{StandsFor, OverText, over-bytes, over-points, over-faces, over-listed}
use Rattle.text_meshes.proofs.Theorem.{of-lists, over-exactly}
use Rattle.text_building.proofs.Laws.{no-form, over-text, means, first-lists}
use Rattle.told_edges.specs.declared.ToldEdge.{ToldEdge}
use Rattle.told_edges.specs.declared.ToldEdge.TheVariants.{Missing, First, Again}
use Rattle.told_edges.specs.Told.{none_runs, before, same_way_before, is_listed, told_edge}
use Rattle.explained_edges.specs.TextEdges.{form_edge, text_edge}
use Rattle.explained_edges.proofs.Laws.{edge_of}

pub too_long : (b : Bounds) (s : List ℕ) (f i : ℕ) {t : Bool} → t ≡ is_too_long b (length s) → t ≡ true → Missing ≡ text_edge b s f i
unfolding text_edge
too_long b s f i e h = rw (sym e ∙ h)

-- an edge is told by the sides and the listed points alone
module _ (v : Version) (cs : List Float) (ss fs ls : List ℕ) (is : List Float) where
  same-before : (p q f : ℕ) → same_way_before (lists [] ss ls []) p q f ≡ same_way_before (lists_in v cs ss fs ls is) p q f
  unfolding same_way_before none_runs offset
  same-before p q zero = refl
  same-before p q (suc g) =
      ap (λ (x : ToldEdge). before x (cond (none_runs (lists [] ss ls []) p q g) (First p q) (Again p q g))) (same-before p q g)

  told_same : (f i : ℕ) → told_edge (lists [] ss ls []) f i ≡ told_edge (lists_in v cs ss fs ls is) f i
  unfolding told_edge is_listed offset
  told_same f i =
      ap (λ (x : ToldEdge). cond (is_listed (lists [] ss ls []) f i) x Missing)
      (same-before (point_of (lists [] ss ls []) f i) (next_of (lists [] ss ls []) f i) f)

module _ (b : Bounds) (s : List ℕ) (l : TextLists) {r : Result (Version × Sizes) ReadingGround} {l' : TextLists} {limits : Sizes} (eb : limits ≡ limits_of b)
    (e : record { reading = r; lists = l' } ≡ read_into s limits l) (short : is_too_long b (length s) ≡ false) (f i : ℕ) where
  pub not-text : r ≡ Err ReadingGround.NotText → Missing ≡ text_edge b s f i
  unfolding text_edge form_edge
  not-text h = rw (short, no-form b s l eb e h)

  pub over-limits :
      12288 ≤ length l.coordinates → 16384 ≤ length l.lengths → 16384 ≤ length l.listed → 16384 ≤ length l.intervals →
      16384 ≤ length l.firsts → r ≡ Err ReadingGround.OverLimits → Missing ≡ text_edge b s f i
  unfolding text_edge form_edge
  over-limits rx rl rp rd rq h = let (t, n, et, ec) = over-text b s l eb e rx rl rp rd rq h in rw (short, et, ec)

  pub unread :
      12288 ≤ length l.coordinates → 16384 ≤ length l.lengths → 16384 ≤ length l.listed → 16384 ≤ length l.intervals →
      16384 ≤ length l.firsts → (g : ReadingGround) → r ≡ Err g → Missing ≡ text_edge b s f i
  unread rx rl rp rd rq ReadingGround.NotText h = not-text h
  unread rx rl rp rd rq ReadingGround.OverLimits h = over-limits rx rl rp rd rq h

  module _ {v : Version} {c : Sizes} (ec : r ≡ Ok (v, c)) where
    abbrev T : TextMesh
    T = (means b s l eb e ec).what

    stands : StandsFor b s T
    stands = record { short = short; place = (means b s l eb e ec).place; form = (means b s l eb e ec).form }

    few-counts : (c.points ≤ (limits_of b).points) × (c.faces ≤ (limits_of b).faces) × (c.listed ≤ (limits_of b).listed)
    unfolding within
    few-counts =
        let w = (means b s l eb e ec).fits in
        let (e0, e1) = and_both (leb c.points (limits_of b).points) _ w in
        let (e2, e3) = and_both (leb c.faces (limits_of b).faces) _ e1 in
        let (e4, e5) = and_both (leb c.listed (limits_of b).listed) _ e3 in
        (leb-true _ _ e0, leb-true _ _ e2, leb-true _ _ e4)

    not-over : OverText b s → ⊥
    not-over (over-bytes h) = false≢true (sym short ∙ h)
    not-over (over-points t h k) =
        let z : t ≡ T = let y = sym h.form ∙ stands.form in cc in
        let n = ap (λ (t : TextMesh). length t.points) z ∙ ap (λ (v : Sizes). v.points) (means b s l eb e ec).counted in
        omega (arith, few-counts.0, n)
    not-over (over-faces t h k) =
        let z : t ≡ T = let y = sym h.form ∙ stands.form in cc in
        let n = ap (λ (t : TextMesh). length t.faces) z ∙ ap (λ (v : Sizes). v.faces) (means b s l eb e ec).counted in
        omega (arith, few-counts.1, n)
    not-over (over-listed t h k) =
        let z : t ≡ T = let y = sym h.form ∙ stands.form in cc in
        let n = ap (λ (t : TextMesh). length (listed_points t)) z ∙ ap (λ (v : Sizes). v.listed) (means b s l eb e ec).counted in
        omega (arith, few-counts.2, n)

    -- a text that is read is within the limits
    counted : counts_fit (limits_of b) (lists_of T) ≡ true
    unfolding build
    counted = go (counts_fit (limits_of b) (lists_of T)) refl
      where
        go : (x : Bool) → counts_fit (limits_of b) (lists_of T) ≡ x → x ≡ true
        go true h = refl
        go false h =
            let m : Mesh = mesh_of [] [] [] [] [] in
            let a : (build (limits_of b) (lists_of T) m).answer ≡ Err OverCounts = rw h in
            absurd (not-over ((over-exactly b s m).0 (ap (λ (o : TextOutcome). o.answer) (of-lists b s m stands) ∙ ap told a)))

    pub first-entries :
        (o : ToldEdge) → o ≡ told_edge (lists [] (take (4 * c.faces) l'.lengths) (take c.listed l'.listed) []) f i → o ≡ text_edge b s f i
    first-entries o h =
        h
        ∙ told_same v (take (3 * c.points) l'.coordinates) (take (4 * c.faces) l'.lengths) (take (4 * c.faces) l'.firsts)
        (take c.listed l'.listed) (take c.listed l'.intervals) f i
        ∙ ap (λ (x : Lists). told_edge x f i) (first-lists b s l eb e ec) ∙ sym (edge_of b s T stands counted f i)
