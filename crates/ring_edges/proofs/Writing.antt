-- What the functions of this crate do at one place, over plain variables: me is the mesh's table of edges, es the scratch table,
-- pe the perimeter, hs, gs, ms, ds what stands at its places. Assumes nothing.
use mathlib.Core.Path.{◌≡◌, sym, ◌∙◌, ap}
use mathlib.Core.Bool.{Bool, true, false}
use mathlib.Core.List.{List, [], ◌∷◌}
use mathlib.Core.Logic.{◌≢◌}
use Prim.Native.Nat.{ℕ, ◌+◌, ◌*◌}
use native.Mathlib.Omega.{arith}
use lib.Dec.{eqb}
use lib.ListN.{get_or, set}
use lib.Seq.{set-get_or, get_or-set_other}
use lib.Ieee.{Float, nan}
use Rattle.perimeters.specs.Places.{next_place, prev_place}
use Rattle.tables.specs.declared.Counts.{Counts}
use Rattle.tables.specs.Rows.{put_row}
use Rattle.tables.specs.Parts.{face_tables}
use Rattle.refined_meshes.specs.State.{State, put_edge}
use Rattle.refined_meshes.specs.Ring.{face_row, put_side, put_first, put_second}
use Rattle.splitting.specs.Scratch.{tables_of}
use Rattle.ring_rows.specs.declared.RingRows.{RingRows}
use Rattle.ring_rows.specs.Rings.{ring}

-- a word that is stored where it stands changes nothing
kept : (xs ys : List ℕ) (j : ℕ) → get_or ys j 0 ≡ get_or xs j 0 → set ys j (get_or xs j 0) ≡ ys
kept xs ys j h = ap (set ys j) (sym h) ∙ set-get_or ys j 0

-- three words are stored
three : List ℕ → ℕ → ℕ → ℕ → ℕ → ℕ → ℕ → List ℕ
three es i j k u v w = set (set (set es i u) j v) k w

three-other : (es : List ℕ) (i j k u v w x : ℕ) → x ≢ i → x ≢ j → x ≢ k → get_or (three es i j k u v w) x 0 ≡ get_or es x 0
unfolding three
three-other es i j k u v w x a b c =
    get_or-set_other (set (set es i u) j v) k x w 0 c ∙ get_or-set_other (set es i u) j x v 0 b ∙ get_or-set_other es i x u 0 a

-- a row in which the left side alone is new, and one in which the right side alone is
row-left : (es : List ℕ) (b f a c : ℕ)
    → put_row es b (get_or es b 0 ∷ get_or es (b + 1) 0 ∷ f ∷ get_or es (b + 3) 0 ∷ c ∷ a ∷ get_or es (b + 6) 0 ∷ get_or es (b + 7) 0 ∷ [])
    ≡ set (set (set es (b + 2) f) (b + 4) c) (b + 5) a
unfolding three
row-left es b f a c =
    let x = three es (b + 2) (b + 4) (b + 5) f c a in
    rw (
      set-get_or es b 0,
      set-get_or es (b + 1) 0,
      kept es (set es (b + 2) f) (b + 3) (get_or-set_other es (b + 2) (b + 3) f 0 (omega arith)),
      kept es x (b + 6) (three-other es (b + 2) (b + 4) (b + 5) f c a (b + 6) (omega arith) (omega arith) (omega arith)),
      kept es x (b + 7) (three-other es (b + 2) (b + 4) (b + 5) f c a (b + 7) (omega arith) (omega arith) (omega arith)),
    )

row-right : (es : List ℕ) (b f a c : ℕ)
    → put_row es b (get_or es b 0 ∷ get_or es (b + 1) 0 ∷ get_or es (b + 2) 0 ∷ f ∷ get_or es (b + 4) 0 ∷ get_or es (b + 5) 0 ∷ c ∷ a ∷ [])
    ≡ set (set (set es (b + 3) f) (b + 6) c) (b + 7) a
row-right es b f a c =
    rw (
      set-get_or es b 0,
      set-get_or es (b + 1) 0,
      set-get_or es (b + 2) 0,
      kept es (set es (b + 3) f) (b + 4) (get_or-set_other es (b + 3) (b + 4) f 0 (omega arith)),
      kept es (set es (b + 3) f) (b + 5) (get_or-set_other es (b + 3) (b + 5) f 0 (omega arith)),
    )

module _ (ps es fs : List ℕ) (is : List Float) (k : Counts) (b : Bool) (e f a c : ℕ) where
  pub left-put : b ≡ true
      → ◌≡◌ {A = State} (tables_of ps (set (set (set es (e * 8 + 2) f) (e * 8 + 4) c) (e * 8 + 5) a) is fs k) (put_side b e f a c (tables_of ps es is fs k))
  unfolding put_edge
  left-put h = rw h (rw (row-left es (e * 8) f a c, set-get_or is e nan))

  pub right-put : b ≡ false
      → ◌≡◌ {A = State} (tables_of ps (set (set (set es (e * 8 + 3) f) (e * 8 + 6) c) (e * 8 + 7) a) is fs k) (put_side b e f a c (tables_of ps es is fs k))
  unfolding put_edge
  right-put h = rw h (rw (row-right es (e * 8) f a c, set-get_or is e nan))

module _ (rows : RingRows) (i : ℕ) where
  module _ (pe hs gs ms : List ℕ) (ds : List Float) (s : State) where
    module _ (me : List ℕ) (e : ℕ) (at : e ≡ get_or pe i 0) where
      pub first-put : (left : Bool) (prev f : ℕ) → left ≡ eqb (get_or me (e * 8 + 2) 0) rows.face → prev ≡ prev_place rows.size i
          → f ≡ face_row (ring rows [] [] [] [] []) i
          → put_side left (get_or hs i 0) f (rows.joins + i) (get_or gs prev 0) s ≡ put_first (face_tables me []) (ring rows pe hs gs ms ds) i s
      unfolding put_first
      first-put left prev f a b x = rw (a, b, x, at)

      pub second-put : (left : Bool) (next f : ℕ) → left ≡ eqb (get_or me (e * 8 + 2) 0) rows.face → next ≡ next_place rows.size i
          → f ≡ face_row (ring rows [] [] [] [] []) next
          → put_side left (get_or gs i 0) f (get_or hs next 0) (rows.joins + i) s ≡ put_second (face_tables me []) (ring rows pe hs gs ms ds) i s
      unfolding put_second
      second-put left next f a b x = rw (a, x, b, at)
