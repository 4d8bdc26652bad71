-- First rows that are worked on as parts of their own and put back. Assumes nothing.
use mathlib.Core.Path.{◌≡◌, ap}
use mathlib.Core.List.{List, ◌++◌}
use Prim.Native.Nat.{ℕ, ◌*◌}
use lib.ListN.{length, drop, replicate}
use lib.Seq.{take_at, drop_at}
use lib.Ieee.{Float}
use Rattle.tables.specs.Mesh.{Mesh, mesh_of}
use Rattle.tables.specs.Rows.{zeroed}
use Rattle.tables.specs.declared.Counts.{Counts}
use Rattle.tables.specs.Counted.{first_rows, zeroed_rows}

-- a part of n elements put back before the rest
zeroed-back : {A : Type 0} (n : ℕ) (z : A) (part xs : List A) → length part ≡ n → zeroed n z (part ++ drop n xs) ≡ zeroed n z xs
unfolding zeroed
zeroed-back n z part xs l = ap (λ ys. replicate n z ++ ys) (drop_at part (drop n xs) n l)

-- The tables t, with their first rows replaced by the parts.
module _ (c : Counts) (t : Mesh) (ps : List Float) (ws es : List ℕ) (is : List Float) (fs : List ℕ)
    (lp : length ps ≡ c.points * 3) (lw : length ws ≡ c.points * 3) (le : length es ≡ c.edges * 8) (li : length is ≡ c.edges)
    (lf : length fs ≡ c.faces * 5) where
  abbrev put_back : Mesh
  put_back =
      mesh_of (ps ++ drop (c.points * 3) t.positions) (ws ++ drop (c.points * 3) t.points) (es ++ drop (c.edges * 8) t.edges)
      (is ++ drop c.edges t.intervals) (fs ++ drop (c.faces * 5) t.faces)

  pub first-rows-back : first_rows c put_back ≡ mesh_of ps ws es is fs
  unfolding first_rows
  first-rows-back =
      rw (
        take_at ps (drop (c.points * 3) t.positions) (c.points * 3) lp,
        take_at ws (drop (c.points * 3) t.points) (c.points * 3) lw,
        take_at es (drop (c.edges * 8) t.edges) (c.edges * 8) le,
        take_at is (drop c.edges t.intervals) c.edges li,
        take_at fs (drop (c.faces * 5) t.faces) (c.faces * 5) lf,
      )

  pub zeroed-rows-back : zeroed_rows c put_back ≡ zeroed_rows c t
  unfolding zeroed_rows
  zeroed-rows-back =
      rw (
        zeroed-back (c.points * 3) _ ps t.positions lp,
        zeroed-back (c.points * 3) _ ws t.points lw,
        zeroed-back (c.edges * 8) _ es t.edges le,
        zeroed-back c.edges _ is t.intervals li,
        zeroed-back (c.faces * 5) _ fs t.faces lf,
      )
