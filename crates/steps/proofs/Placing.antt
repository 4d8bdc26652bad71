-- The laws of positions put one after the other into their rows. Assumes nothing.
--     placed-stopped, stopped-stays      a rule that is not finite ends it
--     placed-begun                       what ends in a table began with one
--     length-placed, placed-other        the table stays as long, and other rows stay as they are
--     PutAt, placed-at                   where a position was put, with the table that its rule read
--     placed-whole                       rules that are all finite are all put
use mathlib.Core.Path.{◌≡◌, refl, sym, ◌∙◌, ap, subst}
use mathlib.Core.Bool.{Bool, true, false}
use mathlib.Core.List.{List}
use mathlib.Core.Logic.{◌≢◌}
use Prim.Native.Nat.{ℕ, zero, suc, ◌+◌, ◌*◌, ◌≤◌, ◌<◌}
use native.Mathlib.Nat.{add-zero}
use native.Mathlib.Omega.{arith}
use native.Mathlib.Decide.{ℕ_discrete}
use lib.ListN.{length, get_or}
use lib.Ieee.{Float, nan}
use Rattle.positions.specs.declared.Position.{Position}
use Rattle.positions.specs.Position.{finite_position, placed_if, placed_at}
use Rattle.tables.specs.Rows.{put_row}
use Rattle.tables.specs.Records.{position_at}
use Rattle.tables.specs.Loaded.{place_of}
use Rattle.tables.proofs.Laws.{length-put_row, get_or-put_row, get_or-put_row-other}
use Rattle.steps.specs.Positions.{Placing, so_far, not_finite, put, put_next, placed_by}

-- a table is no word that a position was not finite
not_stopped : (ps : List Float) → ¬ (not_finite ≡ so_far ps)
not_stopped ps e = let z : ◌≡◌ {A = ℕ} 0 1 = cc in omega arith

-- a position put into a row stands there
position-put : (ps : List Float) (r : ℕ) (p : Position) → r * 3 + 3 ≤ length ps → position_at (put_row ps (r * 3) (place_of p)) r ≡ p
position-put ps r p h =
    let x : get_or (put_row ps (r * 3) (place_of p)) (r * 3) nan ≡ p.x =
    rw (add-zero (r * 3)) at (get_or-put_row (place_of p) ps (r * 3) 0 nan (omega arith) h) in
    let y : get_or (put_row ps (r * 3) (place_of p)) (r * 3 + 1) nan ≡ p.y = get_or-put_row (place_of p) ps (r * 3) 1 nan (omega arith) h in
    let z : get_or (put_row ps (r * 3) (place_of p)) (r * 3 + 2) nan ≡ p.z = get_or-put_row (place_of p) ps (r * 3) 2 nan (omega arith) h in
    rw (x, y, z)

-- and every other row stays as it is
position-other : (ps : List Float) (r s : ℕ) (p : Position) → s ≢ r → position_at (put_row ps (r * 3) (place_of p)) s ≡ position_at ps s
position-other ps r s p n =
    let x : get_or (put_row ps (r * 3) (place_of p)) (s * 3) nan ≡ get_or ps (s * 3) nan =
    rw (add-zero (s * 3)) at (get_or-put_row-other (place_of p) ps 3 r s 0 nan refl n (omega arith)) in
    let y : get_or (put_row ps (r * 3) (place_of p)) (s * 3 + 1) nan ≡ get_or ps (s * 3 + 1) nan =
    get_or-put_row-other (place_of p) ps 3 r s 1 nan refl n (omega arith) in
    let z : get_or (put_row ps (r * 3) (place_of p)) (s * 3 + 2) nan ≡ get_or ps (s * 3 + 2) nan =
    get_or-put_row-other (place_of p) ps 3 r s 2 nan refl n (omega arith) in
    rw (x, y, z)

-- what one position puts
put_is :
    (r : ℕ) (p : Position) (ps qs : List Float) → put r (placed_at p) ps ≡ so_far qs →
    (finite_position p ≡ true) × (qs ≡ put_row ps (r * 3) (place_of p))
put_is r p ps qs e = go (finite_position p) refl e
  where
    go :
        (b : Bool) → finite_position p ≡ b → put r (placed_if b p) ps ≡ so_far qs →
        (finite_position p ≡ true) × (qs ≡ put_row ps (r * 3) (place_of p))
    go true h e = (h, cc)
    go false h e = absurd (not_stopped qs e)

-- a finite position is put
put-finite :
    (r : ℕ) (p : Position) (ps : List Float) → finite_position p ≡ true → put r (placed_at p) ps ≡ so_far (put_row ps (r * 3) (place_of p))
put-finite r p ps e = ap (λ b. put r (placed_if b p) ps) e

module _ (row : ℕ → ℕ) (rule : ℕ → List Float → Position) where
  pub placed-stopped : (n : ℕ) → placed_by n row rule not_finite ≡ not_finite
  unfolding placed_by
  placed-stopped zero = refl
  placed-stopped (suc n) = rw (placed-stopped n)

  pub placed-begun : (n : ℕ) (r : Placing) (ps : List Float) → placed_by n row rule r ≡ so_far ps → (qs : List Float) × (r ≡ so_far qs)
  placed-begun n (so_far qs) ps e = (qs, refl)
  placed-begun n not_finite ps e = absurd (not_stopped ps (sym (placed-stopped n) ∙ e))

  -- one more position
  pub record Last (n : ℕ) (ps qs : List Float) : Type 0 where
    pub table : List Float
    pub before : placed_by n row rule (so_far ps) ≡ so_far table
    pub is_finite : finite_position (rule n table) ≡ true
    pub after : qs ≡ put_row table (row n * 3) (place_of (rule n table))

  pub placed-last : (n : ℕ) (ps qs : List Float) → placed_by (suc n) row rule (so_far ps) ≡ so_far qs → Last n ps qs
  unfolding placed_by
  placed-last n ps qs e = go (placed_by n row rule (so_far ps)) refl
    where
      go : (r : Placing) → placed_by n row rule (so_far ps) ≡ r → Last n ps qs
      go (so_far table) h =
          let i = put_is (row n) (rule n table) table qs (rw h at e) in
          record { table = table; before = h; is_finite = i.0; after = i.1 }
      go not_finite h = absurd (not_stopped qs (rw h at e))

  pub length-placed : (n : ℕ) (ps qs : List Float) → placed_by n row rule (so_far ps) ≡ so_far qs → length qs ≡ length ps
  unfolding placed_by
  length-placed zero ps qs e = let z : ps ≡ qs = cc in ap length (sym z)
  length-placed (suc n) ps qs e =
      let l = placed-last n ps qs e in
      ap length l.after ∙ length-put_row (place_of (rule n l.table)) l.table (row n * 3) ∙ length-placed n ps l.table l.before

  pub placed-other :
      (n : ℕ) (ps qs : List Float) → placed_by n row rule (so_far ps) ≡ so_far qs → (s : ℕ) → ((i : ℕ) → i < n → s ≢ row i) →
      position_at qs s ≡ position_at ps s
  unfolding placed_by
  placed-other zero ps qs e s h = let z : ps ≡ qs = cc in ap (λ t. position_at t s) (sym z)
  placed-other (suc n) ps qs e s h =
      let l = placed-last n ps qs e in
      ap (λ t. position_at t s) l.after
      ∙ position-other l.table (row n) s (rule n l.table) (h n (omega arith))
      ∙ placed-other n ps l.table l.before s (λ i k. h i (omega arith))

  -- The position i was put, finite, by its rule from a table in which it and those after it were not yet put.
  pub record PutAt (i : ℕ) (ps qs : List Float) : Type 0 where
    pub table : List Float
    pub before : placed_by i row rule (so_far ps) ≡ so_far table
    pub is_finite : finite_position (rule i table) ≡ true
    pub stands : position_at qs (row i) ≡ rule i table

  pub placed-at :
      (n : ℕ) (ps qs : List Float) → placed_by n row rule (so_far ps) ≡ so_far qs → ((i j : ℕ) → i < n → j < n → row i ≡ row j → i ≡ j) →
      ((i : ℕ) → i < n → row i * 3 + 3 ≤ length ps) → (i : ℕ) → i < n → PutAt i ps qs
  placed-at zero ps qs e distinct there i h = absurd (omega arith)
  placed-at (suc n) ps qs e distinct there i h =
      let l = placed-last n ps qs e in
      go l
      (placed-at n ps l.table l.before (λ x y hx hy. distinct x y (omega arith) (omega arith)) (λ x hx. there x (omega arith)) i)
      (ℕ_discrete i n)
    where
      go : (l : Last n ps qs) → (i < n → PutAt i ps l.table) → Dec (i ≡ n) → PutAt i ps qs
      go l earlier (yes q) =
          subst (λ k. PutAt k ps qs) (sym q)
          (record {
            table = l.table;
            before = l.before;
            is_finite = l.is_finite;
            stands =
                ap (λ t. position_at t (row n)) l.after
                ∙ position-put l.table (row n) (rule n l.table)
                (rw (length-placed n ps l.table l.before) (there n (omega arith)));
          })
      go l earlier (no q) =
          let a = earlier (omega arith) in
          record {
            table = a.table;
            before = a.before;
            is_finite = a.is_finite;
            stands =
                ap (λ t. position_at t (row i)) l.after
                ∙ position-other l.table (row n) (row i) (rule n l.table) (λ x. q (distinct i n (omega arith) (omega arith) x))
                ∙ a.stands;
          }

  -- A rule that is not finite ends it.
  pub stopped-stays : (n i : ℕ) (r : Placing) → i ≤ n → placed_by i row rule r ≡ not_finite → placed_by n row rule r ≡ not_finite
  unfolding placed_by
  stopped-stays zero i r h e = let z : i ≡ 0 = omega arith in rw z at e
  stopped-stays (suc n) i r h e = go (λ l. stopped-stays n i r l e) (ℕ_discrete i (suc n))
    where
      go : (i ≤ n → placed_by n row rule r ≡ not_finite) → Dec (i ≡ suc n) → placed_by (suc n) row rule r ≡ not_finite
      go earlier (yes q) = rw q at e
      go earlier (no q) = rw (earlier (omega arith))

  -- Rules that are all finite, each from the table that the one before left, are all put.
  pub placed-whole :
      (n : ℕ) (ps : List Float) →
      ((i : ℕ) → i < n → (t : List Float) → placed_by i row rule (so_far ps) ≡ so_far t → finite_position (rule i t) ≡ true) →
      (qs : List Float) × (placed_by n row rule (so_far ps) ≡ so_far qs)
  unfolding placed_by
  placed-whole zero ps h = (ps, refl)
  placed-whole (suc n) ps h =
      let w = placed-whole n ps (λ i l. h i (omega arith)) in
      let f = h n (omega arith) w.0 w.1 in
      (put_row w.0 (row n * 3) (place_of (rule n w.0)), ap (put_next (row n) (rule n)) w.1 ∙ put-finite (row n) (rule n w.0) w.0 f)
