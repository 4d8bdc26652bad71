-- How building begins and ends, over plain variables. Assumes nothing.
--     Rooms, rooms, rooms-of            what the tables have room for when no ground up to 4 holds, and when they are zeroed
--     standing-none, lent-rooms         nothing stands in zeroed tables, and there is a row and a link for each edge
--     stopped-outcome, on-outcome       the answer when a face was refused, and when all faces stand
--     refused-counts .. begun-build     the answer by the tests before the faces
--     promised                          an outcome, and its answer in the documents' numbers
--     links-room, links-none            the links at the beginning
use mathlib.Core.Path.{◌≡◌, refl, sym, ◌∙◌, ap, subst}
use mathlib.Core.Bool.{true, false}
use mathlib.Core.List.{List, []}
use Prim.Native.Nat.{ℕ, ◌+◌, ◌*◌, ◌≤◌, ◌<◌}
use native.Mathlib.Nat.{le_of_eq}
use borrow.Author.Tests.{eqb-true}
use native.Mathlib.Omega.{arith}
use lib.Ieee.{Float, of_bits, binary64}
use lib.ListN.{length, get_or, drop, replicate, get_or-append, get_or-replicate, length-replicate}
use Rattle.std.specs.Prelude.{Result, Ok, Err, ⊤}
use Rattle.tables.specs.Mesh.{Mesh, none}
use Rattle.tables.specs.Rows.{zeroed}
use Rattle.tables.specs.Counted.{rows_for, zeroed_rows}
use Rattle.tables.proofs.Laws.{length-zeroed}
use Rattle.built_meshes.specs.Lists.{Lists, general_limits, points_of, faces_of, rows_of, offset, firsts_counted, counts_fit, listed_fit}
use Rattle.tables.specs.declared.Sizes.{Sizes}
use Rattle.built_meshes.specs.Perimeters.{BuildState, Progress, on, stopped}
use Rattle.built_meshes.specs.Answers.{built_numbers}
use Rattle.built_meshes.specs.Building.{BuildOutcome, build_refusal, whole_if, faces_from, answered, all_faces, build_if, build}
use Rattle.built_meshes.specs.Whole.{finished, whole_verdict}
use Rattle.built_meshes.specs.declared.Version.{Version}
use Rattle.built_meshes.specs.declared.Ground.{Ground}
use Rattle.built_meshes.specs.declared.Ground.TheVariants.{OverCounts, UnfitNumber, FewRows}
use Rattle.built_meshes.proofs.Begin.{Counted, counts-is, numbers-is, Roomy, rows_is, listed-all}
use Rattle.built_meshes.proofs.Theorem.{tables_of, zeroed-after}
use Rattle.building_tests.specs.Lent.{lists, lists_in, FirstsGiven, limits_of}
use Rattle.building_tests.specs.declared.Bounds.{Bounds}
use Rattle.building_tests.specs.declared.Bounds.TheVariants.{General, Refine}
use Rattle.edge_buckets.specs.Buckets.{buckets}
use Rattle.edge_search.specs.Chains.{Newest, Standing}
use Rattle.building_faces.specs.Rings.{state_at, ListedRoom}
use Rattle.building_ends.specs.Concluding.{concluded}
use Rattle.building.specs.Beginning.{answered_from, Begun, Zeroed}

-- ---- before the faces

-- what the tables have room for
pub record Rooms (l : Lists) (m : Mesh) : Type 0 where
  pub positions-fit : points_of l * 3 ≤ length m.positions
  pub points-fit : points_of l * 3 ≤ length m.points
  pub edges_fit : length l.listed * 8 ≤ length m.edges
  pub intervals-fit : length l.listed ≤ length m.intervals
  pub faces-fit : faces_of l * 5 ≤ length m.faces
  pub points-few : points_of l ≤ 4096
  pub faces-few : faces_of l ≤ 4096
  pub listed-few : length l.listed ≤ 16384
  pub beside : length l.intervals ≡ length l.listed
  pub all_listed : offset l (faces_of l) ≡ length l.listed
  pub firsts-given : FirstsGiven l.version l.sides l.firsts

limits-few : (b : Bounds) → ((limits_of b).points ≤ 4096) × ((limits_of b).faces ≤ 4096) × ((limits_of b).listed ≤ 16384)
limits-few General = (omega arith, omega arith, omega arith)
limits-few Refine = (omega arith, omega arith, omega arith)

pub rooms : (l : Lists) (m : Mesh) → Begun l m → Rooms l m
rooms l m h =
    let c : Sizes = limits_of h.bounds in
    let counted : Counted c l = counts-is c l h.counts in
    let roomy : Roomy l m = rows_is l m h.rows in
    let few = limits-few h.bounds in
    record {
      positions-fit = omega (arith, roomy.points-enough);
      points-fit = omega (arith, roomy.points-enough);
      edges_fit = omega (arith, roomy.edges-enough);
      intervals-fit = omega (arith, roomy.edges-enough);
      faces-fit = omega (arith, roomy.faces-enough);
      points-few = omega (arith, counted.points-few, few.0);
      faces-few = omega (arith, counted.faces-few, few.1);
      listed-few = omega (arith, counted.listed-few, few.2);
      beside = sym counted.alike;
      all_listed = listed-all c l m counted (numbers-is l h.numbers) roomy (omega (arith, few.1));
      firsts-given = λ two. eqb-true (length l.firsts) (length l.sides) (subst (λ v. firsts_counted v l ≡ true) two counted.firsts-alike);
    }

pub rooms-zeroed : (l : Lists) (m t : Mesh) → t ≡ zeroed_rows (rows_of l) m → Rooms l m → Rooms l t
unfolding zeroed_rows
rooms-zeroed l m t z r =
    rw z
    (record {
      positions-fit = rw (length-zeroed (points_of l * 3) (of_bits binary64 0) m.positions r.positions-fit) r.positions-fit;
      points-fit = rw (length-zeroed (points_of l * 3) 0 m.points r.points-fit) r.points-fit;
      edges_fit = rw (length-zeroed (length l.listed * 8) 0 m.edges r.edges_fit) r.edges_fit;
      intervals-fit = rw (length-zeroed (length l.listed) (of_bits binary64 0) m.intervals r.intervals-fit) r.intervals-fit;
      faces-fit = rw (length-zeroed (faces_of l * 5) 0 m.faces r.faces-fit) r.faces-fit;
      points-few = r.points-few;
      faces-few = r.faces-few;
      listed-few = r.listed-few;
      beside = r.beside;
      all_listed = r.all_listed;
      firsts-given = r.firsts-given;
    })

-- the room of zeroed tables
pub rooms-of : (l : Lists) (t : Mesh) → Zeroed l t → Rooms l t
rooms-of l t h = rooms-zeroed l h.lent t h.zero (rooms l h.lent h.begun)

get_or-zeroed : {A : Type 0} (n i : ℕ) (z d : A) (xs : List A) → i < n → get_or (zeroed n z xs) i d ≡ z
unfolding zeroed
get_or-zeroed n i z d xs h =
    get_or-append (replicate n z) (drop n xs) d i (subst (λ k. i < k) (sym (length-replicate n z)) h) ∙ get_or-replicate n i z d h

-- nothing stands in zeroed tables, where every bucket's link is 0
pub standing-none : (l : Lists) (t : Mesh) (ch : List ℕ) → Zeroed l t → buckets ≤ length ch
    → ((b : ℕ) → b < buckets → get_or ch b 0 ≡ 0) → Standing (points_of l) t.points t.edges ch 0
unfolding zeroed_rows
standing-none l t ch h room none_yet =
    record {
      points-fit = (rooms-of l t h).points-fit;
      edges_fit = omega arith;
      links-fit = omega arith;
      valences = λ p b. rw h.zero (rw (get_or-zeroed (points_of l * 3) (p * 3) 0 0 h.lent.points (omega arith)) (omega arith));
      newest = λ b i. rw (none_yet b i) (none-newest t.edges b);
      chained = λ e i. absurd (omega arith);
    }
  where
    none-newest : (es : List ℕ) (b : ℕ) → Newest es b 0 0
    none-newest es b =
        record {
          below = omega arith;
          within = λ e s. absurd (omega arith);
          none_between = λ e i j. absurd (omega arith);
        }

-- there is a row and a link for each edge
pub lent-rooms : (l : Lists) (t : Mesh) (ch : List ℕ) → Rooms l t → buckets + general_limits.listed ≤ length ch
    → ListedRoom l.listed l.intervals t.edges t.intervals ch
lent-rooms l t ch r room =
    let b = r.listed-few in
    record {
      edge-rows = r.edges_fit;
      interval-rows = r.intervals-fit;
      link-rows = omega arith;
      few = r.listed-few;
      beside = r.beside;
    }

-- ---- after the faces: t are the zeroed tables, n those after the faces

module _ (l : Lists) (m t : Mesh) (begun : Begun l m) (zero : t ≡ zeroed_rows (rows_of l) m) where
  faces-few : (limits_of begun.bounds).faces ≤ none
  faces-few = let few = limits-few begun.bounds in omega (arith, few.1)

  all_from : (x : Progress BuildState) → x ≡ faces_from (faces_of l) l 0 0 (on (state_at t 0)) → x ≡ all_faces l m
  unfolding all_faces
  all_from x h = rw zero at h

  zeroed-tables : (x : Progress BuildState) → x ≡ all_faces l m → zeroed_rows (rows_of l) (tables_of x) ≡ zeroed_rows (rows_of l) m
  zeroed-tables x h =
      ap (λ (y : Progress BuildState). zeroed_rows (rows_of l) (tables_of y)) h
      ∙ zeroed-after (limits_of begun.bounds) l m faces-few begun.counts begun.numbers begun.rows

  pub stopped-outcome : (g : Ground) (n after : Mesh) → stopped g n ≡ faces_from (faces_of l) l 0 0 (on (state_at t 0))
      → after ≡ zeroed_rows (rows_of l) n
      → ◌≡◌ {A = BuildOutcome} (record { answer = Err g; tables = after }) (answered_from l m)
  unfolding answered_from answered
  stopped-outcome g n after h z =
      rw (← all_from (stopped g n) h, z, zeroed-tables (stopped g n) (all_from (stopped g n) h))

  verdict-outcome : (k : ℕ) (n : Mesh) (v : Result ⊤ Ground) → zeroed_rows (rows_of l) n ≡ zeroed_rows (rows_of l) m
      → concluded l.coordinates (points_of l) (length l.listed) (faces_of l) n k v ≡ whole_if l m (state_at n k) v
  unfolding concluded whole_if finished
  verdict-outcome k n (Ok tt) z = refl
  verdict-outcome k n (Err g) z = ap (λ (x : Mesh). build_refusal g x) z

  pub on-outcome : (k : ℕ) (n : Mesh) (o : BuildOutcome) → on (state_at n k) ≡ faces_from (faces_of l) l 0 0 (on (state_at t 0))
      → o ≡ concluded l.coordinates (points_of l) (length l.listed) (faces_of l) n k (whole_verdict n (points_of l) k)
      → o ≡ answered_from l m
  unfolding answered_from answered
  on-outcome k n o h c =
      c ∙ verdict-outcome k n (whole_verdict n (points_of l) k) (zeroed-tables (on (state_at n k)) (all_from (on (state_at n k)) h))
      ∙ ap (λ (x : Progress BuildState). answered l m x) (all_from (on (state_at n k)) h)

-- ---- the tests before the faces

pub numbers-same : (v : Version) (cs : List Float) (ss fs ls : List ℕ) (be : List Float) → listed_fit (lists cs [] [] be) ≡ listed_fit (lists_in v cs ss fs ls be)
unfolding listed_fit
numbers-same v cs ss fs ls be = refl

module _ (b : Bounds) (l : Lists) (m : Mesh) where
  pub refused-counts : counts_fit (limits_of b) l ≡ false → build_refusal OverCounts m ≡ build (limits_of b) l m
  unfolding build build_if
  refused-counts h = rw h

  pub refused-numbers : counts_fit (limits_of b) l ≡ true → listed_fit l ≡ false → build_refusal UnfitNumber m ≡ build (limits_of b) l m
  unfolding build build_if
  refused-numbers h k = rw (h, k)

  pub refused-rows : counts_fit (limits_of b) l ≡ true → listed_fit l ≡ true → rows_for (rows_of l) m ≡ false → build_refusal FewRows m ≡ build (limits_of b) l m
  unfolding build build_if
  refused-rows h k r = rw (h, k, r)

  pub begun-build : (o : BuildOutcome) → counts_fit (limits_of b) l ≡ true → listed_fit l ≡ true → rows_for (rows_of l) m ≡ true → o ≡ answered_from l m
      → o ≡ build (limits_of b) l m
  unfolding build build_if answered_from
  begun-build o h k r a = a ∙ rw (h, k, r)

-- an outcome, and its answer in the documents' numbers
pub promised : {o p : BuildOutcome} → o ≡ p → (o ≡ p) × (built_numbers o.answer ≡ built_numbers p.answer)
promised e = (e, ap (λ (o : BuildOutcome). built_numbers o.answer) e)

-- the links at the beginning
abbrev pub no_links : List ℕ
no_links = replicate {A = ℕ} (buckets + general_limits.listed) 0

pub links-room : buckets + general_limits.listed ≤ length no_links
links-room = le_of_eq (sym (length-replicate {A = ℕ} (buckets + general_limits.listed) 0))

pub links-none : (b : ℕ) → b < buckets → get_or no_links b 0 ≡ 0
links-none b h = get_or-replicate (buckets + general_limits.listed) b 0 0 (omega arith)
