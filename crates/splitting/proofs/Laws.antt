-- The laws of splitting. Assumes nothing.
--     split_whole-split, split_whole-kept     an edge that ends in an old point is split; any other is left
--     split_all-none, split_all-more          no edges split, and one more
--     faces-split_all                        no splitting takes a row of faces
--     grows                                 what no turn makes less is least at the first
--     points-split_all, edges-split_all       more edges split take at least as many rows
--     split_all-faces                        no splitting looks at the faces: the same tables with any faces
use mathlib.Core.Path.{◌≡◌, refl, ◌∙◌, ap}
use mathlib.Core.Bool.{Bool, true, false}
use mathlib.Core.List.{List}
use Prim.Native.Nat.{ℕ, zero, suc, ◌+◌, ◌≤◌, ◌<◌}
use native.Mathlib.Nat.{add-zero}
use native.Mathlib.Numerals.{add-one}
use native.Mathlib.Omega.{arith}
use native.Mathlib.Decide.{dec_lt}
use borrow.Author.Tests.{lt-ltb, le-ltb}
use lib.Dec.{ltb}
use lib.ListN.{get_or}
use Rattle.refined_meshes.specs.Turns.{turns}
use Rattle.refined_meshes.specs.State.{State, edge_of, put_edge, put_point, put_start}
use Rattle.refined_meshes.specs.Split.{split_edge, split_if, split_whole}
use Rattle.refined_meshes.specs.Visits.{split_all}
use lib.Ieee.{Float}
use Rattle.tables.specs.declared.Counts.{Counts}
use Rattle.splitting.specs.Scratch.{tables_of, scratch}

pub split_whole-split : (np e : ℕ) (s : State) → (edge_of s e).dest < np → split_whole np e s ≡ split_edge e s
unfolding split_whole split_edge
split_whole-split np e s h = rw (lt-ltb (edge_of s e).dest np h)

pub split_whole-kept : (np e : ℕ) (s : State) → np ≤ (edge_of s e).dest → split_whole np e s ≡ s
unfolding split_whole split_edge
split_whole-kept np e s h = rw (le-ltb (edge_of s e).dest np h)

pub split_all-none : (np : ℕ) (es : List ℕ) (s : State) → split_all np es 0 s ≡ s
unfolding split_all turns
split_all-none np es s = refl

pub split_all-suc : (np : ℕ) (es : List ℕ) (i : ℕ) (s : State) → split_all np es (suc i) s ≡ split_whole np (get_or es i 0) (split_all np es i s)
unfolding split_all turns
split_all-suc np es i s = refl

pub split_all-more : (np : ℕ) (es : List ℕ) (i : ℕ) (s : State) → split_all np es (i + 1) s ≡ split_whole np (get_or es i 0) (split_all np es i s)
split_all-more np es i s = rw add-one (split_all-suc np es i s)

points-split_if : (b : Bool) (e : ℕ) (s : State) → s.points_taken ≤ (split_if b e s).points_taken
unfolding split_edge put_edge put_point put_start
points-split_if true e s = omega arith
points-split_if false e s = omega arith

edges-split_if : (b : Bool) (e : ℕ) (s : State) → s.edges_taken ≤ (split_if b e s).edges_taken
unfolding split_edge put_edge put_point put_start
edges-split_if true e s = omega arith
edges-split_if false e s = omega arith

pub points-split_whole : (np e : ℕ) (s : State) → s.points_taken ≤ (split_whole np e s).points_taken
unfolding split_whole
points-split_whole np e s = points-split_if (ltb (edge_of s e).dest np) e s

pub edges-split_whole : (np e : ℕ) (s : State) → s.edges_taken ≤ (split_whole np e s).edges_taken
unfolding split_whole
edges-split_whole np e s = edges-split_if (ltb (edge_of s e).dest np) e s

faces-split_if : (b : Bool) (e : ℕ) (s : State) → (split_if b e s).faces_taken ≡ s.faces_taken
unfolding split_edge put_edge put_point put_start
faces-split_if true e s = add-zero s.faces_taken
faces-split_if false e s = refl

pub faces-split_whole : (np e : ℕ) (s : State) → (split_whole np e s).faces_taken ≡ s.faces_taken
unfolding split_whole
faces-split_whole np e s = faces-split_if (ltb (edge_of s e).dest np) e s

-- a number that no turn makes less
pub grows : (g : ℕ → ℕ) → ((i : ℕ) → g i ≤ g (suc i)) → (i n : ℕ) → i ≤ n → g i ≤ g n
grows g h i zero l = let e : i ≡ 0 = omega arith in rw e (omega arith)
grows g h i (suc n) l = go (dec_lt n i) (grows g h i n)
  where
    go : Dec (n < i) → (i ≤ n → g i ≤ g n) → g i ≤ g (suc n)
    go (yes k) r = let e : i ≡ suc n = omega arith in rw e (omega arith)
    go (no k) r = let a : g i ≤ g n = r (omega arith) in let b : g n ≤ g (suc n) = h n in omega arith

module _ (np : ℕ) (es : List ℕ) (s : State) where
  pub points-split_all : (i n : ℕ) → i ≤ n → (split_all np es i s).points_taken ≤ (split_all np es n s).points_taken
  points-split_all i n l =
      grows (λ k. (split_all np es k s).points_taken)
      (λ k. rw (split_all-suc np es k s) (points-split_whole np (get_or es k 0) (split_all np es k s))) i n l

  pub edges-split_all : (i n : ℕ) → i ≤ n → (split_all np es i s).edges_taken ≤ (split_all np es n s).edges_taken
  edges-split_all i n l =
      grows (λ k. (split_all np es k s).edges_taken)
      (λ k. rw (split_all-suc np es k s) (edges-split_whole np (get_or es k 0) (split_all np es k s))) i n l

pub faces-split_all : (np : ℕ) (es : List ℕ) (n : ℕ) (s : State) → (split_all np es n s).faces_taken ≡ s.faces_taken
faces-split_all np es zero s = ap (λ (t : State). t.faces_taken) (split_all-none np es s)
faces-split_all np es (suc n) s =
    ap (λ (t : State). t.faces_taken) (split_all-suc np es n s)
    ∙ faces-split_whole np (get_or es n 0) (split_all np es n s) ∙ faces-split_all np es n s

-- the state s with the faces fs
abbrev with_faces : List ℕ → State → State
with_faces fs s =
    record {
      points = s.points;
      edges = s.edges;
      intervals = s.intervals;
      faces = fs;
      points_taken = s.points_taken;
      edges_taken = s.edges_taken;
      faces_taken = s.faces_taken;
    }

split_if-faces : (b : Bool) (e : ℕ) (fs : List ℕ) (s : State) → with_faces fs (split_if b e s) ≡ split_if b e (with_faces fs s)
unfolding split_edge put_edge put_point put_start
split_if-faces true e fs s = refl
split_if-faces false e fs s = refl

split_whole-faces : (np e : ℕ) (fs : List ℕ) (s : State) → with_faces fs (split_whole np e s) ≡ split_whole np e (with_faces fs s)
unfolding split_whole
split_whole-faces np e fs s = split_if-faces (ltb (edge_of s e).dest np) e fs s

turns-faces : (np : ℕ) (es : List ℕ) (n : ℕ) (fs : List ℕ) (s : State) → with_faces fs (split_all np es n s) ≡ split_all np es n (with_faces fs s)
unfolding split_all turns
turns-faces np es zero fs s = refl
turns-faces np es (suc n) fs s =
    split_whole-faces np (get_or es n 0) fs (split_all np es n s) ∙ ap (split_whole np (get_or es n 0)) (turns-faces np es n fs s)

module _ (np : ℕ) (perimeter : List ℕ) (n : ℕ) (ps es : List ℕ) (is : List Float) (fs : List ℕ) (c : Counts) where
  pub split_all-faces : (ps' es' : List ℕ) (is' : List Float) (c' : Counts)
      → ◌≡◌ {A = State} (scratch ps' es' is' c') (split_all np perimeter n (scratch ps es is c))
      → ◌≡◌ {A = State} (tables_of ps' es' is' fs c') (split_all np perimeter n (tables_of ps es is fs c))
  split_all-faces ps' es' is' c' h = ap (with_faces fs) h ∙ turns-faces np perimeter n fs (scratch ps es is c)

  pub points-split_all-faces : (split_all np perimeter n (scratch ps es is c)).points_taken ≡ (split_all np perimeter n (tables_of ps es is fs c)).points_taken
  points-split_all-faces = ap (λ (s : State). s.points_taken) (turns-faces np perimeter n fs (scratch ps es is c))

  pub edges-split_all-faces : (split_all np perimeter n (scratch ps es is c)).edges_taken ≡ (split_all np perimeter n (tables_of ps es is fs c)).edges_taken
  edges-split_all-faces = ap (λ (s : State). s.edges_taken) (turns-faces np perimeter n fs (scratch ps es is c))
