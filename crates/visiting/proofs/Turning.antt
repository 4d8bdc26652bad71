-- The loop of `visits` after i turns, over plain variables: m is the mesh, with np points, ne edges and nf faces, s0 the state that the loop
-- began with, ps, es, is, fs and taken the scratch tables and the rows taken. Assumes nothing.
use mathlib.Core.Path.{◌≡◌, refl, ◌∙◌, ap}
use mathlib.Core.List.{List}
use Prim.Native.Nat.{ℕ, ◌+◌, ◌≤◌, ◌<◌}
use native.Mathlib.Omega.{arith}
use lib.ListN.{length, get_or}
use lib.Ieee.{Float}
use Rattle.tables.specs.declared.Counts.{Counts}
use Rattle.tables.specs.Mesh.{Mesh}
use Rattle.refined_meshes.specs.State.{State}
use Rattle.refined_meshes.specs.Visits.{visit, visits}
use Rattle.refined_meshes.specs.Fits.{VisitFits}
use Rattle.splitting.specs.Scratch.{tables_of}
use Rattle.visiting.specs.Visiting.{EachVisitFits}
use Rattle.visiting.proofs.Laws.{visits-none, visits-more}

pub record Turning (m : Mesh) (np ne nf : ℕ) (order : List ℕ) (s0 : State) (ps es : List ℕ) (is : List Float) (fs : List ℕ) (taken : Counts) (i : ℕ)
    : Type 0 where
  pub within : i ≤ nf
  pub same_points : length ps ≡ length s0.points
  pub same_edges : length es ≡ length s0.edges
  pub same-intervals : length is ≡ length s0.intervals
  pub same-faces : length fs ≡ length s0.faces
  pub stands : ◌≡◌ {A = State} (tables_of ps es is fs taken) (visits m np ne i order s0)

module _ (m : Mesh) (np ne nf : ℕ) (order : List ℕ) where
  pub turning-start : (ps es : List ℕ) (is : List Float) (fs : List ℕ) (taken : Counts)
      → Turning m np ne nf order (tables_of ps es is fs taken) ps es is fs taken 0
  turning-start ps es is fs taken = record {
    within = omega arith;
    same_points = refl;
    same_edges = refl;
    same-intervals = refl;
    same-faces = refl;
    stands = visits-none m np ne order (tables_of ps es is fs taken);
  }

  module _ (s0 : State) (ps es : List ℕ) (is : List Float) (fs : List ℕ) (taken : Counts) (i : ℕ)
      (h : Turning m np ne nf order s0 ps es is fs taken i) where
    pub turning-fits : (f : ℕ) → f ≡ get_or order i 0 → EachVisitFits m np ne nf order s0 → i < nf → VisitFits m np ne nf f (tables_of ps es is fs taken)
    turning-fits f e r l = rw (e, h.stands) (r.each i l)

    pub turning-turn : (ps1 es1 : List ℕ) (is1 : List Float) (fs1 : List ℕ) (taken1 : Counts) (f : ℕ) → f ≡ get_or order i 0 → i < nf
        → length ps1 ≡ length ps → length es1 ≡ length es → length is1 ≡ length is → length fs1 ≡ length fs
        → ◌≡◌ {A = State} (tables_of ps1 es1 is1 fs1 taken1) (visit m np ne f (tables_of ps es is fs taken))
        → Turning m np ne nf order s0 ps1 es1 is1 fs1 taken1 (i + 1)
    turning-turn ps1 es1 is1 fs1 taken1 f e l a b c d t = record {
      within = omega arith;
      same_points = a ∙ h.same_points;
      same_edges = b ∙ h.same_edges;
      same-intervals = c ∙ h.same-intervals;
      same-faces = d ∙ h.same-faces;
      stands =
          t ∙ ap (λ (g : ℕ). visit m np ne g (tables_of ps es is fs taken)) e ∙ visits-more m np ne order s0 i (tables_of ps es is fs taken) h.stands;
    }

    pub turning-end : nf ≤ i → ◌≡◌ {A = State} (tables_of ps es is fs taken) (visits m np ne nf order s0)
    turning-end l =
        let w = h.within in
        let e : i ≡ nf = omega arith in
        h.stands ∙ ap (λ (k : ℕ). visits m np ne k order s0) e
