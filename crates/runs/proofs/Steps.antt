-- What one step of a run does, from the theorem of one step. Assumes nothing.
--     answered               an answer is Ok, or it has a number
--     after-accepted         what an accepted step leaves
--     after-refused          a refused step leaves tables and counts as found
--     each_step              every step of a list meets its claim
use Rattle.std.specs.Prelude.{Result, Ok, Err}
use mathlib.Core.Path.{◌≡◌, refl, sym, ◌∙◌, ap, ap₂, subst}
use mathlib.Core.List.{List, [], ◌∷◌}
use mathlib.Core.Logic.{◌⊎◌, inl, inr}
use mathlib.Core.Option.{some}
use Prim.Native.Nat.{ℕ}
use native.Mathlib.Omega.{arith}
use Rattle.tables.specs.declared.Counts.{Counts}
use Rattle.audited_meshes.specs.Rows.{HoldsClosed}
use Rattle.audited_meshes.proofs.Holds.{audit-is-closed}
use Rattle.steps.specs.declared.StepRefusal.{StepRefusal}
use Rattle.steps.specs.declared.StepRefusal.TheVariants.{NotClosed, NotEachFaceOnce, NoRoom, NotFinite}
use Rattle.steps.specs.Step.{refusal_number, step_ground, refined_counts, whole, made}
use Rattle.tables.specs.Counted.{first_rows}
use Rattle.steps.specs.OneStep.{Binary64, Accepted}
use Rattle.steps.proofs.Grounds.{untouched}
use Rattle.steps.proofs.OneStep.{one-step}
use Rattle.runs.specs.Runs.{Lent, Handed, outcome, counts_after, after, one_more_if, lent, NamedMesh, SameNames, Renamed, StepClaim, EachStep, no_steps, each_step_of}

pub answered : (g : Result Counts StepRefusal) → ((c : Counts) × (g ≡ Ok c)) ⊎ ((x : ℕ) × (step_ground g ≡ some x))
answered (Ok c) = inl (c, refl)
answered (Err g) = inr (refusal_number g, refl)

-- An answer is not both.
pub not-both : {g : Result Counts StepRefusal} (c : Counts) (x : ℕ) → g ≡ Ok c → ¬ (step_ground g ≡ some x)
not-both c x e q = let z = sym (ap step_ground e) ∙ q in let y : ◌≡◌ {A = ℕ} 0 1 = cc in omega arith

refused-counts : (g : Result Counts StepRefusal) (x : ℕ) (c : Counts) → step_ground g ≡ some x → counts_after g c ≡ c
refused-counts (Ok c') x c q = absurd (not-both c' x refl q)
refused-counts (Err g) x c q = refl

pub refused-number : (g : Result Counts StepRefusal) (x k : ℕ) → step_ground g ≡ some x → one_more_if g k ≡ k
refused-number (Ok c') x k q = absurd (not-both c' x refl q)
refused-number (Err g) x k q = refl

-- The names after a refused step are the names before it.
module _ {first : Counts} {l l' : Lent} (n : NamedMesh first l) (n' : NamedMesh first l') where
  pub same-names-of : (g : Result Counts StepRefusal) (x k : ℕ) → step_ground g ≡ some x → Renamed k g n n' → SameNames n n'
  same-names-of (Ok c') x k q a = absurd (not-both c' x refl q)
  same-names-of (Err g) x k q a = a

  pub renamed-same : (g : Result Counts StepRefusal) (x k : ℕ) → step_ground g ≡ some x → SameNames n n' → Renamed k g n n'
  renamed-same (Ok c') x k q a = absurd (not-both c' x refl q)
  renamed-same (Err g) x k q a = a

module _ (l : Lent) (h : Handed) where
  pub after-refused : (x : ℕ) → step_ground (outcome l h).answer ≡ some x → after l h ≡ l
  after-refused x q =
      let t = (untouched h.edition l.tables l.counts h.order h.scratch x q).tables in
      let c = refused-counts (outcome l h).answer x l.counts q in
      ap₂ lent t c

module _ (l : Lent) (h : Handed) (numbers : Binary64 l.counts l.tables) where
  module _ (H : HoldsClosed l.tables l.counts.points l.counts.edges l.counts.faces) (c : Counts) (e : (outcome l h).answer ≡ Ok c) where
    pub made_of : Accepted h.edition l.tables l.counts h.order h.scratch H c
    made_of = one-step h.edition l.tables l.counts h.order h.scratch H numbers c e

    counts-accepted : (after l h).counts ≡ refined_counts l.counts
    counts-accepted = ap (λ g. counts_after g l.counts) e ∙ made_of.counts

    pub after-accepted : after l h ≡ lent (outcome l h).tables (refined_counts l.counts)
    after-accepted = ap (lent (outcome l h).tables) counts-accepted

    in_order : made h.edition (first_rows l.counts l.tables) l.counts h.order (first_rows c h.scratch) ≡ whole (first_rows c (after l h).tables)
    in_order =
        subst (λ c. made h.edition (first_rows l.counts l.tables) l.counts h.order (first_rows c h.scratch) ≡ whole (first_rows c (after l h).tables))
        (sym made_of.counts) made_of.in_order

  module _ (H : HoldsClosed l.tables l.counts.points l.counts.edges l.counts.faces) where
    pub holds_after : HoldsClosed (after l h).tables (after l h).counts.points (after l h).counts.edges (after l h).counts.faces
    holds_after = go (answered (outcome l h).answer)
      where
        Holds : Lent → Type 0
        Holds x = HoldsClosed x.tables x.counts.points x.counts.edges x.counts.faces

        go : ((c : Counts) × ((outcome l h).answer ≡ Ok c)) ⊎ ((x : ℕ) × (step_ground (outcome l h).answer ≡ some x)) → Holds (after l h)
        go (inl (c, e)) = subst Holds (sym (after-accepted H c e)) (made_of H c e).refinement.holds
        go (inr (x, q)) = subst Holds (sym (after-refused l h x q)) H

    pub numbers_after : Binary64 (after l h).counts (after l h).tables
    numbers_after = go (answered (outcome l h).answer)
      where
        go :
            ((c : Counts) × ((outcome l h).answer ≡ Ok c)) ⊎ ((x : ℕ) × (step_ground (outcome l h).answer ≡ some x)) →
            Binary64 (after l h).counts (after l h).tables
        go (inl (c, e)) = subst (λ x. Binary64 x.counts x.tables) (sym (after-accepted H c e)) (made_of H c e).numbers
        go (inr (x, q)) = subst (λ x. Binary64 x.counts x.tables) (sym (after-refused l h x q)) numbers

    step-claim : StepClaim l h
    step-claim =
        record {
          closed = (audit-is-closed _ _ _ _).1 holds_after;
          counted = counts-accepted H;
          refined = in_order H;
          on-kinds = λ c e n. (made_of n c e).refinement;
          refused = after-refused l h;
        }

-- Every step of a list meets its claim.
pub each_step :
    (hs : List Handed) (l : Lent) → Binary64 l.counts l.tables →
    HoldsClosed l.tables l.counts.points l.counts.edges l.counts.faces → EachStep l hs
each_step [] l b H = no_steps
each_step (h ∷ hs) l b H =
    each_step_of (step-claim l h b H) (each_step hs (after l h) (numbers_after l h b H) (holds_after l h b H))
