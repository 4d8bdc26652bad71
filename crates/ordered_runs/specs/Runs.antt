-- A list of steps in the same tables, with orders that stand one behind the other.
--     orders_of os ns          the orders of the lengths ns that stand one behind the other in os; what is not there is cut off
--     handed ed l t orders    what the steps, all of the edition ed, are handed: their orders, the first one the scratch t, each further
--                             one the scratch that the step before it left
--     scratch_after ed l t orders  the scratch that the last one leaves
--     RunOutcome              the tables and the counts afterwards, how many steps were accepted, the scratch tables afterwards
--     ran ed l t orders       what these steps leave, of the tables and counts l and by the scratch t: a run of `runs`
use Rattle.std.specs.Prelude.{List, [], ◌∷◌, ℕ, take, drop}
use Rattle.tables.specs.Mesh.{Mesh}
use Rattle.refined_meshes.specs.declared.Edition.{Edition}
use Rattle.runs.specs.Runs.{Lent, Handed, outcome, after, run, accepted}

unfoldable pub orders_of : List ℕ → List ℕ → List (List ℕ)
orders_of os [] = []
orders_of os (n ∷ ns) = take n os ∷ orders_of (drop n os) ns

abbrev pub handing : Edition → List ℕ → Mesh → Handed
handing ed order t = record { edition = ed; order = order; scratch = t }

unfoldable pub handed : Edition → Lent → Mesh → List (List ℕ) → List Handed
handed ed l t [] = []
handed ed l t (o ∷ os) = handing ed o t ∷ handed ed (after l (handing ed o t)) (outcome l (handing ed o t)).scratch os

unfoldable pub scratch_after : Edition → Lent → Mesh → List (List ℕ) → Mesh
scratch_after ed l t [] = t
scratch_after ed l t (o ∷ os) = scratch_after ed (after l (handing ed o t)) (outcome l (handing ed o t)).scratch os

pub record RunOutcome : Type 0 where
  pub left : Lent
  pub accepted : ℕ
  pub scratch : Mesh

unfoldable pub ran : Edition → Lent → Mesh → List (List ℕ) → RunOutcome
unfolding run accepted handed scratch_after
ran ed l t orders = record {
  left = run l (handed ed l t orders);
  accepted = accepted l (handed ed l t orders);
  scratch = scratch_after ed l t orders;
}
