-- What is claimed of the steps that `run_steps` makes.
--     InOrders               the steps are handed the orders, one each
--     OrderedRunsShare              two calls, each of an edition, from one accepted mesh of binary64 numbers in the tables a and b, that of A with the numbered order in
--                             every accepted step: what `Demand3` claims of two runs holds of what they leave
use Rattle.std.specs.Prelude.{◌≡◌, true, List, map, ℕ}
use Rattle.tables.specs.Mesh.{Mesh}
use Rattle.tables.specs.Counted.{first_rows}
use Rattle.tables.specs.declared.Counts.{Counts}
use Rattle.audited_meshes.specs.Audit.{audit}
use Rattle.refined_meshes.specs.declared.Edition.{Edition}
use Rattle.steps.specs.OneStep.{Binary64}
use Rattle.runs.specs.Runs.{Lent, Handed, NumberedOrder, run, accepted, lent, TwoRuns}
use Rattle.ordered_runs.specs.Runs.{handed, ran}

abbrev pub InOrders : Type 0
InOrders = (ed : Edition) (l : Lent) (t : Mesh) (orders : List (List ℕ)) → map (λ (h : Handed). h.order) (handed ed l t orders) ≡ orders

pub record SharedRuns (ed_a ed_b : Edition) (c : Counts) (a b ta tb : Mesh) (orders_a orders_b : List (List ℕ)) : Type 0 where
  pub left-A : (ran ed_a (lent a c) ta orders_a).left ≡ run (lent a c) (handed ed_a (lent a c) ta orders_a)
  pub left-B : (ran ed_b (lent b c) tb orders_b).left ≡ run (lent b c) (handed ed_b (lent b c) tb orders_b)
  pub accepted-A : (ran ed_a (lent a c) ta orders_a).accepted ≡ accepted (lent a c) (handed ed_a (lent a c) ta orders_a)
  pub accepted-B : (ran ed_b (lent b c) tb orders_b).accepted ≡ accepted (lent b c) (handed ed_b (lent b c) tb orders_b)
  pub two_runs : TwoRuns c a b (handed ed_a (lent a c) ta orders_a) (handed ed_b (lent b c) tb orders_b)

abbrev pub OrderedRunsShare : Type 0
OrderedRunsShare =
    (ed_a ed_b : Edition) (c : Counts) (a b ta tb : Mesh) (orders_a orders_b : List (List ℕ)) → audit a c.points c.edges c.faces ≡ true → Binary64 c a →
    first_rows c a ≡ first_rows c b → NumberedOrder (lent a c) (handed ed_a (lent a c) ta orders_a) → SharedRuns ed_a ed_b c a b ta tb orders_a orders_b
