-- The claims about the steps that `run_steps` makes. Assumes nothing.
--     in-orders, runs-share     the claims of `specs/Claims.antt`
use mathlib.Core.Path.{refl, ap}
use mathlib.Core.List.{List, [], ◌∷◌}
use Prim.Native.Nat.{ℕ}
use Rattle.runs.specs.Runs.{after, outcome, lent}
use Rattle.runs.proofs.Runs.{theorem}
use Rattle.ordered_runs.specs.Runs.{handing, handed, ran}
use Rattle.ordered_runs.specs.Claims.{InOrders, OrderedRunsShare}

pub in-orders : InOrders
unfolding handed
in-orders ed l t [] = refl
in-orders ed l t (o ∷ os) = ap (λ (r : List (List ℕ)). o ∷ r) (in-orders ed (after l (handing ed o t)) (outcome l (handing ed o t)).scratch os)

pub runs-share : OrderedRunsShare
unfolding ran
runs-share ed_a ed_b c a b ta tb orders_a orders_b closed numbers same numbered =
    record {
      left-A = refl;
      left-B = refl;
      accepted-A = refl;
      accepted-B = refl;
      two_runs = theorem c a b closed numbers same (handed ed_a (lent a c) ta orders_a) (handed ed_b (lent b c) tb orders_b) numbered;
    }
