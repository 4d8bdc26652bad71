-- is_new meets its contract: a point at whose place the stamp does not stand is new.
use mathlib.Core.Path.{refl, sym, ◌∙◌, ap}
use Prim.Native.Nat.{ℕ, ◌%◌}
use lib.ListN.{get_or}
use Rattle.audit_steps.proofs.Noted.{new-unstamped}
use Rattle.audit_steps.proofs.is_new.Goals as goal

pub returns : goal.returns
returns c =
    record {
      value = sym (new-unstamped c.args.stamps.now c.args.stamp c.args.points.now c.args.n
          c.requires.stamped c.args.q
          (λ e. c.if-was-stamp.false (ap (λ (x : ℕ). get_or c.args.stamps.now (x % 512) 0) c.index-b.ensures ∙ e)));
      stamps_after = rw c.index-b.ensures refl;
    }
