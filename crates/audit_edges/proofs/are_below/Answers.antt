-- are_below meets its contract: each test decides one of the definition's.
use mathlib.Core.Bool.{◌&&◌}
use Prim.Native.Nat.{ℕ}
use mathlib.Core.Path.{sym, ◌∙◌, ap}
use native.Mathlib.Omega.{arith}
use borrow.Author.Tests.{lt-ltb, le-ltb}
use lib.Dec.{ltb}
use Rattle.audited_meshes.proofs.Folds.{and-false}
use Rattle.audit_edges.proofs.are_below.Goals as goal

pub returns-then-n-index : goal.returns-then-n-index
returns-then-n-index c =
    rw (le-ltb c.args.a c.args.n (omega (arith, c.index.ensures)))

pub returns-then-n-index-2 : goal.returns-then-n-index-2
returns-then-n-index-2 c =
    rw (le-ltb c.args.b c.args.n (omega (arith, c.index-2.ensures)), and-false (ltb c.args.a c.args.n))

pub returns-then-k-index : goal.returns-then-k-index
returns-then-k-index c =
    rw (le-ltb c.args.c c.args.k (omega (arith, c.index-3.ensures)), and-false (ltb c.args.a c.args.n && ltb c.args.b c.args.n))

pub returns : goal.returns
returns c =
    ap (λ (w : ℕ). ltb w c.args.k) c.index-4.ensures
    ∙ sym (rw (
      lt-ltb c.args.a c.args.n (omega (
        arith,
        c.index.ensures,
        c.if-n-index.false,
      )),
      lt-ltb c.args.b c.args.n
          (omega (arith, c.index-2.ensures, c.if-n-index-2.false)),
      lt-ltb c.args.c c.args.k (omega (arith, c.index-3.ensures, c.if-k-index.false)),
    ))
