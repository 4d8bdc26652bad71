-- put_links meets its contract: a state that does not hold or whose states mismatch stores nothing, another stores two words.
use mathlib.Core.Path.{sym, ◌∙◌, ap₂}
use Prim.Native.Nat.{ℕ, ◌+◌, ◌*◌}
use lib.ListN.{length-set}
use Rattle.t_nurcc_edge.proofs.Links.{both-served}
use Rattle.t_nurcc_edge.proofs.put_links.Goals as goal

pub returns-in-Some : goal.returns-in-Some
returns-in-Some c =
    let first = ap₂ (λ (x y : ℕ). x * 8 + 4 + y) c.index.ensures
    c.index-c.ensures in let other = ap₂ (λ (x y : ℕ). x * 8 + 4 + y) c.index-in-Some.ensures c.index-d.ensures in record {
      by_index = (λ es p h q. both-served es c.args.i c.args.j c.requires.i_nonzero c.args.holds c.args.face c.args.vert
          c.args.edges.now p q _ _ _ _ h (c.if-not-holds.false)
          (sym c.in-Some.is
          ∙ c.link_directions.ensures) first other);
      edges_len_unchanged = simp length-set;
    }
