-- text_edge meets its contract: a text that is too long has no edge, any other is read into lists with room.
use mathlib.Core.Path.{sym, ◌∙◌}
use native.Mathlib.Omega.{arith}
use Rattle.text_edges.proofs.Laws.{too_long}
use Rattle.text_edges.proofs.text_edge.Goals as goal

pub returns-then-is_too_long : goal.returns-then-is_too_long
returns-then-is_too_long c =
    too_long c.args.bounds c.args.text.now c.args.f c.args.i c.is_too_long.ensures c.if-is_too_long.true

pub read_and_tell-requires : goal.read_and_tell-requires
read_and_tell-requires c =
    record {
      points_in_bounds = omega arith;
      faces_in_bounds = omega arith;
      listed_in_bounds = omega arith;
      listed_in_bounds_2 = omega arith;
      faces_in_bounds_2 = omega arith;
      text_value = sym c.is_too_long.ensures
          ∙ c.if-is_too_long.false;
    }
