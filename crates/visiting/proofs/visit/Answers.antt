-- visit meets its contract: the border holds the perimeter, padded, and a visit reads it by places alone. The walk is never lost.
use Rattle.visiting.proofs.Room.{never-lost, along-of-visit}
use Rattle.visiting.proofs.Along.{visited-border}
use mathlib.Core.Path.{refl, ◌∙◌}
use borrow.Author.Rules.{rules}
use Rattle.visiting.proofs.visit.Goals as goal

pub put_border-requires : goal.put_border-requires
put_border-requires c =
    record { edge_width_in_bounds = search rules; face_width_in_bounds = search rules; perimeter_value = refl; points_value = refl }

pub returns-in_default : goal.returns-in_default
returns-in_default c =
    absurd (never-lost c.args.edges.now c.args.faces.now c.args.old.points c.args.old.edges c.args.old.faces c.args.f _ _
    c.put_border.ensures c.requires.visit_fits c.in_default.is)

pub visit_along-requires : goal.visit_along-requires
visit_along-requires c =
    record {
      along_fits = along-of-visit c.args.edges.now c.args.faces.now c.args.old.points c.args.old.edges c.args.old.faces c.args.f _ _
          c.put_border.ensures c.in-Some.is c.requires.ceilings c.requires.edge_width_in_bounds c.requires.visit_fits;
      found_len = c.requires.found_len;
      places_lent = c.requires.places_lent;
    }

pub returns : goal.returns
returns c =
    record {
      fact = c.visit_along.ensures.fact
          ∙ visited-border c.args.edges.now c.args.faces.now c.args.old.points c.args.old.edges c.args.f _ _ c.put_border.ensures
          c.in-Some.is;
      found_len_2 = c.visit_along.ensures.found_len_2;
      places_lent_2 = c.visit_along.ensures.places_lent_2;
    }
