-- What is claimed of the ground that is told without tables.
--     RefusesBy            the claim: building in tables with rows to spare refuses by a ground exactly if it is the one that is met first
--     AcceptsNone          the claim: it accepts exactly if none is
use Rattle.std.specs.Prelude.{◌≡◌, ◌↔◌, ◌≤◌, Ok, Err}
use Rattle.tables.specs.declared.Sizes.{Sizes}
use Rattle.tables.specs.declared.Counts.{Counts}
use Rattle.tables.specs.Mesh.{Mesh, none}
use Rattle.built_meshes.specs.Lists.{Lists}
use Rattle.built_meshes.specs.Building.{build}
use Rattle.built_meshes.specs.Grounds.{HasFewRows}
use Rattle.built_meshes.specs.declared.Ground.{Ground}
use Rattle.whole_grounds.specs.Turning.{lists_met}

abbrev pub RefusesBy : Type 0
RefusesBy =
    (c : Sizes) (l : Lists) (m : Mesh) → c.faces ≤ none → ¬ HasFewRows l m → (g : Ground) →
    ((build c l m).answer ≡ Err g) ↔ (lists_met c l ≡ Err g)

abbrev pub AcceptsNone : Type 0
AcceptsNone =
    (c : Sizes) (l : Lists) (m : Mesh) → c.faces ≤ none → ¬ HasFewRows l m →
    ((k : Counts) × ((build c l m).answer ≡ Ok k)) ↔ (lists_met c l ≡ Ok tt)
