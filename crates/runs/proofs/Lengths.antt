-- The laws of tables of the same lengths. Assumes nothing.
use mathlib.Core.Path.{refl, sym, ◌∙◌}
use Rattle.tables.specs.Mesh.{Mesh}
use Rattle.runs.specs.Lengths.{SameLengths}

pub lengths-refl : (m : Mesh) → SameLengths m m
lengths-refl m = record { positions = refl; points = refl; edges = refl; intervals = refl; faces = refl }

pub lengths-sym : {m m' : Mesh} → SameLengths m m' → SameLengths m' m
lengths-sym a =
    record { positions = sym a.positions; points = sym a.points; edges = sym a.edges; intervals = sym a.intervals; faces = sym a.faces }

pub lengths-trans : {m m' m'' : Mesh} → SameLengths m m' → SameLengths m' m'' → SameLengths m m''
lengths-trans a b =
    record {
      positions = a.positions ∙ b.positions;
      points = a.points ∙ b.points;
      edges = a.edges ∙ b.edges;
      intervals = a.intervals ∙ b.intervals;
      faces = a.faces ∙ b.faces;
    }
