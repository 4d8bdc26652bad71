-- Further records that code loads from the tables and stores in them.
--     place_of p                    what a place takes in the table of positions
--     point_at ps ws p              the control point p
--     edge_words_at es e             all of the edge e but its interval, which is +0
use Rattle.std.specs.Prelude.{List, [], ◌∷◌, ℕ, ◌+◌, ◌*◌, get_or, Float}
use Rattle.std.specs.Float.{binary64}
use Rattle.std.specs.Float.Ieee.{of_bits}
use Rattle.positions.specs.declared.Position.{Position}
use Rattle.t_spline.specs.declared.TnurccControlPoint.{TnurccControlPoint}
use Rattle.t_spline.specs.declared.TnurccEdge.{TnurccEdge}
use Rattle.tables.specs.Layout.{point_width, start_word, mark_word}
use Rattle.tables.specs.Records.{position_at, edge_over}

abbrev pub place_of : Position → List Float
place_of p = p.x ∷ p.y ∷ p.z ∷ []

abbrev pub point_at : List Float → List ℕ → ℕ → TnurccControlPoint
point_at ps ws p =
    record {
      point = position_at ps p;
      valence = get_or ws (p * point_width) 0;
      incoming_edge = get_or ws (p * point_width + start_word) 0;
      extraordinary = get_or ws (p * point_width + mark_word) 0;
    }

abbrev pub edge_words_at : List ℕ → ℕ → TnurccEdge
edge_words_at es e = edge_over es (of_bits binary64 0) e
