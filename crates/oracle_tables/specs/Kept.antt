-- Tables that still have what they were filled with.
--     kept t     all of the tables t is as filled
use Rattle.std.specs.Prelude.{Bool, ◌&&◌}
use Rattle.filled_rows.specs.Filled.{kept_words, kept_numbers}
use Rattle.oracle_tables.specs.declared.held.Tables.{Tables}

abbrev pub kept : Tables → Bool
kept t =
    kept_numbers t.positions && (kept_words t.points && (kept_words t.edges && (kept_numbers t.intervals && kept_words t.faces)))
