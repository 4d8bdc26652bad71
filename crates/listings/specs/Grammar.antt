-- The handover listing as a form on the bytes s of a text: a head, point lines, edge lines, face lines, an end line.
--     word_form s            a space and a decimal number
--     point_row_form edge_row_form face_row_form s  a line after its head
--     rows s                the whole text
--     listing s             the rows of a text, or that it is not of the form
use Rattle.std.specs.Prelude.{List, [], ℕ, length, ltb}
use Rattle.text_numbers.specs.Form.{bytes, Parsed, unparsed, Form, ◌>>=◌, ◌>>◌, pure, choose, times, literal, many}
use Rattle.text_numbers.specs.Numbers.{decimal}
use Rattle.mesh_lines.specs.Grammar.{coordinate_form}
use Rattle.mesh_text.specs.Text.{ends}
use Rattle.listings.specs.Printing.{ListedRow, ListedRows, last}

module _ (s : List ℕ) where
  unfoldable pub word_form : Form ℕ
  word_form = literal s (bytes " ") >> decimal s

  -- after `[point`; the last word, the mark, is 0 or 1
  unfoldable pub point_row_form : Form ListedRow
  point_row_form = do
    xs ← times 3 (coordinate_form s)
    ws ← times 3 word_form
    choose (ltb (last 0 ws) 2) (literal s (bytes "]\n")) (λ at. unparsed)
    pure (record { numbers = xs; words = ws })

  -- after `[edge`
  unfoldable pub edge_row_form : Form ListedRow
  edge_row_form = do
    ws ← times 8 word_form
    xs ← times 1 (coordinate_form s)
    literal s (bytes "]\n")
    pure (record { numbers = xs; words = ws })

  -- after `[face`
  unfoldable pub face_row_form : Form ListedRow
  face_row_form = do
    ws ← times 5 word_form
    literal s (bytes "]\n")
    pure (record { numbers = []; words = ws })

  unfoldable pub rows : Form ListedRows
  rows = do
    literal s (bytes "[mesh 3]\n")
    ps ← many s (bytes "[point") point_row_form (length s)
    es ← many s (bytes "[edge") edge_row_form (length s)
    fs ← many s (bytes "[face") face_row_form (length s)
    λ at. choose (ends s at) (pure (record { points = ps; edges = es; faces = fs })) (λ n. unparsed) at

  unfoldable pub listing : Parsed ListedRows
  listing = rows 0
