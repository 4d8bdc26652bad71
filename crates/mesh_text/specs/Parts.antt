-- How counting the whole text answers. The contract of the reader names none of this.
--     length_words m        of each side, how many points it lists, as a word of 32 bits
--     head_of x total_of x   the answers to what was found
use Rattle.std.specs.Prelude.{List, map, ℕ, Option, Some, None}
use Rattle.text_numbers.specs.Form.{Parsed, if_parsed}
use Rattle.mesh_lines.specs.Grammar.{flat}
use Rattle.mesh_lines.specs.Parts.{length_word}
use Rattle.mesh_text.specs.Text.{TextMesh}
use Rattle.mesh_text.specs.Reading.{counts}
use Rattle.tables.specs.declared.Sizes.{Sizes}
use Rattle.built_meshes.specs.declared.Version.{Version}

abbrev pub length_words : TextMesh → List ℕ
length_words m = flat (map length_word) m.faces

abbrev pub head_of : Parsed Version → Option Version
head_of x = if_parsed (λ v n. Some v) None x

abbrev pub total_of : Parsed TextMesh → Option (Version × Sizes)
total_of x = if_parsed (λ m n. Some (m.version, counts m)) None x
