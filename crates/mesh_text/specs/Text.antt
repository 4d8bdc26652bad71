-- Mesh texts 1 and 2 (document 01, "Mesh text"; document 02, §4), as a form on the bytes s of a text: a head, point lines, face lines,
-- an end line. The versions differ in the number in the head.
--     TextMesh             what a text says
--     head_form s           the head, and the version that it names
--     ends s at            the end line, which is the last
--     text s               the whole text
use Rattle.std.specs.Prelude.{List, Bool, ◌&&◌, ℕ, ◌+◌, length, eqb}
use Rattle.text_numbers.specs.Form.{bytes, Parsed, unparsed, Form, ◌>>=◌, ◌>>◌, pure, choose, stands, literal, many}
use Rattle.mesh_lines.specs.Grammar.{Side, point_form, face_form}
use Rattle.built_meshes.specs.declared.Version.{Version}
use Rattle.built_meshes.specs.declared.Version.TheVariants.{One, Two}

-- the version, the bits of three coordinates for each point, and four sides for each face
pub record TextMesh : Type 0 where
  pub version : Version
  pub points : List (List ℕ)
  pub faces : List (List Side)

module _ (s : List ℕ) where
  -- `[end]` and byte 10, the very last bytes
  unfoldable pub ends : ℕ → Bool
  ends at = stands s at (bytes "[end]\n") && eqb (at + 6) (length s)

  unfoldable pub head_form : Form Version
  head_form at =
      choose (stands s at (bytes "[mesh 1]\n")) (literal s (bytes "[mesh 1]\n") >> pure One) (literal s (bytes "[mesh 2]\n") >> pure Two) at

  unfoldable pub mesh : Form TextMesh
  mesh = do
    v ← head_form
    ps ← many s (bytes "[point") (point_form s) (length s)
    fs ← many s (bytes "[face") (face_form s) (length s)
    λ at. choose (ends at) (pure (record { version = v; points = ps; faces = fs })) (λ n. unparsed) at

  unfoldable pub text : Parsed TextMesh
  text = mesh 0
