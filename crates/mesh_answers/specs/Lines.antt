-- The lines of an answer (document 01, "Mesh text"), as bytes.
--     decimal_bytes n       a number below 2^64 in decimal digits, with no leading zero
--     hex_bytes k n         a number in k lower-case hexadecimal digits
--     mesh_line p e f       how many points, edges and faces before the step
--     step_line p e f       how many points, edges and faces after the step
--     at_line x y z         where point 0 is after the step, by the bits of its coordinates
--     refused_line n        the ground of a refusal
use Rattle.std.specs.Prelude.{List, [], ◌∷◌, ◌++◌, cond, ℕ, zero, suc, ◌+◌, ◌/◌, ◌%◌, ltb}
use Rattle.text_numbers.specs.Form.{bytes}

-- the last k decimal digits of n, but no zero in front
unfoldable pub decimal_digits : ℕ → ℕ → List ℕ
decimal_digits zero n = []
decimal_digits (suc k) n = cond (ltb n 10) ((48 + n) ∷ []) (decimal_digits k (n / 10) ++ ((48 + n % 10) ∷ []))

abbrev pub decimal_bytes : ℕ → List ℕ
decimal_bytes n = decimal_digits 20 n

unfoldable pub hex_byte : ℕ → ℕ
hex_byte d = cond (ltb d 10) (48 + d) (87 + d)

unfoldable pub hex_bytes : ℕ → ℕ → List ℕ
hex_bytes zero n = []
hex_bytes (suc k) n = hex_bytes k (n / 16) ++ (hex_byte (n % 16) ∷ [])

-- a space and a number
abbrev pub number_field : ℕ → List ℕ
number_field n = bytes " " ++ decimal_bytes n

-- a space and the bits of a binary64
abbrev pub bits_field : ℕ → List ℕ
bits_field b = bytes " " ++ hex_bytes 16 b

-- three fields after a head
abbrev pub three_fields : List ℕ → List ℕ → List ℕ → List ℕ → List ℕ
three_fields t a b c = (((t ++ a) ++ b) ++ c) ++ bytes "]\n"

abbrev pub mesh_line : ℕ → ℕ → ℕ → List ℕ
mesh_line p e f = three_fields (bytes "[mesh") (number_field p) (number_field e) (number_field f)

abbrev pub step_line : ℕ → ℕ → ℕ → List ℕ
step_line p e f = three_fields (bytes "[step") (number_field p) (number_field e) (number_field f)

abbrev pub at_line : ℕ → ℕ → ℕ → List ℕ
at_line x y z = three_fields (bytes "[at 0") (bits_field x) (bits_field y) (bits_field z)

abbrev pub refused_line : ℕ → List ℕ
refused_line n = (bytes "[refused" ++ number_field n) ++ bytes "]\n"
