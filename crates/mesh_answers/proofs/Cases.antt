-- The lines computed: those of document 01 for the cube, a refusal, and the smallest and the largest numbers.
use mathlib.Core.Path.{◌≡◌, refl}
use Rattle.text_numbers.specs.Form.{bytes}
use Rattle.mesh_answers.specs.Lines.{decimal_digits, decimal_bytes, hex_byte, hex_bytes, mesh_line, step_line, at_line, refused_line}

before : mesh_line 8 12 6 ≡ bytes "[mesh 8 12 6]\n"
unfolding decimal_digits
before = refl

after : step_line 26 48 24 ≡ bytes "[step 26 48 24]\n"
unfolding decimal_digits
after = refl

corner : at_line 0xbfdc71c71c71c71c 0xbfdc71c71c71c71c 0xbfdc71c71c71c71c ≡ bytes "[at 0 bfdc71c71c71c71c bfdc71c71c71c71c bfdc71c71c71c71c]\n"
unfolding hex_byte hex_bytes
corner = refl

refusal : refused_line 33 ≡ bytes "[refused 33]\n"
unfolding decimal_digits
refusal = refl

smallest : decimal_bytes 0 ≡ bytes "0"
unfolding decimal_digits
smallest = refl

largest : decimal_bytes 18446744073709551615 ≡ bytes "18446744073709551615"
unfolding decimal_digits
largest = refl
