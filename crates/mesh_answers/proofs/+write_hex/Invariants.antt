-- `write_hex` meets its contract: the digits but the last are written first. The measure is the number of digits.
use Rattle.mesh_answers.proofs.+write_hex.Given as goal

abbrev pub decreases-write_hex : goal.decreases-write_hex
decreases-write_hex l = l.k
