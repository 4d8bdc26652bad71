-- `write_decimal` meets its contract: the digits but the last are written first. The measure is how many digits there may be.
use Rattle.mesh_answers.proofs.+write_decimal.Given as goal

abbrev pub decreases-write_decimal : goal.decreases-write_decimal
decreases-write_decimal l = l.k
