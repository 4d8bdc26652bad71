-- What a writer of bytes leaves.
--     Written out at xs r out'     the bytes xs stand in the list out' from a place on, all else is as in out, and r is the place after them
use Rattle.std.specs.Prelude.{List, ◌≡◌, ℕ, ◌+◌, length}
use Rattle.std.proofs.lemmas.List.Edits.{sets}

pub record Written (out : List ℕ) (at : ℕ) (xs : List ℕ) (r : ℕ) (out' : List ℕ) : Type 0 where
  pub place : r ≡ at + length xs
  pub list : out' ≡ sets out at xs
