-- put_first_four meets its contract: each store is one point more.
use mathlib.Core.Path.{refl}
use Rattle.walks.proofs.Laws.{four-again}
use Rattle.t_nurcc_face.proofs.put_first_four.Goals as goal

pub returns : goal.returns
returns c =
    λ ps qs q long e. four-again ps qs c.args.n c.requires.n_le_longest_perimeter c.requires.n_nonzero q long _ _ _ _ _ e refl refl refl refl
