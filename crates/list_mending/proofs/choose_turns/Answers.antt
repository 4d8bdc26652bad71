-- choose_turns meets its contract: the choice, with as many local elements as there are faces.
use mathlib.Core.Path.{sym, ◌∙◌}
use native.Mathlib.Omega.{arith}
use mathlib.Core.Bool.{false}
use Prim.Native.Nat.{ℕ}
use lib.ListN.{length}
use Rattle.face_choices.proofs.Laws.{mates-fit-like}
use Rattle.list_mending.proofs.Laws.{length_cut}
use Rattle.list_mending.proofs.choose_turns.Goals as goal

pub slice_bounds-choose_faces-end : goal.slice_bounds-choose_faces-end
slice_bounds-choose_faces-end c =
    length_cut (length c.args.turned.now) 4096 0
    c.requires.turned_len_bound

pub slice_bounds-choose_faces-end-2 : goal.slice_bounds-choose_faces-end-2
slice_bounds-choose_faces-end-2 c =
    length_cut (length c.args.turned.now) 4096 false
    c.requires.turned_len_bound

pub choose_faces-requires : goal.choose_faces-requires
choose_faces-requires c =
    record {
      odds_len = sym (length_cut (length c.args.turned.now) 4096 false c.requires.turned_len_bound)
          ∙ length_cut (length c.args.turned.now) 4096 0 c.requires.turned_len_bound;
      turned_len = length_cut (length c.args.turned.now) 4096 0 c.requires.turned_len_bound;
      ups_len_bound = omega (arith, c.requires.turned_len_bound, length_cut {A = ℕ} (length c.args.turned.now) 4096 0 c.requires.turned_len_bound);
      mates_fit = mates-fit-like c.args.listed.now c.args.faces.now c.args.mates.now (length c.args.turned.now) _
          (sym (length_cut (length c.args.turned.now) 4096 0 c.requires.turned_len_bound)) c.requires.mates_fit;
    }
