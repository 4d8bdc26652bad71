-- join_place meets its contract: with no mate nothing is joined, else the faces of the two places are.
use native.Mathlib.Omega.{arith}
use mathlib.Core.Path.{sym, ◌∙◌}
use Prim.Native.Nat.{◌-◌}
use Rattle.face_choices.proofs.Laws.{join-none, join-mate}
use Rattle.face_choices.proofs.join_place.Goals as goal

pub returns-then-m-eq0 : goal.returns-then-m-eq0
returns-then-m-eq0 c =
    join-none c.args.listed.now c.args.faces.now c.args.mates.now c.args.k c.args.ups.now c.args.odds.now
    c.requires.falling (sym c.index-m.ensures ∙ c.if-m-eq0.true)

pub offset_bounds-faces-j : goal.offset_bounds-faces-j
offset_bounds-faces-j c =
    omega (
      arith,
      c.index-m.ensures,
      c.if-m-eq0.false,
      c.requires.mates_fit.faces-like,
      c.requires.mates_fit.before c.args.k c.requires.k_in_bounds,
      c.requires.k_in_bounds,
    )

pub bounds-faces-j : goal.bounds-faces-j
bounds-faces-j c =
    omega (
      arith,
      c.index-m.ensures,
      c.if-m-eq0.false,
      c.requires.mates_fit.faces-like,
      c.requires.mates_fit.before c.args.k c.requires.k_in_bounds,
      c.requires.k_in_bounds,
    )

pub offset_bounds-listed-j : goal.offset_bounds-listed-j
offset_bounds-listed-j c =
    omega (
      arith,
      c.index-m.ensures,
      c.if-m-eq0.false,
      c.requires.mates_fit.listed-like,
      c.requires.mates_fit.before c.args.k c.requires.k_in_bounds,
      c.requires.k_in_bounds,
    )

pub bounds-listed-j : goal.bounds-listed-j
bounds-listed-j c =
    omega (
      arith,
      c.index-m.ensures,
      c.if-m-eq0.false,
      c.requires.mates_fit.listed-like,
      c.requires.mates_fit.before c.args.k c.requires.k_in_bounds,
      c.requires.k_in_bounds,
    )

pub join-requires : goal.join-requires
join-requires c =
    record {
      falling = c.requires.falling;
      f_in_bounds = c.requires.mates_fit.face-below (c.index-m.result - 1)
          (omega (
            arith,
            c.index-m.ensures,
            c.if-m-eq0.false,
            c.requires.mates_fit.before c.args.k c.requires.k_in_bounds,
            c.requires.k_in_bounds,
          ));
      g_in_bounds = c.requires.mates_fit.face-below c.args.k c.requires.k_in_bounds;
    }

pub returns : goal.returns
returns c =
    join-mate c.args.listed.now c.args.faces.now c.args.mates.now c.args.k (c.index-m.result - 1) c.args.ups.now
    c.args.odds.now c.join.new.ups c.join.new.odds c.join.result
    (omega (arith, c.index-m.ensures, c.if-m-eq0.false, c.requires.mates_fit.before c.args.k c.requires.k_in_bounds, c.requires.k_in_bounds))
    (omega (arith, c.index-m.ensures, c.if-m-eq0.false, c.requires.mates_fit.before c.args.k c.requires.k_in_bounds, c.requires.k_in_bounds)) c.join.ensures
