-- mend_places meets its contract: the places spread, the faces paired, then the choice.
use mathlib.Core.Path.{◌∙◌}
use native.Mathlib.Omega.{arith}
use Rattle.list_mending.proofs.Laws.{fitted, pairing-room, mates-ready, refused_end, twisted-end, mended-end}
use Rattle.list_mending.proofs.mend_places.Goals as goal

pub spread-requires : goal.spread-requires
spread-requires c =
    let fit = fitted c.args.coordinates.now c.args.sides.now c.args.firsts.now c.args.listed.now c.args.beside.now
    c.requires.beside_value in
    record {
      sides_len_bound = fit.faces-few;
      sides_value = fit.all_listed;
      listed_in_bounds = c.requires.turning_room.tos-fit;
      listed_in_bounds_2 = c.requires.turning_room.faces-fit;
      listed_len_bound = fit.listed-few;
    }

pub pair_faces-requires : goal.pair_faces-requires
pair_faces-requires c =
    let fit = fitted c.args.coordinates.now c.args.sides.now c.args.firsts.now c.args.listed.now
    c.args.beside.now c.requires.beside_value in record {
      pairing_room = pairing-room c.args.coordinates.now c.args.sides.now c.args.firsts.now c.args.listed.now
          c.args.beside.now fit c.spread.new.tos c.args.mates.now
          (omega (arith, c.spread.auto.tos, c.requires.turning_room.tos-fit)) c.requires.turning_room.mates-fit;
      tos_shown = c.spread.ensures.to;
    }

pub choose_turns-requires : goal.choose_turns-requires
choose_turns-requires c =
    let fit = fitted c.args.coordinates.now c.args.sides.now c.args.firsts.now c.args.listed.now
    c.args.beside.now c.requires.beside_value in record {
      turned_len_bound = omega (arith, c.requires.turning_room.turned-fit, fit.faces-few);
      mates_fit = mates-ready c.args.coordinates.now c.args.sides.now c.args.firsts.now c.args.listed.now c.args.beside.now
          fit c.spread.new.tos c.spread.new.faces c.pair_faces.new.mates
          (c.pair_faces.auto.mates ∙ c.requires.turning_room.mates-fit) c.spread.ensures c.pair_faces.result c.pair_faces.ensures.value c.in-Ok.is
          c.pair_faces.ensures.mates_if _ c.requires.turning_room.turned-fit (omega (arith, c.spread.auto.faces, c.requires.turning_room.faces-fit));
    }

pub shape_of-tos-then-choose_turns : goal.shape_of-tos-then-choose_turns
shape_of-tos-then-choose_turns c =
    c.spread.auto.tos

pub shape_of-faces-then-choose_turns : goal.shape_of-faces-then-choose_turns
shape_of-faces-then-choose_turns c =
    c.spread.auto.faces

pub shape_of-mates-then-choose_turns : goal.shape_of-mates-then-choose_turns
shape_of-mates-then-choose_turns c =
    c.pair_faces.auto.mates

pub shape_of-turned-then-choose_turns : goal.shape_of-turned-then-choose_turns
shape_of-turned-then-choose_turns c =
    c.choose_turns.auto.turned

pub returns-then-choose_turns : goal.returns-then-choose_turns
returns-then-choose_turns c =
    let fit = fitted c.args.coordinates.now c.args.sides.now c.args.firsts.now c.args.listed.now
    c.args.beside.now c.requires.beside_value in let whole = twisted-end c.args.coordinates.now c.args.sides.now c.args.firsts.now c.args.listed.now c.args.beside.now
    fit c.spread.new.tos c.spread.new.faces c.pair_faces.new.mates
    (c.pair_faces.auto.mates ∙ c.requires.turning_room.mates-fit) c.spread.ensures c.pair_faces.result c.pair_faces.ensures.value c.in-Ok.is
    c.pair_faces.ensures.mates_if c.choose_turns.new.turned c.choose_turns.result c.choose_turns.ensures c.if-choose_turns.true in record { value = whole.0; turns_if = whole.1 }

pub shape_of-tos-in-Err : goal.shape_of-tos-in-Err
shape_of-tos-in-Err c =
    c.spread.auto.tos

pub shape_of-faces-in-Err : goal.shape_of-faces-in-Err
shape_of-faces-in-Err c =
    c.spread.auto.faces

pub shape_of-mates-in-Err : goal.shape_of-mates-in-Err
shape_of-mates-in-Err c =
    c.pair_faces.auto.mates

pub returns-in-Err : goal.returns-in-Err
returns-in-Err c =
    let whole = refused_end c.args.coordinates.now c.args.sides.now c.args.firsts.now c.args.listed.now c.args.beside.now
    c.pair_faces.result c.pair_faces.ensures.value c.args.turned.now c.in-Err.g c.in-Err.is in record { value = whole.0; turns_if = whole.1 }

pub shape_of-tos-else-choose_turns : goal.shape_of-tos-else-choose_turns
shape_of-tos-else-choose_turns c =
    c.spread.auto.tos

pub shape_of-faces-else-choose_turns : goal.shape_of-faces-else-choose_turns
shape_of-faces-else-choose_turns c =
    c.spread.auto.faces

pub shape_of-mates-else-choose_turns : goal.shape_of-mates-else-choose_turns
shape_of-mates-else-choose_turns c =
    c.pair_faces.auto.mates

pub shape_of-turned : goal.shape_of-turned
shape_of-turned c =
    c.choose_turns.auto.turned

pub returns-else-choose_turns : goal.returns-else-choose_turns
returns-else-choose_turns c =
    let fit = fitted c.args.coordinates.now c.args.sides.now c.args.firsts.now c.args.listed.now
    c.args.beside.now c.requires.beside_value in let whole = mended-end c.args.coordinates.now c.args.sides.now c.args.firsts.now c.args.listed.now c.args.beside.now
    fit c.spread.new.tos c.spread.new.faces c.pair_faces.new.mates
    (c.pair_faces.auto.mates ∙ c.requires.turning_room.mates-fit) c.spread.ensures c.pair_faces.result c.pair_faces.ensures.value c.in-Ok.is
    c.pair_faces.ensures.mates_if c.choose_turns.new.turned c.choose_turns.result c.choose_turns.ensures c.if-choose_turns.false
    (c.choose_turns.auto.turned ∙ c.requires.turning_room.turned-fit) in record { value = whole.0; turns_if = whole.1 }
