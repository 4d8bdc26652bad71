-- rewrite_faces meets its contract: the lists are turned, and their lines stand where those of the text stood.
use mathlib.Core.Path.{refl}
use native.Mathlib.Omega.{arith}
use Rattle.text_rewriting.proofs.Laws.{turn-room, few-points, write-room, rewritten}
use Rattle.text_rewriting.proofs.rewrite_faces.Goals as goal

pub turn_faces-requires : goal.turn_faces-requires
turn_faces-requires c =
    let h = turn-room c.args.text.now c.args.coordinates.now c.args.sides.now c.args.firsts.now c.args.listed.now
    c.args.beside.now c.args.turned.now c.requires in
    record { fitting = h.0; sides_len_bound = h.1; sides_in_bounds = h.2; listed_len_bound = h.3 }

pub overflow_mul-at : goal.overflow_mul-at
overflow_mul-at c =
    let few = few-points c.args.text.now c.args.coordinates.now c.args.sides.now c.args.firsts.now c.args.listed.now c.args.beside.now c.args.turned.now c.requires in
    omega arith

pub overflow_add-at : goal.overflow_add-at
overflow_add-at c =
    let few = few-points c.args.text.now c.args.coordinates.now c.args.sides.now c.args.firsts.now c.args.listed.now c.args.beside.now c.args.turned.now c.requires in
    omega arith

pub write_face_lines-requires : goal.write_face_lines-requires
write_face_lines-requires c =
    let whole = write-room c.args.text.now c.args.coordinates.now c.args.sides.now c.args.firsts.now c.args.listed.now c.args.beside.now
    c.args.turned.now c.requires c.turn_faces.ensures _ refl in record { printing_rooms = whole.0; beside_in_bounds = whole.1 }

pub shape_of-text : goal.shape_of-text
shape_of-text c =
    c.write_face_lines.auto.out

pub shape_of-sides : goal.shape_of-sides
shape_of-sides c =
    c.turn_faces.auto.sides

pub shape_of-firsts : goal.shape_of-firsts
shape_of-firsts c =
    c.turn_faces.auto.firsts

pub shape_of-listed : goal.shape_of-listed
shape_of-listed c =
    c.turn_faces.auto.listed

pub shape_of-beside : goal.shape_of-beside
shape_of-beside c =
    c.turn_faces.auto.beside

pub returns : goal.returns
returns c =
    rewritten c.args.text.now c.args.coordinates.now c.args.sides.now c.args.firsts.now c.args.listed.now c.args.beside.now
    c.args.turned.now c.requires c.turn_faces.ensures _ refl c.write_face_lines.ensures
