-- mend_by_lists meets its contract: the answer to the lists is that to the text.
use mathlib.Core.Path.{refl}
use Rattle.text_rewriting.proofs.Laws.{can-mend, refused, twisted}
use borrow.Author.Rules.{rules}
use Rattle.text_rewriting.proofs.mend_by_lists.Goals as goal

pub rewrite_faces-requires : goal.rewrite_faces-requires
rewrite_faces-requires c =
    can-mend c.args.text.now c.args.coordinates.now c.args.sides.now c.args.firsts.now c.args.listed.now c.args.beside.now
    c.requires c.find_turns.new.turned c.find_turns.ensures.value c.find_turns.ensures.turns_if
    (search rules) c.in-Ok.is

pub shape_of-text : goal.shape_of-text
shape_of-text c =
    c.rewrite_faces.auto.text

pub shape_of-sides-in-Ok : goal.shape_of-sides-in-Ok
shape_of-sides-in-Ok c =
    c.rewrite_faces.auto.sides

pub shape_of-firsts-in-Ok : goal.shape_of-firsts-in-Ok
shape_of-firsts-in-Ok c =
    c.rewrite_faces.auto.firsts

pub shape_of-listed-in-Ok : goal.shape_of-listed-in-Ok
shape_of-listed-in-Ok c =
    c.rewrite_faces.auto.listed

pub shape_of-beside-in-Ok : goal.shape_of-beside-in-Ok
shape_of-beside-in-Ok c =
    c.rewrite_faces.auto.beside

pub shape_of-sides-in-Err-Refused : goal.shape_of-sides-in-Err-Refused
shape_of-sides-in-Err-Refused c =
    refl

pub shape_of-firsts-in-Err-Refused : goal.shape_of-firsts-in-Err-Refused
shape_of-firsts-in-Err-Refused c =
    refl

pub shape_of-listed-in-Err-Refused : goal.shape_of-listed-in-Err-Refused
shape_of-listed-in-Err-Refused c =
    refl

pub shape_of-beside-in-Err-Refused : goal.shape_of-beside-in-Err-Refused
shape_of-beside-in-Err-Refused c =
    refl

pub returns-in-Err-Refused : goal.returns-in-Err-Refused
returns-in-Err-Refused c = rw c.in-Err-Refused.field-0-is
    (refused c.args.text.now c.args.coordinates.now c.args.sides.now c.args.firsts.now c.args.listed.now
    c.args.beside.now c.requires c.find_turns.ensures.value (rw c.in-Err-Refused.field-0-is at c.in-Err-Refused.is))

pub shape_of-sides-in-Err-Twisted : goal.shape_of-sides-in-Err-Twisted
shape_of-sides-in-Err-Twisted c =
    refl

pub shape_of-firsts-in-Err-Twisted : goal.shape_of-firsts-in-Err-Twisted
shape_of-firsts-in-Err-Twisted c =
    refl

pub shape_of-listed-in-Err-Twisted : goal.shape_of-listed-in-Err-Twisted
shape_of-listed-in-Err-Twisted c =
    refl

pub shape_of-beside-in-Err-Twisted : goal.shape_of-beside-in-Err-Twisted
shape_of-beside-in-Err-Twisted c =
    refl

pub returns-in-Err-Twisted : goal.returns-in-Err-Twisted
returns-in-Err-Twisted c = twisted c.args.text.now c.args.coordinates.now c.args.sides.now c.args.firsts.now
    c.args.listed.now c.args.beside.now c.requires c.find_turns.ensures.value
    (rw c.in-Err-Twisted.field-0-is at c.in-Err-Twisted.is)
