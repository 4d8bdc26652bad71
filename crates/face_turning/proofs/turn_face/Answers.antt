-- turn_face meets its contract: the face is left, or its four lists are put into opposite order.
use mathlib.Core.List.{[]}
use lib.Ieee.{nan}
use Rattle.built_meshes.specs.declared.Version.TheVariants.{Two}
use Rattle.building_tests.specs.Lent.{lists_in}
use Rattle.face_turning.proofs.Moves.{face-left, face-turned}
use Rattle.face_turning.proofs.turn_face.Goals as goal

pub returns-then-not-turned : goal.returns-then-not-turned
returns-then-not-turned c =
    face-left c.args.turned c.args.f c.args.a c.args.n
    (lists_in Two [] c.args.sides.now c.args.firsts.now c.args.listed.now c.args.beside.now)
    (c.if-not-turned.true)

pub returns : goal.returns
returns c =
    face-turned c.args.turned c.args.f c.args.a c.args.n c.saturating_sub-m.result
    (lists_in Two [] c.args.sides.now c.args.firsts.now c.args.listed.now c.args.beside.now)
    (lists_in Two [] c.reverse_within.new.items c.reverse_within-2.new.items c.reverse_within-3.new.items
    c.reverse_within-4.new.items) (c.if-not-turned.false)
    c.saturating_sub-m.ensures (c.reverse_within.ensures 0) (c.reverse_within-2.ensures 0) (c.reverse_within-3.ensures 0)
    (c.reverse_within-4.ensures nan)
