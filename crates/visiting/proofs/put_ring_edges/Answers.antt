-- put_ring_edges meets its contract: three loops, one after the other.
use Rattle.ring_rows.specs.Rings.{ring}
use Rattle.refined_meshes.specs.Ring.{put_first, put_second}
use Rattle.refined_meshes.specs.Turns.{turns}
use Rattle.tables.specs.Parts.{face_tables}
use native.Mathlib.Omega.{arith}
use mathlib.Core.List.{[]}
use mathlib.Core.Path.{◌∙◌, ap}
use Rattle.visiting.proofs.put_ring_edges.Goals as goal

pub put_firsts-requires : goal.put_firsts-requires
put_firsts-requires c =
    record { small = c.requires.small; edges_there = c.requires.edges_there; edges_there_2 = λ i l. omega (arith, c.requires.edges_there_2 i l) }

pub put_seconds-requires : goal.put_seconds-requires
put_seconds-requires c =
    record { small = c.requires.small; edges_there = c.requires.edges_there; edges_there_2 = λ i l. omega (arith, c.requires.edges_there_3 i l) }

pub returns : goal.returns
returns c =
    λ ps fs k.
    let r = ring c.args.rows c.args.perimeter.now c.args.firsts.now c.args.seconds.now c.args.mids.now c.args.found.now in
    let m = face_tables c.args.edges.now [] in
    c.put_seconds.ensures c.args.mids.now ps fs c.args.found.now c.put_joins.new.intervals k
    ∙ ap (turns c.args.rows.size (put_second m r))
    (c.put_firsts.ensures c.args.mids.now ps fs c.args.found.now
    c.put_joins.new.intervals k
    ∙ ap (turns c.args.rows.size (put_first m r)) (c.put_joins.ensures c.args.perimeter.now ps fs k))
