-- runs_with meets its contract: the mate is the place before the link.
use Rattle.face_grounds.proofs.Laws.{runs-some}
use Rattle.face_grounds.proofs.runs_with.Goals as goal

-- src/lib.rt:28:1
pub returns : goal.returns
returns c =
    runs-some c.args.listed.now c.args.m c.args.k c.if-m-eq0.false
    c.index-j.result c.index-j.ensures
