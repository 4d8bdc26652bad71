-- `listing_length` meets its contract: the words of a table take at most 21 bytes each.
use native.Mathlib.Omega.{arith}
use Prim.Native.Nat.{◌*◌}
use Rattle.listing_printing.proofs.Lengths.{words-bound}
use Rattle.listing_writing.proofs.listing_length.Goals as goal

-- src/lib.rt:38:11
pub overflow_add-result : goal.overflow_add-result
overflow_add-result c =
    let b1 = words-bound c.args.points.now (c.args.counts.points * 3) in
    let b2 = words-bound c.args.edges.now (c.args.counts.edges * 8) in
    let b3 = words-bound c.args.faces.now (c.args.counts.faces * 5) in
    omega arith

-- src/lib.rt:38:5
pub overflow_add-result-2 : goal.overflow_add-result-2
overflow_add-result-2 c =
    let b1 = words-bound c.args.points.now (c.args.counts.points * 3) in
    let b2 = words-bound c.args.edges.now (c.args.counts.edges * 8) in
    let b3 = words-bound c.args.faces.now (c.args.counts.faces * 5) in
    omega arith

-- src/lib.rt:38:27
pub overflow_add-result-3 : goal.overflow_add-result-3
overflow_add-result-3 c =
    let b1 = words-bound c.args.points.now (c.args.counts.points * 3) in
    let b2 = words-bound c.args.edges.now (c.args.counts.edges * 8) in
    let b3 = words-bound c.args.faces.now (c.args.counts.faces * 5) in
    omega arith

-- src/lib.rt:38:5
pub overflow_add-result-4 : goal.overflow_add-result-4
overflow_add-result-4 c =
    let b1 = words-bound c.args.points.now (c.args.counts.points * 3) in
    let b2 = words-bound c.args.edges.now (c.args.counts.edges * 8) in
    let b3 = words-bound c.args.faces.now (c.args.counts.faces * 5) in
    omega arith

-- src/lib.rt:38:43
pub overflow_add-result-5 : goal.overflow_add-result-5
overflow_add-result-5 c =
    let b1 = words-bound c.args.points.now (c.args.counts.points * 3) in
    let b2 = words-bound c.args.edges.now (c.args.counts.edges * 8) in
    let b3 = words-bound c.args.faces.now (c.args.counts.faces * 5) in
    omega arith

-- src/lib.rt:38:5
pub overflow_add-result-6 : goal.overflow_add-result-6
overflow_add-result-6 c =
    let b1 = words-bound c.args.points.now (c.args.counts.points * 3) in
    let b2 = words-bound c.args.edges.now (c.args.counts.edges * 8) in
    let b3 = words-bound c.args.faces.now (c.args.counts.faces * 5) in
    omega arith
