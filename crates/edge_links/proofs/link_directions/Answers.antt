-- link_directions meets its contract, by the laws of the table of links.
use mathlib.Core.Path.{◌∙◌, sym}
use native.Mathlib.Omega.{arith}
use Rattle.edge_links.specs.Connect.{links_of}
use Rattle.edge_links.proofs.LinkTable.{own-entry, other-entry, mismatch-of-number, both-of-numbers, links-face-past, links-vertex-past}
use Rattle.edge_links.proofs.link_directions.Goals as goal

pub returns-then-face-ge4 : goal.returns-then-face-ge4
returns-then-face-ge4 c =
    sym (links-face-past _ _ c.if-face-ge4.true)

pub returns-then-vert-ge4 : goal.returns-then-vert-ge4
returns-then-vert-ge4 c =
    sym (links-vertex-past _ _ c.if-vert-ge4.true)

pub returns-then-own-eq-NO_LINK : goal.returns-then-own-eq-NO_LINK
returns-then-own-eq-NO_LINK c =
    sym (mismatch-of-number _ (sym (own-entry _ _ (omega arith) (omega arith)) ∙ sym c.from-own.ensures ∙ c.if-own-eq-NO_LINK.true))

pub returns : goal.returns
returns c =
    let own = own-entry c.args.face c.args.vert (omega arith) (omega arith) in
    let other = other-entry c.args.face c.args.vert (omega arith) (omega arith) in
    rw (c.from_usize.ensures, c.from_usize-2.ensures, c.from-own.ensures, c.from-other.ensures, own, other)
    (both-of-numbers (links_of c.args.face c.args.vert) (λ e. c.if-own-eq-NO_LINK.false (c.from-own.ensures ∙ own ∙ e)))
