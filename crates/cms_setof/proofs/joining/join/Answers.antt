use Rattle.cms_setof.proofs.PieceLaws.{spans_joined}
use Rattle.cms_setof.proofs.joining.join.Goals as goal

pub returns-in-Copied-Copied-clause-octets : goal.returns-in-Copied-Copied-clause-octets
returns-in-Copied-Copied-clause-octets c k has more on =
    let one = c.in-Copied-Copied.is-0 in
    let two = c.in-Copied-Copied.is-1 in
    let a = c.in-Copied-Copied.first in
    let b = c.in-Copied-Copied.second in
    rw (one, two) (spans_joined k a.start a.end b.start b.end (rw one at has) (rw two at more) (rw two at (rw one at on)))
