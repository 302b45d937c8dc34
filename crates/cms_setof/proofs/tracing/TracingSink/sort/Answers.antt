use Rattle.std.proofs.Common.{◌≡◌, length, arith}
use Rattle.cms_fields.specs.Assembly.{join_marked}
use Rattle.cms_setof.specs.internal.Tracing.{stacked}
use Rattle.cms_setof.proofs.SortedRows.{same_length}
use Rattle.cms_setof.proofs.tracing.TracingSink.sort.Goals as goal

pub returns-clause-ok : goal.returns-clause-ok
returns-clause-ok c = λ s frames e d p.
    let n : c.saturating_sub-n.result ≡ length (join_marked frames) = omega (arith, c.saturating_sub-n.ensures, e, p.1) in
    let r = c.in_ok-sort_first.ensures frames (stacked c.args.kept.now s.pieces.items) d n p.0 in
    let l = same_length frames r.0 r.1 in record {
      sorted = r.0;
      permutation = r.1;
      ascends = r.2;
      put = (r.3, omega (arith, p.1, l));
    }
