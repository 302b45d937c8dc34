use Rattle.std.proofs.Common.{◌+◌, ap, sym, ◌∙◌}
use Rattle.cms_setof.proofs.RowLaws.{can_ascend}
use Rattle.cms_setof.proofs.SortedRows.{same_length}
use Rattle.cms_setof.proofs.count.CountSink.sort.Goals as goal

pub returns-clause-ok : goal.returns-clause-ok
returns-clause-ok c = λ s frames e f a.
    let o = can_ascend frames f in record {
      sorted = o.0;
      permutation = o.1;
      ascends = o.2;
      put = c.forget_after.ensures ∙ (a ∙ ap (λ n. s.octets + n) (sym (same_length frames o.0 o.1)));
    }
