use Rattle.std.proofs.Common.{◌≡◌, ◌++◌, length, map, ap, ◌∙◌, arith}
use Rattle.cms_tlv.specs.Spelling.{join}
use Rattle.cms_fields.specs.Assembly.{unmarked, join_marked}
use Rattle.cms_fields.proofs.AssemblyLaws.{octets_joined, length_octets}
use Rattle.cms_setof.specs.Gathering.{octets_of_parts}
use Rattle.cms_setof.proofs.RowLaws.{sorted_marked}
use Rattle.cms_setof.proofs.SortedRows.{same_length}
use Rattle.cms_setof.proofs.gathering.GatheringSink.sort.Goals as goal

pub returns-clause-ok : goal.returns-clause-ok
returns-clause-ok c = λ s frames e d p.
    let before = octets_of_parts c.args.kept.now s.gathered in
    let joined = octets_joined frames in
    let m = length_octets (join_marked frames) in
    let n : c.saturating_sub-n.result ≡ length (join (map unmarked frames)) = omega (arith, c.saturating_sub-n.ensures, e, p.1, ap length joined, m) in
    let r = c.in_ok-sort_first.ensures (map unmarked frames) before d n (p.0 ∙ ap (λ z. z ++ before) joined) in
    let o = sorted_marked frames r.1 in
    let l = same_length frames o.0 o.1 in record {
      sorted = o.0;
      permutation = o.1;
      ascends = o.2;
      put = (r.2 ∙ ap (λ z. z ++ before) o.3, omega (arith, p.1, l));
    }
