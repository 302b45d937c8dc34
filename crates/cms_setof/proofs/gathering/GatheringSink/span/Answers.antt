use Rattle.std.proofs.Common.{◌+◌, ◌++◌, length, ap, ◌∙◌}
use Rattle.std.proofs.lemmas.Result.{on_ok_weaker}
use Rattle.cms_tlv.specs.Spans.{octets_in}
use Rattle.cms_fields.specs.Assembly.{copied, made}
use Rattle.cms_fields.proofs.AssemblyLaws.{octets_marked, length_marked}
use Rattle.cms_setof.specs.Gathering.{octets_of_parts}
use Rattle.cms_setof.proofs.gathering.GatheringSink.span.Goals as goal

pub returns-clause-ok : goal.returns-clause-ok
returns-clause-ok c =
    let k = c.args.kept.now in
    let old = c.args.self.now in
    let octets = octets_in k c.args.span.start c.args.span.end in
    rw (octets_marked copied octets, length_marked copied octets) (on_ok_weaker c.octets-2.result (λ p. (
      p.0 ∙ ap (λ z. z ++ octets_of_parts k old.gathered) (octets_marked made c.octets.result.now ∙ c.octets.ensures),
      p.1 ∙ ap (λ n. old.count + n) (length_marked made c.octets.result.now ∙ ap length c.octets.ensures),
    )) c.octets-2.ensures.ok)
