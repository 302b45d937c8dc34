use Rattle.std.proofs.Common.{◌≡◌, Some, sym, ap, ◌∙◌}
use Rattle.std.specs.Prelude.{option_map}
use Rattle.cms_tlv.specs.Spans.{octets_in}
use Rattle.cms_message.specs.Algorithms.{AlgorithmIdentifier, parameters}
use Rattle.cms_message.proofs.algorithm.AlgorithmIdentifier.parameters.Goals as goal

pub returns-in-Some : goal.returns-in-Some
returns-in-Some c =
    let k = c.self.inside.kept.now in
    let e : c.octets.result.now ≡ octets_in k c.in-Some.field-0.0.span.start c.in-Some.field-0.0.span.end = rw c.in-Some.is at c.octets.ensures in
    ap Some e ∙ (ap (option_map (λ o. octets_in k o.0.span.start o.0.span.end)) (sym c.in-Some.is)
    ∙ ap (λ (v : AlgorithmIdentifier). parameters v) c.self.view_is)

pub returns-in-None : goal.returns-in-None
returns-in-None c =
    let k = c.self.inside.kept.now in
    ap (option_map (λ o. octets_in k o.0.span.start o.0.span.end)) (sym c.in-None.is) ∙ ap (λ (v : AlgorithmIdentifier). parameters v) c.self.view_is
