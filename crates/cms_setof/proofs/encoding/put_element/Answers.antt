use Rattle.std.proofs.Common.{◌++◌, ap, ◌∙◌}
use Rattle.std.proofs.lemmas.List.{append-nil}
use Rattle.std.proofs.lemmas.Result.{on_ok_weaker}
use Rattle.cms_fields.specs.Assembly.{unmarked}
use Rattle.cms_setof.proofs.encoding.put_element.Goals as goal

pub returns-in_ok-into_octets-in-Ok-clause-ok : goal.returns-in_ok-into_octets-in-Ok-clause-ok
returns-in_ok-into_octets-in-Ok-clause-ok g c =
    let h = c.in-Ok.ensures.ok in
    let octets = unmarked h.octets in
    let e = c.in_ok-into_octets-in-Ok.ensures ∙ (h.put.0 ∙ (ap (λ z. octets ++ z) (c.in_ok-sink.ensures c.args.kept.now) ∙ append-nil octets)) in
    on_ok_weaker c.append.result (λ p. record {
      octets = octets;
      appended = p ∙ ap (λ z. c.args.out.now.items ++ z) e;
      written = h.written;
    }) c.append.ensures.ok
