use Rattle.std.proofs.Common.{◌≡◌, ◌≤◌, ◌+◌, ◌++◌, length, take, sym, ap, ◌∙◌, arith}
use Rattle.std.proofs.lemmas.List.{length-append, length-take-le}
use Rattle.std.proofs.lemmas.Result.{on_ok_weaker}
use Rattle.cms_tlv.specs.Spans.{octets_in}
use Rattle.cms_tlv.proofs.SpanLaws.{kept_up_to}
use Rattle.cms_fields.specs.Assembly.{copied}
use Rattle.cms_fields.proofs.AssemblyLaws.{octets_marked, length_marked}
use Rattle.cms_setof.proofs.comparing.ComparingSink.span.Goals as goal

pub returns-clause-ok : goal.returns-clause-ok
returns-clause-ok c =
    let k = c.args.kept.now in
    let i = c.args.span.start in
    let j = c.args.span.end in
    let octets = octets_in k i j in
    let l : i ≤ j = omega (arith, c.if-span.false) in
    let m : j ≤ length k = omega (arith, c.if-span-kept.false) in
    let at : c.args.self.now.at ≡ j = omega (arith, c.if-span-self.false) in
    let e = kept_up_to k i j l m in
    let n : length octets + i ≡ j = omega (arith, ap length e, length-append (take i k) octets, length-take-le j k m, length-take-le i k (omega arith)) in
    rw (octets_marked copied octets, length_marked copied octets) (on_ok_weaker c.go_back.result (λ h. (
      ap (λ n. take n k) at ∙ (e ∙ ap (λ n. take n k ++ octets) (sym h.0)),
      omega (arith, h.1, n),
    )) c.go_back.ensures)
