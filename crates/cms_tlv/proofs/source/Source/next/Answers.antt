use Rattle.std.proofs.Common.{arith}
use Rattle.std.proofs.lemmas.Result.{err_from_is_err_and}
use Rattle.cms_tlv.specs.Reading.{octet_of}
use Rattle.cms_tlv.proofs.OctetGives.{stops, octet_as, next_gave}
use Rattle.cms_tlv.proofs.source.Source.next.Goals as goal

pub returns-in_err-octet-clause-refines : goal.returns-in_err-octet-clause-refines
returns-in_err-octet-clause-refines g c =
    let p = err_from_is_err_and c.from_residual.result c.from_residual.ensures.1 in
    let k = c.in_err-octet.ensures.err in
    rw (p.1, p.2) (stops c.args.end (octet_of c.args.end) (octet_as c.args.end) c.in_err-octet.field-0.0 c.args.self.now c.look.new.self
    c.requires c.in_err-octet.ensures.looked k.0 k.1 k.2)

pub returns-clause-refines : goal.returns-clause-refines
returns-clause-refines g c =
    let e = c.in_ok-octet.ensures in
    next_gave c.args.end c.args.self.now c.look.new.self c.consume.new.self c.in_ok-octet.octet e.looked e.ok.0 c.requires e.ok.1
    (omega arith) e.before_end.0 e.before_end.1 c.consume.ensures
