use Rattle.std.proofs.Common.{subst, sym}
use Rattle.cms_tlv.specs.Refines.{Refines, plain}
use Rattle.cms_tlv.specs.Reading.{Reader, rest_of_tag}
use Rattle.cms_tlv.proofs.HeaderGives.{here, gave_give, tag_low_number, tag_high_number}
use Rattle.cms_tlv.proofs.source.Source.rest_of_identifier.Goals as goal

pub returns-then-ident-eq31-clause-refines : goal.returns-then-ident-eq31-clause-refines
returns-then-ident-eq31-clause-refines g c =
    subst (λ (r : Reader (Unit {0})). Refines plain r c.args.self.now c.tag_number.new.self c.tag_number.result)
    (sym (tag_high_number c.args.end c.args.ident c.if-ident-eq31.true)) c.tag_number.ensures.refines

pub returns-clause-refines : goal.returns-clause-refines
returns-clause-refines g c =
    gave_give tt (here (rest_of_tag c.args.end c.args.ident) c.args.self.now)
    (tag_low_number c.args.end c.args.ident c.if-ident-eq31.false) c.requires.sound
