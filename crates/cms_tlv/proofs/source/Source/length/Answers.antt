use Rattle.std.proofs.Common.{inr, ◌<◌, arith, subst, sym}
use Rattle.cms_tlv.specs.declared.bound.Header.{Header}
use Rattle.cms_tlv.specs.declared.fault.Reason.TheVariants.{LengthReserved, LengthTooLong}
use Rattle.cms_tlv.specs.Refines.{Refines, plain}
use Rattle.cms_tlv.specs.Reading.{Reader, after_first}
use Rattle.cms_tlv.proofs.HeaderGives.{here, refused_as, first_short, first_open, first_reserved, first_too_long, first_long}
use Rattle.cms_tlv.proofs.source.Source.length.Goals as goal

pub returns-then-first-lt128-clause-refines : goal.returns-then-first-lt128-clause-refines
returns-then-first-lt128-clause-refines g c =
    subst (λ (r : Reader Header). Refines plain r c.args.self.now c.definite.new.self c.definite.result)
    (sym (first_short c.args.bound.now c.args.ident c.args.first c.if-first-lt128.true)) c.definite.ensures.refines

pub returns-then-first-eq128-clause-refines : goal.returns-then-first-eq128-clause-refines
returns-then-first-eq128-clause-refines g c =
    subst (λ (r : Reader Header). Refines plain r c.args.self.now c.indefinite.new.self c.indefinite.result)
    (sym (first_open c.args.bound.now c.args.ident c.args.first c.if-first-eq128.true)) c.indefinite.ensures.refines

pub returns-then-first-eq255-clause-refines : goal.returns-then-first-eq255-clause-refines
returns-then-first-eq255-clause-refines g c =
    refused_as LengthReserved c.requires.sound (λ e. absurd cc) (inr c.requires.clear)
    (here (after_first c.args.bound.now c.args.ident c.args.first) c.args.self.now)
    (first_reserved c.args.bound.now c.args.ident c.args.first c.if-first-eq255.true) c.refused.ensures.state c.refused.ensures.same

pub returns-then-first-gt136-clause-refines : goal.returns-then-first-gt136-clause-refines
returns-then-first-gt136-clause-refines g c =
    refused_as LengthTooLong c.requires.sound (λ e. absurd cc) (inr c.requires.clear)
    (here (after_first c.args.bound.now c.args.ident c.args.first) c.args.self.now)
    (first_too_long c.args.bound.now c.args.ident c.args.first c.if-first-gt136.true c.if-first-eq255.false)
    c.refused-then-first-gt136.ensures.state c.refused-then-first-gt136.ensures.same

pub returns-else-first-gt136-clause-refines : goal.returns-else-first-gt136-clause-refines
returns-else-first-gt136-clause-refines g c =
    let above : 128 < c.args.first = omega (arith, c.if-first-lt128.false, c.if-first-eq128.false) in
    subst (λ (r : Reader Header). Refines plain r c.args.self.now c.long_length.new.self c.long_length.result)
    (sym (first_long c.args.bound.now c.args.ident c.args.first above c.if-first-gt136.false)) c.long_length.ensures.refines
