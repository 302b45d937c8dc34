use Rattle.std.proofs.Common.{inl}
use Rattle.cms_tlv.specs.declared.fault.Reason.TheVariants.{UnexpectedElement}
use Rattle.cms_tlv.specs.Reading.{enter_next}
use Rattle.cms_tlv.proofs.HeaderGives.{here, gave_give, refused_as}
use Rattle.cms_tlv.proofs.FieldGives.{enter_same, enter_other}
use Rattle.cms_tlv.proofs.source.Source.inner_of.Goals as goal

pub returns-then-header-ident-clause-refines : goal.returns-then-header-ident-clause-refines
returns-then-header-ident-clause-refines g c =
    refused_as UnexpectedElement c.requires.sound (λ e. absurd cc) (inl tt) (here (enter_next c.args.ident c.args.header.now) c.args.self.now)
    (enter_other c.args.ident c.args.header.now c.if-header-ident.true) c.refused.ensures.state c.refused.ensures.same

pub returns-clause-refines : goal.returns-clause-refines
returns-clause-refines g c =
    gave_give _ (here (enter_next c.args.ident c.args.header.now) c.args.self.now)
    (enter_same c.args.ident c.args.header.now c.if-header-ident.false) c.requires.sound
