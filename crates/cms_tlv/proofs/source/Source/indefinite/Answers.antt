use Rattle.std.proofs.Common.{inl, inr}
use Rattle.cms_tlv.specs.declared.fault.Reason.TheVariants.{IndefinitePrimitive, SignedAttrsNotDer}
use Rattle.cms_tlv.specs.Reading.{indefinite_length_of}
use Rattle.cms_tlv.proofs.HeaderGives.{here, refused_as, gave_give, open_primitive, open_strict, open_ok}
use Rattle.cms_tlv.proofs.source.Source.indefinite.Goals as goal

pub returns-then-ident-eq0-clause-refines : goal.returns-then-ident-eq0-clause-refines
returns-then-ident-eq0-clause-refines g c =
    refused_as IndefinitePrimitive c.requires.sound (λ e. absurd cc) (inr c.requires.clear)
    (here (indefinite_length_of c.args.bound.now c.args.ident) c.args.self.now)
    (open_primitive c.args.bound.now c.args.ident c.if-ident-eq0.true) c.refused.ensures.state c.refused.ensures.same

pub returns-then-bound-clause-refines : goal.returns-then-bound-clause-refines
returns-then-bound-clause-refines g c =
    refused_as SignedAttrsNotDer c.requires.sound (λ e. absurd cc) (inl tt) (here (indefinite_length_of c.args.bound.now c.args.ident) c.args.self.now)
    (open_strict c.args.bound.now c.args.ident c.if-ident-eq0.false c.if-bound.true) c.refused-then-bound.ensures.state
    c.refused-then-bound.ensures.same

pub returns-clause-refines : goal.returns-clause-refines
returns-clause-refines g c =
    gave_give _ (here (indefinite_length_of c.args.bound.now c.args.ident) c.args.self.now)
    (open_ok c.args.bound.now c.args.ident c.if-ident-eq0.false c.if-bound.false) c.requires.sound
