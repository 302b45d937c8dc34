use Rattle.std.proofs.Common.{subst, sym}
use Rattle.std.proofs.lemmas.Result.{err_from_is_err_and}
use Rattle.cms_tlv.specs.Refines.{Refines, plain}
use Rattle.cms_tlv.specs.Reading.{enter_of, enter_next}
use Rattle.cms_tlv.proofs.Bind.{fails, gives_bind}
use Rattle.cms_tlv.proofs.FieldGives.{enter_bind}
use Rattle.cms_tlv.proofs.source.Source.enter_by_octets.Goals as goal

pub returns-in_err-header-clause-refines : goal.returns-in_err-header-clause-refines
unfolding enter_of
returns-in_err-header-clause-refines g c =
    let p = err_from_is_err_and c.from_residual.result c.from_residual.ensures.1 in
    rw (p.1, p.2) (fails _ c.in_err-header.ensures.refines)

pub returns-clause-refines : goal.returns-clause-refines
returns-clause-refines g c =
    subst (λ f. Refines plain f c.args.self.now c.inner_of.new.self c.inner_of.result) (sym (enter_bind c.args.ident c.args.bound.now))
    (gives_bind plain (enter_next c.args.ident) c.inner_of.new.self c.inner_of.result c.in_ok-header.ensures.refines c.inner_of.ensures.refines)
