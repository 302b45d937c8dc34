use Rattle.std.proofs.Common.{subst, sym}
use Rattle.std.proofs.lemmas.Result.{err_from_is_err_and}
use Rattle.cms_tlv.specs.Refines.{Refines, plain}
use Rattle.cms_tlv.specs.Reading.{enter_next}
use Rattle.cms_tlv.proofs.Bind.{gives_bind}
use Rattle.cms_tlv.proofs.FieldGives.{enter_bind}
use Rattle.cms_tlv.proofs.FoundGives.{memory_wanted}
use Rattle.cms_tlv.proofs.source.Source.enter_without_fault.Goals as goal

pub returns-in_err-header-clause-refines : goal.returns-in_err-header-clause-refines
returns-in_err-header-clause-refines g c =
    let p = err_from_is_err_and c.from_residual.result c.from_residual.ensures.1 in
    rw (p.1, p.2) (memory_wanted _ c.requires.sound c.in_err-header.ensures.err)

pub returns-in-Some-clause-refines : goal.returns-in-Some-clause-refines
returns-in-Some-clause-refines g c =
    let h = rw c.in-Some.is at c.in_ok-header.ensures.some in
    subst (λ f. Refines plain f c.args.self.now c.inner_of.new.self c.inner_of.result) (sym (enter_bind c.args.ident c.args.bound.now))
    (gives_bind plain (enter_next c.args.ident) c.inner_of.new.self c.inner_of.result h.gave c.inner_of.ensures.refines)
