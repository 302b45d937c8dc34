use Rattle.std.proofs.Common.{refl, sym, ap}
use Rattle.std.proofs.lemmas.Result.{err_from_is_err_and}
use Rattle.cms_tlv.proofs.Bind.{fails, then_reaches, gave}
use Rattle.cms_tlv.proofs.Exits.{at_last}
use Rattle.cms_fields.proofs.ReaderLaws.{pairs}
use Rattle.cms_scalars.specs.Booleans.{default_false_then_of}
use Rattle.cms_scalars.proofs.defaults.DefaultFalseThenFields.read_to_end.Goals as goal

pub returns-in_err-flag-clause-refines : goal.returns-in_err-flag-clause-refines
unfolding default_false_then_of
returns-in_err-flag-clause-refines g c =
    let p = err_from_is_err_and c.from_residual.result c.from_residual.ensures.1 in
    rw (p.1, p.2) (fails _ c.in_err-flag.ensures.refines)

pub returns-clause-refines : goal.returns-clause-refines
unfolding default_false_then_of
returns-clause-refines g c =
    let whole = c.in_ok-flag.ensures.refines in
    gave _ (then_reaches _ whole (at_last _)) (pairs (sym c.is_set.ensures) refl) whole.sound (λ s k. pairs refl (ap (λ z. z.1) (whole.lasts s k)))
