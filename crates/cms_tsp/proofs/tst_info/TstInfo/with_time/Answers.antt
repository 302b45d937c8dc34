use Rattle.std.proofs.Common.{◌≡◌, refl, sym, subst, ◌∙◌}
use Rattle.std.proofs.lemmas.Result.{err_from_is_err_and}
use Rattle.cms_tlv.specs.Spans.{octets_in}
use Rattle.cms_scalars.specs.Times.{IsTimeOf, IsGeneralizedTime, time_digits, time_fraction}
use Rattle.cms_tsp.specs.declared.tst_info.TstFault.TheVariants.{NotTst}
use Rattle.cms_tsp.proofs.TstInfos.{time_of, no_fault, at_err}
use Rattle.cms_tsp.proofs.tst_info.TstInfo.with_time.Goals as goal

pub returns-in_err-gen_time-clause-ok : goal.returns-in_err-gen_time-clause-ok
returns-in_err-gen_time-clause-ok c = rw (err_from_is_err_and c.from_residual.result c.from_residual.ensures.1).1 tt

pub returns-in_err-gen_time-clause-err : goal.returns-in_err-gen_time-clause-err
returns-in_err-gen_time-clause-err c e =
    let span = c.args.spans.0.1.1.1.1.0.0.span in
    let octets : c.octets.result.now ≡ octets_in c.args.kept.items span.start span.end = c.octets.ensures
    ∙ rw (c.deref.ensures.value, c.gen_time_of.ensures) refl in
    let is = subst IsGeneralizedTime (sym octets) (time_of c.args.kept.items _ c.requires) in
    no_fault c.texts_of_times_are_unambiguous.ensures c.octets.result.now c.in_err-gen_time.field-0.0 is c.in_err-gen_time.ensures.err
    (at_err _ c.from_residual.result NotTst c.from_residual.ensures.1 e refl)

pub invariant_of-result : goal.invariant_of-result
invariant_of-result c =
    let span = c.args.spans.0.1.1.1.1.0.0.span in
    let octets : c.octets.result.now ≡ octets_in c.args.kept.items span.start span.end = c.octets.ensures
    ∙ rw (c.deref.ensures.value, c.gen_time_of.ensures) refl in
    record {
      is = c.requires;
      time_is = subst (λ o. IsTimeOf o (time_digits c.in_ok-gen_time.gen_time) (time_fraction c.in_ok-gen_time.gen_time)) octets c.in_ok-gen_time.ensures.ok;
    }
