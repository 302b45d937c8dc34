use Rattle.std.proofs.Common.{inr, ℕ, List, refl, sym, ap, ◌∙◌}
use Rattle.std.proofs.lemmas.Result.{err_from_is_err_and}
use Rattle.cms_tlv.specs.declared.fault.Reason.TheVariants.{BitsMalformed}
use Rattle.cms_tlv.specs.Reading.{give, scalar_of}
use Rattle.cms_tlv.proofs.Bind.{fails, gave, reaches_bind}
use Rattle.cms_tlv.proofs.Exits.{stops_of}
use Rattle.cms_tlv.proofs.Judged.{judged_passes, judged_refuses}
use Rattle.cms_scalars.specs.Bits.{named_bits_of, is_bit_string, bits_of_contents}
use Rattle.cms_scalars.proofs.bits.NamedBitsSpanField.read.Goals as goal

pub returns-in_err-span-clause-refines : goal.returns-in_err-span-clause-refines
unfolding named_bits_of scalar_of
returns-in_err-span-clause-refines g c sound =
    let p = err_from_is_err_and c.from_residual.result c.from_residual.ensures.1 in
    rw (p.1, p.2) (fails _ (fails _ (c.in_err-span.ensures.refines sound)))

pub returns-then-is_bit_string-clause-refines : goal.returns-then-is_bit_string-clause-refines
unfolding named_bits_of scalar_of
returns-then-is_bit_string-clause-refines g c sound =
    let read = c.in_ok-span.ensures.refines sound in
    gave _ (reaches_bind (λ (d : List ℕ). give (bits_of_contents d))
    (judged_passes is_bit_string BitsMalformed read (ap is_bit_string (sym c.bytes.ensures) ∙ sym c.is_bit_string.ensures
    ∙ c.if-is_bit_string.true))) refl read.sound (λ later k. ap bits_of_contents (read.lasts later k))

pub returns-else-is_bit_string-clause-refines : goal.returns-else-is_bit_string-clause-refines
unfolding named_bits_of scalar_of
returns-else-is_bit_string-clause-refines g c sound =
    let read = c.in_ok-span.ensures.refines sound in
    fails _ (judged_refuses is_bit_string BitsMalformed read (λ z. cc) (inr c.in_ok-span.ensures.clear)
    (ap is_bit_string (sym c.bytes.ensures) ∙ sym c.is_bit_string.ensures ∙ c.if-is_bit_string.false)
    (c.refuse.ensures.state read.sound) (c.refuse.ensures.refused read.sound))

pub returns-else-is_bit_string-clause-accounted : goal.returns-else-is_bit_string-clause-accounted
returns-else-is_bit_string-clause-accounted g c sound = stops_of _ (returns-else-is_bit_string-clause-refines g c sound)
