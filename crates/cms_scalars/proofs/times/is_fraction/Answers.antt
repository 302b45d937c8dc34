use Rattle.std.proofs.Common.{sym, ◌∙◌}
use Rattle.cms_scalars.proofs.TimeTexts.{fraction_known, digits_tested}
use Rattle.cms_scalars.proofs.times.is_fraction.Goals as goal

pub returns-then-last-ne48 : goal.returns-then-last-ne48
returns-then-last-ne48 c = (
  λ t. fraction_known c.args.octets.now c.in-len1-up.len_at_least c.if-last-ne48.true (sym c.are_digits.ensures ∙ t),
  λ k. c.are_digits.ensures ∙ digits_tested c.args.octets.now k.are_digits,
)
