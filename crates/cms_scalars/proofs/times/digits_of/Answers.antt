use Rattle.std.proofs.Common.{sym, ◌∙◌}
use Rattle.std.proofs.lemmas.Bool.{both_ways}
use Rattle.cms_scalars.proofs.TimeTexts.{form_of_parts, parts_of_form}
use Rattle.cms_scalars.proofs.times.digits_of.Goals as goal
use Rattle.cms_scalars.proofs.times.digits_of.Goals.{else-are_digits-via-then-are_digits+else-is_end, else-are_digits-via-else-are_digits}

pub returns-then-is_end-clause-some : goal.returns-then-is_end-clause-some
returns-then-is_end-clause-some c =
    let s = c.split_at.ensures in (
      s.front,
      form_of_parts c.args.octets.now _ _ s.front s.back s.front_len (sym c.are_digits.ensures ∙ c.if-are_digits.true)
          (c.is_end.ensures.0 c.if-is_end.true),
    )

pub returns-else-are_digits-clause-none : goal.returns-else-are_digits-clause-none
returns-else-are_digits-clause-none c d f h =
    let s = c.split_at.ensures in
    let k = parts_of_form h c.split_at.result.0.now c.split_at.result.1.now s.front s.back in
    elim c.else-are_digits.branch [
      | else-are_digits-via-then-are_digits+else-is_end w ↦ both_ways _ w.if-is_end.false (w.is_end.ensures.1 k.1)
      | else-are_digits-via-else-are_digits w ↦ both_ways _ w.if-are_digits.false (c.are_digits.ensures ∙ k.0)
    ]
