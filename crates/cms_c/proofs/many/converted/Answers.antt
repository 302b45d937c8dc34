use Rattle.std.proofs.Common.{ap, ◌∙◌}
use Rattle.cms_tlv.specs.Slices.{rest_of}
use Rattle.cms_tlv.specs.Watching.{inner_of}
use Rattle.cms_c.proofs.Prefixes.{up_to_refusal}
use Rattle.cms_c.proofs.many.converted.Goals as goal

pub returns-in-Refused : goal.returns-in-Refused
returns-in-Refused c =
    let many = c.canonicalise_many-done in
    let none = ap (λ v. v.items) c.new-writer.ensures.inner ∙ c.new.ensures.items in
    let faults = rw c.in-Err.is at many.ensures.faults in
    rw (← c.new-2.ensures, c.left_in.ensures, c.into_inner-in-Refused.ensures)
    (up_to_refusal (rest_of c.new-2.result) (rest_of many.result.0) _ (inner_of many.new.writer).items _ _ c.args.limit c.in-Err.stop
    c.in-Refused.reason c.in-Refused.at none c.in-Refused.is faults)
