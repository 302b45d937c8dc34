use Rattle.std.proofs.Common.{get_or, ◌++◌, ◌∷◌, [], ◌%◌, sym, ap, ◌∙◌}
use Rattle.cms_scalars.specs.Scalars.{bits_of}
use Rattle.cms_scalars.proofs.BitLists.{shown_at}
use Rattle.cms_scalars.proofs.bits.NamedBits.has.Goals as goal

pub returns-in-Some : goal.returns-in-Some
returns-in-Some c =
    let e = ap (λ t. get_or t c.args.number 0) c.in-Some.ensures.some
    ∙ (shown_at (c.in-Some.octets.front.now ++ c.in-Some.octets.last ∷ []) c.args.number
    ∙ ap (λ t. get_or (bits_of t) (c.args.number % 8) 0) (sym c.octet.ensures)) in
    (λ h. e ∙ c.is_set.ensures.0 h, λ h. c.is_set.ensures.1 (sym e ∙ h))
