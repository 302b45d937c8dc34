use Rattle.std.proofs.Common.{◌≡◌, ◌-◌, ◌++◌, length, take, drop, slice_index_or, refl, sym, ap, ◌∙◌, arith}
use Rattle.std.proofs.lemmas.List.{take_all, take-append-drop, length-drop}
use Rattle.cms_tlv.proofs.PassLaws.{short_begins}
use Rattle.cms_tlv.proofs.primitives.short_primitive.Goals as goal

pub returns : goal.returns
returns c =
    let octets = c.args.octets.now in
    let len = slice_index_or octets 1 0 in
    let two = take (length octets - 2) (drop 2 octets) in
    let parts = c.split_at.ensures in
    let rest : two ≡ drop 2 octets = take_all (length octets - 2) (drop 2 octets) (omega (arith, length-drop 2 octets)) in
    let halves : c.split_at.result.0.now ++ c.split_at.result.1.now ≡ two = ap (λ z. z ++ c.split_at.result.1.now) parts.front
    ∙ (ap (λ z. take len two ++ z) parts.back ∙ take-append-drop len two) in
    short_begins c.args.ident len octets c.split_at.result.0.now c.split_at.result.1.now c.in-len2-up.len_at_least c.if-first-ident.false
    refl (sym (halves ∙ rest)) parts.front_len c.if-len-ge128.false (λ k. omega (arith, c.type_inv.octets k))
