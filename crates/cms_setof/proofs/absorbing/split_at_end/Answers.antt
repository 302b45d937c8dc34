use Rattle.std.proofs.Common.{◌≡◌, ◌≤◌, ◌-◌, length, take, drop, sym, ap, ◌∙◌, arith}
use Rattle.std.proofs.lemmas.List.{length-take-le}
use Rattle.cms_setof.proofs.AbsorbingLaws.{last_copied}
use Rattle.cms_setof.proofs.absorbing.split_at_end.Goals as goal

pub returns : goal.returns
returns c =
    let octets = c.args.octets.items in
    let k = c.args.kept.now in
    let end = c.min-end.result in
    let n = c.same_at_end-n.result in
    let fits : end ≤ length k = omega (arith, c.min-end.ensures) in
    let long = length-take-le end k fits in
    let same : drop (length octets - n) octets ≡ drop (end - n) (take end k) = ap (λ z. drop (length z - n) z) (sym c.deref.ensures.value)
    ∙ (c.same_at_end-n.ensures.same ∙ ap (λ i. drop (i - n) (take end k)) long) in
    rw (c.truncate.ensures.items, c.len.ensures, c.args.octets.ok.0) (last_copied octets k end n fits (omega (arith, c.same_at_end-n.ensures.within.1, long)) same)
