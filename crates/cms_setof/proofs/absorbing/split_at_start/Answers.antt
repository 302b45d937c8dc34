use Rattle.std.proofs.Common.{◌≡◌, ◌≤◌, ◌+◌, ◌-◌, length, length-drop, take, drop, sym, ap, ◌∙◌, arith}
use Rattle.std.proofs.lemmas.List.{take_all}
use Rattle.cms_setof.proofs.AbsorbingLaws.{first_copied}
use Rattle.cms_setof.proofs.absorbing.split_at_start.Goals as goal

pub returns : goal.returns
returns c =
    let octets = c.args.octets.items in
    let k = c.args.kept.now in
    let start = c.min-start.result in
    let n = c.same_at_start-n.result in
    let fits : start + n ≤ length k = omega (arith, c.min-start.ensures, c.same_at_start-n.ensures.within.1, length-drop start k) in
    let same : take n octets ≡ take n (drop start k) = ap (take n) (sym c.deref.ensures.value)
    ∙ (c.same_at_start-n.ensures.same ∙ ap (take n) (take_all (length k - start) (drop start k) (omega (arith, length-drop start k)))) in
    rw c.in_ok-rest.ensures.tail (first_copied octets k start n fits same)
