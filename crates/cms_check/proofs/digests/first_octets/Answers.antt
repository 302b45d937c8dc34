use Rattle.std.proofs.Common.{◌≡◌, ◌++◌, ◌∷◌, [], List, arith, refl, sym, ap, ◌∙◌, slice_index}
use Rattle.std.proofs.lemmas.List.{length-replicate, length-set, take_all, take_more, take_more_set}
use Rattle.cms_check.proofs.digests.first_octets.Goals as goal

pub loop-i-init : goal.loop-i-init
loop-i-init g c = (length-replicate _ _, refl)

pub loop-i-preserved : goal.loop-i-preserved
loop-i-preserved g c =
    let len = c.loop-i.invariant.0 in
    let octet = slice_index c.args.octets.now c.loop-i.i in (
      length-set _ _ _ ∙ len,
      take_more_set c.loop-i.first c.loop-i.i octet (omega arith) ∙ ap (λ (l : List _). l ++ octet ∷ []) c.loop-i.invariant.1
          ∙ sym (take_more c.args.octets.now c.loop-i.i 0 (omega arith)),
    )

pub returns : goal.returns
returns g c =
    let len = c.loop-i.invariant.0 in
    let done = c.loop-i.auto.i-end in
    let e : c.loop-i.i ≡ g.row.N = omega arith in
    sym (take_all g.row.N c.loop-i.first (omega arith)) ∙ rw e at c.loop-i.invariant.1
