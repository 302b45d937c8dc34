use Rattle.std.proofs.Common.{refl, ◌∙◌, arith, length, ◌-◌}
use Rattle.cms_scalars.proofs.Slices.{are_octets}
use Rattle.cms_scalars.proofs.BitLists.{last_dropped, last_kept, none_used, front_octets, with_last}
use Rattle.cms_scalars.proofs.bits.significant_of.Goals as goal

pub loop-rest-init : goal.loop-rest-init
loop-rest-init c = record { some_unused = c.requires; octets = are_octets _ c.type_inv.octets; same = refl }

pub returns-then-last-ne0-clause-some : goal.returns-then-last-ne0-clause-some
returns-then-last-ne0-clause-some c =
    let i = c.loop-rest.invariant in
    (omega arith, i.same ∙ last_kept c.loop-rest.unused c.loop-rest.rest.now i.some_unused c.in-len1-up.len_at_least i.octets)

pub returns-then-last-ne0-clause-octets : goal.returns-then-last-ne0-clause-octets
returns-then-last-ne0-clause-octets c = with_last _ _ (front_octets (length c.loop-rest.rest.now - 1) c.loop-rest.rest.now c.loop-rest.invariant.octets)

pub loop-rest-preserved : goal.loop-rest-preserved
loop-rest-preserved c =
    let i = c.loop-rest.invariant in
    record {
      some_unused = omega arith;
      octets = front_octets (length c.loop-rest.rest.now - 1) c.loop-rest.rest.now i.octets;
      same = i.same ∙ last_dropped c.loop-rest.unused c.loop-rest.rest.now i.some_unused c.in-len1-up.len_at_least i.octets c.if-last-ne0.false;
    }

pub returns-clause-none : goal.returns-clause-none
returns-clause-none c none = c.loop-rest.invariant.same ∙ none_used c.loop-rest.unused c.loop-rest.rest.now c.in_default.len_below
