use Rattle.std.proofs.Common.{refl, ap}
use Rattle.cms_tlv.specs.Spelling.{ber}
use Rattle.cms_canon.specs.Whole.{Whole}
use Rattle.cms_canon.proofs.Messages.{gathered_as}
use Rattle.cms_canon.proofs.message.Message.gather.Goals as goal

pub gather-requires : goal.gather-requires
gather-requires c =
    c.spelled_values_are_values.ensures ber c.self.inside.kept.items refl (rw c.deref-kept.ensures.value c.self.invariant.spells)

pub returns : goal.returns
returns c =
    gathered_as _ _ _ _ c.gather.result c.gather.ensures
    (rw c.deref-kept.ensures.value (ap (λ (m : Whole). m.value) c.self.view_is))
    (rw c.deref-kept.ensures.value (ap (λ (m : Whole). m.octets) c.self.view_is))
