use Rattle.std.proofs.Common.{ap, subst}
use Rattle.cms_canon.specs.Messages.{IsDerOf}
use Rattle.cms_canon.specs.Whole.{Whole}
use Rattle.cms_canon.proofs.message.Message.is_der.Goals as goal

pub returns : goal.returns
returns c = λ e. subst (λ (m : Whole). IsDerOf m.value m.octets) c.self.view_is (c.self.invariant.is_der e)
