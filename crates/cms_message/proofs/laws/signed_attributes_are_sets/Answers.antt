use Rattle.std.proofs.Common.{◌≡◌, refl, subst, bytes_eq}
use Rattle.cms_setof.specs.Same.{same_members}
use Rattle.cms_message.specs.Attributes.{attribute}
use Rattle.cms_message.proofs.laws.signed_attributes_are_sets.Goals as goal

pub returns : goal.returns
returns c b d v w r s =
    subst (λ x. bytes_eq x w.0 ≡ same_members attribute.same v.1 w.1) r.0
    (subst (λ y. bytes_eq b y ≡ same_members attribute.same v.1 w.1) s.0
    ((c.law.ensures.field refl).by_der.canonical.alike b d v.1 w.1 r.1 s.1))
