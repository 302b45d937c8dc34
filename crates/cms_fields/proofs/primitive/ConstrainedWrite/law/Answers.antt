use Rattle.cms_fields.proofs.GrammarLaws.{lawful_constrained}
use Rattle.cms_fields.proofs.primitive.ConstrainedWrite.law.Goals as goal

pub returns : goal.returns
returns g c =
    lawful_constrained g.row.ID _ _ _ _ _ _ c.law-3.ensures.told (λ v. c.law-3.ensures.known v) (λ v. c.law-3.ensures.tested v)
    (λ v. c.law.ensures.known v) (λ v p. (c.law.ensures.tested v p).1) c.law-2.ensures
