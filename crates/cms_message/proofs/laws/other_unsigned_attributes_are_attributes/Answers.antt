use Rattle.std.proofs.Common.{refl}
use Rattle.cms_message.proofs.laws.other_unsigned_attributes_are_attributes.Goals as goal

pub returns-clause-spelled : goal.returns-clause-spelled
returns-clause-spelled c m b t vs levels other = (
  (λ r. (r.0, r.1, (r.2.0, r.2.1, r.2.2, r.2.3, r.2.4.1))),
  (λ r. (r.0, r.1, (r.2.0, r.2.1, r.2.2, r.2.3, (other, r.2.4)))),
)

pub returns-clause-same : goal.returns-clause-same
returns-clause-same c t u vs ws levels = refl
