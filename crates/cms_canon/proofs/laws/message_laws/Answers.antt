use Rattle.std.proofs.Common.{refl}
use Rattle.cms_tlv.proofs.Why.{wider}
use Rattle.cms_fields.proofs.GrammarLaws.{read_but_by_der}
use Rattle.cms_canon.specs.Kinds.{message}
use Rattle.cms_canon.proofs.Reasons.{message_malformed}
use Rattle.cms_canon.proofs.laws.message_laws.Goals as goal

pub returns-clause-is_field : goal.returns-clause-is_field
returns-clause-is_field c m = (c.law.ensures.field refl).is_field m

pub returns-clause-reads : goal.returns-clause-reads
returns-clause-reads c m n = (c.law.ensures.field refl).reads m (read_but_by_der message refl refl m n)

pub returns-clause-by_der : goal.returns-clause-by_der
returns-clause-by_der c = (c.law.ensures.field refl).by_der

pub returns-clause-explained : goal.returns-clause-explained
returns-clause-explained c bd = wider (message_malformed.within refl) ((c.law.ensures.field refl).explained bd)
