use Rattle.std.proofs.Common.{refl}
use Rattle.cms_fields.proofs.GrammarLaws.{read_but_by_der}
use Rattle.cms_tsp.specs.Requests.{time_stamp_req, time_stamp_req_fields}
use Rattle.cms_tsp.proofs.laws.request_laws.Goals as goal

pub returns-clause-is_field : goal.returns-clause-is_field
returns-clause-is_field c m = (c.law-2.ensures.field refl).is_field m

pub returns-clause-reads : goal.returns-clause-reads
returns-clause-reads c m n = (c.law-2.ensures.field refl).reads m (read_but_by_der time_stamp_req refl refl m n)

pub returns-clause-reads_fields : goal.returns-clause-reads_fields
returns-clause-reads_fields c m n = (c.law.ensures.contents refl).reads_to m (read_but_by_der time_stamp_req_fields refl refl m n)

pub returns-clause-by_der : goal.returns-clause-by_der
returns-clause-by_der c = (c.law-2.ensures.field refl).by_der

pub returns-clause-explained : goal.returns-clause-explained
returns-clause-explained c bd = (c.law.ensures.contents refl).explained bd
