use Rattle.std.proofs.lemmas.Result.{IfOk-weaker}
use Rattle.cms_tlv.proofs.Public.{err_clause}
use Rattle.cms_tlv.proofs.Rules.{follows}
use Rattle.cms_tlv.proofs.Why.{says_why}
use Rattle.cms_fields.proofs.ReaderLaws.{found_of, within_of}
use Rattle.cms_fields.proofs.field.read.Goals as goal

pub returns-clause-spelled : goal.returns-clause-spelled
returns-clause-spelled g c s m i j = record {
  found = found_of ((c.law.ensures.field s).reads m j) c.args.bound.now i _ _ _ _ c.read.ensures.sticky c.read.ensures.refines c.read.ensures.clear;
  faults = λ sound. err_clause ((c.law.ensures.field s).reads m j) c.args.bound.now i _ _ _ _ (c.read.ensures.refines sound);
}

pub returns-clause-is_value : goal.returns-clause-is_value
returns-clause-is_value g c s j =
    IfOk-weaker c.read.result _ _ (λ v found. (c.law.ensures.field s).is_value _ found.octets _ found.spells)
    (returns-clause-spelled g c s _ (follows c.args.bound.now) j).found

pub returns-clause-within : goal.returns-clause-within
returns-clause-within g c s = within_of ((c.law.ensures.field s).explained c.args.bound.now) _ _ _ c.read.result c.read.ensures.sticky c.read.ensures.refines

pub returns-clause-why : goal.returns-clause-why
returns-clause-why g c s sound = says_why _ ((c.law.ensures.field s).explained c.args.bound.now) _ _ c.read.result (c.read.ensures.refines sound)
