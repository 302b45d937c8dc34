use Rattle.std.specs.Prelude.{true}
use Rattle.cms_tlv.proofs.Public.{err_clause}
use Rattle.cms_tlv.proofs.Rules.{follows}
use Rattle.cms_tlv.proofs.Why.{says_why}
use Rattle.cms_fields.proofs.ReaderLaws.{found_of, within_of}
use Rattle.cms_scalars.proofs.Strings.{string_parts_read}
use Rattle.cms_scalars.proofs.WhyScalars.{string_parts_told}
use Rattle.cms_scalars.proofs.octets.read_octets.Goals as goal

pub returns-clause-spelled : goal.returns-clause-spelled
returns-clause-spelled g c s = record {
  found =
      found_of (string_parts_read g.row.ID s _) c.args.bound.now (follows c.args.bound.now) _ _ _ _ c.read_string.ensures.sticky
      c.read_string.ensures.refines c.read_string.ensures.clear;
  faults = λ sound. err_clause (string_parts_read g.row.ID s _) c.args.bound.now (follows c.args.bound.now) _ _ _ _ (c.read_string.ensures.refines sound);
}

pub returns-clause-within : goal.returns-clause-within
returns-clause-within g c =
    within_of {paths = true} (string_parts_told g.row.ID c.args.bound.now) _ _ _ c.read_string.result
    c.read_string.ensures.sticky c.read_string.ensures.refines

pub returns-clause-why : goal.returns-clause-why
returns-clause-why g c sound = says_why {paths = true} _ (string_parts_told g.row.ID c.args.bound.now) _ _ c.read_string.result (c.read_string.ensures.refines sound)
