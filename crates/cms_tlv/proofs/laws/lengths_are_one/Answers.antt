use Rattle.cms_tlv.proofs.HeaderCuts.{length_cut}
use Rattle.cms_tlv.proofs.DigitLaws.{short_length_there}
use Rattle.cms_tlv.proofs.HeaderLaws.{short_length_one}
use Rattle.cms_tlv.proofs.laws.lengths_are_one.Goals as goal

pub returns-clause-one : goal.returns-clause-one
returns-clause-one c l m x y n k p q e = length_cut p q e

pub returns-clause-shortest : goal.returns-clause-shortest
returns-clause-shortest c l m n p q = short_length_one l m n p q

pub returns-clause-each : goal.returns-clause-each
returns-clause-each c n b = short_length_there n b
