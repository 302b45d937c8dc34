use Rattle.cms_message.proofs.AttributePaths.{are_opaque, begin_so, are_covered}
use Rattle.cms_message.proofs.laws.signed_attributes_are_along_paths.Goals as goal

pub returns-clause-opaque : goal.returns-clause-opaque
returns-clause-opaque c v path a e = are_opaque v path a e

pub returns-clause-begin : goal.returns-clause-begin
returns-clause-begin c m b a v path s e = begin_so m b a v path s e

pub returns-clause-covered : goal.returns-clause-covered
returns-clause-covered c v path a detached e = are_covered v path a detached e
