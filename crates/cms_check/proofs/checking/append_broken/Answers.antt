use Rattle.std.proofs.Common.{arith}
use Rattle.std.proofs.lemmas.Grind.{common_steps}
use Rattle.std.proofs.lemmas.List.Elements.{filter_map-append}
use Rattle.cms_check.proofs.checking.append_broken.Goals as goal

pub loop-code-preserved : goal.loop-code-preserved
loop-code-preserved c = grind (arith, common_steps, filter_map-append)
