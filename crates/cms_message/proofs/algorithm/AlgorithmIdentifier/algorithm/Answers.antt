use Rattle.std.proofs.Common.{ap, ◌∙◌}
use Rattle.cms_message.specs.Algorithms.{AlgorithmIdentifier, algorithm}
use Rattle.cms_message.proofs.algorithm.AlgorithmIdentifier.algorithm.Goals as goal

pub returns : goal.returns
returns c = c.new.ensures ∙ ap (λ (v : AlgorithmIdentifier). algorithm v) c.self.view_is
