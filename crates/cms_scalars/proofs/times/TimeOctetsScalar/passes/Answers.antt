use Rattle.std.proofs.Common.{◌∙◌}
use Rattle.cms_scalars.proofs.TimeTexts.{decided}
use Rattle.cms_scalars.proofs.times.TimeOctetsScalar.passes.Goals as goal

pub returns : goal.returns
returns c = c.is_ok.ensures.value ∙ decided c.args.octets.now c.unix_seconds_of.result c.unix_seconds_of.ensures.ok c.unix_seconds_of.ensures.err
