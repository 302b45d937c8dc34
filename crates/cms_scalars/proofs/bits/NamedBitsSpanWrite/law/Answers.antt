use Rattle.cms_scalars.proofs.GrammarLaws.{lawful_bits}
use Rattle.cms_scalars.proofs.bits.NamedBitsSpanWrite.law.Goals as goal

pub returns : goal.returns
returns c = lawful_bits
