use Rattle.std.proofs.Common.{arith}
use Rattle.cms_scalars.proofs.Values.{too_large, all_read}
use Rattle.cms_scalars.proofs.scalars.number_of.Goals as goal

pub returns-then-number : goal.returns-then-number
returns-then-number c = too_large c.args.octets.now c.loop-octet.octet-index c.loop-octet.number (omega arith) (omega arith) c.loop-octet.invariant

pub returns : goal.returns
returns c = all_read c.args.octets.now c.loop-octet.octet-index c.loop-octet.number (omega arith) (omega arith) c.loop-octet.invariant
