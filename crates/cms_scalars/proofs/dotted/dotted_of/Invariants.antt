use Rattle.std.proofs.Common.{◌≡◌, [], drop}
use Rattle.std.specs.String.{string_bytes}
use Rattle.cms_scalars.proofs.ArcTexts.{onward}
use Rattle.cms_scalars.proofs.dotted.dotted_of.Given as goal

abbrev pub invariant-loop-octet : goal.invariant-loop-octet
invariant-loop-octet l = onward [] 0 l.octets ≡ onward (string_bytes l.text) l.number (drop l.octet-index l.octets)
