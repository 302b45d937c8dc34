use Rattle.cms_example.proofs.Memory.{kept_of}
use Rattle.cms_example.proofs.both.Goals as goal

pub returns-clause-kept : goal.returns-clause-kept
returns-clause-kept c = (
  kept_of c.message_octets_are_kept.ensures 16777216 c.args.a.now c.in_ok-a.a.items c.in_ok-a.ensures,
  kept_of c.message_octets_are_kept.ensures 16777216 c.args.b.now c.in_ok-b.b.items c.in_ok-b.ensures,
)
