use Rattle.std.specs.Option.{option_copied}
use Rattle.cms_check.proofs.time_stamp_messages.check_response.Goals as goal

pub returns-in-Ok : goal.returns-in-Ok
returns-in-Ok g c = c.in-Ok.ensures (option_copied c.args.given.now.detached) (option_copied c.args.given.now.stamped) c.of_octets.ensures.octets
