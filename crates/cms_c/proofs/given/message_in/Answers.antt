use Rattle.std.proofs.Common.{rules, ◌≡◌, IfOk}
use Rattle.cms_c.proofs.Accepting.{accepted}
use Rattle.cms_c.proofs.given.message_in.Goals as goal

-- src/given.rt:11:1
pub returns-clause-ok : goal.returns-clause-ok
returns-clause-ok c =
    let whole : IfOk c.read_message-message.result.1 (λ m. m.octets ≡ c.args.input.now) = search rules in
    accepted _ _ c.args.input.now _ _ c.read_message-message.result.1 c.min.ensures c.read_message-message.ensures.found whole
