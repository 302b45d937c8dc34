use Rattle.cms_example.proofs.Memory.{of_message, read_of}
use Rattle.cms_example.proofs.written_or_refused.Goals as goal

pub returns-in-Ok-clause-der : goal.returns-in-Ok-clause-der
returns-in-Ok-clause-der c =
    let rest = c.read_message-message.result.0.rest.now in
    let read =
    read_of c.args.octets.now c.new.result.rest.now rest 16777216 c.in_ok-message.message c.read_message-message.result.1 c.new.ensures
    c.in_ok-message.was c.read_message-message.ensures.found in
    of_message c.args.octets.now rest c.new-der.result.items c.put_message.new.out.items 16777216 c.in_ok-message.message read
    c.new-der.ensures.items c.in-Ok.ensures.ok
