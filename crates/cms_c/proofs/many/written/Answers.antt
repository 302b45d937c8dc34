use Rattle.std.proofs.Common.{◌<◌, inl, refl, ap, [], length, Some, arith}
use Rattle.cms_tlv.specs.Slices.{rest_of}
use Rattle.cms_tlv.specs.Spelling.{ber}
use Rattle.cms_tlv.specs.declared.fault.Fault.TheVariants as faults
use Rattle.cms_c.proofs.Prefixes.{after_first, counts_fit, first_refused}
use Rattle.cms_c.proofs.many.written.Goals as goal

pub reported_after-requires-clause-messages : goal.reported_after-requires-clause-messages
reported_after-requires-clause-messages c =
    let r = rw c.in-Ok.is at c.read_message-first.ensures.found in
    let p = rw c.at_hand.ensures at c.in_ok-others-in-Ok.ensures in
    let n = counts_fit c.in-Ok.first (rest_of c.new.result) (rest_of c.read_message-first.result.0) _ c.args.limit _ _ _ (c.message_laws.ensures.is_field ber) r p in
    omega (arith, n.0, ap length c.new.ensures, c.well_formed)

pub reported_after-requires-clause-read : goal.reported_after-requires-clause-read
reported_after-requires-clause-read c =
    let r = rw c.in-Ok.is at c.read_message-first.ensures.found in
    let p = rw c.at_hand.ensures at c.in_ok-others-in-Ok.ensures in
    let n = counts_fit c.in-Ok.first (rest_of c.new.result) (rest_of c.read_message-first.result.0) _ c.args.limit _ _ _ (c.message_laws.ensures.is_field ber) r p in
    omega (arith, n.1, ap length c.new.ensures, c.well_formed)

pub returns-in_ok-others-in-Ok-clause-ok : goal.returns-in_ok-others-in-Ok-clause-ok
returns-in_ok-others-in-Ok-clause-ok c =
    let r = rw c.in-Ok.is at c.read_message-first.ensures.found in
    let p = rw c.at_hand.ensures at c.in_ok-others-in-Ok.ensures in
    rw (← c.new.ensures)
    (after_first c.in-Ok.first (rest_of c.new.result) (rest_of c.read_message-first.result.0) _ _ _ c.args.limit _ _ _ c.reported_after.result r p
    c.reported_after.ensures.outcome c.reported_after.ensures.messages c.reported_after.ensures.read)

pub returns-in-Refused-clause-ok : goal.returns-in-Refused-clause-ok
returns-in-Refused-clause-ok c =
    let refused = rw c.in-Refused.is at (rw c.in-Err.is at c.read_message-first.ensures.faults) in
    let first = rw c.in-Refused.is at (rw c.in-Err.is at c.read_message-first.ensures.refines) in
    let some : 0 < length (rest_of c.new.result) = grind (arith, c.is_empty.ensures, c.if-is_empty.false, ap length c.new.ensures) in (
      [],
      Some (faults.Refused c.in-Refused.reason c.in-Refused.at),
      rw (c.failed.ensures.messages, c.failed.ensures.read, ← c.new.ensures)
          (first_refused (rest_of c.new.result) (rest_of c.read_message-first.result.0) c.args.limit c.in-Refused.reason c.in-Refused.at some refused
          first),
      inl (rw c.in-Refused.is at c.failed.ensures.outcome, omega arith, refl),
    )
