use Rattle.std.proofs.Common.{◌+◌, length, refl, arith, ap}
use Rattle.cms_tlv.specs.State.{as_list}
use Rattle.cms_tlv.proofs.Steps.{Consumes-nothing}
use Rattle.cms_tlv.proofs.ContentsGives.{counted_rose}
use Rattle.cms_tlv.proofs.OctetGives.{looked_none, looked_one, none_ahead}
use Rattle.cms_tlv.proofs.source.Source.take_ahead.Goals as goal

pub returns-then-is_err-clause-looked : goal.returns-then-is_err-clause-looked
returns-then-is_err-clause-looked g c =
    let k = rw (← c.self.view_is) at c.requires.clear in
    rw (← c.self.view_is, c.fail.ensures.state) (looked_none c.reserve.ensures.items k k (Consumes-nothing _) refl (omega arith) (λ _. refl))

pub returns-then-is_err-clause-err : goal.returns-then-is_err-clause-err
returns-then-is_err-clause-err g c =
    let k = rw (← c.self.view_is) at c.requires.clear in
    rw (← c.self.view_is, c.fail.ensures.state, c.fail.ensures.same) (refl, k, refl)

pub returns-in-Err-clause-looked : goal.returns-in-Err-clause-looked
returns-in-Err-clause-looked g c =
    let k = rw (← c.self.view_is) at c.requires.clear in
    rw (← c.self.view_is, c.fail-in-Err.ensures.state) (looked_none c.reserve.ensures.items k k c.in-Err.ensures.err refl
    (counted_rose _ _ c.in-Err.ensures.failures).1 (λ n. absurd (n refl)))

pub returns-in-Err-clause-err : goal.returns-in-Err-clause-err
returns-in-Err-clause-err g c =
    let k = rw (← c.self.view_is) at c.requires.clear in
    rw (← c.self.view_is, c.fail-in-Err.ensures.state, c.fail-in-Err.ensures.same) (refl, k, (counted_rose _ _ c.in-Err.ensures.failures).0)

pub returns-in-Ok-None-clause-looked : goal.returns-in-Ok-None-clause-looked
returns-in-Ok-None-clause-looked g c =
    let k = rw (← c.self.view_is) at c.requires.clear in
    rw (← c.self.view_is, c.refused.ensures.state) (looked_none c.reserve.ensures.items k k
    (rw c.in-Ok-None.field-0-is at c.in-Ok-None.ensures.octet) refl (omega (arith, c.in-Ok-None.ensures.failures))
    (λ _. c.in-Ok-None.ensures.failures))

pub returns-in-Ok-None-clause-err : goal.returns-in-Ok-None-clause-err
returns-in-Ok-None-clause-err g c =
    let k = rw (← c.self.view_is) at c.requires.clear in
    let room = rw (← c.self.view_is) at c.requires.room in
    let d = ap length c.reserve.ensures.items in
    rw (← c.self.view_is, c.refused.ensures.state, c.refused.ensures.same) (
      refl,
      k,
      (
        ap (λ n. n + length (as_list c.self.inside.ahead)) d,
        c.in-Ok-None.ensures.end c.in-Ok-None.field-0-is,
        none_ahead k room,
        tt,
        k,
      ),
    )

pub returns-in-Ok-Some-clause-ok : goal.returns-in-Ok-Some-clause-ok
returns-in-Ok-Some-clause-ok g c =
    let s = rw (← c.self.view_is) at c.requires.sound in
    (refl, s)

pub returns-in-Ok-Some-clause-looked : goal.returns-in-Ok-Some-clause-looked
returns-in-Ok-Some-clause-looked g c =
    let k = rw (← c.self.view_is) at c.requires.clear in
    rw (← c.self.view_is) (looked_one c.in-Ok-Some.octet c.reserve.ensures.items k refl
    (rw c.in-Ok-Some.field-0-is at c.in-Ok-Some.ensures.octet) refl (omega (arith, c.in-Ok-Some.ensures.failures))
    (λ _. c.in-Ok-Some.ensures.failures))
