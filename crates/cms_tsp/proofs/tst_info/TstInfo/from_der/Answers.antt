use Rattle.std.proofs.Common.{Ok, refl, ap}
use Rattle.std.proofs.lemmas.Result.{IfOk-weaker}
use Rattle.cms_scalars.specs.Octets.{octet_string}
use Rattle.cms_tsp.proofs.tst_info.TstInfo.from_der.Goals as goal

pub with_time-requires : goal.with_time-requires
unfolding octet_string
with_time-requires c =
    let found = rw c.in-Some.is at (c.in_ok-spans.ensures.found refl refl) in
    rw found.0 found.1

pub returns-in-Some-clause-ok : goal.returns-in-Some-clause-ok
unfolding octet_string
returns-in-Some-clause-ok c =
    let found = rw c.in-Some.is at (c.in_ok-spans.ensures.found refl refl) in
    IfOk-weaker c.with_time.result _ _ (λ t is. rw (← found.0) is) c.with_time.ensures.ok

pub returns-in-None-clause-not_tst : goal.returns-in-None-clause-not_tst
unfolding octet_string
returns-in-None-clause-not_tst c e v spelled = c.in_ok-spans.ensures.none refl refl (ap Ok c.in-None.is) v spelled
