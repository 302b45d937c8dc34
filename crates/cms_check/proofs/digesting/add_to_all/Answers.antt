use Rattle.cms_check.specs.Hashers.{TakesMore}
use Rattle.cms_check.proofs.Digested.{one_more_written}
use Rattle.cms_check.proofs.digesting.add_to_all.Goals as goal

pub loop-hasher-preserved : goal.loop-hasher-preserved
loop-hasher-preserved c =
    let i = c.loop-hasher.hasher-index in
    let written =
    one_more_written (TakesMore c.args.octets.now) c.args.hashers.now c.loop-hasher.hashers i _ c.add.new.self c.loop-hasher-test.true
    c.loop-hasher.auto.hashers c.add.ensures c.loop-hasher.invariant.taken c.loop-hasher.invariant.rest in
    record { taken = written.0; rest = written.1 }
