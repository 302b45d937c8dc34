use Rattle.std.proofs.Common.{arith}
use Rattle.cms_fields.proofs.IndexedLaws.{turn}
use Rattle.cms_fields.proofs.indexed.ItemsIterator.next.Goals as goal

pub returns-clause-steps : goal.returns-clause-steps
returns-clause-steps g c =
    turn g.L.Indexed.value (g.L.Indexed.values c.args.self.now.list) c.args.self.now.next c.get.result
    (omega (arith, c.if-i-len.false, c.len.ensures)) c.get.ensures
