use Rattle.std.proofs.Common.{arith}
use Rattle.cms_setof.proofs.KeyLaws.{begins_itself, begins_like}
use Rattle.cms_setof.proofs.sorting.common_prefix.Goals as goal

pub returns-then-a-i-clause-first : goal.returns-then-a-i-clause-first
returns-then-a-i-clause-first c = begins_itself c.args.a.now c.loop-i.i

pub returns-then-a-i-clause-second : goal.returns-then-a-i-clause-second
returns-then-a-i-clause-second c = begins_like c.args.a.now c.args.b.now c.loop-i.i (omega arith) (omega arith) c.loop-i.invariant

pub returns-clause-first : goal.returns-clause-first
returns-clause-first c = begins_itself c.args.a.now c.min-shorter.result

pub returns-clause-second : goal.returns-clause-second
returns-clause-second c = begins_like c.args.a.now c.args.b.now c.min-shorter.result (omega arith) (omega arith) (λ k l. c.loop-i.invariant k (omega arith))
