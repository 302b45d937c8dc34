use Rattle.std.proofs.Common.{◌-◌, ◌*◌, arith}
use Rattle.std.proofs.lemmas.Result.{on_ok_weaker}
use Rattle.cms_scalars.proofs.dotted.push_arcs.Goals as goal

pub returns-then-is_empty-clause-first : goal.returns-then-is_empty-clause-first
returns-then-is_empty-clause-first c =
    on_ok_weaker c.write.result (λ w e. (
      c.min-root.result,
      c.args.number - 40 * c.min-root.result,
      record { packed = omega arith; root = omega arith; below = λ h. omega arith },
      (rw e at w),
    )) c.write.ensures.bytes
