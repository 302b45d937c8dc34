use Rattle.std.proofs.Common.{refl}
use Rattle.cms_c.specs.declared.extent.Reach.TheVariants as reaches
use Rattle.cms_c.proofs.Extents.{begun_count, still_begun}
use Rattle.cms_c.proofs.extent.extended.Goals as goal

pub returns-then-not-is_within : goal.returns-then-not-is_within
returns-then-not-is_within c b =
    let (n, e) = begun_count c.args.input.now c.args.before.end c.args.before.unended b in
    absurd (c.is_within.ensures.no c.if-not-is_within.true e n)

pub returns-in-Err : goal.returns-in-Err
returns-in-Err c b =
    rw c.with-in-Err.ensures (
      c.in-Err.reach,
      refl,
      (rw c.in-Err.is at c.next.ensures.err)
          (still_begun c.args.input.now c.args.limit c.loop-alloc.extent.end c.loop-alloc.extent.unended (c.goes_on.ensures.yes c.loop-alloc-test.true)
          (c.loop-alloc.invariant.2 b)),
    )

pub loop-alloc-preserved : goal.loop-alloc-preserved
loop-alloc-preserved c =
    let m = rw c.in-Ok.is at c.next.ensures.moved in (
      m.1,
      m.2,
      λ b.
          (rw c.in-Ok.is at c.next.ensures.ok)
          (still_begun c.args.input.now c.args.limit c.loop-alloc.extent.end c.loop-alloc.extent.unended (c.goes_on.ensures.yes c.loop-alloc-test.true)
          (c.loop-alloc.invariant.2 b)) (c.goes_on.ensures.yes c.loop-alloc-test.true),
    )
