use Rattle.std.proofs.Common.{subst, sym, ◌∙◌}
use Rattle.std.proofs.lemmas.Iterator.Consumers.{YieldsList-end}
use Rattle.std.proofs.lemmas.Iterator.Adapters.{YieldsList-from_vec}
use Rattle.cms_check.specs.Hashers.{AreDigesting, AreDigestsBy, EndsWith}
use Rattle.cms_check.proofs.Digested.{all_ended, zip-push}
use Rattle.cms_check.proofs.digesting.Digesting.finish.Goals as goal

pub loop-hasher-preserved : goal.loop-hasher-preserved
loop-hasher-preserved c =
    rw c.in_ok-push.ensures.items (zip-push EndsWith c.loop-hasher.yielded c.loop-hasher.digests.items c.in-Some.hasher c.finish.result
    c.loop-hasher.invariant c.finish.ensures)

pub returns : goal.returns
returns c algorithms m k =
    let gives = c.into_iter-hasher-iterator.ensures.into_iter_gives in
    let all =
    YieldsList-end (YieldsList-from_vec c.self.inside.hashers.items gives.0 (gives.1 ∙ c.self.inside.hashers.ok.0))
    c.loop-hasher.yielded c.loop-hasher.hasher-iterator c.loop-hasher.yielded_by c.next.result c.next.new.self c.in-None.is
    c.next.ensures.steps in
    subst (AreDigestsBy algorithms m) (sym c.new.ensures) (all_ended m algorithms c.self.inside.hashers.items c.loop-hasher.yielded
    c.loop-hasher.digests.items all.0 c.loop-hasher.invariant (subst (AreDigesting algorithms m) (sym c.self.view_is) k))
