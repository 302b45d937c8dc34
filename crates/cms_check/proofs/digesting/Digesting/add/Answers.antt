use Rattle.std.proofs.Common.{◌≡◌, ◌++◌, length, subst, sym}
use Rattle.std.specs.List.{AllZip}
use Rattle.std.proofs.lemmas.Slice.Zip.{AllZip-long}
use Rattle.cms_check.specs.Hashers.{AreDigesting, TakesMore}
use Rattle.cms_check.proofs.Digested.{all_take, whole_written}
use Rattle.cms_check.proofs.digesting.Digesting.add.Goals as goal

pub returns : goal.returns
returns c algorithms m k =
    let hashers = c.self.inside.hashers in
    let old = hashers.items in
    let new = c.add_to_all.new.hashers in
    let taken = subst (λ hs. AllZip (TakesMore c.args.octets.now) hs new) c.deref_mut.ensures.value c.add_to_all.ensures in
    let same : length new ≡ length old = AllZip-long (TakesMore c.args.octets.now) old new taken in
    subst (AreDigesting algorithms (m ++ c.args.octets.now)) (sym (whole_written old new hashers.len same hashers.ok.0))
    (all_take c.args.octets.now m algorithms old new taken (subst (AreDigesting algorithms m) (sym c.self.view_is) k))
