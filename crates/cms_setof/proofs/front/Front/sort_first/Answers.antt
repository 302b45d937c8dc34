use Rattle.std.proofs.Common.{◌≡◌, ◌≤◌, ◌-◌, ◌+◌, ◌++◌, length, drop, take, ap, sym, ◌∙◌, arith, subst}
use Rattle.std.proofs.lemmas.List.{length-take-le, with_items_is}
use borrow.Rule.Slice.PartMut.{put_mid, same_len_mid}
use Rattle.std.proofs.lemmas.Result.{on_ok_weaker}
use Rattle.std.proofs.Math.Seq.{drop-append_seam}
use Rattle.cms_setof.proofs.front.Front.sort_first.Goals as goal

pub returns : goal.returns
returns c =
    let at = c.self.inside.at in
    let n = c.args.n in
    let xs = c.deref_mut.result.now in
    let row = c.sort_frames.new.row in
    let v : xs ≡ c.self.inside.octets.items = c.deref_mut.ensures.value in
    let old : drop at xs ≡ c.args.self.now = ap (λ z. drop at z) v ∙ c.self.view_is in
    let m : at + n - at ≡ n = omega arith in
    let short : length (take at xs) ≡ at = length-take-le at xs (subst (λ z. at ≤ length z) (sym v) c.self.invariant) in
    let first : take (at + n - at) (drop at xs) ≡ take n c.args.self.now = ap (λ k. take k (drop at xs)) m ∙ ap (λ z. take n z) old in
    let rest = ap (λ k. drop k (drop at xs)) m ∙ ap (λ z. drop n z) old in
    let put = put_mid at (at + n - at) xs row in
    let items = with_items_is c.self.inside.octets put (same_len_mid at (at + n - at) xs row c.sort_frames.auto.row ∙ c.deref_mut.ensures.len) in
    let whole = ap (λ z. drop at z) items ∙ (ap (λ k. drop k put) (sym short)
    ∙ (drop-append_seam (take at xs) (row ++ drop (at + n - at) (drop at xs)) ∙ ap (λ z. row ++ z) rest)) in
    on_ok_weaker c.sort_frames.result (λ h frames d e. (row, h frames d (first ∙ e), whole)) c.sort_frames.ensures
