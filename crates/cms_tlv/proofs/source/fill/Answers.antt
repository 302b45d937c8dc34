use Rattle.std.proofs.Common.{◌≡◌, ◌-◌, ◌++◌, ◌≤◌, List, ℕ, take, drop, length, ap, ◌∙◌, arith}
use Rattle.std.proofs.lemmas.List.{length-take, length-drop}
use Rattle.cms_tlv.proofs.Pieces.{filled, fills_ok, unwrap_most}
use Rattle.cms_tlv.proofs.source.fill.Goals as goal

pub returns-clause-ok : goal.returns-clause-ok
returns-clause-ok g c =
    let start = c.args.start in
    let given = c.take-given.new.octets in
    let kept = c.deref_mut.result.now in
    let d : kept ≡ c.args.kept.now.items = c.deref_mut.ensures.value in
    let room : length given ≡ length kept - start =
    omega (arith, c.take-given.auto.octets, length-take (length kept - start) (drop start kept), length-drop start kept) in
    let most = unwrap_most c.take-given.result (length given) c.take-given.ensures.count in
    let u = c.unwrap_or.result in
    let w : u ≤ length given = rw c.unwrap_or.ensures most in
    let same : length kept ≡ c.args.kept.now.len = c.deref_mut.ensures.len in
    fills_ok _ _ _ _ c.take-given.result given c.take-given.ensures.count c.take-given.ensures.octets
    (c.truncate.ensures.items ∙ filled kept given _ _ start u c.args.kept.now.len (omega (arith, c.requires)) w (omega (arith, c.requires))
    ∙ ap (λ (t : List ℕ). take start t ++ take u given) d ∙ ap (λ n. take start c.args.kept.now.items ++ take n given) c.unwrap_or.ensures)
