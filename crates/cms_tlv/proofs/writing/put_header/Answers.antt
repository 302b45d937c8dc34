use Rattle.std.proofs.Common.{◌≡◌, ◌-◌, ◌++◌, length, drop, OnOk, ap, ◌∙◌, take, sym, rules}
use Rattle.std.proofs.lemmas.List.{take_rest}
use Rattle.std.proofs.lemmas.Result.{on_ok_weaker}
use Rattle.cms_tlv.proofs.writing.put_header.Goals as goal

pub returns-clause-ok : goal.returns-clause-ok
returns-clause-ok c =
    let s = c.header_octets-start.result.1 in
    let xs = c.header_octets-start.result.0 in
    let q : take (10 - s) (drop s xs) ≡ drop s xs = ap (λ k. take (k - s) (drop s xs)) (sym c.header_octets-start.ensures.len) ∙ take_rest xs s in
    let h : OnOk c.extend_from_slice.result (c.extend_from_slice.new.self.items ≡ c.args.out.now.items ++ take (10 - s) (drop s xs)) = search rules in
    on_ok_weaker c.extend_from_slice.result (λ g. (
      c.header_octets-start.ensures.header.0,
      c.header_octets-start.ensures.header.1,
      g ∙ ap (λ z. c.args.out.now.items ++ z) (q ∙ c.header_octets-start.ensures.header.2),
    )) h
