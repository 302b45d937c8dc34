use Rattle.std.proofs.Common.{◌≡◌, length, ap, ◌∙◌, arith}
use Rattle.cms_canon.specs.Whole.{Whole}
use Rattle.cms_canon.proofs.Messages.{all_borrowed}
use Rattle.cms_canon.proofs.message.Message.gathered.Goals as goal

pub returns-then-is_der-clause-der : goal.returns-then-is_der-clause-der
returns-then-is_der-clause-der c =
    let m = c.args.self.now in
    let octets : c.self.inside.kept.items ≡ m.octets = ap (λ (x : Whole). x.octets) c.self.view_is in
    let n : c.len.result ≡ length m.octets = c.len.ensures ∙ (c.self.inside.kept.ok.0 ∙ ap length octets) in
    all_borrowed m.value m.octets _ c.len.result (c.is_der.ensures c.if-is_der.true) n (c.in_ok-lend.ensures m.octets)

pub returns-then-is_der-clause-length : goal.returns-then-is_der-clause-length
returns-then-is_der-clause-length c = let e = c.encoded_len-written.ensures.each _ (returns-then-is_der-clause-der c) in omega (arith, e)
