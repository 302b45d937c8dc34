use Rattle.std.proofs.Common.{◌≡◌, ◌+◌, ◌-◌, length, length-append, arith, ap}
use Rattle.std.proofs.lemmas.Result.{err_from_is_err_and}
use Rattle.cms_tlv.proofs.ContentsGives.{has_none, has_more, has_all, no_memory}
use Rattle.cms_tlv.proofs.source.Source.contents_without_fault.Goals as goal

pub returns-in_err-contents_at_hand-clause-refines : goal.returns-in_err-contents_at_hand-clause-refines
returns-in_err-contents_at_hand-clause-refines g c =
    let p = err_from_is_err_and c.from_residual.result c.from_residual.ensures.1 in
    rw (p.1, p.2) (no_memory _ c.requires.sound c.requires.clear c.in_err-contents_at_hand.ensures.clear c.in_err-contents_at_hand.ensures.err)

pub returns-then-branch-clause-refines : goal.returns-then-branch-clause-refines
returns-then-branch-clause-refines g c =
    let s = c.args.self.now in
    let n = c.args.n in
    let t = c.in_ok-contents_at_hand.ensures.yes c.if-branch.true in
    let h = has_more n n n (has_none n s c.requires.clear c.requires.sound) t c.in_ok-contents_at_hand.ensures.clear c.requires.room in
    let at : c.consumed-end.result ≡ length s.done + n =
    omega (arith, c.consumed-end.ensures.value, ap length t.adds.done, length-append s.done t.octets, t.count) in
    has_all n (n - n) (c.consumed-end.result - n) c.consumed-end.result s c.contents_at_hand.new.self (omega arith) h (omega (arith, at)) (omega (arith, at))
