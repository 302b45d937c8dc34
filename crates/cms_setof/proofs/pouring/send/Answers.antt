use Rattle.std.proofs.Common.{◌≡◌, ◌+◌, length, take, sym, ap, ◌∙◌}
use Rattle.std.proofs.lemmas.List.{length-take-le}
use Rattle.std.proofs.lemmas.Result.{IfErr-weaker}
use Rattle.cms_setof.specs.declared.pouring.Progress.{Progress}
use Rattle.cms_setof.proofs.PouringLaws.{stops_past, writes_all}
use Rattle.cms_setof.proofs.pouring.send.Goals as goal

pub returns-clause-ok : goal.returns-clause-ok
returns-clause-ok g c =
    let p = c.args.progress.now in
    let q = c.flush.new.progress in
    let buffer = c.args.buffer.now in
    let held = ap (λ (r : Progress). r.held) c.in_ok-flush.ensures.progress in
    let sent = ap (λ (r : Progress). r.sent) c.in_ok-flush.ensures.progress in
    writes_all c.args.octets.now p (record { held = q.held; sent = c.pour_more.new.sent }) buffer buffer q.sent _ _ _ c.pour_more.result
    c.requires.room held sent c.in_ok-flush.ensures.ok c.pour_more.ensures.ok c.pour_more.ensures.sent

pub returns-clause-err : goal.returns-clause-err
returns-clause-err g c =
    let p = c.args.progress.now in
    let front = take p.held c.args.buffer.now in
    let sent : c.flush.new.progress.sent ≡ p.sent + length front =
    ap (λ (r : Progress). r.sent) c.in_ok-flush.ensures.progress ∙ ap (λ n. p.sent + n) (sym (length-take-le p.held c.args.buffer.now c.requires.room)) in
    IfErr-weaker c.pour_more.result _ _ (λ f h. stops_past p.sent c.flush.new.progress.sent front c.args.octets.now _ _ _ f sent
    c.in_ok-flush.ensures.ok h) c.pour_more.ensures.err
