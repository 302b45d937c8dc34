use Rattle.std.proofs.Common.{◌≡◌, ◌++◌, ◌≤◌, length, drop, take, ap, ◌∙◌, arith, append_assoc}
use Rattle.std.proofs.lemmas.List.{append-nil}
use Rattle.std.proofs.lemmas.Result.{on_ok_weaker}
use Rattle.cms_tlv.specs.Spelling.{join}
use Rattle.cms_fields.specs.Received.{spanned_in}
use Rattle.cms_setof.specs.Gathering.{octets_of_parts}
use Rattle.cms_setof.proofs.FrontLaws.{begin_alike}
use Rattle.cms_setof.proofs.gathered.Gathered.sort_first.Goals as goal

pub returns : goal.returns
returns c =
    let k = c.args.kept.now in
    let kept : octets_of_parts k c.if-n-octets.self ≡ octets_of_parts k c.args.self.now = elim c.if-n-octets.branch [
      | goal.then-n-octets+in_ok-settle w ↦ ap (octets_of_parts k) (w.self-is ∙ w.in_ok-settle.ensures) ∙ append-nil (octets_of_parts k c.args.self.now)
      | goal.else-n-octets w ↦ ap (octets_of_parts k) w.self-is
    ] in
    let inside = c.self-2.inside in
    let after = join (spanned_in k inside.borrowed.items) ++ inside.after in
    let now : inside.before ++ after ≡ octets_of_parts k c.args.self.now = ap (octets_of_parts k) c.self-2.view_is ∙ kept in
    on_ok_weaker c.sort_first.result (λ h frames rest d n e.
    let small : length (join frames) ≤ length inside.before = (let l = ap length c.octets-2.ensures in omega (arith, l, c.if-n-octets-2.false, n)) in
    let p = begin_alike (join frames) inside.before after rest (now ∙ e) small in
    let r = h frames d (ap (λ i. take i inside.before) n ∙ p.0) in (
      r.0,
      r.1,
      ap (λ z. z ++ after) r.2 ∙ (append_assoc r.0 (drop c.args.n inside.before) after
          ∙ ap (λ z. r.0 ++ z) (ap (λ i. drop i inside.before ++ after) n ∙ p.1)),
    )) c.sort_first.ensures
