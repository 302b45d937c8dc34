use Rattle.std.proofs.Common.{◌≡◌, ◌+◌, ◌-◌, ◌++◌, length, drop, take, ap, sym, ◌∙◌, arith}
use Rattle.std.proofs.Math.Seq.{take-add}
use Rattle.std.proofs.lemmas.Result.{on_ok_weaker}
use Rattle.std.proofs.lemmas.Slice.Eq.{bytes_eq-Decides}
use Rattle.cms_fields.specs.Assembly.{made}
use Rattle.cms_fields.proofs.AssemblyLaws.{octets_marked, length_marked}
use Rattle.cms_setof.proofs.comparing.ComparingSink.octets.Goals as goal

pub returns-then-eq-clause-ok : goal.returns-then-eq-clause-ok
returns-then-eq-clause-ok c =
    let k = c.args.kept.now in
    let m = length c.args.octets.now in
    let at = c.args.self.now.at in
    let s = at - m in
    let rest = drop s k in
    let n : at - s ≡ m = omega (arith, c.if-octets-self.false) in
    let whole : at ≡ s + m = omega (arith, c.if-octets-self.false) in
    let e : take m rest ≡ c.args.octets.now = ap (λ j. take j rest) (sym n)
    ∙ (bytes_eq-Decides (take (at - s) rest) c.args.octets.now).0 (sym c.eq.ensures ∙ c.if-eq.true) in
    let all = ap (λ j. take j k) whole ∙ (take-add s m k ∙ ap (λ z. take s k ++ z) e) in
    rw (octets_marked made c.args.octets.now, length_marked made c.args.octets.now) (on_ok_weaker c.go_back.result (λ h. (all ∙ ap (λ j. take j k ++ c.args.octets.now) (sym h.0), h.1)) c.go_back.ensures)
