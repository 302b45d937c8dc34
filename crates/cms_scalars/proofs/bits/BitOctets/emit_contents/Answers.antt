use Rattle.std.proofs.Common.{◌∷◌, [], ◌++◌, subst, sym, ap}
use Rattle.std.specs.Int.{w8, trailing_zeros}
use Rattle.std.proofs.lemmas.Result.{on_ok_weaker}
use Rattle.cms_fields.specs.Assembly.{marked, made}
use Rattle.cms_fields.proofs.AssemblyLaws.{marked_both}
use Rattle.cms_scalars.proofs.bits.BitOctets.emit_contents.Goals as goal

pub returns-clause-ok : goal.returns-clause-ok
returns-clause-ok g c =
    let k = c.args.kept.now in
    let front = c.args.self.now.front.now in
    let last = c.args.self.now.last in
    let zeros = trailing_zeros w8 last in
    let both = c.law.ensures.both k (marked made front) (marked made (last ∷ [])) c.args.sink.now c.octets.new.self c.octets-2.new.self
    c.in_ok-octets.ensures.ok c.in_ok-octets-2.ensures.ok in
    let all = ap (λ z. (zeros, made) ∷ z) (sym (marked_both made front (last ∷ []))) in
    on_ok_weaker c.octets-3.result (λ p. subst (λ z. g.S.Sink.taking.puts k c.args.sink.now z c.octets-3.new.self) all
    (c.law.ensures.both k (marked made (zeros ∷ [])) (marked made front ++ marked made (last ∷ [])) c.args.sink.now c.octets-2.new.self
    c.octets-3.new.self both p)) c.octets-3.ensures.ok
