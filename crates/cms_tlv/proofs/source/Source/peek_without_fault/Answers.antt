use Rattle.std.proofs.Common.{◌≡◌, false, Some, None, cond, eqb, ◌&&◌, refl, sym, ap, ◌∙◌, arith}
use Rattle.std.proofs.lemmas.Result.{err_from_is_err_and}
use Rattle.cms_tlv.proofs.OctetGives.{look_gave, look_failed}
use Rattle.cms_tlv.proofs.PeekGives.{peek_none, peek_fault, peek_saw}
use Rattle.cms_tlv.specs.Reading.{unless_end}
use Rattle.cms_tlv.proofs.Inverse.{eqb_yes, eqb_no, and_false_second}
use Rattle.cms_tlv.proofs.source.Source.peek_without_fault.Goals as goal
use Rattle.cms_tlv.proofs.source.Source.peek_without_fault.Goals.{else-bound-via-then-bound+else-octet-eq0, else-bound-via-else-bound}

pub returns-then-ends-clause-refines : goal.returns-then-ends-clause-refines
returns-then-ends-clause-refines g c = peek_none c.args.bound.now c.args.self.now (sym c.ends.ensures ∙ c.if-ends.true) c.requires.sound

pub returns-in_err-octet-clause-refines : goal.returns-in_err-octet-clause-refines
returns-in_err-octet-clause-refines g c =
    let p = err_from_is_err_and c.from_residual.result c.from_residual.ensures.1 in
    rw (p.1, p.2) (peek_fault c.args.bound.now c.args.self.now c.look.new.self c.in_err-octet.field-0.0 (sym c.ends.ensures ∙ c.if-ends.false)
    (let k = c.in_err-octet.ensures.err in look_failed c.args.bound.now.end c.args.self.now c.look.new.self c.in_err-octet.field-0.0
    c.requires.sound c.in_err-octet.ensures.looked k.0 k.1 k.2))

pub returns-then-octet-eq0-clause-refines : goal.returns-then-octet-eq0-clause-refines
returns-then-octet-eq0-clause-refines g c =
    let i = c.if-bound.true in
    let z = eqb_yes c.in_ok-octet.octet 0 c.if-octet-eq0.true in
    let u : unless_end c.args.bound.now.indefinite (Some c.in_ok-octet.octet) ≡ None = rw (i, z) refl in
    let e = c.in_ok-octet.ensures in
    peek_saw c.args.bound.now c.args.self.now c.look.new.self c.in_ok-octet.octet None (sym c.ends.ensures ∙ c.if-ends.false) u
    (look_gave c.args.bound.now.end c.args.self.now c.look.new.self c.in_ok-octet.octet e.looked e.ok.0 c.requires.sound e.ok.1
    (omega arith) e.before_end.0 e.before_end.1)

pub returns-clause-refines : goal.returns-clause-refines
returns-clause-refines g c =
    let t = c.in_ok-octet.octet in
    let i = c.args.bound.now.indefinite in
    let no : (i && eqb t 0) ≡ false =
    elim c.else-bound.branch [
      | else-bound-via-then-bound+else-octet-eq0 w ↦
          and_false_second i (eqb t 0) (eqb_no t 0 w.if-octet-eq0.false)
      | else-bound-via-else-bound w ↦ ap (λ x. x && eqb t 0) w.if-bound.false
    ] in
    let e = c.in_ok-octet.ensures in
    peek_saw c.args.bound.now c.args.self.now c.look.new.self t (Some t) (sym c.ends.ensures ∙ c.if-ends.false)
    (ap (λ x. cond x None (Some t)) no) (look_gave c.args.bound.now.end c.args.self.now c.look.new.self t e.looked e.ok.0
    c.requires.sound e.ok.1 (omega arith) e.before_end.0 e.before_end.1)
