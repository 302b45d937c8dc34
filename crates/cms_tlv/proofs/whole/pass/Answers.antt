use Rattle.std.proofs.Common.{arith, sym, ◌∙◌}
use Rattle.std.proofs.lemmas.Bool.{eqb-true, eqb-false}
use Rattle.cms_tlv.proofs.Walks.{past, into}
use Rattle.cms_tlv.proofs.whole.pass.Goals as goal

pub returns-then-not-is_constructed-clause-walks :
    goal.returns-then-not-is_constructed-clause-walks
returns-then-not-is_constructed-clause-walks c =
    past _ _ _ _ _ _ _ _ _ c.requires.head c.requires.walks c.requires.room c.if-size-walk.false
    (eqb-false _ 1 (sym c.is_constructed.ensures ∙ c.if-not-is_constructed.true))
    (λ k. omega (arith, c.type_inv.octets k))

pub returns-clause-walks : goal.returns-clause-walks
returns-clause-walks c =
    into _ _ _ _ _ _ _ _ _ c.requires.head c.requires.walks c.requires.room c.if-size-walk.false
    (eqb-true _ 1 (sym c.is_constructed.ensures ∙ c.if-not-is_constructed.false)) c.if-walk-most.false (omega arith)
