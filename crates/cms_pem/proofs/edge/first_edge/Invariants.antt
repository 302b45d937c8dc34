use Rattle.cms_pem.specs.Pem.{HasNoEdge}
use Rattle.cms_pem.proofs.edge.first_edge.Given as goal

abbrev pub invariant-loop-at : goal.invariant-loop-at
invariant-loop-at l = HasNoEdge l.word l.text l.from l.at
