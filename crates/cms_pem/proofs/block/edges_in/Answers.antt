use Rattle.std.proofs.Common.{inl, inr}
use Rattle.cms_pem.proofs.Edges.{differ}
use Rattle.cms_pem.proofs.block.edges_in.Goals as goal

pub returns-in_default-first_edge-clause-err : goal.returns-in_default-first_edge-clause-err
returns-in_default-first_edge-clause-err c = (
  c.in-Some.begin.label.now,
  c.in-Some.begin.after,
  record { begin = c.in-Some.begin.at; begins = c.in-Some.ensures.some; follows = c.in-Some.ensures.after },
  inl c.in_default-first_edge.ensures.none,
)

pub returns-then-ne-clause-err : goal.returns-then-ne-clause-err
returns-then-ne-clause-err c = (
  c.in-Some.begin.label.now,
  c.in-Some.begin.after,
  record { begin = c.in-Some.begin.at; begins = c.in-Some.ensures.some; follows = c.in-Some.ensures.after },
  inr (c.in-Some-first_edge.end.label.now, c.in-Some-first_edge.end.at, c.in-Some-first_edge.ensures.some, differ c.in-Some.begin.label.now c.in-Some-first_edge.end.label.now c.if-ne.ensures),
)
