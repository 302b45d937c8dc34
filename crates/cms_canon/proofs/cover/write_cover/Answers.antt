use Rattle.std.proofs.Common.{option_map, ap}
use Rattle.std.proofs.lemmas.Result.{IfOk-at_ok, IfErr-at_err}
use Rattle.cms_canon.proofs.CoverFaults.{is_poured, not_poured, not_given}
use Rattle.cms_canon.proofs.cover.write_cover.Goals as goal
use Rattle.cms_canon.proofs.cover.write_cover.Goals.{in-Ok+in-Some-1, in-Ok+in-None-1, in-Err}

pub returns-clause-ok : goal.returns-clause-ok
returns-clause-ok g c = elim c.match-given.branch [
  | in-Ok+in-Some-1 w ↦ rw (w.written-is, w.output-is) (is_poured _ _ _ _ _ c.signed_attributes_lie_in_the_message.ensures
      w.in-Ok.given.message (option_map (λ v. v.items) w.in-Ok.given.rest)
      (IfOk-at_ok _ w.in-Ok.is c.read_given-input.ensures.ok) w.pour_cover-written.result
      w.pour_cover-written.ensures.ok)
  | in-Ok+in-None-1 w ↦ rw (w.written-is, w.output-is) (is_poured _ _ _ _ _ c.signed_attributes_lie_in_the_message.ensures
      w.in-Ok.given.message (option_map (λ v. v.items) w.in-Ok.given.rest)
      (IfOk-at_ok _ w.in-Ok.is c.read_given-input.ensures.ok) w.pour_cover-written.result
      w.pour_cover-written.ensures.ok)
  | in-Err w ↦ rw w.written-is tt
]

pub returns-clause-faults : goal.returns-clause-faults
returns-clause-faults g c = elim c.match-given.branch [
  | in-Ok+in-Some-1 w ↦ rw (w.written-is, w.output-is) (not_poured _ _ _ _ _ c.signed_attributes_lie_in_the_message.ensures
      w.in-Ok.given.message (option_map (λ v. v.items) w.in-Ok.given.rest)
      (IfOk-at_ok _ w.in-Ok.is c.read_given-input.ensures.ok) w.pour_cover-written.result
      w.pour_cover-written.ensures.err)
  | in-Ok+in-None-1 w ↦ rw (w.written-is, w.output-is) (not_poured _ _ _ _ _ c.signed_attributes_lie_in_the_message.ensures
      w.in-Ok.given.message (option_map (λ v. v.items) w.in-Ok.given.rest)
      (IfOk-at_ok _ w.in-Ok.is c.read_given-input.ensures.ok) w.pour_cover-written.result
      w.pour_cover-written.ensures.err)
  | in-Err w ↦ not_given _ _ _ _ _ w.in-Err.fault (IfErr-at_err _ w.in-Err.is
      c.read_given-input.ensures.faults) (ap g.O.Output.contents w.output-is, ap g.O.Output.failures w.output-is) c.match-given.written w.written-is
]
