use Rattle.std.proofs.Common.{◌≡◌, ◌<◌, length, true, false, sym, ◌∙◌, subst, refl, rules, arith}
use Rattle.std.proofs.lemmas.Bool.Decides.{nat_tests}
use Rattle.cms_setof.proofs.FirstFrameLaws.{from_on}
use Rattle.cms_setof.proofs.CheckingLaws.{Checked, first_checked, next_checked, not_ascending, all_checked}
use Rattle.cms_setof.proofs.ascending.frames_ascend.Goals as goal

pub loop-last-init : goal.loop-last-init
loop-last-init c bs p e =
    let row = c.args.row.now in
    let last = c.first_frame-last.result.now in
    subst (Checked bs last) (sym (from_on row (length last)))
    (first_checked bs row last p e c.first_frame-last.ensures.within c.first_frame-last.ensures.frame)

pub loop-last-preserved : goal.loop-last-preserved
loop-last-preserved c bs p e =
    let rest = c.loop-last.rest.now in
    let next = c.first_frame-next.result.now in
    let some : 0 < length rest = grind (arith, nat_tests) in
    subst (Checked bs next) (sym (from_on rest (length next)))
    (next_checked (c.loop-last.invariant bs p e) some next c.first_frame-next.ensures.frame c.elements_ascend.result c.elements_ascend.ensures
    c.if-not-elements_ascend.false)

pub returns-then-not-elements_ascend : goal.returns-then-not-elements_ascend
returns-then-not-elements_ascend c bs p e =
    let rest = c.loop-last.rest.now in
    let some : 0 < length rest = grind (arith, nat_tests) in (
      (λ t. cc),
      (λ a.
          let t : true ≡ false =
          sym (not_ascending (c.loop-last.invariant bs p e) some c.first_frame-next.result.now c.first_frame-next.ensures.frame
          c.elements_ascend.result c.elements_ascend.ensures a) ∙ c.if-not-elements_ascend.true in
          cc),
    )

pub returns : goal.returns
returns c bs p e =
    let none : length c.loop-last.rest.now ≡ 0 = search rules in
    ((λ t. all_checked (c.loop-last.invariant bs p e) none), (λ a. refl))
