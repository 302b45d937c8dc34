use Rattle.std.proofs.Common.{◌<◌, ◌≤◌, ◌+◌, length, ◌∙◌, ap, arith}
use Rattle.std.proofs.lemmas.List.{length-drop}
use Rattle.cms_setof.proofs.FirstFrameLaws.{from_on}
use Rattle.cms_setof.proofs.PassingLaws.{one_passed, some_left, all_counted}
use Rattle.cms_setof.proofs.frames.frame_count.Goals as goal

pub loop-end-preserved : goal.loop-end-preserved
loop-end-preserved c =
    let v = c.loop-end.invariant in
    let xs = c.args.octets.now in
    let end = c.loop-end.end in
    let len = c.frame_len-end.result in
    let w = ap length (from_on xs end) ∙ length-drop end xs in
    let within : end + len ≤ length xs = omega (arith, w, v.within, c.frame_len-end.ensures.within) in
    let least : 0 < len = c.frame_len-end.ensures.least (omega (arith, w, c.loop-end-test.true)) in
    record {
      within = within;
      fewer = omega (arith, v.fewer);
      counted = λ bs p e. let h = some_left bs xs c.loop-end.count end (v.passed bs p e) c.loop-end-test.true in omega arith;
      passed = λ bs p e. one_passed xs end len within (λ f rest q h. c.frame_len-end.ensures.frame f rest q (from_on xs end ∙ h))
          bs c.loop-end.count (v.passed bs p e);
    }

pub returns : goal.returns
returns c bs p e =
    let v = c.loop-end.invariant in
    all_counted bs c.args.octets.now c.loop-end.count c.loop-end.end (v.passed bs p e) c.loop-end-test.false (v.counted bs p e)
