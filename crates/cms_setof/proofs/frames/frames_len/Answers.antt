use Rattle.std.proofs.Common.{◌≡◌, ◌≤◌, ◌+◌, length, take, ◌∙◌, ap, subst, arith}
use Rattle.std.proofs.lemmas.List.{length-drop}
use Rattle.cms_tlv.specs.Spelling.{join}
use Rattle.cms_setof.proofs.FirstFrameLaws.{from_on}
use Rattle.cms_setof.proofs.PassingLaws.{one_passed, passed_len}
use Rattle.cms_setof.proofs.frames.frames_len.Goals as goal

pub loop-preserved : goal.loop-preserved
loop-preserved c =
    let v = c.loop.invariant in
    let xs = c.args.octets.now in
    let end = c.loop.end in
    let len = c.frame_len-end.result in
    let within : end + len ≤ length xs =
    omega (arith, ap length (from_on xs end) ∙ length-drop end xs, v.within, c.frame_len-end.ensures.within) in
    record {
      within = within;
      passed = λ bs p e. one_passed xs end len within (λ f rest q h. c.frame_len-end.ensures.frame f rest q (from_on xs end ∙ h))
          bs c.loop.counter (v.passed bs p e);
    }

pub returns-clause-frames : goal.returns-clause-frames
returns-clause-frames c bs p e =
    let v = c.loop.invariant in
    let n : c.loop.counter ≡ c.args.count = omega arith in
    subst (λ k. c.loop.end ≡ length (join (take k bs))) n (passed_len bs c.args.octets.now c.loop.counter c.loop.end (v.passed bs p e) v.within e)
