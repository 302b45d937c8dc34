use Rattle.std.proofs.Common.{◌++◌, ◌<◌, ◌∷◌, [], ◌∙◌, ap, length, take, drop, arith}
use Rattle.cms_pem.specs.Pem.{lines_of}
use Rattle.cms_pem.proofs.Lines.{line_put}
use Rattle.cms_pem.proofs.written.put_lines.Goals as goal

pub loop-rest-preserved : goal.loop-rest-preserved
loop-rest-preserved c =
    let some : 0 < length c.loop-rest.rest.now = grind (arith, c.is_empty.ensures, c.loop-rest-test.true) in
    let put = c.in_ok-push.ensures.items ∙ ap (λ x. x ++ 10 ∷ []) c.in_ok-extend_from_slice.ensures.items in
    ap (λ x. x ++ lines_of c.split_at.result.1.now) put
    ∙ line_put c.loop-rest.text.items c.loop-rest.rest.now c.split_at.result.0.now c.split_at.result.1.now some
    (c.split_at.ensures.front ∙ ap (λ n. take n c.loop-rest.rest.now) c.min.ensures)
    (c.split_at.ensures.back ∙ ap (λ n. drop n c.loop-rest.rest.now) c.min.ensures) ∙ c.loop-rest.invariant
