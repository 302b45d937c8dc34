use Rattle.std.proofs.Common.{◌≡◌, None, refl, subst, sym, ap, ◌∙◌}
use Rattle.cms_tlv.specs.State.{State, EndUnknown, Looked}
use Rattle.cms_canon.specs.declared.message.Tail.TheVariants.{Leave}
use Rattle.cms_canon.proofs.FirstFaults.{refused_first, unknown_first, unknown_refused, unknown_begun}
use Rattle.cms_canon.proofs.many.read_next.Goals as goal

pub returns-in-Err-clause-refines : goal.returns-in-Err-clause-refines
returns-in-Err-clause-refines g c =
    let begins = c.with_buffer-source.ensures in
    let at_end = c.in-Err.ensures in
    let sound = subst (λ (s : State). s.fault ≡ None) (sym begins) refl in
    rw (c.finish-reader-in-Err.ensures.left, c.finish-reader-in-Err.ensures.failures)
    (refused_first (g.R.Input.left c.args.reader) (g.R.Input.failures c.args.reader) c.args.limit Leave c.at_end.new.self c.in-Err.fault
    (unknown_first (g.R.Input.left c.args.reader) (g.R.Input.failures c.args.reader) c.args.limit c.with_buffer-source.result
    c.at_end.new.self c.in-Err.fault begins at_end.looked at_end.still (at_end.accounted sound) (at_end.faults sound)))

pub returns-in-Err-clause-faults : goal.returns-in-Err-clause-faults
returns-in-Err-clause-faults g c =
    let begins = c.with_buffer-source.ensures in
    let at_end = c.in-Err.ensures in
    let s = c.at_end.new.self in
    let sound = subst (λ (s : State). s.fault ≡ None) (sym begins) refl in
    rw (c.finish-reader-in-Err.ensures.left, c.finish-reader-in-Err.ensures.failures)
    (unknown_refused (g.R.Input.left c.args.reader) (g.R.Input.failures c.args.reader) c.args.limit s c.in-Err.fault
    (subst (λ t. Looked t s) begins at_end.looked) (at_end.still ∙ ap (λ (t : State). t.ahead) begins) (at_end.accounted sound).sticky
    (subst (λ t. EndUnknown t s c.in-Err.fault) begins (at_end.faults sound)))

pub returns-in-Err-clause-begun : goal.returns-in-Err-clause-begun
returns-in-Err-clause-begun g c =
    let sound = subst (λ (s : State). s.fault ≡ None) (sym c.with_buffer-source.ensures) refl in
    unknown_begun c.with_buffer-source.result c.at_end.new.self c.in-Err.fault (c.in-Err.ensures.faults sound)
