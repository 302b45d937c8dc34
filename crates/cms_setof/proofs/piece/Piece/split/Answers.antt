use Rattle.std.proofs.Common.{◌≡◌, ◌+◌, ◌<◌, ◌^◌, length, take, subst, sym, ap, ◌∙◌, arith, rules}
use Rattle.std.proofs.lemmas.List.{take-append-drop}
use Rattle.cms_tlv.specs.Spans.{octets_in}
use Rattle.cms_fields.specs.Assembly.{marked, copied, made}
use Rattle.cms_fields.proofs.AssemblyLaws.{marked_both, length_marked}
use Rattle.cms_setof.specs.Pieces.{marked_piece}
use Rattle.cms_setof.proofs.PieceLaws.{span_cut, span_lies, span_length}
use Rattle.cms_setof.proofs.piece.Piece.split.Goals as goal

pub returns-in-Copied-clause-parts : goal.returns-in-Copied-clause-parts
returns-in-Copied-clause-parts c k l =
    let i = c.in-Copied.field-0.start in
    let j = c.in-Copied.field-0.end in
    let octets = octets_in k i j in
    let some : c.args.n < length octets = subst (λ n. c.args.n < n) (ap (λ p. length (marked_piece k p)) c.in-Copied.is ∙ length_marked copied octets) l in
    let h = span_lies k i j (omega arith) in
    let fits : j < 2 ^ 64 = search rules in
    let m : c.saturating_add-middle.result ≡ i + c.args.n = omega (arith, c.saturating_add-middle.ensures, span_length k i j h.0 h.1) in
    let cut = ap (marked copied) (span_cut k i j c.args.n some) ∙ marked_both copied (octets_in k i (i + c.args.n)) (octets_in k (i + c.args.n) j) in
    rw (c.in-Copied.is, m) cut

pub returns-in_ok-rest-in-Made-clause-parts : goal.returns-in_ok-rest-in-Made-clause-parts
returns-in_ok-rest-in-Made-clause-parts c k l =
    let octets = c.in-Made.octets.items in
    let e = c.in_ok-rest-in-Made.ensures in
    rw (c.in-Made.is, e.items, e.tail) (ap (marked made) (sym (take-append-drop c.min.result octets)) ∙ marked_both made (take c.min.result octets) _)
