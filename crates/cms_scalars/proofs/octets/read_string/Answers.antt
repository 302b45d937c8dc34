use Rattle.std.proofs.Common.{ℕ, List, ◌≡◌, ◌++◌, sym, ap, ◌∙◌}
use Rattle.std.proofs.lemmas.Result.{err_from_is_err_and}
use Rattle.cms_tlv.proofs.SourceLaws.{passes_behind}
use Rattle.cms_tlv.proofs.Bind.{fails_then, reaches_then, gave}
use Rattle.cms_tlv.proofs.Exits.{answers_of}
use Rattle.cms_fields.specs.Received.{spanned_in}
use Rattle.cms_scalars.specs.Readers.{octet_string_parts_of}
use Rattle.cms_scalars.specs.Borrowed.{added_spans}
use Rattle.cms_scalars.proofs.StringGives.{told, looks, peek_fails, part_fails, part_gave, of_added, passes}
use Rattle.cms_scalars.proofs.octets.read_string.Goals as goal

pub returns-in_err-peek-clause-refines : goal.returns-in_err-peek-clause-refines
unfolding octet_string_parts_of
returns-in_err-peek-clause-refines g c sound =
    let p = err_from_is_err_and c.from_residual.result c.from_residual.ensures.1 in
    rw (p.1, p.2) (peek_fails _ _ _ (c.in_err-peek.ensures.refines sound))

pub returns-in_err-contents-clause-refines : goal.returns-in_err-contents-clause-refines
unfolding octet_string_parts_of
returns-in_err-contents-clause-refines g c sound =
    let p = err_from_is_err_and c.from_residual-in_err-contents.result c.from_residual-in_err-contents.ensures.1 in
    let next = c.in_ok-peek.ensures.refines sound in
    rw (p.1, p.2) (part_fails _ _ _ next (told c.in_ok-peek.field-0 g.row.ID c.eq.ensures c.if-eq.true) (c.in_err-contents.ensures.refines next.sound))

pub returns-in_err-contents-clause-accounted : goal.returns-in_err-contents-clause-accounted
returns-in_err-contents-clause-accounted g c sound = answers_of _ _ _ _ _ (returns-in_err-contents-clause-refines g c sound)

pub returns-then-eq-clause-ok : goal.returns-then-eq-clause-ok
returns-then-eq-clause-ok g c = passes_behind c.in_ok-peek.ensures.ok c.in_ok-contents.ensures.ok

pub returns-then-eq-clause-accounted : goal.returns-then-eq-clause-accounted
returns-then-eq-clause-accounted g c sound = (returns-then-eq-clause-ok g c).goes

pub returns-then-eq-clause-refines : goal.returns-then-eq-clause-refines
unfolding octet_string_parts_of
returns-then-eq-clause-refines g c sound =
    let next = c.in_ok-peek.ensures.refines sound in
    let part = part_gave _ _ _ next (told c.in_ok-peek.field-0 g.row.ID c.eq.ensures c.if-eq.true) (c.in_ok-contents.ensures.refines next.sound) in
    let shown = λ (k : List ℕ). ap (λ z. spanned_in k z) c.one.ensures in
    let done = c.primitive.new.self.done in
    gave _ part.reaches (sym (shown done)) part.sound (λ s k. shown s.done ∙ part.lasts s k ∙ sym (shown done))

pub returns-in_err-read_parts-clause-refines : goal.returns-in_err-read_parts-clause-refines
unfolding octet_string_parts_of
returns-in_err-read_parts-clause-refines g c sound =
    let p = err_from_is_err_and c.from_residual-in_err-read_parts.result c.from_residual-in_err-read_parts.ensures.1 in
    let next = c.in_ok-peek.ensures.refines sound in
    rw (p.1, p.2) (fails_then (looks _ c.args.bound.now next) c.in_err-read_parts.ensures.refines)

pub returns-in_err-read_parts-clause-accounted : goal.returns-in_err-read_parts-clause-accounted
returns-in_err-read_parts-clause-accounted g c sound = answers_of _ _ _ _ _ (returns-in_err-read_parts-clause-refines g c sound)

pub returns-clause-refines : goal.returns-clause-refines
unfolding octet_string_parts_of
returns-clause-refines g c sound =
    let next = c.in_ok-peek.ensures.refines sound in
    let new = added_spans c.new-spans.result c.read_parts.new.spans in
    let items : c.read_parts.new.spans ≡ new = c.in_ok-read_parts.ensures.ok.added ∙ ap (λ z. z ++ new) c.new-spans.ensures in
    let parts = of_added new c.in_ok-read_parts.ensures.refines in
    let shown = λ (k : List ℕ). ap (λ z. spanned_in k z) items in
    let done = c.read_parts.new.source.done in
    gave _ (reaches_then (looks _ c.args.bound.now next) parts.reaches) (sym (shown done)) parts.sound
    (λ s k. shown s.done ∙ parts.lasts s k ∙ sym (shown done))

pub returns-clause-ok : goal.returns-clause-ok
returns-clause-ok g c = passes_behind c.in_ok-peek.ensures.ok (passes c.in_ok-read_parts.ensures.refines c.in_ok-read_parts.ensures.ok.moved)

pub returns-clause-accounted : goal.returns-clause-accounted
returns-clause-accounted g c sound = (returns-clause-ok g c).goes
