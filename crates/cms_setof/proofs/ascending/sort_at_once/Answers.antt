use Rattle.std.proofs.Common.{◌≡◌, [], length, sym, ◌∙◌, ap, subst}
use Rattle.cms_setof.specs.internal.Merging.{AreSorted}
use Rattle.cms_setof.specs.internal.Sorting.{JoinsSorted}
use Rattle.cms_setof.proofs.SortedRows.{spans_len, spans_sorted}
use Rattle.cms_setof.proofs.ascending.sort_at_once.Goals as goal

pub copy_from_slice-requires : goal.copy_from_slice-requires
copy_from_slice-requires c =
    let row = c.args.row.now in
    let spans = c.in_ok-spans.spans.items in
    let new = c.append_sorted.new.out.items in
    let none : c.in_ok-sorted.sorted.items ≡ [] = c.in_ok-sorted.ensures.items in
    let j = subst (λ z. JoinsSorted row spans z new) none
    (subst (λ z. JoinsSorted row z c.in_ok-sorted.sorted.items new) c.deref_mut.ensures.value c.in_ok-append_sorted.ensures) in
    spans_len row spans new j c.in_ok-spans.ensures.whole ∙ ap length (sym c.deref.ensures.value)

pub returns : goal.returns
returns c bs p e =
    let row = c.args.row.now in
    let spans = c.in_ok-spans.spans.items in
    let new = c.append_sorted.new.out.items in
    let none : c.in_ok-sorted.sorted.items ≡ [] = c.in_ok-sorted.ensures.items in
    let j = subst (λ z. JoinsSorted row spans z new) none
    (subst (λ z. JoinsSorted row z c.in_ok-sorted.sorted.items new) c.deref_mut.ensures.value c.in_ok-append_sorted.ensures) in
    subst (AreSorted bs) (sym (c.copy_from_slice.ensures.after ∙ c.deref.ensures.value)) (spans_sorted row spans new j bs p (c.in_ok-spans.ensures.frames bs p e))
