use Rattle.std.proofs.Common.{◌≡◌, ◌++◌, map, sym, ◌∙◌, ap, subst}
use Rattle.std.specs.List.Sorted.{IsPermutation, IsSortedBy}
use Rattle.std.specs.Ordering.{nat_cmp, is_lt}
use Rattle.std.specs.Cmp.Lexicographic.{slice_cmp}
use Rattle.std.proofs.lemmas.List.{with_items_is}
use Rattle.std.proofs.lemmas.List.Sorted.{IsPermutation-refl}
use Rattle.std.proofs.lemmas.Result.{on_ok_weaker}
use Rattle.cms_tlv.specs.Spelling.{join}
use Rattle.cms_fields.specs.Assembly.{unmarked, join_marked}
use Rattle.cms_fields.proofs.AssemblyLaws.{octets_joined}
use Rattle.cms_setof.specs.Pieces.{marked_pieces}
use Rattle.cms_setof.specs.internal.Tracing.{stacked, marked_member, member_octets}
use Rattle.cms_setof.proofs.PieceLaws.{frames_taken, members_sorted}
use Rattle.cms_setof.proofs.members.sort_first.Goals as goal

pub returns-then-frames_ascend : goal.returns-then-frames_ascend
returns-then-frames_ascend c = on_ok_weaker c.put_before.result (λ h frames rest d n e.
    let k = c.args.kept.now in
    let t = frames_taken c.in_ok-first.ensures frames rest n e in
    let octets : c.deref-2.result.now ≡ join (map unmarked frames) = c.deref-2.ensures.value ∙ (c.in_ok-octets.ensures
    ∙ (ap (λ z. unmarked (marked_pieces k z)) c.deref.ensures.value ∙ (ap unmarked t.0 ∙ octets_joined frames))) in (
      frames,
      IsPermutation-refl frames,
      (c.frames_ascend.ensures (map unmarked frames) d octets).0 c.if-frames_ascend.true,
      h k ∙ (ap (λ z. z ++ stacked k c.take_first.new.pieces.items) t.0 ∙ ap (λ z. join_marked frames ++ z) t.1),
    )) c.put_before.ensures

pub returns : goal.returns
returns c = on_ok_weaker c.put_members.result (λ h frames rest d n e.
    let k = c.args.kept.now in
    let t = frames_taken c.in_ok-first.ensures frames rest n e in
    let buffer = c.deref-3.result.now in
    let octets : buffer ≡ join (map unmarked frames) = c.deref-3.ensures.value ∙ (c.in_ok-octets.ensures
    ∙ (ap (λ z. unmarked (marked_pieces k z)) c.deref.ensures.value ∙ (ap unmarked t.0 ∙ octets_joined frames))) in
    let are = c.in_ok-members.ensures frames d t.0 octets in
    let sorted = c.sort_members.new.members in
    let one : c.deref-4.result.now ≡ buffer = c.deref-4.ensures.value ∙ sym c.deref-3.ensures.value in
    let up = subst (λ b. IsSortedBy (λ x y. is_lt (slice_cmp nat_cmp (member_octets b x) (member_octets b y))) sorted) one
    c.sort_members.ensures.sorted in
    let whole = with_items_is c.in_ok-members.members sorted (c.sort_members.auto.members ∙ c.deref_mut.ensures.len) in
    let moved = subst (λ z. IsPermutation z sorted) c.deref_mut.ensures.value c.sort_members.ensures.permutation in
    let s = members_sorted k buffer frames c.in_ok-members.members.items sorted d are moved up in (
      map (marked_member k) sorted,
      s.0,
      s.1,
      h k ∙ (ap (λ z. join_marked (map (marked_member k) z) ++ stacked k c.take_first.new.pieces.items) whole
          ∙ ap (λ z. join_marked (map (marked_member k) sorted) ++ z) t.1),
    )) c.put_members.ensures
