use Rattle.std.proofs.Common.{◌≡◌, ◌++◌, length, drop, inl, inr, ap, subst, sym, ◌∙◌, arith}
use Rattle.cms_tlv.specs.Spelling.{ber}
use Rattle.cms_setof.specs.Gathering.{octets_of_parts}
use Rattle.cms_canon.specs.Kinds.{whole_message}
use Rattle.cms_canon.specs.Whole.{Whole}
use Rattle.cms_canon.proofs.Canonicalised.{der_of_message}
use Rattle.cms_canon.proofs.message.put_into.Goals as goal
use Rattle.cms_canon.proofs.message.put_into.Goals.{then-written-room, else-written-room}

pub returns-clause-ok : goal.returns-clause-ok
returns-clause-ok c =
    let m = c.args.message.now in
    let before = c.args.room.now in
    let der = c.in_ok-der.der in
    let octets = octets_of_parts m.octets der in
    let kept : c.deref-kept.result.now ≡ m.octets = c.deref-kept.ensures.value ∙ ap (λ (x : Whole). x.octets) c.message.view_is in
    let spelled : whole_message ber m.octets m.value = subst (λ (x : Whole). whole_message ber x.octets x.value) c.message.view_is c.message.invariant.spells in
    let n = c.in_ok-der.ensures.length in
    record {
      octets = octets;
      is_der = c.in_ok-der.ensures.der;
      received = der_of_message c.message_octets_are_kept.ensures m spelled octets c.in_ok-der.ensures.der;
      counted = n;
      put = elim c.if-written-room.branch [
        | then-written-room w ↦ inl (
          omega (arith, w.if-written-room.true),
          w.room-is
              ∙ (w.copy_to.ensures ∙ (ap (λ k. octets_of_parts k der ++ drop (length (octets_of_parts k der)) before) kept
              ∙ ap (λ i. octets ++ drop i before) (sym n))),
        )
        | else-written-room w ↦ inr (omega (arith, w.if-written-room.false), w.room-is)
      ];
    }
