use Rattle.std.proofs.Common.{◌+◌, ◌*◌, refl, sym, ◌∙◌, arith}
use Rattle.std.specs.String.{string_bytes}
use Rattle.cms_scalars.proofs.ArcTexts.{arcs_pushed, number_ended, number_goes_on, too_large, text_ends, text_means, no_text}
use Rattle.cms_scalars.proofs.dotted.dotted_of.Goals.{then-octet-lt128+in_ok-push_arcs, else-octet-lt128}
use Rattle.cms_scalars.proofs.dotted.dotted_of.Goals as goal

pub returns-then-not-is_oid : goal.returns-then-not-is_oid
returns-then-not-is_oid c = no_text c.args.octets.now (sym c.is_oid.ensures.test ∙ c.if-not-is_oid.true)

pub returns-then-number : goal.returns-then-number
returns-then-number c =
    text_means c.args.octets.now (c.is_oid.ensures.meaning.0 c.if-not-is_oid.false) _
    (c.loop-octet.invariant ∙ too_large (string_bytes c.loop-octet.text) c.loop-octet.number c.args.octets.now c.loop-octet.octet-index
    c.loop-octet-test.true c.if-number.true)

pub loop-octet-preserved : goal.loop-octet-preserved
loop-octet-preserved c = c.loop-octet.invariant ∙ elim c.if-octet-lt128.branch [
  | then-octet-lt128+in_ok-push_arcs w ↦
      let p =
      arcs_pushed (string_bytes c.loop-octet.text) (string_bytes w.push_arcs.new.text) (c.loop-octet.number * 128 + c.from.result)
      w.in_ok-push_arcs.ensures.first w.in_ok-push_arcs.ensures.next in
      number_ended (string_bytes c.loop-octet.text) c.loop-octet.number c.args.octets.now c.loop-octet.octet-index c.loop-octet-test.true
      c.if-number.false w.if-octet-lt128.true ∙ (rw (w.text-is, w.number-is, p, c.from.ensures) refl)
  | else-octet-lt128 w ↦
      number_goes_on (string_bytes c.loop-octet.text) c.loop-octet.number c.args.octets.now c.loop-octet.octet-index c.loop-octet-test.true
      c.if-number.false w.if-octet-lt128.false ∙ (rw (w.text-is, w.number-is, c.from.ensures) refl)
]

pub returns : goal.returns
returns c =
    text_means c.args.octets.now (c.is_oid.ensures.meaning.0 c.if-not-is_oid.false) _
    (c.loop-octet.invariant ∙ text_ends (string_bytes c.loop-octet.text) c.loop-octet.number c.args.octets.now c.loop-octet.octet-index
    (omega arith))
