use Rattle.std.proofs.Common.{◌≡◌, ◌++◌, ◌<◌, ◌-◌, List, None, length}
use Rattle.cms_tlv.specs.declared.span.Span.{Span}
use Rattle.cms_tlv.specs.State.{State}
use Rattle.cms_tlv.specs.Reading.{row_of}
use Rattle.cms_tlv.proofs.Loops.{HasRead}
use Rattle.cms_fields.specs.Received.{spanned_in}
use Rattle.cms_scalars.specs.Octets.{in_turn}
use Rattle.cms_scalars.specs.Readers.{parts_of, segments_of}
use Rattle.cms_scalars.proofs.octets.+read_parts.Given as goal

abbrev pub decreases-read_parts : goal.decreases-read_parts
decreases-read_parts g l = l.levels

abbrev pub invariant-loop-source : goal.invariant-loop-source
invariant-loop-source g l = (l.source.ahead ≡ None) × (length l.fn.source.done < length l.source.done)
    × ((pieces : List (List Span)) × (l.spans ≡ l.fn.spans ++ in_turn pieces)
    × HasRead (λ (s : State) xs. spanned_in s.done xs) (row_of (parts_of 0x04 (segments_of (l.levels - 1)))) tt l.inner l.initial.source
    l.source tt pieces)

abbrev pub decreases-loop-source : goal.decreases-loop-source
decreases-loop-source g l = l.source.limit - length l.source.done
