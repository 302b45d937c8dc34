-- What a span of kept octets names.
use Rattle.std.specs.Prelude.{ℕ, ◌≤◌, ◌-◌, ◌∷◌, List, [], take, drop, length, map, nat_le, ◌&&◌}
use Rattle.std.specs.Prelude.{if◌then◌else◌}
use Rattle.cms_tlv.specs.declared.span.Span.{Span}
use Rattle.cms_tlv.specs.declared.spans.BorrowedSpans.{BorrowedSpans}
use Rattle.cms_tlv.specs.declared.spans.BorrowedSpans.TheVariants as borrowed
use Rattle.cms_tlv.specs.declared.spans.NearSpan.{NearSpan}
use Rattle.cms_tlv.specs.declared.spans.Places.{Places}
use Rattle.cms_tlv.specs.declared.spans.Places.TheVariants as places
use Rattle.cms_tlv.specs.State.{State}

--- `octets_in kept start end`: the octets from `start` up to `end`; none if there are fewer than
---   `end`
abbrev pub octets_in : List ℕ → ℕ → ℕ → List ℕ
octets_in kept start end =
    if nat_le start end && nat_le end (length kept) then take (end - start) (drop start kept)
    else []

--- `LiesIn span s`: the span names octets that the source consumed
abbrev pub LiesIn : Span → State → Type 0
LiesIn span s = (span.start ≤ span.end) × (span.end ≤ length s.done)

--- `span_of near`: the span with places of the common width
abbrev pub span_of : NearSpan → Span
span_of near = record { start = near.start; end = near.end }

--- `borrowed_spans spans`, `spans_in places`: the list of borrowed spans; of those that are kept
abbrev pub borrowed_spans : BorrowedSpans → List Span
borrowed_spans (borrowed.Near spans) = map span_of spans.now
borrowed_spans (borrowed.Far spans) = spans.now

-- the list that is kept
abbrev pub spans_in : Places → List Span
spans_in places.Empty = []
spans_in (places.One span) = span ∷ []
spans_in (places.Near spans) = map span_of spans.items
spans_in (places.Far spans) = spans.items
