-- The values of borrowed scalars: their contents octets; and the parts of strings.
use Rattle.std.specs.Prelude.{◌≡◌, ℕ, ◌<◌, List, ◌++◌, length, drop, None}
use Rattle.cms_tlv.specs.declared.span.Span.{Span}
use Rattle.cms_tlv.specs.Spans.{borrowed_spans}
use Rattle.cms_tlv.specs.State.{State}
use Rattle.cms_fields.specs.Received.{spanned_in}
use Rattle.cms_scalars.specs.declared.octets.OctetsSpan.{OctetsSpan}
use Rattle.cms_scalars.specs.declared.octets.Octets.{Octets}
use Rattle.cms_scalars.specs.declared.scalars.Integer.{Integer}
use Rattle.cms_scalars.specs.declared.scalars.Oid.{Oid}

--- `borrowed_integer x`, `borrowed_oid x`: the contents octets of a borrowed INTEGER or OBJECT
---   IDENTIFIER
abbrev pub borrowed_integer : Integer → List ℕ
borrowed_integer x = x.octets.now

abbrev pub borrowed_oid : Oid → List ℕ
borrowed_oid x = x.octets.now

--- `added_spans old new`: the spans of `new` after the first ones, which are as many as `old` has
abbrev pub added_spans : List Span → List Span → List Span
added_spans old new = drop (length old) new

-- spans were added after those that were there, octets were consumed, and none is kept ahead
pub record AddsSpans (old new : List Span) (a b : State) : Type 0 where
  pub added : new ≡ old ++ added_spans old new
  pub moved : length a.done < length b.done
  pub clear : b.ahead ≡ None

--- `parts_in k x`, `borrowed_pieces x`: the parts that it shows in the kept octets `k`; those of a
---   borrowed string
abbrev pub parts_in : {id : ℕ} → List ℕ → OctetsSpan id → List (List ℕ)
parts_in k x = spanned_in k x.0.0

-- the parts that are borrowed
abbrev pub borrowed_pieces : Octets → List (List ℕ)
borrowed_pieces x = spanned_in x.kept.now (borrowed_spans x.spans)
