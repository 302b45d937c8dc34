-- What signatures cover (RFC 5652, 5.4 and 11.4), as the fields of a message say, taken one after
-- another.
use Rattle.std.specs.Prelude.{ℕ, ◌+◌, ◌==◌, ◌||◌, List, [], ◌∷◌, ◌++◌, Option, Some, None}
use Rattle.std.specs.Prelude.{if◌then◌else◌}
use Rattle.cms_fields.specs.Received.{in_either}
use Rattle.cms_message.specs.Cover.{Covered, as_set_of}
use Rattle.cms_rows.specs.declared.kinds.TheConstants.{CONTENT, COUNTERSIGNATURE, SIGNATURE}
use Rattle.cms_rows.specs.declared.kinds.TheConstants.{SIGNED_ATTRIBUTES, SIGNER}
use Rattle.cms_rows.specs.Rows.{Entry}

--- `octets_of_entry e`: the octets of a field, and none if it is named bits
abbrev pub octets_of_entry : Entry → List ℕ
octets_of_entry e = in_either (λ octets. octets) (λ bits. []) e.1.1

--- `Known`: what is known between two fields: what a signer or countersignature of each level
---   covers if it has no signed attributes,
--- | and what the next signature covers
abbrev pub Known : Type 0
Known = (ℕ → Option (List ℕ)) × Option (List ℕ)

--- `known_of detached`: what is known before the first field
abbrev pub known_of : Option (List ℕ) → Known
known_of detached = ((λ level. detached), None)

--- `covered_below level signature f`: the signature for the level two below `level`, and `f` for
---   all others
abbrev pub covered_below : ℕ → List ℕ → (ℕ → Option (List ℕ)) → ℕ → Option (List ℕ)
covered_below level signature unsigned l = if l == level + 2 then Some signature else unsigned l

--- `then_known known e`: what is known after the field `e`: content is what signers cover; signed
---   attributes, as a SET OF, take its place;
--- | a signature is what the countersignatures of its signer cover
abbrev pub then_known : Known → Entry → Known
then_known known e =
    if e.0 == CONTENT then ((λ level. Some (octets_of_entry e)), known.1) else
    if (e.0 == SIGNER) || (e.0 == COUNTERSIGNATURE) then (known.0, known.0 e.1.0) else
    if e.0 == SIGNED_ATTRIBUTES then (known.0, Some (as_set_of (octets_of_entry e))) else
    if e.0 == SIGNATURE then (covered_below e.1.0 (octets_of_entry e) known.0, known.1) else
    known

--- `covers_said known es`: what each signature among the fields covers, and the signature
abbrev pub covers_said : Known → List Entry → List Covered
covers_said known [] = []
covers_said known (e ∷ es) =
    (if e.0 == SIGNATURE then (known.1, octets_of_entry e) ∷ [] else [])
    ++ covers_said (then_known known e) es
