-- The octets of a message that are written as they were received.
use Rattle.std.specs.Prelude.{◌≡◌, ◌<◌, ℕ, List, Option, option_map, option_to_list, count_by}
use Rattle.std.specs.Option.{option_and_then, option_or}
use Rattle.std.specs.List.{flat_map}
use Rattle.cms_tlv.specs.Spelling.{ber, der}
use Rattle.cms_fields.specs.Received.{IsPart, times, in_either}
use Rattle.cms_message.specs.Cover.{Covered, covers, same_covered}
use Rattle.cms_message.specs.Received.{in_content_info}
use Rattle.cms_message.specs.SignedData.{encap_content_info, e_content}
use Rattle.cms_tsp.specs.Received.{in_time_stamp_req, in_time_stamp_resp}
use Rattle.cms_tsp.specs.Requests.{MessageImprint}
use Rattle.cms_tsp.specs.TstInfo.{TstInfo, tst_imprint, IsTstInfoOf}
use Rattle.cms_canon.specs.Kinds.{MessageValue, whole_message, signed_data_in, requested_in}

--- `opaque_in v`: each list of octets of a message that is written as it was received [ours]
abbrev pub opaque_in : MessageValue → List (List ℕ)
opaque_in = in_either in_content_info (in_either in_time_stamp_req in_time_stamp_resp)

--- `content_in v`: eContent of its SignedData [RFC 5652, 5.2]
abbrev pub content_in : MessageValue → Option (Option (List ℕ))
content_in v = option_map (λ s. e_content (encap_content_info s)) (signed_data_in v)

--- `IsImprintIn v i`: `i` is the imprint that the message is about, or none: that of a request, or
---   that of the TSTInfo which its content is [RFC 3161, 2.4.1, 2.4.2]
abbrev pub IsImprintIn : MessageValue → Option MessageImprint → Type 0
IsImprintIn v i =
    (read : Option TstInfo) × IsTstInfoOf (option_and_then (λ c. c) (content_in v)) read
    × (i ≡ option_or (requested_in v) (option_map tst_imprint read))

--- `covers_in v detached`: the covers in its SignedData, if it has one [RFC 5652, 5.4, 11.4]
abbrev pub covers_in : MessageValue → Option (List ℕ) → List Covered
covers_in v detached = flat_map (λ s. covers s detached) (option_to_list (signed_data_in v))

--- `HaveTheSame v w`: the content is the same, and each list in `opaque_in` equally often in both
---   [ours]
--- | whatever detached content is given, each cover with its signature is equally often in both
pub record HaveTheSame (v w : MessageValue) : Type 0 where
  pub counted : (z : List ℕ) → times z (opaque_in v) ≡ times z (opaque_in w)
  pub content : content_in v ≡ content_in w
  pub covered : (detached : Option (List ℕ)) (x : Covered)
      → count_by (same_covered x) (covers_in v detached)
      ≡ count_by (same_covered x) (covers_in w detached)

--- `KeepsReceived b o`: `b` spells a message, and `o` is DER of one; these `HaveTheSame` [ours]
--- | each list in `opaque_in` is part of `b` and of `o`
pub record KeepsReceived (b o : List ℕ) : Type 0 where
  pub read : MessageValue
  pub spells : whole_message ber b read
  pub written : MessageValue
  pub der_spells : whole_message der o written
  pub kept : HaveTheSame read written
  pub are_parts : (z : List ℕ) → 0 < times z (opaque_in read) → IsPart z b × IsPart z o
