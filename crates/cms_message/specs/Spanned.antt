-- What spans show in kept octets.
use Rattle.std.specs.Prelude.{ℕ, zero, suc, List, [], map, Box, Option, option_map, ◌⊎◌}
use mathlib.Core.Logic.{inl, inr}
use Rattle.std.specs.Global.{Global}
use Rattle.cms_tlv.specs.Spans.{octets_in}
use Rattle.cms_tlv.specs.Spelling.{join}
use Rattle.cms_fields.specs.Choices.{choice_value}
use Rattle.cms_fields.specs.declared.choice.Choice.{Choice}
use Rattle.cms_scalars.specs.declared.scalars.IntegerOctets.{IntegerOctets}
use Rattle.cms_scalars.specs.declared.octets.OctetsSpan.{OctetsSpan}
use Rattle.cms_fields.specs.declared.among.Only.{Only}
use Rattle.cms_fields.specs.declared.among.OpaqueAmong.{OpaqueAmong}
use Rattle.cms_fields.specs.declared.contents.Last.{Last}
use Rattle.cms_fields.specs.declared.contents.Then.{Then}
use Rattle.cms_fields.specs.declared.element.Tagged.{Tagged}
use Rattle.cms_fields.specs.declared.opaque.Opaque.{Opaque}
use Rattle.cms_fields.specs.declared.primitive.Primitive.{Primitive}
use Rattle.cms_fields.specs.declared.strict.AlreadyDer.{AlreadyDer}
use Rattle.cms_setof.specs.declared.non_empty.NonEmptySetOf.{NonEmptySetOf}
use Rattle.cms_scalars.specs.Borrowed.{parts_in, borrowed_integer, borrowed_pieces}
use Rattle.cms_message.specs.declared.algorithm.AlgorithmIdentifierSpans.{AlgorithmIdentifierSpans}
use Rattle.cms_message.specs.declared.attribute.AttributeSpans.{AttributeSpans}
use Rattle.cms_message.specs.declared.signer_info.SignerIdentifier.{SignerIdentifier as BorrowedIdentifier}
use Rattle.cms_message.specs.declared.signer_info.SignerIdentifier.TheVariants as identifiers
use Rattle.cms_message.specs.declared.signer_info.SignerInfoSpans.{SignerInfoSpans}
use Rattle.cms_message.specs.declared.signed_data.SignedDataSpans.{SignedDataSpans}
use Rattle.cms_message.specs.declared.signer_info.SignerSpans.{SignerSpans}
use Rattle.cms_message.specs.declared.countersignature.NoCountersignatures.{NoCountersignatures}
use Rattle.cms_message.specs.declared.countersignature.UnsignedAttributeSpans.{UnsignedAttributeSpans}
use Rattle.cms_message.specs.declared.attribute.AttributeSet.{AttributeSet}
use Rattle.cms_message.specs.declared.attribute.AttributeSet.TheVariants as sets
use Rattle.cms_message.specs.declared.attribute.Values.{Values}
use Rattle.cms_message.specs.declared.attribute.Values.TheVariants as values
use Rattle.cms_message.specs.Spans as spans
use Rattle.cms_message.specs.Spans.{held, first, others, last}
use Rattle.cms_message.specs.Signers.{AnySigner, AnyAttribute, within, as_any_attribute}
use Rattle.cms_message.specs.Algorithms.{AlgorithmIdentifier}
use Rattle.cms_message.specs.Attributes.{Attribute, SignedAttributes}
use Rattle.cms_message.specs.SignerInfo.{SignerIdentifier, SignerInfo, SignerWithin}
use Rattle.cms_message.specs.Countersignatures.{UnsignedAttribute}
use Rattle.cms_message.specs.SignedData.{Signer, SignedData}

abbrev pub primitive_spanned : {id : ℕ} {K : Type 0} → List ℕ → Primitive id K → List ℕ
primitive_spanned k x = octets_in k x.0.span.start x.0.span.end

abbrev pub opaque_spanned : List ℕ → Opaque → List ℕ
opaque_spanned k x = octets_in k x.0.span.start x.0.span.end

abbrev pub choice_spanned : {I : Type 0} → List ℕ → OpaqueAmong I → List ℕ
choice_spanned k x = octets_in k x.0.span.start x.0.span.end

--- `choices_spanned k x`, `choice_spanned`: those of certificates or revocation information; that
---   of one of them
abbrev pub choices_spanned : {I : Type 0} → List ℕ → List (OpaqueAmong I) → List (List ℕ)
choices_spanned k xs = map (choice_spanned k) xs

--- `algorithm_identifier_spanned k x`: the AlgorithmIdentifier whose parts lie in `k` as `x` says
abbrev pub algorithm_identifier_spanned : List ℕ → AlgorithmIdentifierSpans → AlgorithmIdentifier
algorithm_identifier_spanned k x =
    (primitive_spanned k (first (held x.0)), option_map (opaque_spanned k) (others (held x.0)))

--- `attribute_spanned k x`, `unsigned_attribute_spanned show k x`: those of an attribute, and of an
---   unsigned attribute
abbrev pub attribute_spanned : List ℕ → AttributeSpans → Attribute
attribute_spanned k x = (
  primitive_spanned k (first (held x.0)),
  map (opaque_spanned k) (held (last (others (held x.0)))),
)

-- what a box holds
abbrev boxed : {A : Type 0} → Box A Global → A
boxed x = x.value

-- its type, and its countersignatures, as show says, or its values
abbrev pub unsigned_attribute_spanned : {X C : Type 0} → (List ℕ → X → C) → List ℕ
    → UnsignedAttributeSpans X → UnsignedAttribute C
unsigned_attribute_spanned show k x = (
  primitive_spanned k (held x.0).0,
  choice_value (λ c. show k (boxed (held (last c)))) (λ v. map (opaque_spanned k) (held (last v)))
      (held x.0).1,
)

abbrev members_spanned : {X V : Type 0} → (X → V) → NonEmptySetOf X → List V
members_spanned show x = map show x.0

abbrev already_der_spanned : {X V : Type 0} → (List ℕ → X → V) → List ℕ → AlreadyDer X → List ℕ × V
already_der_spanned show k x = (octets_in k x.span.start x.span.end, show k x.field)

abbrev pub signer_identifier_spanned : List ℕ
    → Choice (Tagged 0x30 (Then (OpaqueAmong (Only 0x30)) (Last (Primitive 0x02 IntegerOctets))))
    (OctetsSpan 0x80) → SignerIdentifier
signer_identifier_spanned k =
    choice_value (λ x.
    (choice_spanned k (first (held x)), primitive_spanned k (last (others (held x)))))
    (λ x. join (parts_in k x))

abbrev pub signed_attributes_spanned : List ℕ
    → Option (AlreadyDer (Tagged 0xa0 (NonEmptySetOf AttributeSpans))) → Option SignedAttributes
signed_attributes_spanned k =
    option_map (already_der_spanned (λ k s. members_spanned (attribute_spanned k) (held s)) k)

-- as show says of its countersignatures
abbrev pub signer_info_spanned : {X C : Type 0} → (List ℕ → X → C) → List ℕ → SignerInfoSpans X
    → SignerInfo C
signer_info_spanned show k v =
    let after = spans.after_digest_algorithm v in (
      primitive_spanned k (spans.signer_version v),
      (
        signer_identifier_spanned k (spans.sid v),
        (
          algorithm_identifier_spanned k (spans.digest_algorithm v),
          (
            signed_attributes_spanned k (spans.signed_attrs after),
            (
              algorithm_identifier_spanned k (spans.signature_algorithm after),
              (
                join (parts_in k (spans.signature after)),
                option_map (λ u. members_spanned (unsigned_attribute_spanned show k) (held u))
                    (spans.unsigned_attrs after),
              ),
            ),
          ),
        ),
      ),
    )

-- the spans of countersignatures within d levels of signers
abbrev pub SpansWithin : ℕ → Type 0
SpansWithin zero = NoCountersignatures
SpansWithin (suc d) = List (SignerInfoSpans (SpansWithin d))

--- `spanned_within d`: those of countersignatures within `d` levels
abbrev pub spanned_within : (d : ℕ) → List ℕ → SpansWithin d → List (SignerWithin d)
spanned_within zero k x = []
spanned_within (suc d) k xs = map (signer_info_spanned (spanned_within d) k) xs

--- `signer_spanned k x`, `signer_info_spanned show k x`: that of a signer, and of a SignerInfo
abbrev pub signer_spanned : List ℕ → SignerSpans → Signer
signer_spanned k x = signer_info_spanned (spanned_within 4) k x.0

--- `borrowed_signer_identifier x`, in `Spanned.antt`: the value of a borrowed identifier of a
---   signer
abbrev pub borrowed_signer_identifier : BorrowedIdentifier → SignerIdentifier
borrowed_signer_identifier (identifiers.IssuerAndSerialNumber issuer serial) =
    inl (issuer.now, borrowed_integer serial)
borrowed_signer_identifier (identifiers.SubjectKeyIdentifier key) = inr (join (borrowed_pieces key))

--- `signed_data_spanned k x`: the value of a SignedData
abbrev pub signed_data_spanned : List ℕ → SignedDataSpans → SignedData
signed_data_spanned k v =
    let encapsulated = spans.encap_content_info v in
    let after = spans.after_content v in (
      primitive_spanned k (spans.version v),
      (
        map (algorithm_identifier_spanned k) (spans.digest_algorithms v),
        (
          (
            primitive_spanned k (spans.e_content_type encapsulated),
            option_map (λ c. join (parts_in k (last (held c)))) (spans.e_content encapsulated),
          ),
          (
            option_map (λ c. choices_spanned k (held c)) (spans.certificates after),
            (
              option_map (λ c. choices_spanned k (held c)) (spans.crls after),
              map (signer_spanned k) (spans.signer_infos after),
            ),
          ),
        ),
      ),
    )

--- `lends d`, `borrowed_attributes`, `borrowed_values`: what countersignatures, attributes and the
---   values of an attribute lend
abbrev pub lends : (d : ℕ) → List ℕ → SpansWithin d → List AnySigner
lends d k x = map (within d) (spanned_within d k x)

-- what attributes lend
abbrev pub borrowed_attributes : List ℕ → AttributeSet → List AnyAttribute
borrowed_attributes k (sets.Signed set) =
    map (λ x. as_any_attribute (attribute_spanned k x)) set.now
borrowed_attributes k (sets.Depth0 set) = map (unsigned_attribute_spanned (lends 4) k) set.now
borrowed_attributes k (sets.Depth1 set) = map (unsigned_attribute_spanned (lends 3) k) set.now
borrowed_attributes k (sets.Depth2 set) = map (unsigned_attribute_spanned (lends 2) k) set.now
borrowed_attributes k (sets.Depth3 set) = map (unsigned_attribute_spanned (lends 1) k) set.now
borrowed_attributes k (sets.Depth4 set) = map (unsigned_attribute_spanned (lends 0) k) set.now

-- what its values lend
abbrev pub borrowed_values : List ℕ → Values → List AnySigner ⊎ List (List ℕ)
borrowed_values k (values.Opaque set) = inr (map (opaque_spanned k) set.now)
borrowed_values k (values.Depth1 set) = inl (lends 4 k set.now)
borrowed_values k (values.Depth2 set) = inl (lends 3 k set.now)
borrowed_values k (values.Depth3 set) = inl (lends 2 k set.now)
borrowed_values k (values.Depth4 set) = inl (lends 1 k set.now)
borrowed_values k values.NoCountersignatures = inl []
