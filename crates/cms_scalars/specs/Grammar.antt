-- Scalars and strings, by the names that X.680 has for their types.
use Rattle.std.specs.Prelude.{◌==◌, ◌&&◌, ◌||◌, ℕ, List, Bool, true, false, bytes_eq}
use mathlib.Core.Bool.{beq}
use Rattle.cms_tlv.specs.Headers.{AreOctets}
use Rattle.cms_tlv.specs.Spelling.{Rules, ber, minimal, der, ◌⨟◌}
use Rattle.cms_tlv.specs.RefusalReasons.{says_malformed, says_then}
use Rattle.cms_fields.specs.FirstOctets.{is_primitive_octet, are_apart}
use Rattle.cms_tlv.specs.declared.fault.Reason.TheVariants.{IntegerMalformed, OidMalformed}
use Rattle.cms_tlv.specs.declared.fault.Reason.TheVariants.{BooleanMalformed, BitsMalformed}
use Rattle.cms_tlv.specs.declared.fault.Reason.TheVariants.{UnexpectedElement}
use Rattle.cms_fields.specs.Assembly.{after_header, all_copied, all_made, both_assembled}
use Rattle.cms_fields.specs.Grammar.{Grammar, unread, primitive, constrained}
use Rattle.cms_scalars.specs.Bits.{IsNamedBits, named_bits, named_bits_of}
use Rattle.cms_scalars.specs.Booleans.{truth, boolean, boolean_of, default_false}
use Rattle.cms_scalars.specs.Booleans.{default_false_then_of, unless_false}
use Rattle.cms_scalars.specs.Octets.{octet_string}
use Rattle.cms_scalars.specs.Readers.{is_integer, is_object_identifier, is_string_octet}
use Rattle.cms_scalars.specs.Readers.{octet_string_of}
use Rattle.cms_scalars.specs.Ranges.{IsInRange, is_in_range}
use Rattle.cms_scalars.specs.Scalars.{IsInteger, IsObjectIdentifier}
use Rattle.cms_scalars.specs.Times.{IsGeneralizedTime}
use Rattle.cms_scalars.specs.TimeReaders.{is_generalized_time}

--- `integer_type`: a primitive element 02 whose contents are `IsInteger` [X.690, 8.3]
abbrev pub integer_type : Grammar (List ℕ)
integer_type = primitive 0x02 IsInteger is_integer IntegerMalformed

--- `object_identifier_type`: a primitive element 06 whose contents are `IsObjectIdentifier`
---   [X.690, 8.19]
abbrev pub object_identifier_type : Grammar (List ℕ)
object_identifier_type = primitive 0x06 IsObjectIdentifier is_object_identifier OidMalformed

--- `integer_in_range_type id low high`: an INTEGER `id` of this range, else E8 [X.680, 51.4]
abbrev pub integer_in_range_type : ℕ → ℕ → ℕ → Grammar (List ℕ)
integer_in_range_type id low high =
    constrained id IsInteger is_integer IntegerMalformed (IsInRange low high)
    (is_in_range low high) IntegerMalformed

--- `generalized_time_type`: what `generalized_time` spells [X.690, 8.25]
abbrev pub generalized_time_type : Grammar (List ℕ)
generalized_time_type = primitive 0x18 IsGeneralizedTime is_generalized_time UnexpectedElement

--- `is_not_der m`: `m` is not DER: what strings, bits and BOOLEAN are read by, since no bound
---   judges what DER forbids of them
abbrev pub is_not_der : Rules → Bool
is_not_der ber = true
is_not_der minimal = true
is_not_der der = false

--- `named_bits_type`: what `named_bits` spells [X.690, 8.6]
abbrev pub named_bits_type : Grammar (List ℕ)
named_bits_type = record (unread named_bits (λ v. Unit {0}) bytes_eq) {
  first = λ t. t == 0x03;
  is_field = true;
  reader = named_bits_of;
  read_by = is_not_der;
  malformed = says_malformed 0x03 (λ c. (v : List ℕ) × IsNamedBits ber c v) BitsMalformed;
  assembled = after_header 0x03 (all_made (IsNamedBits der));
}

--- `boolean_type`: what `boolean` spells [X.690, 8.2]
abbrev pub boolean_type : Grammar Bool
boolean_type = record (unread boolean (λ v. Unit {0}) beq) {
  first = λ t. t == 0x01;
  is_field = true;
  reader = boolean_of;
  read_by = is_not_der;
  malformed = says_malformed 0x01 (λ c. (v : Bool) × truth ber c v) BooleanMalformed;
  assembled = all_made (boolean der);
}

--- `octet_string_type id`: what `octet_string id` spells [X.690, 8.7]
abbrev pub octet_string_type : ℕ → Grammar (List ℕ)
octet_string_type id = record (unread (octet_string id) AreOctets bytes_eq) {
  first = is_string_octet id;
  is_field = is_primitive_octet id;
  reader = octet_string_of id;
  read_by = is_not_der;
  assembled = after_header id all_copied;
}

--- `default_false_then h`: what `default_false` spells, then the fields `h` [X.690, 11.5]
abbrev pub default_false_then : {W : Type 0} → Grammar W → Grammar (Bool × W)
default_false_then h = record {
  spelled = λ m. default_false m ⨟ h.spelled m;
  is_value = λ v. h.is_value v.1;
  same = λ v w. beq v.0 w.0 && h.same v.1 w.1;
  first = λ t. (t == 0x01) || h.first t;
  is_field = false;
  is_contents = h.is_contents && are_apart 0x100 (λ t. t == 0x01) h.first;
  reader = default_false_then_of h.reader;
  read_by = λ m. is_not_der m && h.read_by m;
  has_paths = h.has_paths;
  malformed = says_then h.has_paths boolean_type.malformed h.malformed;
  assembled = both_assembled (unless_false boolean_type.assembled) h.assembled;
}
