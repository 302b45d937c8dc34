-- Unsigned attributes, of which some hold countersignatures (RFC 5652, 11.4).
use Rattle.std.specs.Prelude.{ℕ, List, [], Bool, true, false, bytes_eq, ◌⊎◌, if◌then◌else◌}
use Rattle.cms_tlv.specs.declared.bound.Bound.{Bound}
use Rattle.cms_tlv.specs.declared.fault.Reason.TheVariants.{OidMalformed, CountersignTooDeep}
use Rattle.cms_tlv.specs.Spelling.{members}
use Rattle.cms_tlv.specs.Reading.{Reader, ◌>>=◌, give, refuse, enter_of, close_of, peek_of, may_be}
use Rattle.cms_fields.specs.Assembly.{each_in_order}
use Rattle.cms_fields.specs.Grammar.{Grammar, unread, tagged, opaque_element, last, selected}
use Rattle.cms_setof.specs.Grammar.{set_of}
use Rattle.cms_setof.specs.Same.{same_members}
use Rattle.cms_scalars.specs.Scalars.{IsObjectIdentifier}
use Rattle.cms_scalars.specs.Readers.{is_object_identifier}
use Rattle.cms_scalars.specs.ObjectIdentifiers.{id_countersignature}

--- `is_countersignature t`: `t` is the contents octets of id-countersignature [RFC 5652, 11.4]
abbrev pub is_countersignature : List ℕ → Bool
is_countersignature t = bytes_eq t id_countersignature

--- `UnsignedAttribute C`: its type, and countersignatures `C` or opaque values [RFC 5652, 11.4]
abbrev pub UnsignedAttribute : Type 0 → Type 0
UnsignedAttribute C = List ℕ × (C ⊎ List (List ℕ))

--- `unsigned_attribute c`: 30 with attrType, and 31 of what `c` describes if that is
---   id-countersignature, else of opaque elements [RFC 5652, 5.3, 11.4]
abbrev pub unsigned_attribute : {C : Type 0} → Grammar C → Grammar (UnsignedAttribute C)
unsigned_attribute c =
    tagged 0x30
    (selected 0x06 IsObjectIdentifier is_object_identifier OidMalformed is_countersignature
    (last (tagged 0x31 c)) (last (tagged 0x31 (set_of opaque_element))))

-- the header of a countersignature that is one level too deep
unfoldable pub too_deep_of : {A : Type 0} → Bound → Reader A
too_deep_of bd = enter_of 0x30 bd >>= λ inner. refuse CountersignTooDeep

--- `no_countersignatures_of`, `too_deep_of`: its pure reader; what that gives for a
---   countersignature: E19 after its header
unfoldable pub no_countersignatures_of : Bound → Reader (List ⊥)
no_countersignatures_of bd =
    peek_of bd >>= λ o. if may_be (λ t. true) o then too_deep_of bd
    else (close_of bd >>= λ u. give [])

--- `no_countersignatures`: a set of none, within 0 levels [ours]
abbrev pub no_countersignatures : Grammar (List ⊥)
no_countersignatures =
    record (unread (λ m. members m (λ b v. ⊥)) (λ v. Unit {0}) (same_members (λ v w. absurd v))) {
      first = λ t. false;
      is_contents = true;
      reader = no_countersignatures_of;
      read_by = λ m. true;
      assembled = each_in_order (λ ms v. ⊥);
    }
