-- One description of a field or of contents: how a value is spelled and read, which values are the
-- same, and of what its DER is assembled.
use Rattle.std.specs.Prelude.{◌≡◌, ◌&&◌, ◌||◌, ◌==◌, ◌⊎◌, ℕ, List, Bool, true, false, Option}
use Rattle.std.specs.Prelude.{IfSome, bytes_eq}
use mathlib.Core.Logic.{inl, inr}
use Rattle.std.specs.Option.{option_eq}
use Rattle.cms_tlv.specs.declared.fault.Reason.{Reason}
use Rattle.cms_tlv.specs.declared.fault.Reason.TheVariants.{UnexpectedElement}
use Rattle.cms_tlv.specs.declared.bound.Bound.{Bound}
use Rattle.cms_tlv.specs.Opaque.{IsOpaque}
use Rattle.cms_tlv.specs.Spelling.{Rules, der, Spelling, element, ◌⨟◌, optional, either}
use Rattle.cms_tlv.specs.Spelling.{◌where_value◌, with_octets}
use Rattle.cms_tlv.specs.Reading.{Reader, refuse, scalar_of, opaque_of}
use Rattle.cms_tlv.specs.RefusalReasons.{Explained, either_says, says_element, says_inside}
use Rattle.cms_tlv.specs.RefusalReasons.{says_malformed, says_nothing, says_then}
use Rattle.cms_tlv.specs.Law.{IsField, IsContents, Reads, ReadsTo}
use Rattle.cms_fields.specs.Assembly.{Assembly, all_copied, after_header, both_assembled}
use Rattle.cms_fields.specs.Assembly.{if_present, either_assembled, marked, copied}
use Rattle.cms_fields.specs.Canonical.{IsByDer, IsDerFramed}
use Rattle.cms_fields.specs.Choices.{choice_of, same_choice}
use Rattle.cms_fields.specs.FirstOctets.{is_field_octet, is_constructed, is_primitive_octet}
use Rattle.cms_fields.specs.FirstOctets.{are_apart}
use Rattle.cms_fields.specs.Readers.{Begins, holding, then_of, optional_then_of, last_of}
use Rattle.cms_fields.specs.Readers.{last_optional_of, constrained_of, opaque_among_of}
use Rattle.cms_fields.specs.Readers.{already_der_of}
use Rattle.cms_fields.specs.Received.{as_received, IsOpaqueAmong}
use Rattle.cms_fields.specs.Selected.{then_by_value, either_by, selected_of}

-- A field, or contents: which octets spell which value, which values are the same, and more.
pub record Grammar (V : Type 0) : Type 1 where
  --- `spelled m`: how a value is spelled by the rules `m`
  pub spelled : Rules → Spelling V
  --- `is_value v`: the value `v` is one that may be spelled: its parts are
  pub is_value : V → Type 0
  --- `same`: which values are the same: part by part, octets as octets, and sets by `same_members`
  pub same : V → V → Bool
  --- `first`: the octets with which a spelling may begin
  pub first : ℕ → Bool
  --- `is_field`: it is one element, with an identifier octet that it may have, and its parts are
  ---   distinct: none begins like a part before it that may be absent
  pub is_field : Bool
  --- `is_contents`: it is what lies between a header and its end, and its parts are distinct
  pub is_contents : Bool
  --- `reader`: the pure reader of a field, or of contents with their end
  pub reader : Bound → Reader V
  -- the rules by which it is read if and only if it is spelled
  --- `read_by`: the rules by which `reader` reads it if and only if it is spelled
  pub read_by : Rules → Bool
  --- `has_paths`: each of its elements that hold parts is constructed, so that what is before a
  ---   part is a path [X.690, 8.1.2.5]
  pub has_paths : Bool
  --- `malformed`: for which reason octets are refused, from the first one of the field or contents
  ---   to the last one taken: as one of its parts says
  pub malformed : Reason → List ℕ → Type 0
  --- `assembled`: how its DER is assembled of octets that are copied from the input, and others
  pub assembled : Assembly V

--- `IsReadBy g m`: by the rules `m`, `g` is read if and only if it is spelled
abbrev pub IsReadBy : {V : Type 0} → Grammar V → Rules → Type 0
IsReadBy g m = g.read_by m ≡ true

--- `FieldLaws g`: by these rules the field `g` is read exactly (`Reads`); it is one (`IsField`),
---   and begins as `first` says;
--- | what is spelled is a value; its DER is as `IsByDer` says, and frames in DER; the reader is
---   `Explained g.has_paths g.malformed`
pub record FieldLaws {V : Type 0} (g : Grammar V) : Type 0 where
  pub reads : (m : Rules) → IsReadBy g m → Reads m (g.spelled m) g.reader
  pub is_field : (m : Rules) → IsField (λ t. g.first t ≡ true) (g.spelled m)
  pub is_value : (m : Rules) (b : List ℕ) (v : V) → g.spelled m b v → g.is_value v
  pub by_der : IsByDer g.same g.spelled
  pub framed : IsDerFramed (g.spelled der)
  pub explained : (bd : Bound) → Explained g.has_paths g.malformed 1 bd (g.reader bd)

--- `ContentsLaws g`: what `FieldLaws` says, but of contents (`ReadsTo`, `IsContents`, `Begins`),
---   which need not be frames
pub record ContentsLaws {V : Type 0} (g : Grammar V) : Type 0 where
  pub reads_to : (m : Rules) → IsReadBy g m → ReadsTo m (g.spelled m) (λ v. v) g.reader
  pub contents : (m : Rules) → IsContents (g.spelled m)
  pub begins : (m : Rules) → Begins (λ t. g.first t ≡ true) (g.spelled m)
  pub is_value : (m : Rules) (b : List ℕ) (v : V) → g.spelled m b v → g.is_value v
  pub by_der : IsByDer g.same g.spelled
  pub explained : (bd : Bound) → Explained g.has_paths g.malformed 0 bd (g.reader bd)

--- `IsLawful g`: `FieldLaws` if it is a field, and `ContentsLaws` if it is contents
pub record IsLawful {V : Type 0} (g : Grammar V) : Type 0 where
  pub field : g.is_field ≡ true → FieldLaws g
  pub contents : g.is_contents ≡ true → ContentsLaws g

-- Fields.

--- `unread R P s`: what `R` spells; values are the same by `s`
--- | `P` matters only to rows that are left out; what is made of it gives a reader, and says how
---   DER is assembled [`Received`]
abbrev pub unread : {V : Type 0} → (Rules → Spelling V) → (V → Type 0) → (V → V → Bool) → Grammar V
unread R P s = record {
  spelled = R;
  is_value = P;
  same = s;
  first = λ t. true;
  is_field = false;
  is_contents = false;
  reader = λ bd. refuse UnexpectedElement;
  read_by = λ m. false;
  has_paths = true;
  malformed = says_nothing;
  assembled = λ ms v. ⊥;
}

--- `octets_with P`: octets with `P`, which spell themselves, and are copied; likewise without a
---   reader [`Received`]
abbrev pub octets_with : (List ℕ → Type 0) → Grammar (List ℕ)
octets_with P = record (unread (λ m. as_received P) P bytes_eq) {
  assembled = all_copied;
}

--- `tagged id g`: an element with the identifier octet `id` that holds the contents `g` [`Tagged`]
abbrev pub tagged : {V : Type 0} → ℕ → Grammar V → Grammar V
tagged id g = record {
  spelled = λ m. element m id (g.spelled m);
  is_value = g.is_value;
  same = g.same;
  first = λ t. t == id;
  is_field = is_field_octet id && g.is_contents;
  is_contents = false;
  reader = holding id g.reader;
  read_by = g.read_by;
  has_paths = is_constructed id && g.has_paths;
  malformed = says_inside id g.malformed;
  assembled = after_header id g.assembled;
}

--- `primitive id P test reason`: a primitive element with contents `P`; a reader refuses others for
---   `reason` [`Primitive`]
abbrev pub primitive : ℕ → (List ℕ → Type 0) → (List ℕ → Bool) → Reason → Grammar (List ℕ)
primitive id P test reason = record (tagged id (octets_with P)) {
  is_field = is_primitive_octet id;
  reader = scalar_of id test reason;
  read_by = λ m. true;
  has_paths = true;
  malformed = says_malformed id P reason;
}

--- `where_only g Q test reason`: `g` of a value with `Q`; a reader refuses others for `reason`
---   [`NonEmptySetOf`]
abbrev pub where_only : {V : Type 0} → Grammar V → (V → Type 0) → (V → Bool) → Reason → Grammar V
where_only g Q test reason = record g {
  spelled = λ m. g.spelled m where_value Q;
  is_value = λ v. g.is_value v × Q v;
  reader = constrained_of test reason g.reader;
}

--- `constrained id P test reason Q also refusal`: `primitive`, and also with `Q`, as the test
---   `also` decides; contents with `P` and without `Q` are refused for `refusal` [`Constrained`]
abbrev pub constrained : ℕ → (List ℕ → Type 0) → (List ℕ → Bool) → Reason → (List ℕ → Type 0)
    → (List ℕ → Bool) → Reason → Grammar (List ℕ)
constrained id P test reason Q also refusal =
    record (where_only (primitive id P test reason) Q also refusal) {
      malformed = either_says (says_malformed id P reason)
          (says_element id (λ c. P c × (Q c → ⊥)) refusal);
    }

--- `opaque_element`: any opaque element [`Opaque`]
abbrev pub opaque_element : Grammar (List ℕ)
opaque_element = record (octets_with IsOpaque) {
  is_field = true;
  reader = opaque_of;
  read_by = λ m. true;
}

--- `opaque_among allowed`: one whose identifier octet is allowed [`OpaqueAmong`]
abbrev pub opaque_among : (ℕ → Bool) → Grammar (List ℕ)
opaque_among allowed = record (octets_with (IsOpaqueAmong allowed)) {
  first = allowed;
  is_field = true;
  reader = opaque_among_of allowed;
  read_by = λ m. true;
}

--- `already_der g`: the field `g` in DER, whatever the rules are, and its octets [`AlreadyDer`]
abbrev pub already_der : {V : Type 0} → Grammar V → Grammar (List ℕ × V)
already_der g = record {
  spelled = λ m. with_octets (g.spelled der);
  is_value = λ v. (g.is_field ≡ true) × g.spelled der v.0 v.1;
  same = λ v w. g.same v.1 w.1;
  first = g.first;
  is_field = g.is_field;
  is_contents = false;
  reader = already_der_of g.reader;
  read_by = λ m. g.read_by der;
  has_paths = g.has_paths;
  malformed = g.malformed;
  assembled = λ ms v. ms ≡ marked copied v.0;
}

abbrev pub is_either : {V W : Type 0} → (V → Type 0) → (W → Type 0) → V ⊎ W → Type 0
is_either P Q (inl v) = P v
is_either P Q (inr w) = Q w

--- `choice g h`: the field `g` or the field `h` [`Choice`]
abbrev pub choice : {V W : Type 0} → Grammar V → Grammar W → Grammar (V ⊎ W)
choice g h = record {
  spelled = λ m. either (g.spelled m) (h.spelled m);
  is_value = is_either g.is_value h.is_value;
  same = same_choice g.same h.same;
  first = λ t. g.first t || h.first t;
  is_field = g.is_field && (h.is_field && are_apart 0x100 g.first h.first);
  is_contents = false;
  reader = choice_of g.first g.reader h.reader;
  read_by = λ m. g.read_by m && h.read_by m;
  has_paths = g.has_paths && h.has_paths;
  malformed = either_says g.malformed h.malformed;
  assembled = either_assembled g.assembled h.assembled;
}

-- Contents.

--- `then_by g h`: the field `g`, then the fields `h` [`Then`]
abbrev pub then_by : {V W : Type 0} → Grammar V → Grammar W → Grammar (V × W)
then_by g h = record {
  spelled = λ m. g.spelled m ⨟ h.spelled m;
  is_value = λ v. g.is_value v.0 × h.is_value v.1;
  same = λ v w. g.same v.0 w.0 && h.same v.1 w.1;
  first = g.first;
  is_field = false;
  is_contents = g.is_field && h.is_contents;
  reader = then_of g.reader h.reader;
  read_by = λ m. g.read_by m && h.read_by m;
  has_paths = g.has_paths && h.has_paths;
  malformed = says_then (g.has_paths && h.has_paths) g.malformed h.malformed;
  assembled = both_assembled g.assembled h.assembled;
}

--- `optional_then g h`: the field `g` or nothing, then the fields `h` [`OptionalThen`]
abbrev pub optional_then : {V W : Type 0} → Grammar V → Grammar W → Grammar (Option V × W)
optional_then g h = record {
  spelled = λ m. optional (g.spelled m) ⨟ h.spelled m;
  is_value = λ v. IfSome v.0 g.is_value × h.is_value v.1;
  same = λ v w. option_eq g.same v.0 w.0 && h.same v.1 w.1;
  first = λ t. g.first t || h.first t;
  is_field = false;
  is_contents = g.is_field && (h.is_contents && are_apart 0x100 g.first h.first);
  reader = optional_then_of g.first g.reader h.reader;
  read_by = λ m. g.read_by m && h.read_by m;
  has_paths = g.has_paths && h.has_paths;
  malformed = says_then (g.has_paths && h.has_paths) g.malformed h.malformed;
  assembled = both_assembled (if_present g.assembled) h.assembled;
}

--- `last g`: the field `g` as the last one of contents [`Last`]
abbrev pub last : {V : Type 0} → Grammar V → Grammar V
last g = record g {
  is_field = false;
  is_contents = g.is_field;
  reader = last_of g.reader;
}

--- `last_optional g`: the field `g`, or nothing, as the last one of contents [`Option`]
abbrev pub last_optional : {V : Type 0} → Grammar V → Grammar (Option V)
last_optional g = record {
  spelled = λ m. optional (g.spelled m);
  is_value = λ o. IfSome o g.is_value;
  same = option_eq g.same;
  first = g.first;
  is_field = false;
  is_contents = g.is_field;
  reader = last_optional_of g.first g.reader;
  read_by = g.read_by;
  has_paths = g.has_paths;
  malformed = g.malformed;
  assembled = if_present g.assembled;
}

--- `contents_choice g r h`: the fields `g` and `r`, or else the fields `h` [`ContentsChoice`]
abbrev pub contents_choice : {V U W : Type 0} → Grammar V → Grammar U → Grammar W
    → Grammar (V × U ⊎ W)
contents_choice g r h = record {
  spelled = λ m. either (g.spelled m ⨟ r.spelled m) (h.spelled m);
  is_value = is_either (λ v. g.is_value v.0 × r.is_value v.1) h.is_value;
  same = same_choice (λ v w. g.same v.0 w.0 && r.same v.1 w.1) h.same;
  first = λ t. g.first t || h.first t;
  is_field = false;
  is_contents = g.is_field && (r.is_contents && (h.is_contents && are_apart 0x100 g.first h.first));
  reader = choice_of g.first (then_of g.reader r.reader) h.reader;
  read_by = λ m. g.read_by m && (r.read_by m && h.read_by m);
  has_paths = g.has_paths && r.has_paths && h.has_paths;
  malformed = either_says (says_then (g.has_paths && r.has_paths) g.malformed r.malformed)
      h.malformed;
  assembled = either_assembled (both_assembled g.assembled r.assembled) h.assembled;
}

-- of the first kind if and only if t
abbrev pub is_of : {V W : Type 0} → Bool → V ⊎ W → Type 0
is_of t (inl v) = t ≡ true
is_of t (inr w) = t ≡ false

--- `selected id P test reason chosen g h`: `primitive`, then `g` if `chosen`, else `h` [`Selected`]
abbrev pub selected : {V W : Type 0} → ℕ → (List ℕ → Type 0) → (List ℕ → Bool) → Reason
    → (List ℕ → Bool) → Grammar V → Grammar W → Grammar (List ℕ × (V ⊎ W))
selected id P test reason chosen g h = record {
  spelled = λ m. then_by_value (element m id (as_received P))
      (λ t. either_by (chosen t) (g.spelled m) (h.spelled m));
  is_value = λ v. P v.0 × is_of (chosen v.0) v.1 × is_either g.is_value h.is_value v.1;
  same = λ v w. bytes_eq v.0 w.0 && same_choice g.same h.same v.1 w.1;
  first = λ t. t == id;
  is_field = false;
  is_contents = is_primitive_octet id && (g.is_contents && h.is_contents);
  reader = selected_of chosen (scalar_of id test reason) g.reader h.reader;
  read_by = λ m. g.read_by m && h.read_by m;
  has_paths = g.has_paths && h.has_paths;
  malformed = says_then (g.has_paths && h.has_paths) (says_malformed id P reason)
      (either_says g.malformed h.malformed);
  assembled = both_assembled (after_header id all_copied)
      (either_assembled g.assembled h.assembled);
}
