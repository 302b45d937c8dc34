-- BOOLEAN: how it is spelled and read (X.690, 8.2, 11.1 and 11.5).
use Rattle.std.specs.Prelude.{◌≡◌, ◌≢◌, ℕ, List, [], ◌∷◌, Option, Some, None, Bool, true, false}
use Rattle.std.specs.Prelude.{not, ◌==◌}
use Rattle.cms_tlv.specs.declared.fault.Reason.TheVariants.{BooleanMalformed}
use Rattle.cms_tlv.specs.declared.bound.Bound.{Bound}
use Rattle.cms_tlv.specs.Headers.{IsOctet}
use Rattle.cms_tlv.specs.Spelling.{Rules, ber, minimal, der, Spelling, element, optional}
use Rattle.cms_fields.specs.Assembly.{Assembly}
use Rattle.cms_fields.specs.Readers.{optional_then_of}
use Rattle.cms_scalars.specs.Image.{image}
use Rattle.cms_tlv.specs.Reading.{Reader, ◌>>=◌, give, scalar_of}

-- the contents octet of TRUE: by DER FF (X.690, 11.1), else any but 00 (X.690, 8.2.2)
abbrev pub IsTrueOctet : Rules → ℕ → Type 0
IsTrueOctet ber x = x ≢ 0
IsTrueOctet minimal x = x ≢ 0
IsTrueOctet der x = x ≡ 0xff

--- `truth m`: one octet: 00 is FALSE, and any other TRUE, by DER only FF [X.690, 8.2.2, 11.1]
abbrev pub truth : Rules → Spelling Bool
truth m c true = (x : ℕ) × (c ≡ x ∷ []) × IsOctet x × IsTrueOctet m x
truth m c false = c ≡ 0 ∷ []

--- `boolean m`: an element 01 with such contents [X.690, 8.2.1]
abbrev pub boolean : Rules → Spelling Bool
boolean m = element m 0x01 (truth m)

--- `IsTrueInDer c`: the contents of TRUE by DER [X.690, 11.1]
abbrev pub IsTrueInDer : List ℕ → Type 0
IsTrueInDer c = c ≡ 0xff ∷ []

-- whether it is there, and TRUE
abbrev pub is_set : Option Bool → Bool
is_set None = false
is_set (Some v) = v

--- `default_false m`: BOOLEAN DEFAULT FALSE: FALSE may be absent, and by DER it is [X.690, 11.5]
abbrev pub default_false : Rules → Spelling Bool
default_false ber b v = image is_set (optional (boolean ber)) b v
default_false minimal b v = image is_set (optional (boolean minimal)) b v
default_false der b true = boolean der b true
default_false der b false = b ≡ []

--- `unless_false A`: no octets for FALSE, else what `A` assembles [X.690, 11.5]
abbrev pub unless_false : Assembly Bool → Assembly Bool
unless_false A ms true = A ms true
unless_false A ms false = ms ≡ []

-- whether there is one octet
abbrev pub is_one_octet : List ℕ → Bool
is_one_octet [] = false
is_one_octet (x ∷ []) = true
is_one_octet (x ∷ y ∷ ys) = false

-- whether the first octet is not 00
abbrev pub is_true : List ℕ → Bool
is_true [] = false
is_true (x ∷ xs) = not (x == 0)

--- `boolean_of`: its pure reader, by the tests `is_one_octet` (there is one octet) and `is_true`
---   (the first is not 00)
unfoldable pub boolean_of : Bound → Reader Bool
boolean_of bd = scalar_of 0x01 is_one_octet BooleanMalformed bd >>= λ c. give (is_true c)

-- one that may be left out if it is FALSE, then the others to the end
abbrev pub with_default_false : {W : Type 0} → Option Bool × W → Bool × W
with_default_false v = (is_set v.0, v.1)

--- `default_false_then_of g`: its pure reader, and that of the fields after it;
---   `with_default_false` makes the value
unfoldable pub default_false_then_of : {W : Type 0} → (Bound → Reader W) → Bound → Reader (Bool × W)
default_false_then_of g bd =
    optional_then_of (λ t. t == 0x01) boolean_of g bd >>= λ v. give (with_default_false v)
