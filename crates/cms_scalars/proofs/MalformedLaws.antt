-- The octets that grammars are refused for end in what is malformed.
use Rattle.std.proofs.Common.{◌≡◌, ◌≢◌, inl, inr, ℕ, ◌%◌, List, [], ◌++◌, length, refl, sym, ap, subst, ◌∙◌, append_assoc, arith}
use Rattle.std.specs.Prelude.{Bool, true, false, ◌&&◌}
use Rattle.std.specs.Cmp.{first_so, second_so}
use Rattle.cms_tlv.specs.declared.fault.Reason.{Reason}
use Rattle.cms_tlv.specs.declared.fault.Reason.TheVariants.{IntegerMalformed, OidMalformed, BooleanMalformed, BitsMalformed, NotSignedData}
use Rattle.cms_tlv.specs.Clauses.{Contains}
use Rattle.cms_tlv.specs.Frames.{IsElement, of_length, IsPath, start}
use Rattle.cms_tlv.proofs.Paths.{path_then}
use Rattle.cms_fields.specs.FirstOctets.{is_constructed}
use Rattle.cms_fields.proofs.FirstOctetLaws.{header_paths}
use Rattle.cms_tlv.specs.Headers.{IsIdentifier, low, high, IsHeader, IsLength}
use Rattle.cms_tlv.specs.RefusalReasons.{IsPathIf, either_says, says_element, says_inside, says_later, says_nothing, says_then}
use Rattle.cms_scalars.specs.Scalars.{IsObjectIdentifier}
use Rattle.cms_scalars.specs.ObjectIdentifiers.{id_signed_data}
use Rattle.cms_scalars.specs.Grammar.{integer_type, object_identifier_type, boolean_type, named_bits_type}
use Rattle.cms_scalars.specs.Malformed.{EndInElement, EndInContentType, IsMalformed}

pub record AreMalformed (paths : Bool) (K : Reason → List ℕ → Type 0) : Type 0 where
  pub within : paths ≡ true → (reason : Reason) (b : List ℕ) → K reason b → IsMalformed reason b

-- after other octets
ends_later : {x : List ℕ} (y : List ℕ) {id : ℕ} {P : List ℕ → Type 0} → IsPath x → EndInElement y id P → EndInElement (x ++ y) id P
ends_later {x = x} y p e = record {
  before = x ++ e.before;
  element = e.element;
  contents = e.contents;
  are = ap (λ z. x ++ z) e.are ∙ sym (append_assoc x e.before e.element);
  is_path = path_then p e.is_path;
  is_element = e.is_element;
  says = e.says;
}

type_later : {x : List ℕ} (y : List ℕ) {P : List ℕ → Type 0} → IsPath x → EndInContentType y P → EndInContentType (x ++ y) P
type_later {x = x} y p e = record {
  before = x ++ e.before;
  header = e.header;
  element = e.element;
  contents = e.contents;
  are = ap (λ z. x ++ z) e.are ∙ sym (append_assoc x e.before (e.header ++ e.element));
  is_path = path_then p e.is_path;
  is_header = e.is_header;
  is_element = e.is_element;
  says = e.says;
}

pub after : (reason : Reason) {x : List ℕ} (y : List ℕ) → IsPath x → IsMalformed reason y → IsMalformed reason (x ++ y)
after IntegerMalformed y p e = ends_later y p e
after OidMalformed y p e = ends_later y p e
after BooleanMalformed y p e = ends_later y p e
after BitsMalformed y p e = ends_later y p e
after NotSignedData y p e = type_later y p e
after reason y p e = absurd e

module _ {paths : Bool} {K : Reason → List ℕ → Type 0} (k : AreMalformed paths K) where
  pub later : AreMalformed paths (says_later paths K)
  later = record { within = λ e reason b x. subst (IsMalformed reason) (sym x.2) (after reason x.1 (subst (λ t. IsPathIf t x.0) e x.3) (k.within e reason x.1 x.4)) }

  pub inside : (id : ℕ) → AreMalformed (is_constructed id && paths) (says_inside id K)
  inside id = record {
    within = λ e reason b x.
        let path : IsPath x.0 = subst (λ t. IsPathIf t x.0) e (header_paths id paths x.0 x.3) in
        subst (IsMalformed reason) (sym x.2) (after reason x.1 path (k.within (second_so _ _ e) reason x.1 x.4));
  }

-- What either of two says.
module _ {paths others : Bool} {K L : Reason → List ℕ → Type 0} (k : AreMalformed paths K) (l : AreMalformed others L) where
  pub both : AreMalformed (paths && others) (either_says K L)
  both = record { within = go }
    where
      go : (paths && others) ≡ true → (reason : Reason) (b : List ℕ) → either_says K L reason b → IsMalformed reason b
      go e reason b (inl x) = k.within (first_so _ _ e) reason b x
      go e reason b (inr y) = l.within (second_so _ _ e) reason b y

  pub in_turn : AreMalformed (paths && others) (says_then (paths && others) K L)
  in_turn = record { within = go }
    where
      go : (paths && others) ≡ true → (reason : Reason) (b : List ℕ) → says_then (paths && others) K L reason b → IsMalformed reason b
      go e reason b (inl x) = k.within (first_so _ _ e) reason b x
      go e reason b (inr y) = subst (IsMalformed reason) (sym y.2) (after reason y.1 (subst (λ t. IsPathIf t y.0) e y.3) (l.within (second_so _ _ e) reason y.1 y.4))

pub nothing : AreMalformed true says_nothing
nothing = record { within = λ e reason b x. absurd x }

-- An element of a primitive type.

only_octet : (id : ℕ) (i l c : List ℕ) → IsIdentifier id i → id % 32 ≢ 31 → IsLength l (length c) → IsElement (i ++ (l ++ c)) id c
only_octet id i l c (low o n) m k = of_length c k
only_octet id i l c (high o e b d s g) m k = absurd (m e)

pub element_in : {id : ℕ} {b c : List ℕ} → id % 32 ≢ 31 → Contains id false b c → IsElement b id c
element_in {id = id} {c = c} n h = subst (λ x. IsElement x id c) (sym h.parts) (only_octet id h.identifier h.sizes c h.is_identifier n h.is_length)

alone : {id : ℕ} {b c : List ℕ} {P : List ℕ → Type 0} → id % 32 ≢ 31 → Contains id false b c → P c → EndInElement b id P
alone {b = b} {c = c} n h p = record { before = []; element = b; contents = c; are = refl; is_path = start; is_element = element_in n h; says = p }

pub integer : AreMalformed true integer_type.malformed
integer = record { within = λ e reason b x. subst (λ q. IsMalformed q b) (sym x.1) (alone (omega arith) x.2 x.3) }

pub identifier : AreMalformed true object_identifier_type.malformed
identifier = record { within = λ e reason b x. subst (λ q. IsMalformed q b) (sym x.1) (alone (omega arith) x.2 x.3) }

pub boolean : AreMalformed true boolean_type.malformed
boolean = record { within = λ e reason b x. subst (λ q. IsMalformed q b) (sym x.1) (alone (omega arith) x.2 (λ v t. x.3 (v, t))) }

pub named_bits : AreMalformed true named_bits_type.malformed
named_bits = record { within = λ e reason b x. subst (λ q. IsMalformed q b) (sym x.1) (alone (omega arith) x.2 (λ v t. x.3 (v, t))) }

-- a content type that is not id-signedData, after the header of a SEQUENCE
pub content_type : (reason : Reason) (header b : List ℕ) → IsHeader 0x30 header
    → says_element 0x06 (λ c. IsObjectIdentifier c × (c ≢ id_signed_data)) NotSignedData reason b → IsMalformed reason (header ++ b)
content_type reason header b h x = subst (λ q. IsMalformed q (header ++ b)) (sym x.1) (record {
  before = [];
  header = header;
  element = b;
  contents = x.0;
  are = refl;
  is_path = start;
  is_header = h;
  is_element = element_in (omega arith) x.2;
  says = x.3;
})
