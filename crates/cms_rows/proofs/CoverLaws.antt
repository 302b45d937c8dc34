-- What signatures cover is what the fields of a message say.
use Rattle.std.proofs.Common.{◌≡◌, ℕ, zero, suc, ◌+◌, ◌≤◌, ◌==◌, Bool, true, false, List, [], ◌∷◌, ◌++◌, Option, Some, None, option_map, refl, sym, ap, ◌∙◌, subst, append_assoc, arith}
use mathlib.Core.Logic.{inl, inr}
use Rattle.std.specs.List.{flat_map}
use Rattle.std.specs.Prelude.{option_to_list, if◌then◌else◌}
use Rattle.std.specs.Option.{option_or}
use Rattle.std.proofs.lemmas.Bool.{eq-eqb, ne_eqb}
use Rattle.std.proofs.lemmas.List.{append-nil}
use Rattle.cms_message.specs.Algorithms.{AlgorithmIdentifier}
use Rattle.cms_message.specs.Attributes.{Attribute, SignedAttributes}
use Rattle.cms_message.specs.Countersignatures.{UnsignedAttribute}
use Rattle.cms_message.specs.Cover.{Covered, as_set_of, cover, content_given, covers, covers_below, covers_within}
use Rattle.cms_message.specs.SignerInfo.{SignerIdentifier, SignerInfo, sid, signature, signed_attrs, unsigned_attrs}
use Rattle.cms_message.specs.SignedData.{SignedData}
use Rattle.cms_message.specs.ContentInfo.{ContentInfo, content}
use Rattle.cms_tsp.specs.Requests.{MessageImprint, TimeStampReq}
use Rattle.cms_tsp.specs.Responses.{PkiStatusInfo, TimeStampResp, status_info, token}
use Rattle.cms_rows.specs.declared.kinds.TheConstants.{ATTRIBUTE, CERTIFICATE, CERTIFICATES, CERT_REQ, CONTENT, CONTENT_TYPE, COUNTERSIGNATURE, CRL, CRLS, DIGEST_ALGORITHM, FAIL_INFO, HASH_ALGORITHM, PARAMETERS, REQUEST, REQUEST_EXTENSIONS, REQUEST_NONCE, REQUEST_POLICY, REQUEST_VERSION, RESPONSE, SIGNATURE, SIGNATURE_ALGORITHM, SIGNED_ATTRIBUTES, SIGNED_DATA, SIGNER, SIGNER_DIGEST_ALGORITHM, SIGNER_VERSION, STATUS, STATUS_STRING, UNSIGNED_ATTRIBUTES, VALUE, VERSION}
use Rattle.cms_rows.specs.Rows.{Entry, entry, entry_if, entry_of_bits}
use Rattle.cms_rows.specs.Fields.{maybe, of_algorithm, of_attribute, of_signed_attributes, of_sid, of_unsigned, of_unsigned_attributes, of_signer_info, of_signer_within, of_set, of_signed_data, of_imprint, of_request, of_status_info, of_response}
use Rattle.cms_rows.specs.Covers.{Known, known_of, covered_below, octets_of_entry, then_known, covers_said}

-- what is known after fields
abbrev after : Known → List Entry → Known
after known [] = known
after known (e ∷ es) = after (then_known known e) es

said_then : (known : Known) (a b : List Entry) → covers_said known (a ++ b) ≡ covers_said known a ++ covers_said (after known a) b
said_then known [] b = refl
said_then known (e ∷ a) b =
    ap (λ t. (if e.0 == SIGNATURE then (known.1, octets_of_entry e) ∷ [] else []) ++ t) (said_then (then_known known e) a b)
    ∙ sym (append_assoc (if e.0 == SIGNATURE then (known.1, octets_of_entry e) ∷ [] else []) (covers_said (then_known known e) a)
    (covers_said (after (then_known known e) a) b))

after_then : (known : Known) (a b : List Entry) → after known (a ++ b) ≡ after (after known a) b
after_then known [] b = refl
after_then known (e ∷ a) b = after_then (then_known known e) a b

-- Fields say this, from what is known to what is known after them.
record Say (known : Known) (es : List Entry) (said : List Covered) (new : Known) : Type 0 where
  pub said_is : covers_said known es ≡ said
  pub new_is : after known es ≡ new

say_then : {known middle new : Known} {a b : List Entry} {x y : List Covered} → Say known a x middle → Say middle b y new → Say known (a ++ b) (x ++ y) new
say_then {known} {middle} {new} {a} {b} {x} {y} p q = record {
  said_is = said_then known a b ∙ (ap (λ t. t ++ covers_said (after known a) b) p.said_is ∙ ap (λ t. x ++ t) (ap (λ m. covers_said m b) p.new_is ∙ q.said_is));
  new_is = after_then known a b ∙ (ap (λ m. after m b) p.new_is ∙ q.new_is);
}

-- Fields that say nothing of it.
abbrev IsQuiet : List Entry → Type 0
IsQuiet es = (known : Known) → Say known es [] known

quiet : {es : List Entry} → ((known : Known) → (covers_said known es ≡ []) × (after known es ≡ known)) → IsQuiet es
quiet h known = record { said_is = (h known).0; new_is = (h known).1 }

-- those of a kind
abbrev IsQuietKind : ℕ → Type 0
IsQuietKind kind = (level : ℕ) (octets : List ℕ) → IsQuiet (entry kind level octets)

quiet_none : IsQuiet []
quiet_none known = record { said_is = refl; new_is = refl }

quiet_then : {a b : List Entry} → IsQuiet a → IsQuiet b → IsQuiet (a ++ b)
quiet_then p q known = say_then (p known) (q known)

-- then what these say
then_say : {known new : Known} {a b : List Entry} {y : List Covered} → IsQuiet a → Say known b y new → Say known (a ++ b) y new
then_say {known} p q = say_then (p known) q

quiet_maybe : {V : Type 0} (f : V → List Entry) → ((v : V) → IsQuiet (f v)) → (o : Option V) → IsQuiet (maybe f o)
quiet_maybe f h None = quiet_none
quiet_maybe f h (Some v) = h v

quiet_each : {V : Type 0} (f : V → List Entry) → ((v : V) → IsQuiet (f v)) → (vs : List V) → IsQuiet (flat_map f vs)
quiet_each f h [] = quiet_none
quiet_each f h (v ∷ vs) = quiet_then (h v) (quiet_each f h vs)

quiet_algorithm : (kind level : ℕ) → IsQuietKind kind → (v : AlgorithmIdentifier) → IsQuiet (of_algorithm kind level v)
quiet_algorithm kind level h v = quiet_then (h level v.0) (quiet_maybe (entry PARAMETERS (level + 1)) (λ octets. quiet (λ known. (refl, refl))) v.1)

quiet_attribute : (level : ℕ) (v : Attribute) → IsQuiet (of_attribute ATTRIBUTE level v)
quiet_attribute level v =
    quiet_then {a = entry ATTRIBUTE level v.0} (quiet (λ known. (refl, refl)))
    (quiet_each (entry VALUE (level + 1)) (λ octets. quiet (λ known. (refl, refl))) v.1)

quiet_sid : (level : ℕ) (v : SignerIdentifier) → IsQuiet (of_sid level v)
quiet_sid level (inl v) = quiet (λ known. (refl, refl))
quiet_sid level (inr v) = quiet (λ known. (refl, refl))

quiet_set : (kind member level : ℕ) → IsQuietKind kind → IsQuietKind member → (vs : List (List ℕ)) → IsQuiet (of_set kind member level vs)
quiet_set kind member level p q vs = quiet_then (p level []) (quiet_each (entry member (level + 1)) (q (level + 1)) vs)

-- Of levels up to one, the same is known.
abbrev Keeps : ℕ → Known → Known → Type 0
Keeps level old new = (l : ℕ) → l ≤ level → new.0 l ≡ old.0 l

-- Fields that say this, and after which the same is known of levels up to this one.
record Says (level : ℕ) (known : Known) (es : List Entry) (said : List Covered) : Type 0 where
  pub new : Known
  pub say : Say known es said new
  pub keeps : Keeps level known new

says_none : (level : ℕ) (known : Known) {es : List Entry} → IsQuiet es → Says level known es []
says_none level known h = record { new = known; say = h known; keeps = λ l below. refl }

-- What members say if each says this of what is known of its level.
abbrev SayEach : {V : Type 0} → ℕ → (V → List Entry) → (Option (List ℕ) → V → List Covered) → Type 0
SayEach {V} level f g = (known : Known) (v : V) → Says level known (f v) (g (known.0 level) v)

say_each : {V : Type 0} (level : ℕ) (f : V → List Entry) (g : Option (List ℕ) → V → List Covered) → SayEach level f g
    → (known : Known) (content : Option (List ℕ)) → known.0 level ≡ content → (vs : List V)
    → Says level known (flat_map f vs) (flat_map (g content) vs)
say_each level f g h known content is [] = says_none level known quiet_none
say_each level f g h known content is (v ∷ vs) =
    let one = h known v in
    let more = say_each level f g h one.new content (one.keeps level (omega arith) ∙ is) vs in
    record {
      new = more.new;
      say = subst (λ c. Say known (f v ++ flat_map f vs) (g c v ++ flat_map (g content) vs) more.new) is (say_then one.say more.say);
      keeps = λ l below. more.keeps l below ∙ one.keeps l below;
    }

-- Signers.

-- kinds of signers
abbrev IsSigner : ℕ → Type 0
IsSigner kind = (known : Known) (level : ℕ) → Say known (entry kind level []) [] (known.0, known.0 level)

say_signed : (known : Known) (level : ℕ) (o : Option SignedAttributes)
    → Say known (maybe (of_signed_attributes SIGNED_ATTRIBUTES level) o) [] (known.0, option_or (option_map (λ a. as_set_of a.0) o) known.1)
say_signed known level None = record { said_is = refl; new_is = refl }
say_signed known level (Some a) =
    say_then {middle = (known.0, Some (as_set_of a.0))} {a = entry SIGNED_ATTRIBUTES level a.0} (record { said_is = refl; new_is = refl })
    (quiet_each (of_attribute ATTRIBUTE (level + 1)) (quiet_attribute (level + 1)) a.1 (known.0, Some (as_set_of a.0)))

say_unsigned : {C : Type 0} (level : ℕ) (f : ℕ → ℕ → C → List Entry) (g : Option (List ℕ) → C → List Covered)
    → SayEach (level + 1) (f COUNTERSIGNATURE (level + 1)) g → (known : Known) (v : UnsignedAttribute C)
    → Says (level + 1) known (of_unsigned f ATTRIBUTE level v) (covers_below (g (known.0 (level + 1))) v)
say_unsigned level f g h known (oid, inl c) =
    let s = h known c in
    record { new = s.new; say = then_say {a = entry ATTRIBUTE level oid} (quiet (λ known. (refl, refl))) s.say; keeps = s.keeps }
say_unsigned level f g h known (oid, inr vs) =
    says_none (level + 1) known (quiet_then {a = entry ATTRIBUTE level oid} (quiet (λ known. (refl, refl)))
    (quiet_each (entry VALUE (level + 1)) (λ octets. quiet (λ known. (refl, refl))) vs))

say_unsigned_attributes : {C : Type 0} (level : ℕ) (f : ℕ → ℕ → C → List Entry) (g : Option (List ℕ) → C → List Covered)
    → SayEach (level + 1 + 1) (f COUNTERSIGNATURE (level + 1 + 1)) g → (known : Known) (content : Option (List ℕ))
    → known.0 (level + 1 + 1) ≡ content → (o : Option (List (UnsignedAttribute C)))
    → Says (level + 1 + 1) known (maybe (of_unsigned_attributes f UNSIGNED_ATTRIBUTES level) o)
    (flat_map (flat_map (covers_below (g content))) (option_to_list o))
say_unsigned_attributes level f g h known content is None = says_none (level + 1 + 1) known quiet_none
say_unsigned_attributes level f g h known content is (Some attributes) =
    let s =
    say_each (level + 1 + 1) (of_unsigned f ATTRIBUTE (level + 1)) (λ content. covers_below (g content))
    (say_unsigned (level + 1) f g h) known content is attributes in
    record {
      new = s.new;
      say =
          subst (λ said. Say known (entry UNSIGNED_ATTRIBUTES level [] ++ flat_map (of_unsigned f ATTRIBUTE (level + 1)) attributes) said
          s.new) (sym (append-nil (flat_map (covers_below (g content)) attributes)))
          (then_say {a = entry UNSIGNED_ATTRIBUTES level []} (quiet (λ known. (refl, refl))) s.say);
      keeps = s.keeps;
    }

covered_at : (level : ℕ) (octets : List ℕ) (unsigned : ℕ → Option (List ℕ)) → covered_below (level + 1) octets unsigned (level + 1 + 1 + 1) ≡ Some octets
covered_at level octets unsigned = ap (λ b. if b then Some octets else unsigned (level + 1 + 1 + 1)) (eq-eqb (level + 1 + 1 + 1) (level + 1 + 2) (omega arith))

not_covered : (level : ℕ) (octets : List ℕ) (unsigned : ℕ → Option (List ℕ)) (l : ℕ) → l ≤ level → covered_below (level + 1) octets unsigned l ≡ unsigned l
not_covered level octets unsigned l below = ap (λ b. if b then Some octets else unsigned l) (ne_eqb l (level + 1 + 2) (λ e. omega (arith, e)))

-- What those below it say, from what each countersignature says.
say_signer : {C : Type 0} (kind level : ℕ) (f : ℕ → ℕ → C → List Entry) (g : Option (List ℕ) → C → List Covered) → IsSigner kind
    → SayEach (level + 1 + 1 + 1) (f COUNTERSIGNATURE (level + 1 + 1 + 1)) g → (known : Known) (s : SignerInfo C)
    → Says level known (of_signer_info f kind level s) ((cover s (known.0 level), signature s)
    ∷ flat_map (flat_map (covers_below (g (Some (signature s))))) (option_to_list (unsigned_attrs s)))
say_signer kind level f g is h known s =
    let c = cover s (known.0 level) in
    let inner = level + 1 in
    let signed : Known = (known.0, c) in
    let then_signed : Known = (covered_below inner (signature s) known.0, c) in
    let u = say_unsigned_attributes inner f g h then_signed (Some (signature s)) (covered_at level (signature s) known.0) (unsigned_attrs s) in
    let said : Say signed (entry SIGNATURE inner (signature s)) ((c, signature s) ∷ []) then_signed = record { said_is = refl; new_is = refl } in
    record {
      new = u.new;
      say =
          say_then (is known level) (
          then_say {a = entry SIGNER_VERSION inner s.0} (quiet (λ known. (refl, refl))) (
          then_say (quiet_sid inner (sid s)) (
          then_say (quiet_algorithm SIGNER_DIGEST_ALGORITHM inner (λ level octets. quiet (λ known. (refl, refl))) s.1.1.0) (
          say_then (say_signed (known.0, known.0 level) inner (signed_attrs s)) (
          then_say (quiet_algorithm SIGNATURE_ALGORITHM inner (λ level octets. quiet (λ known. (refl, refl))) s.1.1.1.1.0) (
          say_then said u.say))))));
      keeps = λ l below. u.keeps l (omega arith) ∙ not_covered level (signature s) known.0 l below;
    }

is_signer : IsSigner SIGNER
is_signer known level = record { said_is = refl; new_is = refl }

is_countersignature : IsSigner COUNTERSIGNATURE
is_countersignature known level = record { said_is = refl; new_is = refl }

-- Within d levels, at any level.
say_within : (d kind level : ℕ) → IsSigner kind → SayEach level (of_signer_within d kind level) (covers_within d)
say_within zero kind level is known s = absurd s
say_within (suc d) kind level is known s =
    say_signer kind level (λ kind level. flat_map (of_signer_within d kind level)) (λ content. flat_map (covers_within d content)) is
    (λ known cs. say_each (level + 1 + 1 + 1) (of_signer_within d COUNTERSIGNATURE (level + 1 + 1 + 1)) (covers_within d)
    (say_within d COUNTERSIGNATURE (level + 1 + 1 + 1) is_countersignature) known (known.0 (level + 1 + 1 + 1)) refl cs)
    known s

-- The content is what signers cover, and else the one that is given.
say_content : (level : ℕ) (detached o : Option (List ℕ)) → (known : Known) → known ≡ known_of detached
    → Say known (maybe (entry CONTENT level) o) [] (known_of (option_or o detached))
say_content level detached None known is = record { said_is = refl; new_is = is }
say_content level detached (Some octets) known is = record { said_is = refl; new_is = ap (λ k. ((λ (l : ℕ). Some octets), k.1)) is }

quiet_some_set : (kind member level : ℕ) → IsQuietKind kind → IsQuietKind member → (o : Option (List (List ℕ))) → IsQuiet (maybe (of_set kind member level) o)
quiet_some_set kind member level p q = quiet_maybe (of_set kind member level) (quiet_set kind member level p q)

pub say_signed_data : (level : ℕ) (detached : Option (List ℕ)) (v : SignedData) → covers_said (known_of detached) (of_signed_data level v) ≡ covers v detached
say_signed_data level detached v =
    let inner = level + 1 in
    let content = content_given v detached in
    let signers =
    say_each inner (of_signer_within 5 SIGNER inner) (covers_within 5) (say_within 5 SIGNER inner is_signer) (known_of content) content
    refl v.1.1.1.1.1 in
    let all = then_say {known = known_of detached} {a = entry SIGNED_DATA level []} (quiet (λ known. (refl, refl))) (
    then_say {a = entry VERSION inner v.0} (quiet (λ known. (refl, refl))) (
    then_say (quiet_each (of_algorithm DIGEST_ALGORITHM inner)
    (λ a. quiet_algorithm DIGEST_ALGORITHM inner (λ level octets. quiet (λ known. (refl, refl))) a) v.1.0) (
    then_say {a = entry CONTENT_TYPE inner v.1.1.0.0} (quiet (λ known. (refl, refl))) (
    say_then (say_content inner detached v.1.1.0.1 (known_of detached) refl) (
    then_say (quiet_some_set CERTIFICATES CERTIFICATE inner (λ level octets. quiet (λ known. (refl, refl)))
    (λ level octets. quiet (λ known. (refl, refl))) v.1.1.1.0) (
    then_say (quiet_some_set CRLS CRL inner (λ level octets. quiet (λ known. (refl, refl))) (λ level octets. quiet (λ known. (refl, refl))) v.1.1.1.1.0)
    signers.say)))))) in
    all.said_is

-- Requests and responses.

quiet_imprint : (level : ℕ) (v : MessageImprint) → IsQuiet (of_imprint level v)
quiet_imprint level v = quiet_then (quiet_algorithm HASH_ALGORITHM level (λ level octets. quiet (λ known. (refl, refl))) v.0) (quiet (λ known. (refl, refl)))

quiet_if : (kind level : ℕ) → IsQuietKind kind → (b : Bool) → IsQuiet (entry_if kind level b)
quiet_if kind level h true = h level []
quiet_if kind level h false = quiet_none

quiet_request : (level : ℕ) (v : TimeStampReq) → IsQuiet (of_request level v)
quiet_request level v =
    let inner = level + 1 in
    quiet_then {a = entry REQUEST level []} (quiet (λ known. (refl, refl))) (
    quiet_then {a = entry REQUEST_VERSION inner v.0} (quiet (λ known. (refl, refl))) (
    quiet_then (quiet_imprint inner v.1.0) (
    quiet_then (quiet_maybe (entry REQUEST_POLICY inner) (λ octets. quiet (λ known. (refl, refl))) v.1.1.0) (
    quiet_then (quiet_maybe (entry REQUEST_NONCE inner) (λ octets. quiet (λ known. (refl, refl))) v.1.1.1.0) (
    quiet_then (quiet_if CERT_REQ inner (λ level octets. quiet (λ known. (refl, refl))) v.1.1.1.1.0)
    (quiet_maybe (entry REQUEST_EXTENSIONS inner) (λ octets. quiet (λ known. (refl, refl))) v.1.1.1.1.1))))))

pub say_request : (level : ℕ) (detached : Option (List ℕ)) (v : TimeStampReq) → covers_said (known_of detached) (of_request level v) ≡ []
say_request level detached v = (quiet_request level v (known_of detached)).said_is

quiet_status : (level : ℕ) (v : PkiStatusInfo) → IsQuiet (of_status_info level v)
quiet_status level v =
    quiet_then {a = entry STATUS level v.0} (quiet (λ known. (refl, refl))) (
    quiet_then (quiet_maybe (entry STATUS_STRING level) (λ octets. quiet (λ known. (refl, refl))) v.1.0)
    (quiet_maybe (entry_of_bits FAIL_INFO level) (λ bits. quiet (λ known. (refl, refl))) v.1.1))

say_token : (level : ℕ) (detached : Option (List ℕ)) (o : Option ContentInfo)
    → covers_said (known_of detached) (maybe (λ t. of_signed_data level (content t)) o)
    ≡ flat_map (λ s. covers s detached) (option_to_list (option_map content o))
say_token level detached None = refl
say_token level detached (Some t) = say_signed_data level detached (content t) ∙ sym (append-nil (covers (content t) detached))

pub say_response : (level : ℕ) (detached : Option (List ℕ)) (v : TimeStampResp)
    → covers_said (known_of detached) (of_response level v) ≡ flat_map (λ s. covers s detached) (option_to_list (option_map content (token v)))
say_response level detached v =
    let head = quiet_then {a = entry RESPONSE level []} (quiet (λ known. (refl, refl))) (quiet_status (level + 1) (status_info v)) in
    let first = head (known_of detached) in
    let fields = maybe (λ t. of_signed_data (level + 1) (content t)) (token v) in
    let before = entry RESPONSE level [] ++ of_status_info (level + 1) (status_info v) in
    ap (covers_said (known_of detached)) (sym (append_assoc (entry RESPONSE level []) (of_status_info (level + 1) (status_info v)) fields))
    ∙ (said_then (known_of detached) before fields
    ∙ (ap (λ x. x ++ covers_said (after (known_of detached) before) fields) first.said_is
    ∙ (ap (λ known. covers_said known fields) first.new_is
    ∙ say_token (level + 1) detached (token v))))
