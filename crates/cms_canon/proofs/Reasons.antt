-- What the octets of a message that is refused say.
use Rattle.std.proofs.Common.{◌≡◌, inl, inr, ℕ, true, ◌+◌, ◌<◌, ◌≤◌, ◌⊎◌, [], List, ◌++◌, length, length-append, Option, None, refl, sym, ap, subst, ◌∙◌, arith}
use Rattle.std.proofs.lemmas.List.{append-nil}
use Rattle.cms_tlv.specs.declared.fault.Fault.TheVariants as faults
use Rattle.cms_tlv.specs.declared.fault.Reason.{Reason}
use Rattle.cms_tlv.specs.declared.fault.Reason.TheVariants.{TooLarge, LengthReserved, LengthTooLong, IndefinitePrimitive, IntegerMalformed, OidMalformed, BooleanMalformed, BitsMalformed, NotSignedData, Trailing}
use Rattle.cms_tlv.specs.State.{State, Advance, as_list}
use Rattle.cms_tlv.specs.Refines.{NeedsNoOctets}
use Rattle.cms_tlv.specs.Headers.{IsHeader, IsLength}
use Rattle.cms_tlv.specs.RefusalReasons.{either_says, IsFree, HeaderTaken, TiedLast, SaysWhy}
use Rattle.cms_tlv.specs.Frames.{IsElement, IsPath}
use Rattle.cms_tlv.proofs.Paths.{header_path}
use Rattle.cms_tlv.proofs.FrameLaws.{identifier_some}
use Rattle.cms_tlv.proofs.SpellingLaws.{element_starts}
use Rattle.cms_scalars.specs.Malformed.{EndInElement, EndInContentType, IsMalformed}
use Rattle.cms_scalars.proofs.MalformedLaws.{AreMalformed, both, in_turn, integer, after}
use Rattle.cms_message.specs.ContentInfo.{content_info_fields}
use Rattle.cms_message.proofs.MalformedLaws.{fields_in}
use Rattle.cms_tsp.specs.Requests.{time_stamp_req_fields}
use Rattle.cms_tsp.specs.Responses.{time_stamp_resp_fields}
use Rattle.cms_tsp.proofs.MalformedLaws.{request_rest, response}
use Rattle.cms_canon.specs.Kinds.{message}
use Rattle.cms_canon.specs.Reasons.{EndInHeader, SayWhy}
use Rattle.cms_canon.specs.internal.Steps.{fresh}

pub message_malformed : AreMalformed message.has_paths message.malformed
message_malformed = record { within = λ e reason b x. subst (IsMalformed reason) (sym x.2) (inside_it reason x.0 x.1 x.3 x.4) }
  where
    inside_it : (reason : Reason) (header b : List ℕ) → IsHeader 0x30 header
        → either_says content_info_fields.malformed (either_says time_stamp_req_fields.malformed time_stamp_resp_fields.malformed) reason b
        → IsMalformed reason (header ++ b)
    inside_it reason header b h (inl x) = fields_in reason header b h x
    inside_it reason header b h (inr x) = after reason b (header_path h (omega arith)) ((both (in_turn integer request_rest) response).within refl reason b x)

later : (limit a b : ℕ) (reason : Reason) → a ≤ b → NeedsNoOctets limit a reason → NeedsNoOctets limit b reason
later limit a b TooLarge l h = omega arith
later limit a b LengthReserved l h = h
later limit a b LengthTooLong l h = h
later limit a b IndefinitePrimitive l h = h
later limit a b IntegerMalformed l h = h
later limit a b OidMalformed l h = h
later limit a b BooleanMalformed l h = h
later limit a b BitsMalformed l h = h
later limit a b NotSignedData l h = h
later limit a b Trailing l h = h
later limit a b reason l h = tt

-- the octets taken from a source that begins
module _ (left : Option (List ℕ)) (failures limit : ℕ) (s : State) (more : List ℕ) (t : Advance (fresh left failures limit) s more) where
  all_done : s.ahead ≡ None → more ≡ s.done
  all_done none = t.order ∙ ap (λ a. t.read ++ as_list a) none ∙ append-nil t.read ∙ sym t.done

  lacks_more : (reason : Reason) → NeedsNoOctets limit (length s.done) reason → NeedsNoOctets limit (length more) reason
  lacks_more reason x =
      later limit (length s.done) (length more) reason (omega
      (arith, ap length t.order, ap length t.done, length-append t.read (as_list s.ahead))) x

  in_header : {before : List ℕ} {P : ℕ → List ℕ → Type 0} → IsPath before → HeaderTaken (record (fresh left failures limit) { done = before }) s P → EndInHeader more P
  in_header {before = before} p h = record {
    before = before;
    identifier = h.identifier;
    sizes = h.sizes;
    first = h.first;
    are = all_done h.none_kept ∙ h.taken;
    is_path = p;
    is_identifier = h.is_identifier;
    says = h.says;
  }

  -- with a header taken, all that was taken is consumed
  all_there : {before : List ℕ} {P : ℕ → List ℕ → Type 0} → HeaderTaken (record (fresh left failures limit) { done = before }) s P
      → length s.done ≡ length more
  all_there h = sym (ap length (all_done h.none_kept))

  tied_says : (reason : Reason) (at : ℕ) → (t : TiedLast true (fresh left failures limit) s (faults.Refused reason at)) → SayWhy limit reason more
  tied_says TooLarge at (before, p, inl x) = inl (lacks_more TooLarge x)
  tied_says TooLarge at (before, p, inr h) = inr (subst (λ n. EndInHeader more (λ t l. (m : ℕ) × IsLength l m × (limit < n + m))) (all_there h) (in_header p h))
  tied_says LengthReserved at (before, p, inl x) = absurd x
  tied_says LengthReserved at (before, p, inr h) = in_header p h
  tied_says LengthTooLong at (before, p, inl x) = absurd x
  tied_says LengthTooLong at (before, p, inr h) = in_header p h
  tied_says IndefinitePrimitive at (before, p, inl x) = absurd x
  tied_says IndefinitePrimitive at (before, p, inr h) = in_header p h
  tied_says IntegerMalformed at (before, p, inl x) = absurd x
  tied_says IntegerMalformed at (before, p, inr h) = absurd h.says
  tied_says OidMalformed at (before, p, inl x) = absurd x
  tied_says OidMalformed at (before, p, inr h) = absurd h.says
  tied_says BooleanMalformed at (before, p, inl x) = absurd x
  tied_says BooleanMalformed at (before, p, inr h) = absurd h.says
  tied_says BitsMalformed at (before, p, inl x) = absurd x
  tied_says BitsMalformed at (before, p, inr h) = absurd h.says
  tied_says NotSignedData at (before, p, inl x) = absurd x
  tied_says NotSignedData at (before, p, inr h) = absurd h.says
  tied_says Trailing at (before, p, inl x) = absurd x
  tied_says Trailing at (before, p, inr h) = absurd h.says
  tied_says reason at h = tt

  malformed_says : (reason : Reason) → IsMalformed reason more → SayWhy limit reason more
  malformed_says IntegerMalformed m = m
  malformed_says OidMalformed m = m
  malformed_says BooleanMalformed m = m
  malformed_says BitsMalformed m = m
  malformed_says NotSignedData m = m
  malformed_says reason m = absurd m

  pub octets_say : (reason : Reason) (at : ℕ) → SaysWhy true IsMalformed (fresh left failures limit) s (faults.Refused reason at) → SayWhy limit reason more
  octets_say reason at (inl h) = tied_says reason at h
  octets_say reason at (inr m) = malformed_says reason (subst (IsMalformed reason) (sym (all_done m.none_kept ∙ m.taken)) m.says)

-- What is said of octets is said of some.

longer : (x y : List ℕ) → x ++ y ≡ [] → 1 ≤ length y → ⊥
longer x y e l = omega (arith, ap length e, length-append x y, l)

no_header : {P : ℕ → List ℕ → Type 0} → EndInHeader [] P → ⊥
no_header h = longer h.before (h.identifier ++ h.sizes) (sym h.are)
    (omega (arith, length-append h.identifier h.sizes, identifier_some h.is_identifier))

element_some : {b c : List ℕ} {id : ℕ} → IsElement b id c → 1 ≤ length b
element_some e = omega (arith, ap length (element_starts e).1)

no_element : {id : ℕ} {P : List ℕ → Type 0} → EndInElement [] id P → ⊥
no_element h = longer h.before h.element (sym h.are) (element_some h.is_element)

no_content_type : {P : List ℕ → Type 0} → EndInContentType [] P → ⊥
no_content_type h = longer h.before (h.header ++ h.element) (sym h.are)
    (omega (arith, length-append h.header h.element, element_some h.is_element))

pub none_say : (limit : ℕ) (reason : Reason) → SayWhy limit reason [] → IsFree reason ⊎ (reason ≡ TooLarge)
none_say limit TooLarge h = inr refl
none_say limit LengthReserved h = absurd (no_header h)
none_say limit LengthTooLong h = absurd (no_header h)
none_say limit IndefinitePrimitive h = absurd (no_header h)
none_say limit IntegerMalformed h = absurd (no_element h)
none_say limit OidMalformed h = absurd (no_element h)
none_say limit BooleanMalformed h = absurd (no_element h)
none_say limit BitsMalformed h = absurd (no_element h)
none_say limit NotSignedData h = absurd (no_content_type h)
none_say limit Trailing h = absurd h
none_say limit reason h = inl (λ limit at. tt)
