-- What is kept of a message, by its kind.
use Rattle.std.proofs.Common.{◌≡◌, inl, inr, ℕ, ◌<◌, Bool, true, List, [], Option, Some, None, option_map, option_to_list, count_by, flat_map, refl, sym, ap, subst, ◌∙◌}
use Rattle.std.specs.Prelude.{IfSome}
use Rattle.std.specs.Option.{option_eq, option_and_then, option_or}
use Rattle.std.specs.Cmp.{second_so}
use Rattle.cms_tlv.specs.Spelling.{Rules}
use Rattle.cms_fields.specs.Received.{IsPart, times, ArePartsOf, CountedAlike}
use Rattle.cms_fields.proofs.ReceivedLaws.{both}
use Rattle.cms_message.specs.SignedData.{encap_content_info, e_content}
use Rattle.cms_message.specs.ContentInfo.{ContentInfo, content, content_info}
use Rattle.cms_message.specs.Cover.{Covered, covers}
use Rattle.cms_message.specs.Received.{in_content_info}
use Rattle.cms_tsp.specs.Requests.{MessageImprint, TimeStampReq, imprint, time_stamp_req}
use Rattle.cms_tsp.specs.TstInfo.{TstInfo, tst_info, tst_imprint, IsTstInfoOf}
use Rattle.cms_tsp.specs.Responses.{time_stamp_resp}
use Rattle.cms_tsp.specs.Received.{in_time_stamp_req, in_time_stamp_resp}
use Rattle.cms_canon.specs.Kinds.{MessageValue, message, whole_message, same_message, signed_in, requested_in}
use Rattle.cms_canon.specs.Received.{opaque_in, content_in, IsImprintIn, covers_in}

-- each kind is spelled as its record
pub message_parts : (m : Rules) → ArePartsOf (content_info.spelled m) in_content_info → ArePartsOf (time_stamp_req.spelled m) in_time_stamp_req
    → ArePartsOf (time_stamp_resp.spelled m) in_time_stamp_resp → ArePartsOf (whole_message m) opaque_in
message_parts m h k l = record { are_parts = go }
  where
    go : (b : List ℕ) (v : MessageValue) → whole_message m b v → (z : List ℕ) → 0 < times z (opaque_in v) → IsPart z b
    go b (inl v) s z n = h.are_parts b v s z n
    go b (inr (inl v)) s z n = k.are_parts b v s z n
    go b (inr (inr v)) s z n = l.are_parts b v s z n

same_signed : (v w : MessageValue) → same_message v w ≡ true → option_eq content_info.same (signed_in v) (signed_in w) ≡ true
same_signed (inl v) (inl w) e = e
same_signed (inl v) (inr w) e = absurd cc
same_signed (inr v) (inl w) e = absurd cc
same_signed (inr (inl v)) (inr (inl w)) e = refl
same_signed (inr (inl v)) (inr (inr w)) e = absurd cc
same_signed (inr (inr v)) (inr (inl w)) e = absurd cc
same_signed (inr (inr v)) (inr (inr w)) e = second_so _ _ e

-- a ContentInfo in a value is a value
signed_value : (v : MessageValue) → message.is_value v → IfSome (signed_in v) content_info.is_value
signed_value (inl v) p = p
signed_value (inr (inl v)) p = tt
signed_value (inr (inr v)) p = p.1

pub requested_kept : ((v w : TimeStampReq) → time_stamp_req.same v w ≡ true → imprint v ≡ imprint w) → (v w : MessageValue)
    → same_message v w ≡ true → requested_in v ≡ requested_in w
requested_kept h (inl v) (inl w) e = refl
requested_kept h (inl v) (inr w) e = absurd cc
requested_kept h (inr v) (inl w) e = absurd cc
requested_kept h (inr (inl v)) (inr (inl w)) e = ap Some (h v w e)
requested_kept h (inr (inl v)) (inr (inr w)) e = absurd cc
requested_kept h (inr (inr v)) (inr (inl w)) e = absurd cc
requested_kept h (inr (inr v)) (inr (inr w)) e = refl

-- one content and one request have one imprint
pub imprint_kept : (v w : MessageValue) (i : Option MessageImprint) → content_in v ≡ content_in w → requested_in v ≡ requested_in w
    → IsImprintIn v i → IsImprintIn w i
imprint_kept v w i same_content same_request (read, is, e) =
    (read, subst (λ c. IsTstInfoOf (option_and_then (λ o. o) c) read) same_content is, e ∙ ap (λ o. option_or o (option_map tst_imprint read)) same_request)

one_read : ((b : List ℕ) (t u : TstInfo) → tst_info b t → tst_info b u → t ≡ u) → (content : Option (List ℕ)) (r s : Option TstInfo)
    → IsTstInfoOf content r → IsTstInfoOf content s → r ≡ s
one_read one None r s h k = h ∙ sym k
one_read one (Some c) (Some t) (Some u) h k = ap Some (one c t u h k)
one_read one (Some c) (Some t) None h k = absurd (k t h)
one_read one (Some c) None (Some u) h k = absurd (h u k)
one_read one (Some c) None None h k = refl

pub one_imprint : ((b : List ℕ) (t u : TstInfo) → tst_info b t → tst_info b u → t ≡ u) → (v : MessageValue) (i j : Option MessageImprint)
    → IsImprintIn v i → IsImprintIn v j → i ≡ j
one_imprint one v i j (r, is_r, e) (s, is_s, f) = e ∙ ap (λ o. option_or (requested_in v) (option_map tst_imprint o)) (one_read one _ r s is_r is_s) ∙ sym f

pub content_kept :
    ((v w : ContentInfo) → content_info.is_value v → content_info.is_value w → content_info.same v w ≡ true
    → e_content (encap_content_info (content v)) ≡ e_content (encap_content_info (content w))) → (v w : MessageValue) → message.is_value v
    → message.is_value w → same_message v w ≡ true → content_in v ≡ content_in w
content_kept h v w p q e = go (signed_in v) (signed_in w) (signed_value v p) (signed_value w q) (same_signed v w e)
  where
    go : (o u : Option ContentInfo) → IfSome o content_info.is_value → IfSome u content_info.is_value
        → option_eq content_info.same o u ≡ true → option_map (λ s. e_content (encap_content_info s)) (option_map content o)
        ≡ option_map (λ s. e_content (encap_content_info s)) (option_map content u)
    go None None p q e = refl
    go None (Some w) p q e = absurd cc
    go (Some v) None p q e = absurd cc
    go (Some v) (Some w) p q e = ap Some (h v w p q e)

pub covers_kept : (detached : Option (List ℕ)) → CountedAlike content_info.is_value content_info.same (λ v. covers (content v) detached)
    → (v w : MessageValue) → message.is_value v → message.is_value w → same_message v w ≡ true → (t : Covered → Bool)
    → count_by t (covers_in v detached) ≡ count_by t (covers_in w detached)
covers_kept detached h v w p q e t = go (signed_in v) (signed_in w) (signed_value v p) (signed_value w q) (same_signed v w e)
  where
    go : (o u : Option ContentInfo) → IfSome o content_info.is_value → IfSome u content_info.is_value
        → option_eq content_info.same o u ≡ true → count_by t (flat_map (λ s. covers s detached) (option_to_list (option_map content o)))
        ≡ count_by t (flat_map (λ s. covers s detached) (option_to_list (option_map content u)))
    go None None p q e = refl
    go None (Some w) p q e = absurd cc
    go (Some v) None p q e = absurd cc
    go (Some v) (Some w) p q e = both t (covers (content v) detached) [] (covers (content w) detached) [] (h.counted v w p q e t) refl
