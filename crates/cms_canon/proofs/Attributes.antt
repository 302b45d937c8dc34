-- The signed attributes at a path lie in their message, begin with A0, and are covered.
use Rattle.std.proofs.Common.{◌≡◌, ℕ, ◌+◌, ◌<◌, List, [], ◌∷◌, ◌++◌, Option, Some, None, option_map, option_to_list, slice_get, bytes_eq, inl, inr, refl, ap, ◌∙◌, arith}
use Rattle.std.specs.Option.{option_and_then}
use Rattle.cms_tlv.specs.Spelling.{Rules, optional}
use Rattle.cms_fields.specs.Received.{ArePartsOf, times, in_option}
use Rattle.cms_fields.proofs.ReceivedLaws.{count_both}
use Rattle.cms_message.specs.Cover.{as_set_of, attributes_along, content_given, cover, cover_along}
use Rattle.cms_message.specs.Signers.{BorrowedSigner}
use Rattle.cms_message.specs.SignedData.{SignedData, signed_data, borrowed_signers}
use Rattle.cms_message.specs.ContentInfo.{ContentInfo, content, content_info}
use Rattle.cms_message.specs.Received.{in_signed_data, in_content_info}
use Rattle.cms_tsp.specs.Responses.{status_info, status_string, token}
use Rattle.cms_canon.specs.Kinds.{MessageValue, whole_message, signed_data_in}
use Rattle.cms_canon.specs.Covering.{CoversAttributes, attributes_in, cover_at, cover_in}
use Rattle.cms_canon.specs.Received.{opaque_in}

-- the cover of a signer is that at the path of one number
pub of_one_signer : (v : MessageValue) (i : ℕ) (detached : Option (List ℕ)) → cover_at v (i ∷ []) detached ≡ cover_in v i detached
of_one_signer v i detached = go (signed_data_in v)
  where
    one : (given : Option (List ℕ)) (o : Option BorrowedSigner) → option_and_then (λ s. Some (cover s given)) o ≡ option_map (λ s. cover s given) o
    one given None = refl
    one given (Some s) = refl

    go :
        (o : Option SignedData) → option_map (λ s. cover_along s (i ∷ []) detached) o
        ≡ option_map (λ s. option_map (λ x. cover x (content_given s detached)) (slice_get (borrowed_signers s) i)) o
    go None = refl
    go (Some s) = ap Some (one (content_given s detached) (slice_get (borrowed_signers s) i))

module _
    (opaque : (v : SignedData) (path a : List ℕ) → attributes_along v path ≡ Some a → 0 < times a (in_signed_data v))
    (begin : (m : Rules) (b a : List ℕ) (v : SignedData) (path : List ℕ) → signed_data.spelled m b v → attributes_along v path ≡ Some a
    → (rest : List ℕ) × (a ≡ 0xa0 ∷ rest))
    (covered : (v : SignedData) (path a : List ℕ) (detached : Option (List ℕ)) → attributes_along v path ≡ Some a
    → cover_along v path detached ≡ Some (Some (as_set_of a))) where
  are_opaque : (v : MessageValue) (path a : List ℕ) → attributes_in v path ≡ Some a → 0 < times a (opaque_in v)
  are_opaque (inl c) path a e = opaque (content c) path a e
  are_opaque (inr (inl v)) path a e = absurd cc
  are_opaque (inr (inr v)) path a e = go (token v) e
    where
      go : (o : Option ContentInfo) → option_and_then (λ s. attributes_along s path) (option_map content o) ≡ Some a
          → 0 < times a (option_to_list (status_string (status_info v)) ++ in_option in_content_info o)
      go None e = absurd cc
      go (Some c) e =
          (let n = opaque (content c) path a e in let k = count_both (bytes_eq a) (in_content_info c) [] in
          let l = count_both (bytes_eq a) (option_to_list (status_string (status_info v))) (in_option in_content_info (Some c)) in
          omega (arith, n, k, l))

  begin_so : (m : Rules) (b : List ℕ) (v : MessageValue) (path a : List ℕ) → whole_message m b v → attributes_in v path ≡ Some a
      → (rest : List ℕ) × (a ≡ 0xa0 ∷ rest)
  begin_so m b (inl c) path a s e = begin m s.2.4.0 a (content c) path s.2.4.2 e
  begin_so m b (inr (inl v)) path a s e = absurd cc
  begin_so m b (inr (inr v)) path a s e = go s.2.1 (token v) s.2.4 e
    where
      go : (b : List ℕ) (o : Option ContentInfo) → optional (content_info.spelled m) b o
          → option_and_then (λ s. attributes_along s path) (option_map content o) ≡ Some a → (rest : List ℕ) × (a ≡ 0xa0 ∷ rest)
      go b None s e = absurd cc
      go b (Some c) s e = begin m s.2.4.0 a (content c) path s.2.4.2 e

  are_covered : (v : MessageValue) (path a : List ℕ) (detached : Option (List ℕ)) → attributes_in v path ≡ Some a
      → cover_at v path detached ≡ Some (Some (Some (as_set_of a)))
  are_covered v path a detached e = go (signed_data_in v) e
    where
      go : (o : Option SignedData) → option_and_then (λ s. attributes_along s path) o ≡ Some a
          → option_map (λ s. cover_along s path detached) o ≡ Some (Some (Some (as_set_of a)))
      go None e = absurd cc
      go (Some s) e = ap Some (covered s path a detached e)

  pub covers_attributes : (m : Rules) (b : List ℕ) (v : MessageValue) (path : List ℕ) (detached : Option (List ℕ))
      → ArePartsOf (whole_message m) opaque_in → whole_message m b v → CoversAttributes b v path (cover_at v path detached)
  covers_attributes m b v path detached parts s a e =
      let x = begin_so m b v path a s e in
      (parts.are_parts b v s a (are_opaque v path a e), x.0, x.1, are_covered v path a detached e ∙ ap (λ z. Some (Some (Some (as_set_of z)))) x.1)
