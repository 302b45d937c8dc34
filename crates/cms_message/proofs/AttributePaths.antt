-- The signed attributes at a path are opaque in the message, begin with A0, and are what the signature covers.
use Rattle.std.proofs.Common.{◌≡◌, inl, inr, ℕ, zero, suc, ◌+◌, ◌<◌, true, cond, List, [], ◌∷◌, ◌++◌, Option, Some, None, option_map, slice_get, bytes_eq, refl, sym, ap, subst, ◌∙◌, arith}
use Rattle.std.specs.List.{AllZip, flat_map}
use Rattle.std.specs.Option.{option_and_then, option_or}
use Rattle.std.proofs.lemmas.List.Concat.{flat_map-cons}
use Rattle.std.proofs.lemmas.List.Sums.{sum_by-cons}
use Rattle.std.proofs.lemmas.Option.{slice_get-map}
use Rattle.std.proofs.lemmas.Slice.Eq.{bytes_eq-Decides}
use Rattle.cms_tlv.specs.Frames.{IsDerElement, of_short_length}
use Rattle.cms_tlv.specs.Spelling.{Rules, der, Spelling, optional}
use Rattle.cms_fields.specs.Received.{times, in_option}
use Rattle.cms_message.specs.Attributes.{SignedAttributes, signed_attributes, unsigned_attributes}
use Rattle.cms_message.specs.Countersignatures.{UnsignedAttribute, unsigned_attribute}
use Rattle.cms_message.specs.Cover.{as_set_of, attributes_along, content_given, cover_along, cover_from, signer_from}
use Rattle.cms_message.specs.Received.{in_algorithm_identifier, in_sid, in_unsigned, in_signer_within, in_signer, in_signed_data}
use Rattle.cms_message.specs.Signers.{AnySigner, BorrowedSigner, borrowed_signer, below, within}
use Rattle.cms_message.specs.SignerInfo.{SignerWithin, signer_info, countersignatures_within, sid, digest_algorithm, signed_attrs, signature_algorithm, signature, unsigned_attrs}
use Rattle.cms_message.specs.SignedData.{SignedData, Signer, signed_data, signer, digest_algorithms, certificates, crls, signer_infos, borrowed_signers}
use Rattle.cms_message.proofs.PathLaws.{Among, at_index, from_index, first_part, second_part, of_one, of_all, of_attribute, of_attributes, inside, borrowed, at_below}

-- what one of them has, all have
of_member : {A B : Type 0} (f : A → List B) (xs : List A) (p : B) (x : A) → Among x xs → Among p (f x) → Among p (flat_map f xs)
of_member f xs p x k h = (let i = at_index x xs k in of_all f xs p i.0 x i.1 h)

spelled_among : {V : Type 0} (R : Spelling V) (bs : List (List ℕ)) (vs : List V) → AllZip R bs vs → (v : V) → Among v vs → (b : List ℕ) × R b v
spelled_among R bs [] s v k = absurd k
spelled_among R [] (w ∷ vs) s v k = absurd s
spelled_among R (b ∷ bs) (w ∷ vs) s v (inl e) = (b, subst (R b) e s.0)
spelled_among R (b ∷ bs) (w ∷ vs) s v (inr k) = spelled_among R bs vs s.1 v k

pub counted : (z : List ℕ) (zs : List (List ℕ)) → Among z zs → 0 < times z zs
counted z [] k = absurd k
counted z (y ∷ zs) (inl e) =
    let k : bytes_eq z y ≡ true = (bytes_eq-Decides z y).1 (sym e) in
    let h : times z (y ∷ zs) ≡ 1 + times z zs = sum_by-cons (λ x. cond (bytes_eq z x) 1 0) y zs ∙ ap (λ b. cond b 1 0 + times z zs) k in
    omega (arith, h)
counted z (y ∷ zs) (inr k) =
    let h : times z (y ∷ zs) ≡ cond (bytes_eq z y) 1 0 + times z zs = sum_by-cons (λ x. cond (bytes_eq z x) 1 0) y zs in
    let n = counted z zs k in
    omega (arith, h, n)

abbrev attributes_from : BorrowedSigner → List ℕ → Option (List ℕ)
attributes_from s path = option_map (λ a. a.0) (option_and_then signed_attrs (signer_from s path))

-- What is true of each signer with the attributes, and of each below which it is true, is true of each below which they are.
module _ (a : List ℕ) (P : (d : ℕ) → SignerWithin d → Type 0)
    (base : (d : ℕ) (s : SignerWithin (suc d)) → option_map (λ x. x.0) (signed_attrs s) ≡ Some a → P (suc d) s)
    (step : (d : ℕ) (s : SignerWithin (suc d)) (c : SignerWithin d) → Among c (inside d s) → P d c → P (suc d) s) where
  from_below : (d : ℕ) (s : SignerWithin (suc d)) (i : ℕ) (path : List ℕ)
      → ((c : SignerWithin d) → attributes_from (borrowed_signer (within d c)) path ≡ Some a → P d c) → (o : Option (SignerWithin d))
      → slice_get (inside d s) i ≡ o → attributes_from (borrowed d s) (i ∷ path) ≡ Some a → P (suc d) s
  from_below d s i path deeper None k e =
      absurd (let z = sym (ap (λ o. option_map (λ x. x.0) (option_and_then signed_attrs
      (option_and_then (λ c. signer_from (borrowed_signer c) path) o))) (at_below d s i ∙ ap (option_map (within d)) k)) ∙ e in cc)
  from_below d s i path deeper (Some c) k e =
      step d s c (from_index c (inside d s) i k) (deeper c (sym
      (ap (λ o. option_map (λ x. x.0) (option_and_then signed_attrs (option_and_then (λ c. signer_from (borrowed_signer c) path) o)))
      (at_below d s i ∙ ap (option_map (within d)) k)) ∙ e))

  pub along : (d : ℕ) (s : SignerWithin (suc d)) (path : List ℕ) → attributes_from (borrowed d s) path ≡ Some a → P (suc d) s
  along d s [] e = base d s e
  along zero s (i ∷ path) e = from_below zero s i path (λ c h. absurd c) (slice_get (inside zero s) i) refl e
  along (suc d) s (i ∷ path) e = from_below (suc d) s i path (λ c h. along d c path h) (slice_get (inside (suc d) s) i) refl e

-- the signer of the message at or below which they are
record Has (v : SignedData) (a : List ℕ) : Type 0 where
  one : Signer
  among : Among one (signer_infos v)
  path : List ℕ
  there : attributes_from (borrowed 4 one) path ≡ Some a

has : (v : SignedData) (path a : List ℕ) → attributes_along v path ≡ Some a → Has v a
has v [] a e = absurd cc
has v (i ∷ path) a e = go (slice_get (signer_infos v) i) refl
  where
    go : (o : Option Signer) → slice_get (signer_infos v) i ≡ o → Has v a
    go None k =
        absurd (let z = sym (ap (λ o. option_map (λ x. x.0) (option_and_then signed_attrs (option_and_then (λ s. signer_from s path) o)))
        (slice_get-map (borrowed 4) (signer_infos v) i ∙ ap (option_map (borrowed 4)) k)) ∙ e in cc)
    go (Some s) k = record {
      one = s;
      among = from_index s (signer_infos v) i k;
      path = path;
      there =
          sym (ap (λ o. option_map (λ x. x.0) (option_and_then signed_attrs (option_and_then (λ s. signer_from s path) o)))
          (slice_get-map (borrowed 4) (signer_infos v) i ∙ ap (option_map (borrowed 4)) k)) ∙ e;
    }

-- They are among what is opaque.

in_itself : (a : List ℕ) (d : ℕ) (s : SignerWithin (suc d)) → option_map (λ x. x.0) (signed_attrs s) ≡ Some a → Among a (in_signer_within (suc d) s)
in_itself a d s e =
    let p = in_algorithm_identifier (digest_algorithm s) in
    let q = in_option (λ (b : SignedAttributes). b.0 ∷ []) (signed_attrs s) in
    let r = in_algorithm_identifier (signature_algorithm s) ++ in_option (flat_map (in_unsigned (flat_map (in_signer_within d)))) (unsigned_attrs s) in
    second_part a (in_sid (sid s)) (p ++ (q ++ r)) (second_part a p (q ++ r) (first_part a q r (go (signed_attrs s) e)))
  where
    go : (o : Option SignedAttributes) → option_map (λ x. x.0) o ≡ Some a → Among a (in_option (λ (b : SignedAttributes). b.0 ∷ []) o)
    go None k = absurd cc
    go (Some x) k = inl cc

in_countersignature : {S : Type 0} (f : S → List (List ℕ)) (z : List ℕ) (c : S) → Among z (f c) → (a : UnsignedAttribute (List S))
    → Among c (of_attribute a) → Among z (in_unsigned (flat_map f) a)
unfolding of_attribute
in_countersignature f z c h (t, inl cs) k = of_member f cs z c k h
in_countersignature f z c h (t, inr vs) k = absurd k

in_below : (a : List ℕ) (d : ℕ) (s : SignerWithin (suc d)) (c : SignerWithin d) → Among c (inside d s) → Among a (in_signer_within d c)
    → Among a (in_signer_within (suc d) s)
unfolding of_attributes
in_below a d s c k h =
    let f = in_unsigned (flat_map (in_signer_within d)) in
    let p = in_algorithm_identifier (digest_algorithm s) in
    let q = in_option (λ (b : SignedAttributes). b.0 ∷ []) (signed_attrs s) in
    let r = in_algorithm_identifier (signature_algorithm s) in
    let u = in_option (flat_map f) (unsigned_attrs s) in
    second_part a (in_sid (sid s)) (p ++ (q ++ (r ++ u))) (second_part a p (q ++ (r ++ u))
    (second_part a q (r ++ u) (second_part a r u (go (unsigned_attrs s) k))))
  where
    go : (o : Option (List (UnsignedAttribute (List (SignerWithin d))))) → Among c (of_attributes o)
        → Among a (in_option (flat_map (in_unsigned (flat_map (in_signer_within d)))) o)
    go None k = absurd k
    go (Some bs) k =
        let f = in_unsigned (flat_map (in_signer_within d)) in
        let x = of_one of_attribute bs c k in
        subst (Among a) (sym (flat_map-cons (flat_map f) bs []))
        (first_part a (flat_map f bs) [] (of_all f bs a x.index x.item x.there (in_countersignature (in_signer_within d) a c h x.item x.among)))

pub are_opaque : (v : SignedData) (path a : List ℕ) → attributes_along v path ≡ Some a → 0 < times a (in_signed_data v)
are_opaque v path a e =
    let h = has v path a e in
    let p = flat_map in_algorithm_identifier (digest_algorithms v) in
    let q = in_option (λ (cs : List (List ℕ)). cs) (certificates v) in
    let r = in_option (λ (cs : List (List ℕ)). cs) (crls v) in
    let t = flat_map in_signer (signer_infos v) in
    let one = along a (λ d s. Among a (in_signer_within d s)) (in_itself a) (in_below a) 4 h.one h.path h.there in
    counted a (p ++ (q ++ (r ++ t))) (second_part a p (q ++ (r ++ t))
    (second_part a q (r ++ t) (second_part a r t (of_member in_signer (signer_infos v) a h.one h.among one))))

-- They begin with A0.

der_begins : {b c : List ℕ} {id : ℕ} → IsDerElement b id c → (rest : List ℕ) × (b ≡ id ∷ rest)
der_begins (of_short_length {l = l} c n) = (l ++ c, refl)

set_begins : (b : List ℕ) (x : SignedAttributes) → signed_attributes.spelled der b x → (rest : List ℕ) × (x.0 ≡ 0xa0 ∷ rest)
set_begins b x h = (let d = der_begins h.1.1 in (d.0, sym h.0 ∙ d.1))

abbrev BeginsIn : List ℕ → (d : ℕ) → SignerWithin d → Type 0
BeginsIn a zero s = absurd s
BeginsIn a (suc d) s = (m : Rules) (b : List ℕ) → (signer_info (countersignatures_within d)).spelled m b s → (rest : List ℕ) × (a ≡ 0xa0 ∷ rest)

begins_itself : (a : List ℕ) (d : ℕ) (s : SignerWithin (suc d)) → option_map (λ x. x.0) (signed_attrs s) ≡ Some a → BeginsIn a (suc d) s
begins_itself a d s e m b x = (let y = x.2.4.4.4 in go y.0 (signed_attrs s) y.3 e)
  where
    go : (b : List ℕ) (o : Option SignedAttributes) → optional (signed_attributes.spelled der) b o → option_map (λ x. x.0) o ≡ Some a
        → (rest : List ℕ) × (a ≡ 0xa0 ∷ rest)
    go b None s k = absurd cc
    go b (Some x) s k = (let z = set_begins b x s in (z.0, (let h : x.0 ≡ a = cc in sym h ∙ z.1)))

spelled_countersignature :
    (d : ℕ) (m : Rules) (b : List ℕ) (c : SignerWithin (suc d)) (a : UnsignedAttribute (List (SignerWithin (suc d))))
    → (unsigned_attribute (countersignatures_within (suc d))).spelled m b a → Among c (of_attribute a)
    → (b : List ℕ) × (signer_info (countersignatures_within d)).spelled m b c
unfolding of_attribute
spelled_countersignature d m b c (t, inl cs) x k =
    (let set = x.2.4.1.2 in spelled_among ((signer_info (countersignatures_within d)).spelled m) set.0 cs set.2 c k)
spelled_countersignature d m b c (t, inr vs) x k = absurd k

spelled_below : (d : ℕ) (m : Rules) (b : List ℕ) (s : SignerWithin (suc (suc d))) (c : SignerWithin (suc d)) → Among c (inside (suc d) s)
    → (signer_info (countersignatures_within (suc d))).spelled m b s → (b : List ℕ) × (signer_info (countersignatures_within d)).spelled m b c
unfolding of_attributes
spelled_below d m b s c k x = (let y = x.2.4.4.4.4.4 in go y.1 (unsigned_attrs s) y.4 k)
  where
    go : (b : List ℕ) (o : Option (List (UnsignedAttribute (List (SignerWithin (suc d))))))
        → optional ((unsigned_attributes (unsigned_attribute (countersignatures_within (suc d)))).spelled m) b o
        → Among c (of_attributes o) → (b : List ℕ) × (signer_info (countersignatures_within d)).spelled m b c
    go b None s k = absurd k
    go b (Some bs) s k =
        let x = of_one of_attribute bs c k in
        let set = s.2.0 in
        let one =
        spelled_among ((unsigned_attribute (countersignatures_within (suc d))).spelled m) set.0 bs set.2 x.item
        (from_index x.item bs x.index x.there) in
        spelled_countersignature d m one.0 c x.item one.1 x.among

begins_below : (a : List ℕ) (d : ℕ) (s : SignerWithin (suc d)) (c : SignerWithin d) → Among c (inside d s) → BeginsIn a d c → BeginsIn a (suc d) s
begins_below a zero s c k h = absurd c
begins_below a (suc d) s c k h = λ m b x. let y = spelled_below d m b s c k x in h m y.0 y.1

pub begin_so : (m : Rules) (b a : List ℕ) (v : SignedData) (path : List ℕ) → signed_data.spelled m b v → attributes_along v path ≡ Some a
    → (rest : List ℕ) × (a ≡ 0xa0 ∷ rest)
begin_so m b a v path d e =
    let h = has v path a e in
    let set = d.2.4.4.4.4.4.2 in
    let x = spelled_among (signer.spelled m) set.0 (signer_infos v) set.2 h.one h.among in
    along a (BeginsIn a) (begins_itself a) (begins_below a) 4 h.one h.path h.there m x.0 x.1

-- They are covered.

covered_from : (a : List ℕ) (s : BorrowedSigner) (content : Option (List ℕ)) (path : List ℕ) → attributes_from s path ≡ Some a
    → cover_from s content path ≡ Some (Some (as_set_of a))
covered_from a s content [] e = go (signed_attrs s) e
  where
    go : (o : Option SignedAttributes) → option_map (λ x. x.0) o ≡ Some a
        → Some (option_or (option_map (λ x. as_set_of x.0) o) content) ≡ Some (Some (as_set_of a))
    go None k = absurd cc
    go (Some x) k = (let h : x.0 ≡ a = cc in ap (λ z. Some (Some (as_set_of z))) h)
covered_from a s content (i ∷ path) e = go (λ c k. covered_from a (borrowed_signer c) (Some (signature s)) path k) (slice_get (below s) i) e
  where
    go :
        ((c : AnySigner) → attributes_from (borrowed_signer c) path ≡ Some a
        → cover_from (borrowed_signer c) (Some (signature s)) path ≡ Some (Some (as_set_of a))) → (o : Option AnySigner)
        → option_map (λ x. x.0) (option_and_then signed_attrs (option_and_then (λ c. signer_from (borrowed_signer c) path) o)) ≡ Some a
        → option_and_then (λ c. cover_from (borrowed_signer c) (Some (signature s)) path) o ≡ Some (Some (as_set_of a))
    go deeper None k = absurd cc
    go deeper (Some c) k = deeper c k

pub are_covered : (v : SignedData) (path a : List ℕ) (detached : Option (List ℕ)) → attributes_along v path ≡ Some a
    → cover_along v path detached ≡ Some (Some (as_set_of a))
are_covered v [] a detached e = absurd cc
are_covered v (i ∷ path) a detached e = go (slice_get (borrowed_signers v) i) e
  where
    go :
        (o : Option BorrowedSigner) → option_map (λ x. x.0) (option_and_then signed_attrs (option_and_then (λ s. signer_from s path) o))
        ≡ Some a → option_and_then (λ s. cover_from s (content_given v detached) path) o ≡ Some (Some (as_set_of a))
    go None k = absurd cc
    go (Some s) k = covered_from a s (content_given v detached) path k
