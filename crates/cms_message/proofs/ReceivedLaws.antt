-- What stands as it was received lies in what spells it, and equally often in what is the same.
use Rattle.std.proofs.Common.{◌≡◌, ◌≢◌, ℕ, zero, suc, ◌+◌, ◌<◌, Bool, true, false, cond, ◌&&◌, List, [], ◌∷◌, ◌++◌, Option, Some, None, bytes_eq, count_by, flat_map, option_map, option_to_list, refl, sym, ap, subst, ◌∙◌, arith, append_assoc}
use Rattle.std.specs.Option.{option_eq, option_or}
use Rattle.std.specs.Cmp.{IsEquivalence, and_equiv, on_equiv, first_so, second_so}
use Rattle.std.specs.Cmp.Lexicographic.{nat_list_eq_equiv, options_equiv}
use Rattle.std.proofs.lemmas.List.Sums.{sum_by-append, sum_by-cons}
use Rattle.std.proofs.lemmas.Slice.Eq.{bytes_eq-Decides}
use Rattle.std.specs.Prelude.{IfSome}
use Rattle.std.specs.List.{All}
use Rattle.std.proofs.lemmas.List.Elements.{All-cons, All-head, All-nil, All-tail}
use Rattle.cms_tlv.specs.Spelling.{Rules, der}
use Rattle.cms_tlv.specs.Headers.{AreOctets}
use Rattle.cms_tlv.specs.Opaque.{IsOpaque}
use Rattle.cms_fields.specs.Grammar.{Grammar, last_optional, opaque_among, then_by}
use Rattle.cms_fields.specs.Received.{IsOpaqueAmong, ArePartsOf, CountedAlike}
use Rattle.cms_fields.proofs.ReceivedLaws.{singles, no_parts, received_parts, octets_parts, element_parts, optional_parts, where_parts, members_parts, then_parts, either_parts, followed_parts, selected_parts, each_part, maybe_part, count_both, keeps_alone, keeps_of, keeps_option, keeps_none, keeps_then, keeps_second, keeps_maybe, keeps_either}
use Rattle.cms_scalars.specs.Grammar.{integer_type, object_identifier_type, octet_string_type}
use Rattle.cms_setof.specs.Grammar.{set_of}
use Rattle.cms_setof.specs.Same.{same_members}
use Rattle.cms_setof.proofs.SameLaws.{counts, members_equiv}
use Rattle.cms_fields.proofs.ChoiceLaws.{choice_equivalence}
use Rattle.cms_message.specs.Algorithms.{AlgorithmIdentifier, algorithm_identifier}
use Rattle.cms_message.specs.Attributes.{SignedAttributes, attribute, signed_attributes, unsigned_attributes}
use Rattle.cms_message.specs.Countersignatures.{UnsignedAttribute, is_countersignature, unsigned_attribute}
use Rattle.cms_message.specs.Choices.{is_certificate_choices, is_revocation_info_choice}
use Rattle.cms_message.specs.SignerInfo.{SignerWithin, signer_info, countersignatures_within, signed_attrs, signature, unsigned_attrs, is_name, issuer_and_serial_number, signer_identifier}
use Rattle.cms_message.specs.SignedData.{after_content, encap_content_info, e_content, signer_infos, encapsulated_content_info, signer, signed_data}
use Rattle.cms_message.specs.ContentInfo.{ContentInfo, content, content_info, signed_data_type}
use Rattle.cms_message.specs.Cover.{as_set_of, content_given, cover, Covered, covers_below, covers_within, covers}
use Rattle.cms_message.specs.Received.{in_algorithm_identifier, in_sid, in_unsigned, in_signer_info, in_signer_within, in_signed_data, in_content_info}

-- Parts.

algorithm_parts : (m : Rules) → ArePartsOf (algorithm_identifier.spelled m) in_algorithm_identifier
algorithm_parts m = element_parts (then_parts no_parts maybe_part) m 0x30

issuer_parts : (m : Rules) → ArePartsOf (issuer_and_serial_number.spelled m) (λ v. (v.0 ∷ []) ++ [])
issuer_parts m = element_parts (then_parts received_parts no_parts) m 0x30

sid_parts : (m : Rules) → ArePartsOf (signer_identifier.spelled m) in_sid
sid_parts m = either_parts (issuer_parts m) no_parts

module _ {C : Type 0} (c : Grammar C) {f : C → List (List ℕ)} (m : Rules) (p : ArePartsOf (c.spelled m) f) where
  unsigned_parts : ArePartsOf ((unsigned_attribute c).spelled m) (in_unsigned f)
  unsigned_parts =
      element_parts (followed_parts no_parts (λ t. selected_parts (is_countersignature t) (element_parts p m 0x31)
      (element_parts (each_part m) m 0x31))) m 0x30

  signer_info_parts : ArePartsOf ((signer_info c).spelled m) (in_signer_info f)
  signer_info_parts =
      element_parts (then_parts no_parts (then_parts (sid_parts m)
      (then_parts (algorithm_parts m) (then_parts (optional_parts (octets_parts _))
      (then_parts (algorithm_parts m) (then_parts no_parts (optional_parts
      (element_parts (where_parts (members_parts unsigned_parts m) (λ vs. vs ≢ [])) m 0xa1)))))))) m 0x30

countersignatures_parts : (d : ℕ) (m : Rules) → ArePartsOf ((countersignatures_within d).spelled m) (flat_map (in_signer_within d))
countersignatures_parts zero m = members_parts {f = in_signer_within 0} (record { are_parts = λ b v s z h. absurd s }) m
countersignatures_parts (suc d) m = members_parts (signer_info_parts (countersignatures_within d) m (countersignatures_parts d m)) m

signed_data_parts : (m : Rules) → ArePartsOf (signed_data.spelled m) in_signed_data
signed_data_parts m =
    element_parts (then_parts no_parts (then_parts (element_parts (members_parts (algorithm_parts m) m) m 0x31)
    (then_parts no_parts (then_parts (optional_parts (element_parts (each_part m) m 0xa0))
    (then_parts (optional_parts (element_parts (each_part m) m 0xa1)) (element_parts (countersignatures_parts 5 m) m 0x31)))))) m 0x30

pub content_parts : (m : Rules) → ArePartsOf (content_info.spelled m) in_content_info
content_parts m = element_parts (then_parts no_parts (element_parts (signed_data_parts m) m 0xa0)) m 0x30

-- Counts.

-- lists of the same counts
module _ {V : Type 0} {s : V → V → Bool} (k : IsEquivalence s) where
  count_more : (x y : V) (ys : List V) → count_by (s x) (y ∷ ys) ≡ cond (s x y) 1 0 + count_by (s x) ys
  count_more x y ys = sum_by-cons (λ y. cond (s x y) 1 0) y ys

  count_append : (x : V) (xs ys : List V) → count_by (s x) (xs ++ ys) ≡ count_by (s x) xs + count_by (s x) ys
  count_append x xs ys = sum_by-append (λ y. cond (s x y) 1 0) xs ys

  -- one that counts stands somewhere
  found : (x : V) (ys : List V) → 0 < count_by (s x) ys → (us bs : List V) × (y : V) × (ys ≡ us ++ y ∷ bs) × (s x y ≡ true)
  found x [] l = absurd (omega arith)
  found x (y ∷ ys) l = go (λ h. found x ys h) (s x y) refl
    where
      go : (0 < count_by (s x) ys → (us bs : List V) × (t : V) × (ys ≡ us ++ t ∷ bs) × (s x t ≡ true)) → (b : Bool) → s x y ≡ b
          → (us bs : List V) × (t : V) × (y ∷ ys ≡ us ++ t ∷ bs) × (s x t ≡ true)
      go f true e = ([], ys, y, refl, e)
      go f false e =
          let c : count_by (s x) (y ∷ ys) ≡ 0 + count_by (s x) ys = count_more x y ys ∙ ap (λ b. cond b 1 0 + count_by (s x) ys) e in
          let r = f (omega (arith, c, l)) in
          (y ∷ r.0, r.1, r.2, ap (λ t. y ∷ t) r.3, r.4)

  -- without the one and the other that is the same
  without : (v w : V) (vs us bs : List V) → s v w ≡ true → ((x : V) → count_by (s x) (v ∷ vs) ≡ count_by (s x) (us ++ w ∷ bs)) → (x : V)
      → count_by (s x) vs ≡ count_by (s x) (us ++ bs)
  without v w vs us bs e h x =
      let one = count_more x v vs in
      let two = count_more x w bs in
      let three = count_append x us (w ∷ bs) in
      let four = count_append x us bs in
      let same : s x v ≡ s x w = k.symm x v ∙ k.congr v w x e ∙ k.symm w x in
      let five = ap (λ b. cond {A = ℕ} b 1 0) same in
      let six = h x in
      omega (arith, one, two, three, four, five, six)

module _ {V X : Type 0} {P : V → Type 0} {s : V → V → Bool} {f : V → List X} (h : CountedAlike P s f) where
  flat_append : (xs ys : List V) → flat_map f (xs ++ ys) ≡ flat_map f xs ++ flat_map f ys
  flat_append [] ys = refl
  flat_append (x ∷ xs) ys = ap (λ t. f x ++ t) (flat_append xs ys) ∙ sym (append_assoc (f x) (flat_map f xs) (flat_map f ys))

  split : (t : X → Bool) (us bs : List V) (w : V) → count_by t (flat_map f (us ++ w ∷ bs)) ≡ count_by t (f w) + count_by t (flat_map f (us ++ bs))
  split t us bs w =
      let a = ap (count_by t) (flat_append us (w ∷ bs)) ∙ count_both t (flat_map f us) (f w ++ flat_map f bs) in
      let b = count_both t (f w) (flat_map f bs) in
      let c = ap (count_by t) (flat_append us bs) ∙ count_both t (flat_map f us) (flat_map f bs) in
      omega (arith, a, b, c)

  -- what is true of each is true of one of them and of the others
  apart : (us bs : List V) (w : V) → All P (us ++ w ∷ bs) → P w × All P (us ++ bs)
  apart [] bs w a = (All-head P w bs a, All-tail P w bs a)
  apart (u ∷ us) bs w a = (let r = apart us bs w (All-tail P u (us ++ w ∷ bs) a) in (r.0, All-cons P u (us ++ bs) (All-head P u (us ++ w ∷ bs) a) r.1))

  keeps_list : IsEquivalence s → (vs ws : List V) → All P vs → All P ws → ((x : V) → count_by (s x) vs ≡ count_by (s x) ws)
      → (t : X → Bool) → count_by t (flat_map f vs) ≡ count_by t (flat_map f ws)
  keeps_list k [] [] p q e t = refl
  keeps_list k [] (w ∷ ws) p q e t =
      absurd (let c = count_more k w w ws in let one = ap (λ b. cond {A = ℕ} b 1 0) (k.refl w) in let n : count_by (s w) [] ≡ 0 = refl in
      let h = e w in omega (arith, c, one, n, h))
  keeps_list k (v ∷ vs) ws p q e t =
      let c = count_more k v v vs in
      let one = ap (λ b. cond {A = ℕ} b 1 0) (k.refl v) in
      let here = e v in
      let r = found k v ws (omega (arith, c, one, here)) in
      let others = apart r.0 r.1 r.2 (subst (All P) r.3 q) in
      let rest = keeps_list k vs (r.0 ++ r.1) (All-tail P v vs p) others.1 (without k v r.2 vs r.0 r.1 r.4 (λ x. e x ∙ ap (count_by (s x)) r.3)) t in
      let a = count_both t (f v) (flat_map f vs) in
      let b = ap (λ xs. count_by t (flat_map f xs)) r.3 ∙ split t r.0 r.1 r.2 in
      let d = h.counted v r.2 (All-head P v vs p) others.0 r.4 t in
      omega (arith, rest, a, b, d)

  keeps_members : (Q : Type 0) → IsEquivalence s → CountedAlike (λ vs. Q × All P vs) (same_members s) (flat_map f)
  keeps_members Q k = record { counted = λ vs ws p q e t. keeps_list k vs ws p.1 q.1 (counts k vs ws e) t }

keeps_each : (Q : Type 0) (P : List ℕ → Type 0) → CountedAlike (λ vs. Q × All P vs) (same_members bytes_eq) (λ vs. vs)
keeps_each Q P =
    record {
      counted = λ vs ws p q e t. ap (count_by t) (sym (singles vs))
          ∙ (keeps_members (keeps_alone P) Q nat_list_eq_equiv).counted vs ws p q e t ∙ ap (count_by t) (singles ws);
    }

keeps_algorithm : CountedAlike algorithm_identifier.is_value algorithm_identifier.same in_algorithm_identifier
keeps_algorithm = keeps_then (keeps_none object_identifier_type) (keeps_maybe IsOpaque)

keeps_sid : CountedAlike signer_identifier.is_value signer_identifier.same in_sid
keeps_sid = keeps_either (keeps_then (keeps_alone (IsOpaqueAmong is_name)) (keeps_none integer_type)) (keeps_none (octet_string_type 0x80))

-- Signed attributes are compared as sets. Both are DER, so that those that are the same have the same octets.
abbrev SetsAreOctets : Type 0
SetsAreOctets = (b c : List ℕ) (v w : SignedAttributes) → signed_attributes.spelled der b v → signed_attributes.spelled der c w
    → bytes_eq v.0 w.0 ≡ signed_attributes.same v w

-- of the same values with P f says the same
record Fixes {V X : Type 0} (P : V → Type 0) (s : V → V → Bool) (f : V → X) : Type 0 where
  fixes : (v w : V) → P v → P w → s v w ≡ true → f v ≡ f w

fixes_first : {V W X : Type 0} {P : V → Type 0} {s : V → V → Bool} {f : V → X} (g : Grammar W) → Fixes P s f
    → Fixes (λ (v : V × W). P v.0 × g.is_value v.1) (λ (v w : V × W). s v.0 w.0 && g.same v.1 w.1) (λ v. f v.0)
fixes_first {s = s} g h = record { fixes = λ v w p q e. h.fixes v.0 w.0 p.0 q.0 (first_so (s v.0 w.0) (g.same v.1 w.1) e) }

fixes_second : {V W X : Type 0} {Q : W → Type 0} {t : W → W → Bool} {f : W → X} (g : Grammar V) → Fixes Q t f
    → Fixes (λ (v : V × W). g.is_value v.0 × Q v.1) (λ (v w : V × W). g.same v.0 w.0 && t v.1 w.1) (λ v. f v.1)
fixes_second {t = t} g h = record { fixes = λ v w p q e. h.fixes v.1 w.1 p.1 q.1 (second_so (g.same v.0 w.0) (t v.1 w.1) e) }

fixes_octets : (P : List ℕ → Type 0) → Fixes P bytes_eq (λ v. v)
fixes_octets P = record { fixes = λ v w p q. (bytes_eq-Decides v w).0 }

fixes_option : {V X : Type 0} {P : V → Type 0} {s : V → V → Bool} {f : V → X} → Fixes P s f → Fixes (λ o. IfSome o P) (option_eq s) (option_map f)
fixes_option {V} {X} {P} {s} {f} h = record { fixes = go }
  where
    go : (v w : Option V) → IfSome v P → IfSome w P → option_eq s v w ≡ true → option_map f v ≡ option_map f w
    go None None p q e = refl
    go None (Some w) p q e = absurd cc
    go (Some v) None p q e = absurd cc
    go (Some v) (Some w) p q e = ap Some (h.fixes v w p q e)

module _ (sets : SetsAreOctets) where
  same_octets : (v w : SignedAttributes) → signed_attributes.is_value v → signed_attributes.is_value w → signed_attributes.same v w ≡ true → v.0 ≡ w.0
  same_octets v w p q e = (bytes_eq-Decides v.0 w.0).0 (sets v.0 w.0 v w (refl, p.1) (refl, q.1) ∙ e)

  keeps_signed : CountedAlike signed_attributes.is_value signed_attributes.same (λ a. a.0 ∷ [])
  keeps_signed = record { counted = λ v w p q e t. ap (λ x. count_by t (x ∷ [])) (same_octets v w p q e) }

  fixes_set : Fixes signed_attributes.is_value signed_attributes.same (λ a. as_set_of a.0)
  fixes_set = record { fixes = λ v w p q e. ap as_set_of (same_octets v w p q e) }

module _ {C : Type 0} (c : Grammar C) where
  abbrev after_signed_attributes : Grammar (AlgorithmIdentifier × (List ℕ × Option (List (UnsignedAttribute C))))
  after_signed_attributes = then_by algorithm_identifier (then_by (octet_string_type 0x04) (last_optional (unsigned_attributes (unsigned_attribute c))))

  fixes_signed : SetsAreOctets → Fixes (signer_info c).is_value (signer_info c).same (λ s. option_map (λ a. as_set_of a.0) (signed_attrs s))
  fixes_signed sets =
      fixes_second integer_type (fixes_second signer_identifier
      (fixes_second algorithm_identifier (fixes_first after_signed_attributes (fixes_option (fixes_set sets)))))

  fixes_signature : Fixes (signer_info c).is_value (signer_info c).same signature
  fixes_signature =
      fixes_second integer_type (fixes_second signer_identifier
      (fixes_second algorithm_identifier (fixes_second (last_optional signed_attributes)
      (fixes_second algorithm_identifier (fixes_first (last_optional (unsigned_attributes (unsigned_attribute c))) (fixes_octets AreOctets))))))

fixes_content : Fixes content_info.is_value content_info.same (λ v. option_map (λ c. c) (e_content (encap_content_info (content v))))
fixes_content =
    fixes_second signed_data_type (fixes_second integer_type
    (fixes_second (set_of algorithm_identifier) (fixes_first after_content
    (fixes_second object_identifier_type (fixes_option (fixes_octets AreOctets))))))

map_itself : {X : Type 0} (o : Option X) → option_map (λ x. x) o ≡ o
map_itself None = refl
map_itself (Some x) = refl

pub same_content : (v w : ContentInfo) → content_info.is_value v → content_info.is_value w → content_info.same v w ≡ true
    → e_content (encap_content_info (content v)) ≡ e_content (encap_content_info (content w))
same_content v w p q e = sym (map_itself (e_content (encap_content_info (content v))))
    ∙ (fixes_content.fixes v w p q e ∙ map_itself (e_content (encap_content_info (content w))))

-- Sameness at each depth is an equivalence.

both_equiv : {V W : Type 0} {s : V → V → Bool} {t : W → W → Bool} → IsEquivalence s → IsEquivalence t → IsEquivalence (λ (v w : V × W). s v.0 w.0 && t v.1 w.1)
both_equiv {V} {W} k j = and_equiv (on_equiv (λ (v : V × W). v.0) k) (on_equiv (λ (v : V × W). v.1) j)

algorithms : IsEquivalence algorithm_identifier.same
algorithms = both_equiv nat_list_eq_equiv (options_equiv nat_list_eq_equiv)

identifiers : IsEquivalence signer_identifier.same
identifiers = choice_equivalence (both_equiv nat_list_eq_equiv nat_list_eq_equiv) nat_list_eq_equiv

attributes : IsEquivalence attribute.same
attributes = both_equiv nat_list_eq_equiv (members_equiv nat_list_eq_equiv)

module _ {C : Type 0} (c : Grammar C) (k : IsEquivalence c.same) where
  unsigned_equiv : IsEquivalence (unsigned_attribute c).same
  unsigned_equiv = both_equiv nat_list_eq_equiv (choice_equivalence k (members_equiv nat_list_eq_equiv))

  signer_info_equiv : IsEquivalence (signer_info c).same
  signer_info_equiv =
      both_equiv nat_list_eq_equiv (both_equiv identifiers (both_equiv algorithms
      (both_equiv (options_equiv (on_equiv (λ (v : SignedAttributes). v.1) (members_equiv attributes)))
      (both_equiv algorithms (both_equiv nat_list_eq_equiv (options_equiv (members_equiv unsigned_equiv)))))))

  module _ {f : C → List (List ℕ)} (h : CountedAlike c.is_value c.same f) where
    keeps_unsigned : CountedAlike (unsigned_attribute c).is_value (unsigned_attribute c).same (in_unsigned f)
    keeps_unsigned = keeps_of (keeps_then (keeps_none object_identifier_type) (keeps_either h (keeps_each (true ≡ true) IsOpaque))) (λ v p. (p.0, p.2))

    keeps_signer_info : SetsAreOctets → CountedAlike (signer_info c).is_value (signer_info c).same (in_signer_info f)
    keeps_signer_info sets =
        keeps_then (keeps_none integer_type)
        (keeps_then keeps_sid
        (keeps_then keeps_algorithm
        (keeps_then (keeps_option (keeps_signed sets))
        (keeps_then keeps_algorithm
        (keeps_then (keeps_none (octet_string_type 0x04))
        (keeps_option (keeps_of (keeps_members keeps_unsigned ((unsigned_attribute c).is_field ≡ true) unsigned_equiv) (λ v p. p.0))))))))

nobody : IsEquivalence (λ (v w : ⊥). absurd v)
nobody = record { refl = λ v. absurd v; symm = λ v w. absurd v; congr = λ v w u e. absurd v }

equiv_within : (d : ℕ) → IsEquivalence (countersignatures_within d).same
equiv_within zero = members_equiv nobody
equiv_within (suc d) = members_equiv (signer_info_equiv (countersignatures_within d) (equiv_within d))

signers : IsEquivalence signer.same
signers = signer_info_equiv (countersignatures_within 4) (equiv_within 4)

-- there are no such values
empty : {X : Type 0} (f : ⊥ → List X) → CountedAlike (λ (v : List ⊥). Unit {0}) (same_members (λ v w. absurd v)) (flat_map f)
empty f = keeps_of (keeps_members {P = λ v. Unit {0}} {f = f} (record { counted = λ v w p q e t. absurd v }) (Unit {0}) nobody) (λ vs p. (tt, none vs))
  where
    none : (vs : List ⊥) → All (λ v. Unit {0}) vs
    none [] = All-nil (λ v. Unit {0})
    none (v ∷ vs) = absurd v

module _ (sets : SetsAreOctets) where
  keeps_within : (d : ℕ) → CountedAlike (countersignatures_within d).is_value (countersignatures_within d).same (flat_map (in_signer_within d))
  keeps_within zero = empty (in_signer_within 0)
  keeps_within (suc d) =
      (let c = countersignatures_within d in keeps_members (keeps_signer_info c (equiv_within d) (keeps_within d) sets)
      ((signer_info c).is_field ≡ true) (signer_info_equiv c (equiv_within d)))

-- Covers, by induction on the depth.

module _ {C : Type 0} (c : Grammar C) (k : IsEquivalence c.same) {f : C → List Covered} (h : CountedAlike c.is_value c.same f) where
  keeps_below : CountedAlike (unsigned_attribute c).is_value (unsigned_attribute c).same (covers_below f)
  keeps_below = keeps_of (keeps_second object_identifier_type (keeps_either h (record { counted = λ v w p q e t. refl }))) (λ v p. (p.0, p.2))

  keeps_countersignatures :
      CountedAlike (signer_info c).is_value (signer_info c).same (λ s. flat_map (flat_map (covers_below f)) (option_to_list (unsigned_attrs s)))
  keeps_countersignatures =
      keeps_second integer_type
      (keeps_second signer_identifier
      (keeps_second algorithm_identifier
      (keeps_second (last_optional signed_attributes)
      (keeps_second algorithm_identifier
      (keeps_second (octet_string_type 0x04)
      (keeps_option (keeps_of (keeps_members keeps_below ((unsigned_attribute c).is_field ≡ true) (unsigned_equiv c k)) (λ v p. p.0))))))))

module _ (sets : SetsAreOctets) where
  covers_counted :
      (d : ℕ) → ((x : List ℕ) → CountedAlike (countersignatures_within d).is_value (countersignatures_within d).same
      (flat_map (covers_within d (Some x)))) → (given : Option (List ℕ))
      → CountedAlike (signer_info (countersignatures_within d)).is_value (signer_info (countersignatures_within d)).same
      (covers_within (suc d) given)
  covers_counted d h given = record {
    counted = λ v w p q e t.
        let c = countersignatures_within d in
        let rest =
        λ (x : List ℕ) (s : SignerWithin (suc d)). flat_map (flat_map (covers_below (flat_map (covers_within d (Some x)))))
        (option_to_list (unsigned_attrs s)) in
        let signed = (fixes_signature c).fixes v w p q e in
        let alone = ap (λ x. count_by t ((option_or x given, signature v) ∷ [])) ((fixes_signed c sets).fixes v w p q e)
        ∙ ap (λ x. count_by t ((cover w given, x) ∷ [])) signed in
        let below = ap (λ x. count_by t (rest x v)) signed ∙ (keeps_countersignatures c (equiv_within d) (h (signature w))).counted v w p q e t in
        let a = count_both t ((cover v given, signature v) ∷ []) (rest (signature v) v) in
        let b = count_both t ((cover w given, signature w) ∷ []) (rest (signature w) w) in
        omega (arith, a, b, alone, below);
  }

  keeps_covers :
      (d : ℕ) (given : Option (List ℕ)) → CountedAlike (countersignatures_within d).is_value (countersignatures_within d).same
      (flat_map (covers_within d given))
  keeps_covers zero given = empty (covers_within 0 given)
  keeps_covers (suc d) given =
      (let c = countersignatures_within d in keeps_members (covers_counted d (λ x. keeps_covers d (Some x)) given)
      ((signer_info c).is_field ≡ true) (signer_info_equiv c (equiv_within d)))

  keeps_signed_data : CountedAlike signed_data.is_value signed_data.same in_signed_data
  keeps_signed_data =
      keeps_then (keeps_none integer_type)
      (keeps_then (keeps_members keeps_algorithm (algorithm_identifier.is_field ≡ true) algorithms)
      (keeps_then (keeps_none encapsulated_content_info)
      (keeps_then (keeps_option (keeps_each (true ≡ true) (IsOpaqueAmong is_certificate_choices)))
      (keeps_then (keeps_option (keeps_each (true ≡ true) (IsOpaqueAmong is_revocation_info_choice)))
      (keeps_within sets 5)))))

  pub keeps_message : CountedAlike content_info.is_value content_info.same in_content_info
  keeps_message = keeps_then (keeps_none signed_data_type) keeps_signed_data

  keeps_signers :
      (given : Option (List ℕ)) → CountedAlike content_info.is_value content_info.same
      (λ v. flat_map (covers_within 5 given) (signer_infos (content v)))
  keeps_signers given =
      keeps_second signed_data_type
      (keeps_second integer_type
      (keeps_second (set_of algorithm_identifier)
      (keeps_second encapsulated_content_info
      (keeps_second (last_optional (set_of (opaque_among is_certificate_choices)))
      (keeps_second (last_optional (set_of (opaque_among is_revocation_info_choice)))
      (keeps_covers 5 given))))))

  pub covers_kept : (detached : Option (List ℕ)) → CountedAlike content_info.is_value content_info.same (λ v. covers (content v) detached)
  covers_kept detached = record {
    counted = λ v w p q e t.
        ap (λ c. count_by t (flat_map (covers_within 5 (option_or c detached)) (signer_infos (content v)))) (same_content v w p q e)
        ∙ (keeps_signers (content_given (content w) detached)).counted v w p q e t;
  }
