-- OCTET STRING: its readers and its spelling.
use Rattle.std.proofs.Common.{◌≡◌, ◌≢◌, ◌↔◌, inl, inr, ◌⊎◌, ℕ, zero, suc, ◌+◌, ◌/◌, ◌%◌, Bool, true, false, not, ◌&&◌, List, [], ◌∷◌, ◌++◌, Result, Ok, Err, refl, sym, ap, subst, ◌∙◌, arith}
use Rattle.std.specs.Prelude.{bytes_eq, ◌||◌, ◌==◌}
use Rattle.std.specs.List.{AllByRecursion, AllZip}
use Rattle.std.specs.Cmp.Lexicographic.{nat_list_eq_equiv}
use Rattle.std.proofs.lemmas.List.{append-nil}
use Rattle.std.proofs.lemmas.Bool.{eqb-true}
use Rattle.cms_tlv.specs.declared.fault.Reason.TheVariants.{UnexpectedElement}
use Rattle.cms_tlv.specs.declared.bound.Bound.{Bound}
use Rattle.cms_tlv.specs.Headers.{AreOctets}
use Rattle.cms_tlv.specs.Spelling.{Rules, ber, minimal, der, Spelling, element, either, rows, join}
use Rattle.cms_tlv.specs.Reading.{Cursor, Stop, Reader, then_read, ◌>>=◌, give_if, primitive_of, scalar_of}
use Rattle.cms_tlv.specs.Law.{Reads, ReadsTo, IsField, IsFieldOctet, IsContents}
use Rattle.cms_tlv.proofs.Inverse.{eqb_no}
use Rattle.cms_tlv.proofs.Elements.{scalar_reads}
use Rattle.cms_tlv.proofs.Fields.{rows_reads}
use Rattle.cms_tlv.proofs.SpellingLaws.{primitive_field, members_contents, element_by}
use Rattle.cms_fields.specs.FirstOctets.{is_primitive_octet, are_apart}
use Rattle.cms_fields.specs.Canonical.{IsByDer, IsDerFramed}
use Rattle.cms_fields.specs.Writing.{IsWritten}
use Rattle.cms_fields.proofs.FirstOctetLaws.{is_primitive}
use Rattle.cms_scalars.proofs.ConstructedOctets.{with_bit_6}
use Rattle.cms_fields.proofs.ReaderLaws.{begins_as, tagged_field, tagged_reads}
use Rattle.cms_fields.proofs.ChoiceLaws.{choice_field, choice_reads}
use Rattle.cms_fields.proofs.CanonicalLaws.{element_canonical, element_framed, received_canonical}
use Rattle.cms_scalars.specs.Image.{image}
use Rattle.cms_scalars.proofs.Made.{made_field, made_contents, made_reads, made_contents_read}
use Rattle.cms_scalars.specs.Octets.{octets, one_part, of_either, in_turn, string_parts, segments, octet_string, octet_string_parts}
use Rattle.cms_scalars.specs.Readers.{is_string_octet, constructed, part_of, parts_of, segments_of, octet_string_parts_of, octet_string_of}

-- the contents of a primitive element, whatever they are
any_judged : (r : Result (List ℕ × Cursor) Stop) → then_read r (give_if (λ c. true) UnexpectedElement) ≡ r
unfolding give_if
any_judged (Ok p) = refl
any_judged (Err e) = refl

any_octets : (id : ℕ) (bd : Bound) (c : Cursor) → scalar_of id (λ c. true) UnexpectedElement bd c ≡ primitive_of id bd c
unfolding scalar_of ◌>>=◌
any_octets id bd c = any_judged (primitive_of id bd c)

pub primitive_reads : {m : Rules} (id : ℕ) → is_primitive_octet id ≡ true → Reads m (element m id octets) (primitive_of id)
primitive_reads id s =
    (let r = scalar_reads id (λ c. true) UnexpectedElement (is_primitive id s).0 (is_primitive id s).1 (λ z. cc) (λ v o e. o)
    (λ v o. (o, refl)) in record {
      sound = λ bd c d v i e. r.sound bd c d v i (any_octets id bd c ∙ e);
      complete = λ bd c d b v i p q room. sym (any_octets id bd c) ∙ r.complete bd c d b v i p q room;
      cut = λ bd c at i e. r.cut bd c at i (any_octets id bd c ∙ e);
    })

-- Its identifier octets.

not_both : (n a b : ℕ) → a ≢ b → not (n == a && n == b) ≡ true
not_both n a b d = go (n == a) refl
  where
    go : (t : Bool) → (n == a) ≡ t → not (n == a && n == b) ≡ true
    go false e = rw e refl
    go true e = let f : (n == b) ≡ false = eqb_no n b (λ z. d (sym (eqb-true n a e) ∙ z)) in rw (e, f) refl

pub two_apart : (n a b : ℕ) → a ≢ b → are_apart n (λ t. t == a) (λ t. t == b) ≡ true
two_apart zero a b d = refl
two_apart (suc n) a b d = rw (not_both n a b d, two_apart n a b d) refl

module _ (id : ℕ) (s : is_primitive_octet id ≡ true) where
  constructed_octet : IsFieldOctet (id + 0x20)
  constructed_octet = (let f = is_primitive id s in record {
    octet = (let a = f.0.octet in let b : (id / 32) % 2 ≡ 1 → ⊥ = f.1 in omega (arith, a, b));
    one = λ e. f.0.one (omega arith);
    not_0 = λ e. omega arith;
  })

  pub is_constructed : constructed id ≡ id + 0x20
  is_constructed = (let f = (is_primitive id s).1 in omega (arith, with_bit_6 id, f))

  module _ (m : Rules) {S : Spelling (List (List ℕ))} (k : IsContents S) where
    apart : are_apart 0x100 (λ t. t == id) (λ t. t == id + 0x20) ≡ true
    apart = two_apart 0x100 id (id + 0x20) (λ e. omega arith)

    part_field : IsField (λ t. (t == id) ≡ true) (image one_part (element m id octets))
    part_field = made_field one_part (begins_as id (primitive_field m id (is_primitive id s).0 (is_primitive id s).1 (λ b v w p q. sym p.0 ∙ q.0)))

    pub parts_field : IsField (λ t. is_string_octet id t ≡ true) (string_parts m id S)
    parts_field = made_field of_either (choice_field part_field (tagged_field m (id + 0x20) constructed_octet k) apart)

    pub parts_read : {g : Bound → Reader (List (List ℕ))} → ReadsTo m S (λ v. v) g → Reads m (string_parts m id S) (parts_of id g)
    unfolding parts_of part_of
    parts_read r =
        made_reads of_either (choice_reads part_field (tagged_field m (id + 0x20) constructed_octet k) apart
        (made_reads one_part (primitive_reads id s)) (rw is_constructed (tagged_reads (id + 0x20) constructed_octet r)))

rows_contents : {V : Type 0} {P : ℕ → Type 0} {R : Spelling V} → IsField P R → IsContents (rows R)
rows_contents f =
    (let k = members_contents f ber in record {
      frames = λ b vs r. k.frames b vs (r.0, r.1, r.2, tt);
      same = λ b vs ws r q. k.same b vs ws (r.0, r.1, r.2, tt) (q.0, q.1, q.2, tt);
    })

pub segments_contents : (m : Rules) (n : ℕ) → IsContents (segments m n)
segments_contents m zero = record { frames = λ b v r. absurd r; same = λ b v w r q. absurd r }
segments_contents m (suc n) = made_contents in_turn (rows_contents (parts_field 0x04 refl m (segments_contents m n)))

pub segments_read : (m : Rules) (n : ℕ) → ReadsTo m (segments m n) (λ v. v) (segments_of n)
unfolding segments_of
segments_read m zero = record {
  sound = λ bd c d a i e. absurd (let z = e in cc);
  complete = λ bd c d b o w i p s e room. absurd s;
  cut = λ bd c at i e. absurd (let z = e in cc);
}
segments_read m (suc n) =
    made_contents_read in_turn (rows_reads (parts_field 0x04 refl m (segments_contents m n))
    (parts_read 0x04 refl m (segments_contents m n) (segments_read m n)))

-- OCTET STRING.

both_octets : (a b : List ℕ) → AreOctets a → AreOctets b → AreOctets (a ++ b)
both_octets [] b p q = q
both_octets (x ∷ a) b p q = (p.0, both_octets a b p.1 q)

joined_octets : (ps : List (List ℕ)) → AllByRecursion AreOctets ps → AreOctets (join ps)
joined_octets [] a = tt
joined_octets (p ∷ ps) a = both_octets p (join ps) a.0 (joined_octets ps a.1)

both_lists : (ps qs : List (List ℕ)) → AllByRecursion AreOctets ps → AllByRecursion AreOctets qs → AllByRecursion AreOctets (ps ++ qs)
both_lists [] qs a b = b
both_lists (p ∷ ps) qs a b = (a.0, both_lists ps qs a.1 b)

-- the spelling's parts are octets
abbrev OfOctets : Spelling (List (List ℕ)) → Type 0
OfOctets S = (c : List ℕ) (ps : List (List ℕ)) → S c ps → AllByRecursion AreOctets ps

module _ {S : Spelling (List (List ℕ))} (h : OfOctets S) where
  of_octets : (m : Rules) (id : ℕ) → OfOctets (string_parts m id S)
  of_octets m id b ps s = subst (AllByRecursion AreOctets) s.1 (go s.0 s.2)
    where
      go : (x : List (List ℕ) ⊎ List (List ℕ)) → either (image one_part (element m id octets)) (element m (id + 0x20) S) b x
          → AllByRecursion AreOctets (of_either x)
      go (inl qs) r = subst (AllByRecursion AreOctets) r.1 (subst AreOctets r.2.2.0 r.2.2.1, tt)
      go (inr qs) r = h r.0 qs r.2

  all_octets : (bs : List (List ℕ)) (pss : List (List (List ℕ))) → AllZip S bs pss → AllByRecursion AreOctets (in_turn pss)
  all_octets [] [] a = tt
  all_octets [] (ps ∷ pss) a = absurd a
  all_octets (b ∷ bs) [] a = absurd a
  all_octets (b ∷ bs) (ps ∷ pss) a = both_lists ps (in_turn pss) (h b ps a.0) (all_octets bs pss a.1)

segments_octets : (m : Rules) (n : ℕ) → OfOctets (segments m n)
segments_octets m zero c ps s = absurd s
segments_octets m (suc n) c ps s = subst (AllByRecursion AreOctets) s.1 (all_octets (of_octets (segments_octets m n) m 0x04) s.2.0 s.0 s.2.2)

pub string_octets : (id : ℕ) (m : Rules) (b v : List ℕ) → octet_string id m b v → AreOctets v
unfolding octet_string octet_string_parts
string_octets id ber b v s = subst AreOctets s.1 (joined_octets s.0 (of_octets (segments_octets ber 8) ber id b s.0 s.2))
string_octets id minimal b v s = subst AreOctets s.1 (joined_octets s.0 (of_octets (segments_octets minimal 8) minimal id b s.0 s.2))
string_octets id der b v s = subst AreOctets s.2.0 s.2.1

module _ (id : ℕ) (s : is_primitive_octet id ≡ true) where
  pub string_parts_read : (m : Rules) → Reads m (octet_string_parts m id) (octet_string_parts_of id)
  unfolding octet_string_parts octet_string_parts_of
  string_parts_read m = parts_read id s m (segments_contents m 8) (segments_read m 8)

  pub string_reads : (m : Rules) → m ≢ der → Reads m (octet_string id m) (octet_string_of id)
  unfolding octet_string octet_string_of
  string_reads ber n = made_reads join (string_parts_read ber)
  string_reads minimal n = made_reads join (string_parts_read minimal)
  string_reads der n = absurd (n refl)

  pub string_field : (m : Rules) → IsField (λ t. is_string_octet id t ≡ true) (octet_string id m)
  unfolding octet_string octet_string_parts
  string_field ber = made_field join (parts_field id s ber (segments_contents ber 8))
  string_field minimal = made_field join (parts_field id s minimal (segments_contents minimal 8))
  string_field der = (let f = begins_as id (primitive_field der id (is_primitive id s).0 (is_primitive id s).1 (λ b v w p q. sym p.0 ∙ q.0)) in record {
    frame = f.frame;
    starts = λ b v r. (let h = f.starts b v r in (h.0, h.1, h.2, h.3, ap (λ t. t || (h.0 == id + 0x20)) h.4));
    same = f.same;
  })

  pub string_by_der : IsByDer bytes_eq (octet_string id)
  unfolding octet_string octet_string_parts
  string_by_der = record {
    within = λ b v r. (v ∷ [], append-nil v, (inl (v ∷ []), refl, (v, refl, (r.0, element_by der r.1, r.2))));
    canonical = element_canonical (received_canonical AreOctets) id;
    equivalence = nat_list_eq_equiv;
  }

  pub string_framed : IsDerFramed (octet_string id der)
  unfolding octet_string
  string_framed = (let f = element_framed id (is_primitive id s).0 in record { framed = f.framed })

-- What is written: the octets, in one piece.
pub string_alike : (id : ℕ) {v : List ℕ} (o : List ℕ) → IsWritten (element der id octets) bytes_eq v o ↔ IsWritten (octet_string id der) bytes_eq v o
unfolding octet_string
string_alike id o = (
  λ w. record { value = w.value; spells = w.spells; same = w.same },
  λ w. record { value = w.value; spells = w.spells; same = w.same },
)
