-- Each combinator of grammars keeps the laws.
use Rattle.std.proofs.Common.{◌≡◌, ◌≢◌, ℕ, Bool, true, false, List, Option, None, Some, refl, sym, ◌∙◌, subst}
use Rattle.std.specs.Prelude.{IfSome, ◌&&◌}
use Rattle.std.specs.Cmp.{first_so, second_so}
use Rattle.cms_tlv.specs.declared.fault.Reason.{Reason}
use Rattle.cms_tlv.specs.declared.fault.Reason.TheVariants.{Truncated}
use Rattle.cms_tlv.specs.Headers.{AreOctets}
use Rattle.cms_tlv.specs.Opaque.{IsOpaque}
use Rattle.cms_tlv.specs.Spelling.{Rules, ber, minimal, der, Spelling, optional}
use Rattle.cms_tlv.proofs.SpellingLaws.{then_contents, maybe_contents, maybe_alone_contents, alone_contents, primitive_field, where_contents}
use Rattle.cms_tlv.proofs.Fields.{last_reads, maybe_last_reads}
use Rattle.cms_tlv.proofs.Elements.{scalar_reads}
use Rattle.cms_tlv.proofs.Judged.{where_reads}
use Rattle.cms_tlv.specs.RefusalReasons.{IsFree}
use Rattle.cms_tlv.proofs.Why.{scalar_explained, opaque_explained, constrained_explained}
use Rattle.cms_fields.specs.FirstOctets.{is_constructed}
use Rattle.cms_fields.specs.Readers.{constrained_of, last_of, last_optional_of}
use Rattle.cms_fields.specs.Received.{IsOpaqueAmong}
use Rattle.cms_fields.specs.Grammar.{Grammar, IsReadBy, FieldLaws, ContentsLaws, IsLawful, unread, tagged, primitive, where_only, constrained, opaque_element, opaque_among, already_der, choice, then_by, optional_then, last, last_optional, contents_choice, selected}
use Rattle.cms_fields.proofs.FirstOctetLaws.{is_octet, is_primitive, header_paths}
use Rattle.cms_fields.proofs.CanonicalLaws.{element_framed, where_framed, opaque_framed}
use Rattle.cms_fields.proofs.DerLaws.{element_by_der, received_by_der, where_by_der, then_by_der, maybe_by_der, optional_by_der}
use Rattle.cms_fields.proofs.ReaderLaws.{tagged_reads, tagged_field, begins_as, opaque_as_received, opaque_is_field, where_field, where_reads_to, where_begins, both_read, then_begins, maybe_both_read, maybe_begins, avoids, optional_begins}
use Rattle.cms_fields.proofs.ChoiceLaws.{choice_field, choice_reads, field_clash, choice_by_der, choice_framed, either_known}
use Rattle.cms_fields.proofs.ContentsChoiceLaws.{contents_clash, contents_choice_begins, contents_choice_reads}
use Rattle.cms_fields.proofs.ContentsChoiceLaws as chosen
use Rattle.cms_fields.proofs.SelectedLaws.{by_value_contents, by_value_reads, by_value_by_der, followed_begins, selected_known}
use Rattle.cms_fields.proofs.AmongLaws.{among_field, among_reads, among_framed}
use Rattle.cms_fields.proofs.WhyFields.{always_told, left_told, right_told, holding_told, then_told, optional_then_told, last_told, last_optional_told, opaque_among_told, already_der_told, choice_told, selected_told, constrained_contents_told}
use Rattle.cms_fields.proofs.AlreadyDerLaws.{strict_reads, strict_field, strict_framed, strict_by_der}

no : {A : Type 0} {t : Bool} → t ≡ false → t ≡ true → A
no n e = absurd (let z : true ≡ false = sym e ∙ n in cc)

-- What is never contents is lawful as a field, and the other way round.
pub field_lawful : {V : Type 0} (g : Grammar V) → g.is_contents ≡ false → (g.is_field ≡ true → FieldLaws g) → IsLawful g
field_lawful g n f = record { field = f; contents = λ e. no n e }

pub contents_lawful : {V : Type 0} (g : Grammar V) → g.is_field ≡ false → (g.is_contents ≡ true → ContentsLaws g) → IsLawful g
contents_lawful g n f = record { field = λ e. no n e; contents = f }

-- What ber and minimal read is read by any rules but DER.
pub read_but_by_der : {V : Type 0} (g : Grammar V) → IsReadBy g ber → IsReadBy g minimal → (m : Rules) → m ≢ der → IsReadBy g m
read_but_by_der g b c ber n = b
read_but_by_der g b c minimal n = c
read_but_by_der g b c der n = absurd (n refl)

pub lawful_unread : {V : Type 0} (g : Grammar V) → g.is_field ≡ false → g.is_contents ≡ false → IsLawful g
lawful_unread g n m = record { field = λ e. no n e; contents = λ e. no m e }

pub lawful_tagged : {V : Type 0} (id : ℕ) (g : Grammar V) → IsLawful g → IsLawful (tagged id g)
lawful_tagged id g h = field_lawful (tagged id g) refl (λ s.
    let o = is_octet id (first_so _ _ s) in
    let k = h.contents (second_so _ _ s) in
    record {
      reads = λ m j. tagged_reads id o (k.reads_to m j);
      is_field = λ m. tagged_field m id o (k.contents m);
      is_value = λ m b v r. k.is_value m r.0 v r.2;
      by_der = element_by_der k.by_der id;
      framed = element_framed id o;
      explained = holding_told id (header_paths id g.has_paths) (right_told (is_constructed id) k.explained);
    })

pub lawful_primitive : (id : ℕ) (P : List ℕ → Type 0) (test : List ℕ → Bool) (malformed : Reason) → malformed ≢ Truncated
    → ((v : List ℕ) → AreOctets v → test v ≡ true → P v) → ((v : List ℕ) → P v → AreOctets v × (test v ≡ true))
    → IsLawful (primitive id P test malformed)
lawful_primitive id P test malformed told known tested = field_lawful (primitive id P test malformed) refl (λ s.
    let o = is_primitive id s in
    record {
      reads = λ m j. scalar_reads id test malformed o.0 o.1 told known tested;
      is_field = λ m. begins_as id (primitive_field m id o.0 o.1 (λ b v w p q. sym p.0 ∙ q.0));
      is_value = λ m b v r. subst P r.2.0 r.2.1;
      by_der = element_by_der (received_by_der P) id;
      framed = element_framed id o.0;
      explained = scalar_explained id P test malformed (λ v n p. no n (tested v p).1);
    })

pub lawful_opaque : IsLawful opaque_element
lawful_opaque = field_lawful opaque_element refl (λ s. record {
  reads = λ m j. opaque_as_received;
  is_field = λ m. opaque_is_field;
  is_value = λ m b v r. subst IsOpaque r.0 r.1;
  by_der = received_by_der IsOpaque;
  framed = opaque_framed;
  explained = opaque_explained _;
})

pub lawful_among : (allowed : ℕ → Bool) → IsLawful (opaque_among allowed)
lawful_among allowed = field_lawful (opaque_among allowed) refl (λ s. record {
  reads = λ m j. among_reads allowed;
  is_field = λ m. among_field allowed;
  is_value = λ m b v r. subst (IsOpaqueAmong allowed) r.0 r.1;
  by_der = received_by_der (IsOpaqueAmong allowed);
  framed = among_framed allowed;
  explained = opaque_among_told allowed;
})

pub lawful_already_der : {V : Type 0} (g : Grammar V) → IsLawful g → IsLawful (already_der g)
lawful_already_der g h = field_lawful (already_der g) refl (λ s.
    let k = h.field s in
    record {
      reads = λ m j. strict_reads (g.spelled der) m (k.reads der j);
      is_field = λ m. strict_field (g.spelled der) (k.is_field der);
      is_value = λ m b v r. (s, subst (λ o. g.spelled der o v.1) r.0 r.1);
      by_der = strict_by_der (g.spelled der) k.by_der.canonical k.by_der.equivalence;
      framed = strict_framed (g.spelled der) k.framed;
      explained = already_der_told k.explained;
    })

pub lawful_choice : {V W : Type 0} (g : Grammar V) (h : Grammar W) → IsLawful g → IsLawful h → IsLawful (choice g h)
lawful_choice g h k l = field_lawful (choice g h) refl (λ s.
    let rest = second_so _ _ s in
    let p = k.field (first_so _ _ s) in
    let q = l.field (first_so _ _ rest) in
    let apart = second_so _ _ rest in
    record {
      reads = λ m j. choice_reads (p.is_field m) (q.is_field m) apart (p.reads m (first_so _ _ j)) (q.reads m (second_so _ _ j));
      is_field = λ m. choice_field (p.is_field m) (q.is_field m) apart;
      is_value = λ m b v r. either_known (g.spelled m) (h.spelled m) (λ x. p.is_value m b x) (λ x. q.is_value m b x) v r;
      by_der = choice_by_der (field_clash (p.is_field der) (q.is_field der) apart) p.by_der q.by_der;
      framed = choice_framed p.framed q.framed;
      explained = choice_told g.first (left_told h.has_paths p.explained) (right_told g.has_paths q.explained);
    })

-- what may be there is a value
known_part : {V : Type 0} (R : Spelling V) (P : V → Type 0) (b : List ℕ) → ((v : V) → R b v → P v) → (o : Option V) → optional R b o → IfSome o P
known_part R P b h None s = tt
known_part R P b h (Some v) s = h v s

pub lawful_then : {V W : Type 0} (g : Grammar V) (h : Grammar W) → IsLawful g → IsLawful h → IsLawful (then_by g h)
lawful_then g h k l = contents_lawful (then_by g h) refl (λ s.
    let p = k.field (first_so _ _ s) in
    let q = l.contents (second_so _ _ s) in
    record {
      reads_to = λ m j. both_read (p.is_field m) (p.reads m (first_so _ _ j)) (q.reads_to m (second_so _ _ j));
      contents = λ m. then_contents (p.is_field m) (q.contents m);
      begins = λ m. then_begins (h.spelled m) (p.is_field m);
      is_value = λ m b v r. (p.is_value m r.0 v.0 r.3, q.is_value m r.1 v.1 r.4);
      by_der = then_by_der (p.is_field der) p.by_der q.by_der;
      explained = then_told (left_told h.has_paths p.explained) (right_told g.has_paths q.explained);
    })

pub lawful_optional_then : {V W : Type 0} (g : Grammar V) (h : Grammar W) → IsLawful g → IsLawful h → IsLawful (optional_then g h)
lawful_optional_then g h k l = contents_lawful (optional_then g h) refl (λ s.
    let rest = second_so _ _ s in
    let p = k.field (first_so _ _ s) in
    let q = l.contents (first_so _ _ rest) in
    let apart = second_so _ _ rest in
    record {
      reads_to = λ m j. maybe_both_read (p.is_field m) (q.contents m) (q.begins m) apart (p.reads m (first_so _ _ j)) (q.reads_to m (second_so _ _ j));
      contents = λ m. maybe_contents (p.is_field m) (q.contents m) (avoids (p.is_field m) (q.contents m) (q.begins m) apart);
      begins = λ m. maybe_begins (p.is_field m) (q.contents m) (q.begins m) apart;
      is_value = λ m b v r. (known_part (g.spelled m) g.is_value r.0 (λ x. p.is_value m r.0 x) v.0 r.3, q.is_value m r.1 v.1 r.4);
      by_der = maybe_by_der (p.is_field der) p.by_der q.by_der (avoids (p.is_field der) (q.contents der) (q.begins der) apart);
      explained = optional_then_told g.first (left_told h.has_paths p.explained) (right_told g.has_paths q.explained);
    })

pub lawful_last : {V : Type 0} (g : Grammar V) → IsLawful g → IsLawful (last g)
unfolding last_of
lawful_last g h = contents_lawful (last g) refl (λ s.
    let p = h.field s in
    record {
      reads_to = λ m j. last_reads (p.is_field m) (p.reads m j) (λ v. v);
      contents = λ m. alone_contents (p.is_field m);
      begins = λ m. record { begins = λ b v t r q e. (let z = (p.is_field m).starts b v q in subst (λ n. g.first n ≡ true) (let d : z.0 ≡ t = cc in d) z.4) };
      is_value = p.is_value;
      by_der = p.by_der;
      explained = last_told p.explained;
    })

pub lawful_last_optional : {V : Type 0} (g : Grammar V) → IsLawful g → IsLawful (last_optional g)
unfolding last_optional_of
lawful_last_optional g h = contents_lawful (last_optional g) refl (λ s.
    let p = h.field s in
    record {
      reads_to = λ m j. maybe_last_reads (p.is_field m) (record { yes = λ t e. e; so = λ t e. e }) (p.reads m j) (λ v. v);
      contents = λ m. maybe_alone_contents (p.is_field m);
      begins = λ m. optional_begins (p.is_field m);
      is_value = λ m b o r. known_part (g.spelled m) g.is_value b (λ x. p.is_value m b x) o r;
      by_der = optional_by_der (p.is_field der) p.by_der;
      explained = last_optional_told g.first p.explained;
    })

pub lawful_contents_choice : {V U W : Type 0} (g : Grammar V) (r : Grammar U) (h : Grammar W) → IsLawful g → IsLawful r → IsLawful h
    → IsLawful (contents_choice g r h)
lawful_contents_choice g r h k n l = contents_lawful (contents_choice g r h) refl (λ s.
    let rest = second_so _ _ s in
    let more = second_so _ _ rest in
    let p = k.field (first_so _ _ s) in
    let i = n.contents (first_so _ _ rest) in
    let q = l.contents (first_so _ _ more) in
    let apart = second_so _ _ more in
    record {
      reads_to =
          λ m j. contents_choice_reads (r.spelled m) (p.is_field m) (q.contents m) (q.begins m) apart
          (both_read (p.is_field m) (p.reads m (first_so _ _ j)) (i.reads_to m (first_so _ _ (second_so _ _ j))))
          (q.reads_to m (second_so _ _ (second_so _ _ j)));
      contents = λ m. chosen.contents_choice (r.spelled m) (p.is_field m) (q.contents m) (q.begins m) apart (i.contents m);
      begins = λ m. contents_choice_begins (r.spelled m) (p.is_field m) (q.contents m) (q.begins m) apart;
      is_value =
          λ m b v x. either_known ((then_by g r).spelled m) (h.spelled m) (λ y z. (p.is_value m z.0 y.0 z.3, i.is_value m z.1 y.1 z.4))
          (λ y z. q.is_value m b y z) v x;
      by_der =
          choice_by_der (contents_clash (r.spelled der) (p.is_field der) (q.contents der) (q.begins der) apart)
          (then_by_der (p.is_field der) p.by_der i.by_der) q.by_der;
      explained =
          choice_told g.first (left_told h.has_paths (then_told (left_told r.has_paths p.explained) (right_told g.has_paths i.explained)))
          (right_told (g.has_paths && r.has_paths) q.explained);
    })

pub lawful_selected :
    {V W : Type 0} (id : ℕ) (P : List ℕ → Type 0) (test : List ℕ → Bool) (malformed : Reason) (choose : List ℕ → Bool) (g : Grammar V)
    (h : Grammar W) → IsLawful (primitive id P test malformed) → IsLawful g → IsLawful h → IsLawful (selected id P test malformed choose g h)
lawful_selected id P test malformed choose g h k n l = contents_lawful (selected id P test malformed choose g h) refl (λ s.
    let rest = second_so _ _ s in
    let p = k.field (first_so _ _ s) in
    let i = n.contents (first_so _ _ rest) in
    let q = l.contents (second_so _ _ rest) in
    record {
      reads_to = λ m j. by_value_reads choose (p.is_field m) (p.reads m refl) (i.reads_to m (first_so _ _ j)) (q.reads_to m (second_so _ _ j));
      contents = λ m. by_value_contents choose (p.is_field m) (i.contents m) (q.contents m);
      begins = λ m. followed_begins (p.is_field m) _;
      is_value =
          λ m b v r. (let k = selected_known (choose v.0) (g.spelled m) (h.spelled m) (λ y z. i.is_value m r.1 y z)
          (λ y z. q.is_value m r.1 y z) v.1 r.4 in (p.is_value m r.0 v.0 r.3, k.0, k.1));
      by_der = by_value_by_der choose (p.is_field der) p.by_der i.by_der q.by_der;
      explained =
          selected_told choose (always_told (g.has_paths && h.has_paths) p.explained) (left_told h.has_paths i.explained) (right_told g.has_paths q.explained);
    })

-- a further constraint on contents octets, decided by a test
pub lawful_constrained :
    (id : ℕ) (P : List ℕ → Type 0) (test : List ℕ → Bool) (malformed : Reason) (Q : List ℕ → Type 0) (also : List ℕ → Bool)
    (refusal : Reason) → refusal ≢ Truncated → ((v : List ℕ) → P v → also v ≡ true → Q v) → ((v : List ℕ) → P v → Q v → also v ≡ true)
    → ((v : List ℕ) → AreOctets v → test v ≡ true → P v) → ((v : List ℕ) → P v → test v ≡ true) → IsLawful (primitive id P test malformed)
    → IsLawful (constrained id P test malformed Q also refusal)
unfolding constrained_of
lawful_constrained id P test malformed Q also refusal told known tested passes passed h = field_lawful (constrained id P test malformed Q also refusal) refl (λ s.
    let p = h.field s in
    record {
      reads = λ m j. where_reads also refusal told (λ b v r. known v (p.is_value m b v r)) (λ b v r. tested v (p.is_value m b v r)) (p.reads m j);
      is_field = λ m. where_field Q (p.is_field m);
      is_value = λ m b v r. (p.is_value m b v r.0, r.1);
      by_der = where_by_der p.by_der Q;
      framed = where_framed Q p.framed;
      explained =
          constrained_explained id P test malformed (λ v n x. no n (passed v x)) passes Q also refusal (λ v p n x. no n (tested v p x));
    })

-- a further constraint on contents, decided by a test
pub lawful_where_contents : {V : Type 0} (g : Grammar V) (Q : V → Type 0) (test : V → Bool) (reason : Reason) → reason ≢ Truncated
    → IsFree reason → ((v : V) → test v ≡ true → Q v) → ((v : V) → Q v → test v ≡ true) → g.is_field ≡ false → IsLawful g
    → IsLawful (where_only g Q test reason)
lawful_where_contents g Q test reason told free known tested n h = contents_lawful (where_only g Q test reason) n (λ s.
    let p = h.contents s in
    record {
      reads_to = λ m j. where_reads_to test reason told known tested (p.reads_to m j);
      contents = λ m. where_contents Q (p.contents m);
      begins = λ m. where_begins Q (p.begins m);
      is_value = λ m b v r. (p.is_value m b v r.0, r.1);
      by_der = where_by_der p.by_der Q;
      explained = constrained_contents_told test reason free p.explained;
    })
