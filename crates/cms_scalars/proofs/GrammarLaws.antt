-- The laws of scalars and strings as parts of records.
use Rattle.std.proofs.Common.{◌≡◌, ◌≢◌, ℕ, true, false, refl}
use Rattle.std.specs.Cmp.{first_so, second_so}
use Rattle.cms_tlv.specs.Spelling.{Rules, ber, minimal, der}
use Rattle.cms_fields.specs.Grammar.{Grammar, IsLawful}
use Rattle.cms_fields.proofs.GrammarLaws.{field_lawful, contents_lawful}
use Rattle.cms_scalars.specs.Grammar.{is_not_der, named_bits_type, boolean_type, octet_string_type, default_false_then}
use Rattle.cms_scalars.proofs.Absent.{default_reads, default_contents, default_begins, default_by_der}
use Rattle.cms_scalars.proofs.BitStrings.{named_bits_reads, named_bits_field, named_bits_by_der, named_bits_framed}
use Rattle.cms_scalars.proofs.Strings.{string_reads, string_field, string_by_der, string_framed, string_octets}
use Rattle.cms_scalars.proofs.WhyScalars.{bits_told, boolean_told, string_told, default_false_told}
use Rattle.cms_scalars.proofs.Truth.{boolean_reads, boolean_field, boolean_by_der, boolean_framed}

not_der : (m : Rules) → is_not_der m ≡ true → m ≢ der
not_der ber j e = absurd cc
not_der minimal j e = absurd cc
not_der der j e = let z : false ≡ true = j in cc

pub lawful_bits : IsLawful named_bits_type
lawful_bits =
    field_lawful named_bits_type refl (λ s. record {
      reads = λ m j. named_bits_reads m (not_der m j);
      is_field = λ m. named_bits_field m;
      is_value = λ m b v r. tt;
      by_der = named_bits_by_der;
      framed = named_bits_framed;
      explained = bits_told;
    })

pub lawful_boolean : IsLawful boolean_type
lawful_boolean =
    field_lawful boolean_type refl (λ s. record {
      reads = λ m j. boolean_reads m (not_der m j);
      is_field = λ m. boolean_field m;
      is_value = λ m b v r. tt;
      by_der = boolean_by_der;
      framed = boolean_framed;
      explained = boolean_told;
    })

pub lawful_string : (id : ℕ) → IsLawful (octet_string_type id)
lawful_string id = field_lawful (octet_string_type id) refl (λ s. record {
  reads = λ m j. string_reads id s m (not_der m j);
  is_field = λ m. string_field id s m;
  is_value = λ m b v r. string_octets id m b v r;
  by_der = string_by_der id s;
  framed = string_framed id s;
  explained = string_told id;
})

pub lawful_default_false : {W : Type 0} (h : Grammar W) → IsLawful h → IsLawful (default_false_then h)
lawful_default_false h l = contents_lawful (default_false_then h) refl (λ s.
    let q = l.contents (first_so _ _ s) in
    let apart = second_so _ _ s in
    record {
      reads_to = λ m j. default_reads (q.contents m) (q.begins m) apart m (not_der m (first_so _ _ j)) (q.reads_to m (second_so _ _ j));
      contents = λ m. default_contents (q.contents m) (q.begins m) apart m;
      begins = λ m. default_begins (q.contents m) (q.begins m) apart m;
      is_value = λ m b v r. q.is_value m r.1 v.1 r.4;
      by_der = default_by_der (q.contents der) (q.begins der) apart q.by_der;
      explained = default_false_told h q.explained;
    })
