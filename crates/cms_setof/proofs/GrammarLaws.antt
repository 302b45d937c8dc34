-- Sets keep the laws of grammars.
use Rattle.std.proofs.Common.{refl}
use Rattle.cms_tlv.specs.declared.fault.Reason.TheVariants.{EmptyAttributes}
use Rattle.cms_tlv.specs.Spelling.{der}
use Rattle.cms_tlv.proofs.Fields.{members_reads}
use Rattle.cms_tlv.proofs.SpellingLaws.{members_contents}
use Rattle.cms_tlv.proofs.Why.{members_explained}
use Rattle.cms_fields.specs.Grammar.{Grammar, IsLawful}
use Rattle.cms_fields.proofs.GrammarLaws.{contents_lawful, lawful_where_contents}
use Rattle.cms_setof.specs.Grammar.{set_of, some_of}
use Rattle.cms_setof.specs.Readers.{has_member}
use Rattle.cms_setof.proofs.MemberLaws.{members_each}
use Rattle.cms_setof.proofs.NonEmptyLaws.{some_member, member_some}
use Rattle.cms_setof.proofs.SetReads.{members_begin}
use Rattle.cms_setof.proofs.SetCanonical.{members_by_der}

pub lawful_set : {V : Type 0} (g : Grammar V) → IsLawful g → IsLawful (set_of g)
lawful_set g h = contents_lawful (set_of g) refl (λ s.
    let p = h.field s in
    record {
      reads_to = λ m j. members_reads m (p.is_field m) (p.reads m j);
      contents = λ m. members_contents (p.is_field m) m;
      begins = λ m. members_begin m (p.is_field m);
      is_value = λ m b v r. (s, members_each m (g.spelled m) g.is_value (λ b x r. p.is_value m b x r) b v r);
      by_der = members_by_der (p.is_field der) p.by_der;
      explained = members_explained _ p.explained;
    })

pub lawful_some : {V : Type 0} (g : Grammar V) → IsLawful (set_of g) → IsLawful (some_of g)
lawful_some g h = lawful_where_contents (set_of g) _ has_member EmptyAttributes (λ e. absurd cc) (λ limit at. tt) some_member member_some refl h
