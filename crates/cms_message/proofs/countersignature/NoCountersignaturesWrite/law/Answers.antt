use Rattle.std.proofs.Common.{refl}
use Rattle.cms_fields.proofs.GrammarLaws.{contents_lawful}
use Rattle.cms_message.specs.Countersignatures.{no_countersignatures}
use Rattle.cms_message.proofs.CountersignatureLaws.{none_contents, none_begins, none_by_der, none_reads, none_told}
use Rattle.cms_message.proofs.countersignature.NoCountersignaturesWrite.law.Goals as goal

pub returns : goal.returns
returns c =
    contents_lawful no_countersignatures refl (λ s. record {
      reads_to = λ m j. none_reads;
      contents = λ m. none_contents m;
      begins = λ m. none_begins m;
      is_value = λ m b v r. tt;
      by_der = none_by_der;
      explained = none_told;
    })
