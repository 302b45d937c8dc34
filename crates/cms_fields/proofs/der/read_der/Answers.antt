use Rattle.std.proofs.Common.{◌≡◌, true, Some, refl, ◌++◌, ap, length, ◌∙◌, sym, append-nil}
use Rattle.std.proofs.lemmas.Result.{IfOk-weaker}
use Rattle.cms_tlv.specs.declared.bound.Bound.{Bound}
use Rattle.cms_tlv.specs.State.{State, as_list}
use Rattle.cms_tlv.specs.Spelling.{der}
use Rattle.cms_fields.proofs.DerReads.{start, outside, taken_whole, never_refused}
use Rattle.cms_fields.proofs.der.read_der.Goals as goal

pub returns-in-Ok-2-clause-none : goal.returns-in-Ok-2-clause-none
returns-in-Ok-2-clause-none g c i j e v spelled =
    let bound : c.strict.result ≡ outside = c.strict.ensures ∙ ap (λ (b : Bound). record b { strict = true }) c.top.ensures in
    let begins : c.new-source.result ≡ start c.args.octets.now = c.new-source.ensures
    ∙ ap (λ r. record (start c.args.octets.now) { left = Some r }) c.new.ensures in
    let reads = c.in-Ok-2.ensures in
    let s = c.read-field.new.source in
    let done : s.done ≡ c.args.octets.now =
    taken_whole ((c.law.ensures.field i).is_field _) c.args.octets.now s v spelled _ _ begins (reads.spelled i der (rw bound refl) j).found in
    let kept = c.finish-kept.ensures.kept ∙ ap (λ a. s.done ++ as_list a) reads.reads.clear ∙ append-nil s.done ∙ done in
    c.if-len-octets.false (c.len.ensures ∙ c.finish-kept.result.1.ok.0 ∙ ap length kept)

pub returns-in-Err : goal.returns-in-Err
returns-in-Err g c =
    let bound : c.strict.result ≡ outside = c.strict.ensures ∙ ap (λ (b : Bound). record b { strict = true }) c.top.ensures in
    let begins : c.new-source.result ≡ start c.args.octets.now = c.new-source.ensures
    ∙ ap (λ r. record (start c.args.octets.now) { left = Some r }) c.new.ensures in
    record {
      found = λ i j. IfOk-weaker c.none_or_error.result _ _ (λ o e. rw e tt) c.none_or_error.ensures.no_value;
      none =
          λ i j e v spelled. never_refused ((c.law.ensures.field i).is_field _) c.args.octets.now c.read-field.new.source v spelled
          c.strict.result c.new-source.result c.in-Err.fault bound begins
          ((c.in-Err.ensures.spelled i der (rw bound refl) j).faults (ap (λ (a : State). a.fault) begins))
          (sym c.finish-kept.ensures.failures) (c.none_or_error.ensures.none e);
    }
