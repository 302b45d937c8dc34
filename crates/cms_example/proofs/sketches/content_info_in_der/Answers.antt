use Rattle.std.proofs.Common.{◌≡◌, refl, ap, ◌∙◌, ◌++◌}
use Rattle.std.proofs.lemmas.List.{append-nil}
use Rattle.std.proofs.lemmas.Result.{IfOk-at_ok}
use Rattle.std.specs.Prelude.{Result, Ok, None, OnOk}
use Rattle.cms_tlv.specs.declared.fault.Fault.{Fault}
use Rattle.cms_tlv.specs.State.{State, as_list, taken}
use Rattle.cms_example.proofs.sketches.content_info_in_der.Goals as goal

-- what was taken was consumed, after a call that leaves no octet ahead
only_done : {V : Type 0} (r : Result V Fault) (s : State) (v : V) → r ≡ Ok v → OnOk r (s.ahead ≡ None) → taken s ≡ s.done
only_done r s v e clear = ap (λ o. s.done ++ as_list o) (IfOk-at_ok (λ _. s.ahead ≡ None) e clear) ∙ append-nil s.done

pub put-requires : goal.put-requires
put-requires c =
    rw (c.deref.ensures.value ∙ c.finish-kept.ensures.kept ∙ only_done _ c.read-content_info.new.source _ c.in-Ok.is
    c.read-content_info.ensures.reads.clear) (IfOk-at_ok _ c.in-Ok.is (c.read-content_info.ensures.is_value refl (rw c.top.ensures refl)))
