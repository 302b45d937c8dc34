use Rattle.std.proofs.Common.{◌≡◌, ℕ, List, Result, Ok, Err, OnOk}
use Rattle.std.specs.Prelude.{if◌then◌else◌}
use Rattle.std.specs.Result.{is_ok}
use Rattle.cms_scalars.proofs.Truth.{true_by_der}
use Rattle.cms_scalars.proofs.booleans.put_true.Goals as goal

where_ok : {T E : Type 0} (r : Result T E) (new more old : List ℕ) → new ≡ (if is_ok r then more else old) → OnOk r (new ≡ more)
where_ok (Ok x) new more old e = e
where_ok (Err x) new more old e = tt

pub returns-clause-ok : goal.returns-clause-ok
returns-clause-ok c = where_ok c.extend_from_slice.result _ _ _ c.extend_from_slice.ensures.items

pub returns-clause-spells : goal.returns-clause-spells
returns-clause-spells c = true_by_der
