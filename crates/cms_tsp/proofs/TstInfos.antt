-- What is kept of a TSTInfo.
use Rattle.std.proofs.Common.{◌≡◌, ◌≢◌, ℕ, List, Result, Err, refl, subst}
use Rattle.std.specs.Prelude.{IsErrAnd}
use Rattle.cms_scalars.specs.Times.{HasTimeForm, HasDate, HasTimeOfDay, IsGeneralizedTime, TimeFaults}
use Rattle.cms_scalars.specs.declared.times.TimeFault.{TimeFault}
use Rattle.cms_scalars.specs.declared.times.TimeFault.TheVariants.{Form, NoSuchDate, NoSuchTime, OutOfMemory}
use Rattle.cms_tsp.specs.TstInfo.{TstInfo, tst_info, gen_time}

-- its time is one
pub time_of : (b : List ℕ) (t : TstInfo) → tst_info b t → IsGeneralizedTime (gen_time t)
time_of b t h =
    let g = h.2.4.4.4.4.3 in
    subst IsGeneralizedTime g.2.0 g.2.1

-- octets that are a time have no fault
pub no_fault : ((c d e f g : List ℕ) → HasTimeForm c d f → HasTimeForm c e g → (d ≡ e) × (f ≡ g)) → (c : List ℕ) (fault : TimeFault)
    → IsGeneralizedTime c → TimeFaults c fault → fault ≢ OutOfMemory → ⊥
no_fault one c Form (d, f, is) h n = h d f is.form
no_fault one c NoSuchDate (d, f, is) (e, g, form, none) n = none (subst HasDate (one c d e f g is.form form).0 is.date)
no_fault one c NoSuchTime (d, f, is) (e, g, form, date, none) n = none (subst HasTimeOfDay (one c d e f g is.form form).0 is.time_of_day)
no_fault one c OutOfMemory is h n = n refl

-- what is said of an error is said of the one that it is
pub at_err : {A E : Type 0} (Q : E → Type 0) (r : Result A E) (e : E) → IsErrAnd r Q → r ≡ Err e → Q e
at_err Q r e h is = subst (λ s. IsErrAnd s Q) is h
