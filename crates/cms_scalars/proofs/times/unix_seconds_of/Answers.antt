use Rattle.std.proofs.Common.{◌≡◌, ℕ, ◌<◌, subst, ap, ◌∙◌, arith, pos, w32, w64}
use Rattle.std.specs.Prelude.{ℤ, ◌+ℤ◌, ◌*ℤ◌}
use mir.Val.{to_z, of_z}
use Rattle.std.proofs.lemmas.Int.{ints}
use Rattle.jiff_core.specs.Calendar.{IsEpochDay}
use Rattle.cms_scalars.specs.Times.{HasDate, HasTimeOfDay, unix_seconds}
use Rattle.cms_scalars.proofs.times.unix_seconds_of.Goals as goal

seconds_of : (day x y : ℤ) (s : ℕ) → IsEpochDay day → x ≡ to_z w32 (of_z w32 day) → y ≡ pos s → s < 86_400
    → to_z w64 (of_z w64 (to_z w64 (of_z w64 (to_z w64 (of_z w64 x) *ℤ pos 86_400)) +ℤ to_z w64 (of_z w64 y))) ≡ pos 86_400 *ℤ day +ℤ pos s
seconds_of day x y s d e f l = omega (arith, ints)

pub returns-clause-ok : goal.returns-clause-ok
returns-clause-ok c =
    let h = c.in-Some.ensures.some in
    let d = c.in-Some-epoch_day_of.ensures.some in
    let s = c.in-Some-second_of_day.ensures.some in
    let told : pos 86_400 *ℤ c.in-Some-epoch_day_of.day +ℤ pos c.in-Some-second_of_day.second ≡ unix_seconds c.in-Some.digits.now = cc (d.1, s.1) in (
      record { form = h.1; date = subst HasDate h.0 d.0; time_of_day = subst HasTimeOfDay h.0 s.0 },
      seconds_of _ _ _ _ d.2 c.from.ensures c.from-2.ensures s.2 ∙ told ∙ ap unix_seconds h.0,
    )
