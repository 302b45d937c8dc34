-- GeneralizedTime by DER (X.680, 46; X.690, 11.7).
use Rattle.std.specs.Prelude.{◌≡◌, ◌≢◌, ℕ, ◌+◌, ◌-◌, ◌*◌, ◌^◌, ◌≤◌, ℤ, pos, ◌+ℤ◌, ◌*ℤ◌, List, []}
use Rattle.std.specs.Prelude.{◌∷◌, ◌++◌, length, take, drop}
use Rattle.std.specs.List.{AllByRecursion}
use Rattle.jiff_core.specs.Calendar.{IsCivilDate, days_from_civil}
use Rattle.cms_tlv.specs.Spelling.{Rules, Spelling, element}
use Rattle.cms_fields.specs.Received.{as_received}
use Rattle.cms_scalars.specs.declared.times.TimeFault.{TimeFault}
use Rattle.cms_scalars.specs.declared.times.TimeFault.TheVariants.{Form, NoSuchDate, NoSuchTime}
use Rattle.cms_scalars.specs.declared.times.TimeFault.TheVariants.{OutOfMemory}

--- `IsDigit x`: `x` is the character of a decimal digit
abbrev pub IsDigit : ℕ → Type 0
IsDigit x = (0x30 ≤ x) × (x ≤ 0x39)

--- `decimal_value ds`: the number that the digits `ds` are in decimal
abbrev pub decimal_value : List ℕ → ℕ
decimal_value [] = 0
decimal_value (d ∷ ds) = (d - 0x30) * 10 ^ length ds + decimal_value ds

-- the digits of a fraction after a full stop, and nothing for none
abbrev pub with_stop : List ℕ → List ℕ
with_stop [] = []
with_stop (d ∷ ds) = 0x2e ∷ d ∷ ds

--- `time_text d f`: the digits `d`, a full stop and the fraction `f` if any, and Z [X.690, 11.7]
abbrev pub time_text : List ℕ → List ℕ → List ℕ
time_text digits fraction = digits ++ (with_stop fraction ++ 0x5a ∷ [])

--- `HasTimeForm c d f`: `c` is `time_text d f`; `d` is YYYYMMDDhhmmss; no 0 ends `f` [X.690, 11.7]
pub record HasTimeForm (c digits fraction : List ℕ) : Type 0 where
  pub text : c ≡ time_text digits fraction
  pub fourteen : length digits ≡ 14
  pub are_digits : AllByRecursion IsDigit digits
  pub fraction_is_digits : AllByRecursion IsDigit fraction
  pub no_trailing_zero : (before : List ℕ) → fraction ≢ before ++ 0x30 ∷ []

--- `two_from i d`: the number of two digits of `d`, which come after its first `i`
abbrev pub two_from : ℕ → List ℕ → ℕ
two_from i digits = decimal_value (take 2 (drop i digits))

--- `year d`: the number of the digits 1 to 4 of `d`, counted from 1 [X.680, 46]
abbrev pub year : List ℕ → ℕ
year digits = decimal_value (take 4 digits)

--- `month d`: that of the digits 5 and 6 [X.680, 46]
abbrev pub month : List ℕ → ℕ
month digits = two_from 4 digits

--- `day d`: that of the digits 7 and 8 [X.680, 46]
abbrev pub day : List ℕ → ℕ
day digits = two_from 6 digits

--- `hour d`: that of the digits 9 and 10 [X.680, 46]
abbrev pub hour : List ℕ → ℕ
hour digits = two_from 8 digits

--- `minute d`: that of the digits 11 and 12 [X.680, 46]
abbrev pub minute : List ℕ → ℕ
minute digits = two_from 10 digits

--- `second d`: that of the digits 13 and 14 [X.680, 46]
abbrev pub second : List ℕ → ℕ
second digits = two_from 12 digits

--- `HasDate d`: the Gregorian calendar has the date, from the year 0000 on [X.680, 46]
abbrev pub HasDate : List ℕ → Type 0
HasDate digits = IsCivilDate (pos (year digits)) (month digits) (day digits)

--- `HasTimeOfDay d`: hours to 23, minutes and seconds to 59 [X.680, 46; no leap second: ours]
abbrev pub HasTimeOfDay : List ℕ → Type 0
HasTimeOfDay digits = (hour digits ≤ 23) × (minute digits ≤ 59) × (second digits ≤ 59)

--- `IsTimeOf c d f`: `c` is a GeneralizedTime by DER: digits `d`, fraction `f` [X.690, 8.25, 11.7]
pub record IsTimeOf (c digits fraction : List ℕ) : Type 0 where
  pub form : HasTimeForm c digits fraction
  pub date : HasDate digits
  pub time_of_day : HasTimeOfDay digits

--- `IsGeneralizedTime c`: `c` is the contents of any GeneralizedTime by DER [X.690, 8.25, 11.7]
abbrev pub IsGeneralizedTime : List ℕ → Type 0
IsGeneralizedTime c = (digits fraction : List ℕ) × IsTimeOf c digits fraction

--- `generalized_time m`: an element 18 with such contents [X.690, 8.25; DER under BER too: ours]
abbrev pub generalized_time : Rules → Spelling (List ℕ)
generalized_time m = element m 0x18 (as_received IsGeneralizedTime)

--- `unix_seconds d`: the seconds from 1970-01-01 00:00:00 to the digits; `jiff_core` counts the
---   days (`days_from_civil`)
abbrev pub unix_seconds : List ℕ → ℤ
unix_seconds digits =
    pos 86_400 *ℤ days_from_civil (pos (year digits)) (month digits) (day digits)
    +ℤ pos (3_600 * hour digits + 60 * minute digits + second digits)

--- `TimeFaults c e`: `e` is why `c` is refused: no such form, or else no such date, or else no such
---   time of day; [ours]
--- | `OutOfMemory` only if `c` is the contents of a GeneralizedTime
abbrev pub TimeFaults : List ℕ → TimeFault → Type 0
TimeFaults c Form = (digits fraction : List ℕ) → ¬ HasTimeForm c digits fraction
TimeFaults c NoSuchDate =
    (digits fraction : List ℕ) × HasTimeForm c digits fraction × ¬ HasDate digits
TimeFaults c NoSuchTime =
    (digits fraction : List ℕ) × HasTimeForm c digits fraction × HasDate digits
    × ¬ HasTimeOfDay digits
TimeFaults c OutOfMemory = IsGeneralizedTime c

--- `Time`, `time_digits t`, `time_fraction t`: what a `GenTime` stands for: its digits and its
---   fraction
abbrev pub Time : Type 0
Time = List ℕ × List ℕ

abbrev pub time_digits : Time → List ℕ
time_digits t = t.0

abbrev pub time_fraction : Time → List ℕ
time_fraction t = t.1
