-- What a reader finds in the contents of a GeneralizedTime.
use Rattle.std.specs.Prelude.{◌≡◌, ◌≢◌, ℕ, ◌-◌, List, [], ◌∷◌, ◌++◌, length, take, drop}
use Rattle.std.specs.Prelude.{slice_index, Bool, not, nat_le, ◌==◌, ◌&&◌, pos, bytes_eq}
use Rattle.std.specs.List.{AllByRecursion, list_all}
use Rattle.jiff_core.specs.Calendar.{days_in_month}
use Rattle.cms_scalars.specs.Times.{Time, IsDigit, with_stop, time_text, year, month, day, hour}
use Rattle.cms_scalars.specs.Times.{minute, second}

--- `time_in c`: the first fourteen octets, and those from the sixteenth to the last but one
abbrev pub time_in : List ℕ → Time
time_in c = (take 14 c, take (length c - 16) (drop 15 c))

abbrev pub is_digit : ℕ → Bool
is_digit x = nat_le 0x30 x && nat_le x 0x39

-- the last octet is the digit 0
abbrev pub ends_in_zero : List ℕ → Bool
ends_in_zero f = slice_index f (length f - 1) == 0x30

-- the digits of a fraction that is there
pub record IsFraction (f : List ℕ) : Type 0 where
  pub some : f ≢ []
  pub are_digits : AllByRecursion IsDigit f
  pub no_trailing_zero : (before : List ℕ) → f ≢ before ++ 0x30 ∷ []

--- `AreTimeDigits d`, `IsTimeEnd c f`, `IsFraction f`: fourteen digits; `c` is the fraction `f` and
---   Z; `f` is a fraction that is there
pub record AreTimeDigits (ds : List ℕ) : Type 0 where
  pub fourteen : length ds ≡ 14
  pub are_digits : AllByRecursion IsDigit ds

-- what follows the digits of a time with this fraction
pub record IsTimeEnd (c fraction : List ℕ) : Type 0 where
  pub text : c ≡ with_stop fraction ++ 0x5a ∷ []
  pub are_digits : AllByRecursion IsDigit fraction
  pub no_trailing_zero : (before : List ℕ) → fraction ≢ before ++ 0x30 ∷ []

abbrev pub has_time_form : List ℕ → List ℕ → List ℕ → Bool
has_time_form c digits fraction =
    bytes_eq c (time_text digits fraction) && length digits == 14 && list_all is_digit digits
    && list_all is_digit fraction && not (ends_in_zero fraction)

abbrev pub is_civil_date : ℕ → ℕ → ℕ → Bool
is_civil_date y m d =
    nat_le y 9999 && nat_le 1 m && nat_le m 12 && nat_le 1 d && nat_le d (days_in_month (pos y) m)

abbrev pub has_date : List ℕ → Bool
has_date ds = is_civil_date (year ds) (month ds) (day ds)

abbrev pub has_time_of_day : List ℕ → Bool
has_time_of_day ds = nat_le (hour ds) 23 && nat_le (minute ds) 59 && nat_le (second ds) 59

--- `is_generalized_time c`: the test for such contents: `has_time_form`, `has_date`,
---   `has_time_of_day` of `time_in c`
--- | they rest on `is_digit`, `ends_in_zero` and `is_civil_date`
abbrev pub is_generalized_time : List ℕ → Bool
is_generalized_time c =
    has_time_form c (time_in c).0 (time_in c).1 && has_date (time_in c).0
    && has_time_of_day (time_in c).0
