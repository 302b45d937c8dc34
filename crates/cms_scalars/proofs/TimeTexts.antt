-- Texts of times: their parts, and the tests for them.
use Rattle.std.proofs.Common.{◌≡◌, ◌≢◌, ℕ, ◌+◌, ◌-◌, ◌<◌, ◌≤◌, true, false, ◌&&◌, List, [], ◌∷◌, ◌++◌, length, take, drop, get_or, pos, Result, Ok, Err, refl, sym, ap, subst, ◌∙◌, arith}
use Rattle.std.specs.Prelude.{ℤ, IfOk, IfErr, is_ok}
use Rattle.std.specs.List.{AllByRecursion, list_all}
use Rattle.std.proofs.lemmas.Bool.{and_parts, and_from, le-leb, leb-true, eq-eqb, eqb-true, not-true, not_from_false, false_from_ne_true, true≢false}
use Rattle.std.proofs.lemmas.List.{take_at, drop_at, drop-drop, take_all, take_more, length-append, get_or_push, take-append-drop}
use Rattle.std.proofs.lemmas.Slice.Eq.{bytes_eq-Decides}
use Rattle.cms_tlv.specs.Headers.{AreOctets}
use Rattle.jiff_core.specs.Calendar.{IsCivilDate}
use Rattle.std.proofs.lemmas.Int.{ints}
use Rattle.cms_scalars.specs.Times.{IsDigit, with_stop, time_text, year, month, day, hour, minute, second, HasTimeForm, HasDate, HasTimeOfDay, IsTimeOf, IsGeneralizedTime, TimeFaults, unix_seconds}
use Rattle.cms_scalars.specs.declared.times.TimeFault.{TimeFault}
use Rattle.cms_scalars.specs.declared.times.TimeFault.TheVariants.{Form, NoSuchDate, NoSuchTime, OutOfMemory}
use Rattle.cms_scalars.specs.TimeReaders.{time_in, is_digit, ends_in_zero, IsTimeEnd, IsFraction, has_time_form, is_civil_date, has_date, has_time_of_day, is_generalized_time}

-- The parts of a text.

fraction_at : (f : List ℕ) → take (length (with_stop f ++ 0x5a ∷ []) - 2) (drop 1 (with_stop f ++ 0x5a ∷ [])) ≡ f
fraction_at [] = refl
fraction_at (x ∷ xs) =
    let l = length-append xs (0x5a ∷ []) in
    take_at (x ∷ xs) (0x5a ∷ []) (length (with_stop (x ∷ xs) ++ 0x5a ∷ []) - 2) (omega (arith, l))

module _ {c d f : List ℕ} (h : HasTimeForm c d f) where
  pub digits_at : take 14 c ≡ d
  digits_at = ap (take 14) h.text ∙ take_at d (with_stop f ++ 0x5a ∷ []) 14 h.fourteen

  pub end_at : drop 14 c ≡ with_stop f ++ 0x5a ∷ []
  end_at = ap (drop 14) h.text ∙ drop_at d (with_stop f ++ 0x5a ∷ []) 14 h.fourteen

  length_at : length c ≡ 14 + length (with_stop f ++ 0x5a ∷ [])
  length_at = ap length h.text ∙ (length-append d (with_stop f ++ 0x5a ∷ []) ∙ ap (λ n. n + length (with_stop f ++ 0x5a ∷ [])) h.fourteen)

  pub fraction_of_form : take (length c - 16) (drop 15 c) ≡ f
  fraction_of_form =
      let n : length c - 16 ≡ length (with_stop f ++ 0x5a ∷ []) - 2 = omega (arith, length_at) in
      let e : drop 15 c ≡ drop 1 (with_stop f ++ 0x5a ∷ []) = sym (drop-drop 1 14 c) ∙ ap (drop 1) end_at in
      rw (n, e) (fraction_at f)

  -- the parts that are found are those that the form has
  pub form_found : HasTimeForm c (time_in c).0 (time_in c).1
  form_found = rw (digits_at, fraction_of_form) h

-- a text has one list of digits and one fraction
pub one_form : {c d f e g : List ℕ} → HasTimeForm c d f → HasTimeForm c e g → (d ≡ e) × (f ≡ g)
one_form h k = (sym (digits_at h) ∙ digits_at k, sym (fraction_of_form h) ∙ fraction_of_form k)

pub time_found : {c d f : List ℕ} → IsTimeOf c d f → IsTimeOf c (time_in c).0 (time_in c).1
time_found t = rw (digits_at t.form, fraction_of_form t.form) t

-- Digits.

pub digit_tested : (x : ℕ) → IsDigit x → is_digit x ≡ true
digit_tested x h = and_from _ _ (le-leb 48 x h.0) (le-leb x 57 h.1)

pub digit_known : (x : ℕ) → is_digit x ≡ true → IsDigit x
digit_known x e = let p = and_parts _ _ e in (leb-true 48 x p.0, leb-true x 57 p.1)

pub digits_tested : (xs : List ℕ) → AllByRecursion IsDigit xs → list_all is_digit xs ≡ true
digits_tested [] h = refl
digits_tested (x ∷ xs) h = and_from _ _ (digit_tested x h.0) (digits_tested xs h.1)

pub digits_known : (xs : List ℕ) → list_all is_digit xs ≡ true → AllByRecursion IsDigit xs
digits_known [] e = tt
digits_known (x ∷ xs) e = let p = and_parts (is_digit x) (list_all is_digit xs) e in (digit_known x p.0, digits_known xs p.1)

-- The last octet.

last_zero : (f before : List ℕ) → f ≡ before ++ 0x30 ∷ [] → get_or f (length f - 1) 0 ≡ 0x30
last_zero f before e =
    let n : length before ≡ length f - 1 = omega (arith, ap length e, length-append before (0x30 ∷ [])) in
    subst (λ (t : List ℕ). get_or t (length f - 1) 0 ≡ 0x30) (sym e) (get_or_push before 0x30 0 (length f - 1) n)

split_last : (f : List ℕ) → get_or f (length f - 1) 0 ≡ 0x30 → f ≡ take (length f - 1) f ++ 0x30 ∷ []
split_last [] e = absurd (omega (arith, e))
split_last (x ∷ xs) e =
    let l : length (x ∷ xs) - 1 < length (x ∷ xs) = omega arith in
    let m = take_more (x ∷ xs) (length (x ∷ xs) - 1) 0 l in
    let a : take (length (x ∷ xs) - 1 + 1) (x ∷ xs) ≡ x ∷ xs = take_all _ (x ∷ xs) (omega arith) in
    sym a ∙ m ∙ ap (λ t. take (length (x ∷ xs) - 1) (x ∷ xs) ++ t ∷ []) e

pub no_zero_tested : (f : List ℕ) → ((before : List ℕ) → f ≢ before ++ 0x30 ∷ []) → ends_in_zero f ≡ false
no_zero_tested f n = false_from_ne_true (ends_in_zero f) (λ e. n (take (length f - 1) f) (split_last f (eqb-true _ 48 e)))

pub no_zero_known : (f : List ℕ) → ends_in_zero f ≡ false → (before : List ℕ) → f ≢ before ++ 0x30 ∷ []
no_zero_known f e before k = true≢false (sym (eq-eqb _ 48 (last_zero f before k)) ∙ e)

-- The tests.

pub form_tested : {c d f : List ℕ} → HasTimeForm c d f → has_time_form c d f ≡ true
form_tested {c} {d} {f} h =
    and_from _ _ (and_from _ _ (and_from _ _ (and_from _ _
    ((bytes_eq-Decides c (time_text d f)).1 h.text) (eq-eqb (length d) 14 h.fourteen))
    (digits_tested d h.are_digits)) (digits_tested f h.fraction_is_digits))
    (not_from_false _ (no_zero_tested f h.no_trailing_zero))

pub form_known : (c d f : List ℕ) → has_time_form c d f ≡ true → HasTimeForm c d f
form_known c d f e =
    let p = and_parts _ _ e in
    let q = and_parts _ _ p.0 in
    let r = and_parts _ _ q.0 in
    let s = and_parts _ _ r.0 in
    record {
      text = (bytes_eq-Decides c (time_text d f)).0 s.0;
      fourteen = eqb-true (length d) 14 s.1;
      are_digits = digits_known d r.1;
      fraction_is_digits = digits_known f q.1;
      no_trailing_zero = no_zero_known f (not-true _ p.1);
    }

-- Dates and times of day.

pub civil_tested : (y m d : ℕ) → IsCivilDate (pos y) m d → is_civil_date y m d ≡ true
civil_tested y m d (in_years, in_year, in_month) =
    let h : y ≤ 9999 = omega (arith, ints) in
    and_from _ _ (and_from _ _ (and_from _ _ (and_from _ _ (le-leb y 9999 h) (le-leb 1 m in_year.0)) (le-leb m 12 in_year.1))
    (le-leb 1 d in_month.0)) (le-leb d _ in_month.1)

pub civil_known : (y m d : ℕ) → is_civil_date y m d ≡ true → IsCivilDate (pos y) m d
civil_known y m d e =
    let p = and_parts _ _ e in
    let q = and_parts _ _ p.0 in
    let r = and_parts _ _ q.0 in
    let s = and_parts _ _ r.0 in
    let h = leb-true y 9999 s.0 in
    ((omega (arith, ints), omega (arith, ints)), (leb-true 1 m s.1, leb-true m 12 r.1), (leb-true 1 d q.1, leb-true d _ p.1))

pub time_of_day_tested : (ds : List ℕ) → HasTimeOfDay ds → has_time_of_day ds ≡ true
time_of_day_tested ds h = and_from _ _ (and_from _ _ (le-leb (hour ds) 23 h.0) (le-leb (minute ds) 59 h.1)) (le-leb (second ds) 59 h.2)

pub time_of_day_known : (ds : List ℕ) → has_time_of_day ds ≡ true → HasTimeOfDay ds
time_of_day_known ds e = let p = and_parts _ _ e in let q = and_parts _ _ p.0 in
    (leb-true (hour ds) 23 q.0, leb-true (minute ds) 59 q.1, leb-true (second ds) 59 p.1)

-- The kind of contents.

found_tested : {c d f : List ℕ} → IsTimeOf c d f → (has_time_form c d f && has_date d && has_time_of_day d) ≡ true
found_tested {d = d} t = and_from _ _ (and_from _ _ (form_tested t.form) (civil_tested (year d) (month d) (day d) t.date)) (time_of_day_tested d t.time_of_day)

pub time_tested : (c : List ℕ) → IsGeneralizedTime c → is_generalized_time c ≡ true
time_tested c (d, f, t) = found_tested (time_found t)

pub time_known : (c : List ℕ) → is_generalized_time c ≡ true → IsTimeOf c (time_in c).0 (time_in c).1
time_known c e =
    let d = (time_in c).0 in
    let p = and_parts _ _ e in
    let q = and_parts _ _ p.0 in
    record { form = form_known c d (time_in c).1 q.0; date = civil_known (year d) (month d) (day d) q.1; time_of_day = time_of_day_known d p.1 }

digits_are_octets : (xs : List ℕ) → AllByRecursion IsDigit xs → AreOctets xs
digits_are_octets [] h = tt
digits_are_octets (x ∷ xs) h = (let k = h.0.1 in omega arith, digits_are_octets xs h.1)

append_octets : (xs ys : List ℕ) → AreOctets xs → AreOctets ys → AreOctets (xs ++ ys)
append_octets [] ys h k = k
append_octets (x ∷ xs) ys h k = (h.0, append_octets xs ys h.1 k)

stop_octets : (f : List ℕ) → AreOctets f → AreOctets (with_stop f)
stop_octets [] h = tt
stop_octets (x ∷ xs) h = (omega arith, h)

pub time_octets : (c : List ℕ) → IsGeneralizedTime c → AreOctets c
time_octets c (d, f, t) =
    let h = t.form in
    subst AreOctets (sym h.text) (append_octets d _ (digits_are_octets d h.are_digits)
    (append_octets (with_stop f) _ (stop_octets f (digits_are_octets f h.fraction_is_digits)) (omega arith, tt)))

-- The ways in which contents are no time.

pub wrong_date : {c d f : List ℕ} → HasTimeForm c d f → ¬ HasDate d → ¬ IsGeneralizedTime c
wrong_date h n (e, g, t) = n (subst HasDate (one_form t.form h).0 t.date)

pub wrong_time_of_day : {c d f : List ℕ} → HasTimeForm c d f → ¬ HasTimeOfDay d → ¬ IsGeneralizedTime c
wrong_time_of_day h n (e, g, t) = n (subst HasTimeOfDay (one_form t.form h).0 t.time_of_day)

pub no_time : (c : List ℕ) (e : TimeFault) → TimeFaults c e → e ≢ OutOfMemory → is_generalized_time c ≡ false
no_time c e h n = false_from_ne_true (is_generalized_time c) (λ t. wrong e h n (_, _, time_known c t))
  where
    wrong : (e : TimeFault) → TimeFaults c e → e ≢ OutOfMemory → ¬ IsGeneralizedTime c
    wrong Form h n (d, f, t) = h d f t.form
    wrong NoSuchDate (d, f, h, k) n t = wrong_date h k t
    wrong NoSuchTime (d, f, h, i, k) n t = wrong_time_of_day h k t
    wrong OutOfMemory h n t = n refl

-- What follows the digits.

pub form_with_end : (c f : List ℕ) → length (take 14 c) ≡ 14 → AllByRecursion IsDigit (take 14 c) → IsTimeEnd (drop 14 c) f → HasTimeForm c (take 14 c) f
form_with_end c f n h e = record {
  text = sym (take-append-drop 14 c) ∙ ap (λ t. take 14 c ++ t) e.text;
  fourteen = n;
  are_digits = h;
  fraction_is_digits = e.are_digits;
  no_trailing_zero = e.no_trailing_zero;
}

pub end_of_form : {c d f : List ℕ} → HasTimeForm c d f → IsTimeEnd (drop 14 c) f
end_of_form h = record { text = end_at h; are_digits = h.fraction_is_digits; no_trailing_zero = h.no_trailing_zero }

pub form_of_parts : (c d r : List ℕ) → d ≡ take 14 c → r ≡ drop 14 c → length d ≡ 14 → list_all is_digit d ≡ true
    → (f : List ℕ) × IsTimeEnd r f → HasTimeForm c (time_in c).0 (time_in c).1
form_of_parts c d r p q n e (f, t) =
    form_found (form_with_end c f (ap length (sym p) ∙ n) (subst (AllByRecursion IsDigit) p (digits_known d e)) (subst (λ (s : List ℕ). IsTimeEnd s f) q t))

pub parts_of_form : {c d f : List ℕ} → HasTimeForm c d f → (x r : List ℕ) → x ≡ take 14 c → r ≡ drop 14 c
    → (list_all is_digit x ≡ true) × ((g : List ℕ) × IsTimeEnd r g)
parts_of_form {f = f} h x r p q =
    (digits_tested x (subst (AllByRecursion IsDigit) (sym (p ∙ digits_at h)) h.are_digits), (f, subst (λ (s : List ℕ). IsTimeEnd s f) (sym q) (end_of_form h)))

pub fraction_known : (f : List ℕ) → 1 ≤ length f → get_or f (length f - 1) 0 ≢ 0x30 → list_all is_digit f ≡ true → IsFraction f
fraction_known f some n e = record {
  some = λ z. (let l = ap length z in omega (arith, l, some));
  are_digits = digits_known f e;
  no_trailing_zero = no_zero_known f (false_from_ne_true (ends_in_zero f) (λ t. n (eqb-true _ 48 t)));
}

-- What is decided of contents.

pub decided :
    (c : List ℕ) (r : Result ℤ TimeFault) → IfOk r (λ n. IsTimeOf c (time_in c).0 (time_in c).1 × (n ≡ unix_seconds (time_in c).0))
    → IfErr r (λ e. TimeFaults c e × (e ≢ OutOfMemory)) → is_ok r ≡ is_generalized_time c
decided c (Ok n) h k = sym (time_tested c (_, _, h.0))
decided c (Err e) h k = sym (no_time c e k.0 k.1)
