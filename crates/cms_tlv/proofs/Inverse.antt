-- What a result says of the steps before it.
use Rattle.std.proofs.Common.{◌≡◌, ◌≢◌, ◌⊎◌, inl, inr, ℕ, ◌<◌, ◌≤◌, Bool, true, false, cond, eqb, ltb, leb, ◌&&◌, Result, Ok, Err, refl, ap, arith}
use Rattle.std.proofs.lemmas.Bool.Decides.{nat_tests}
use Rattle.cms_tlv.specs.Reading.{Cursor, Stop, Reader, ◌>>=◌, then_read}

abbrev pub okay : {A : Type 0} → A × Cursor → Result (A × Cursor) Stop
okay p = Ok p

abbrev pub bad : {A : Type 0} → Stop → Result (A × Cursor) Stop
bad e = Err e

pub ok_same : {A : Type 0} {p q : A × Cursor} → okay p ≡ okay q → p ≡ q
ok_same e = cc

pub ok_value : {A : Type 0} {x y : A} {c d : Cursor} → okay (x, c) ≡ okay (y, d) → x ≡ y
ok_value e = ap (λ q. q.0) (ok_same e)

pub ok_place : {A : Type 0} {x y : A} {c d : Cursor} → okay (x, c) ≡ okay (y, d) → c ≡ d
ok_place e = ap (λ q. q.1) (ok_same e)

then_ok : {A B : Type 0} (r : Result (A × Cursor) Stop) (h : A → Reader B) (y : B) (d : Cursor) → then_read r h ≡ Ok (y, d)
    → (x : A) × (m : Cursor) × (r ≡ Ok (x, m)) × (h x m ≡ Ok (y, d))
then_ok (Ok p) h y d e = (p.0, p.1, refl, e)
then_ok (Err f) h y d e = absurd cc

pub bind_ok : {A B : Type 0} (f : Reader A) (h : A → Reader B) (c : Cursor) {y : B} {d : Cursor} → (f >>= h) c ≡ Ok (y, d)
    → (x : A) × (m : Cursor) × (f c ≡ Ok (x, m)) × (h x m ≡ Ok (y, d))
unfolding ◌>>=◌
bind_ok f h c {y = y} {d = d} e = then_ok (f c) h y d e

then_err : {A B : Type 0} (r : Result (A × Cursor) Stop) (h : A → Reader B) (e : Stop) → then_read r h ≡ Err e
    → (r ≡ Err e) ⊎ ((x : A) × (m : Cursor) × (r ≡ Ok (x, m)) × (h x m ≡ Err e))
then_err (Ok p) h e k = inr (p.0, p.1, refl, k)
then_err (Err f) h e k = inl cc

-- the first fails, or what follows
pub bind_err : {A B : Type 0} (f : Reader A) (h : A → Reader B) (c : Cursor) {e : Stop} → (f >>= h) c ≡ Err e
    → (f c ≡ Err e) ⊎ ((x : A) × (m : Cursor) × (f c ≡ Ok (x, m)) × (h x m ≡ Err e))
unfolding ◌>>=◌
bind_err f h c {e = e} k = then_err (f c) h e k

-- the first is read, and then what follows
pub bound_again : {A B : Type 0} (f : Reader A) (h : A → Reader B) (c : Cursor) (x : A) (d : Cursor) → f c ≡ Ok (x, d) → (f >>= h) c ≡ h x d
unfolding ◌>>=◌
bound_again f h c x d e = ap (λ r. then_read r h) e

-- which way a test went
pub chosen : {A : Type 0} (b : Bool) (x y z : A) → cond b x y ≡ z → ((b ≡ true) × (x ≡ z)) ⊎ ((b ≡ false) × (y ≡ z))
chosen true x y z e = inl (refl, e)
chosen false x y z e = inr (refl, e)

-- a refusal that was not answered
pub passed : {A : Type 0} (b : Bool) (e : Stop) (r : Result (A × Cursor) Stop) (x : A) (d : Cursor) → cond b (bad e) r ≡ Ok (x, d)
    → (b ≡ false) × (r ≡ Ok (x, d))
passed true e r x d h = absurd cc
passed false e r x d h = (refl, h)

-- another reason is not the one
pub other : {A : Type 0} (b : Bool) (e f : Stop) (r : Result (A × Cursor) Stop) → e ≢ f → cond b (bad e) r ≡ Err f → (b ≡ false) × (r ≡ Err f)
other true e f r n h = absurd (n cc)
other false e f r n h = (refl, h)

pub both : {A : Type 0} {r : Result (A × Cursor) Stop} {x : A × Cursor} {e : Stop} → r ≡ Ok x → r ≡ Err e → ⊥
both p q = cc

pub eqb_no : (a b : ℕ) → a ≢ b → eqb a b ≡ false
eqb_no a b h = grind (arith, nat_tests)

pub eqb_yes : (a b : ℕ) → a ≡ b → eqb a b ≡ true
eqb_yes a b h = grind (arith, nat_tests)

pub ltb_no : (a b : ℕ) → b ≤ a → ltb a b ≡ false
ltb_no a b h = grind (arith, nat_tests)

pub ltb_yes : (a b : ℕ) → a < b → ltb a b ≡ true
ltb_yes a b h = grind (arith, nat_tests)

pub leb_no : (a b : ℕ) → b < a → leb a b ≡ false
leb_no a b h = grind (arith, nat_tests)

pub leb_yes : (a b : ℕ) → a ≤ b → leb a b ≡ true
leb_yes a b h = grind (arith, nat_tests)

pub differ : {b : Bool} → b ≡ false → b ≡ true → ⊥
differ p q = cc

pub not_eq : (a b : ℕ) → eqb a b ≡ false → a ≢ b
not_eq a b h = λ e. absurd (differ h (eqb_yes a b e))

-- which of two readers read
pub branch : {A : Type 0} (b : Bool) (f g : Reader A) (c : Cursor) (z : Result (A × Cursor) Stop) → (cond b f g) c ≡ z
    → ((b ≡ true) × (f c ≡ z)) ⊎ ((b ≡ false) × (g c ≡ z))
branch true f g c z e = inl (refl, e)
branch false f g c z e = inr (refl, e)

pub and_no : {p q : Bool} → (p && q) ≡ false → p ≡ true → q ≡ false
and_no {p = true} e h = e
and_no {p = false} e h = absurd cc

pub and_first : (p q : Bool) → (p && q) ≡ true → p ≡ true
and_first true q e = refl
and_first false q e = absurd cc

pub and_second : (p q : Bool) → (p && q) ≡ true → q ≡ true
and_second true q e = e
and_second false q e = absurd cc

pub and_both : {p q : Bool} → p ≡ true → q ≡ true → (p && q) ≡ true
and_both {p = true} h e = e
and_both {p = false} h e = absurd cc

pub and_false_first : (p q : Bool) → p ≡ false → (p && q) ≡ false
and_false_first true q e = absurd cc
and_false_first false q e = refl

pub and_false_second : (p q : Bool) → q ≡ false → (p && q) ≡ false
and_false_second true q e = e
and_false_second false q e = refl
