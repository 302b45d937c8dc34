-- What is written for a time.
use Rattle.std.proofs.Common.{◌≡◌, ℕ, ◌+◌, ◌^◌, ◌<◌, List, ◌++◌, length, min, refl, sym, ap, subst, ◌∙◌, arith}
use Rattle.std.specs.Prelude.{bytes_eq}
use Rattle.std.proofs.lemmas.Slice.Eq.{bytes_eq-Decides}
use Rattle.cms_tlv.specs.Headers.{IsShortLength}
use Rattle.cms_tlv.specs.Spelling.{der}
use Rattle.cms_tlv.specs.Writing.{AppendsHeader}
use Rattle.cms_fields.specs.Received.{as_received}
use Rattle.cms_fields.specs.Writing.{Writes, HasLength, IsWritten}
use Rattle.cms_fields.proofs.WriteLaws.{element_writes, element_length}
use Rattle.cms_scalars.specs.Times.{Time, time_text, IsTimeOf, IsGeneralizedTime, generalized_time}
use Rattle.cms_scalars.specs.TimeReaders.{time_in}

module _ {P : List ℕ → Type 0} (o : List ℕ) (p : P o) where
  itself : IsWritten (as_received P) bytes_eq o o
  itself = record { value = o; spells = (refl, p); same = (bytes_eq-Decides o o).1 refl }

  received_writes : (a b : List ℕ) → b ≡ a ++ o → Writes (as_received P) bytes_eq o a b
  received_writes a b e = record { octets = o; appended = e; written = itself }

  received_length : (n : ℕ) → n ≡ length o → n < 2 ^ 64 → HasLength (as_received P) bytes_eq o n
  received_length n e small = record {
    each = λ b w. (let l = ap length (w.spells.0 ∙ sym ((bytes_eq-Decides o w.value).0 w.same)) in omega (arith, l));
    one = λ less. (o, itself);
  }

module _ (o : List ℕ) (v : Time) (n : ℕ) (shown : v ≡ time_in o) (t : IsTimeOf o (time_in o).0 (time_in o).1) (e : n ≡ length o) (small : n < 2 ^ 64) where
  text_is : time_text v.0 v.1 ≡ o
  text_is = ap (λ (u : Time). time_text u.0 u.1) shown ∙ sym t.form.text

  is_one : IsGeneralizedTime o
  is_one = ((time_in o).0, (time_in o).1, t)

  pub time_length : (h : ℕ) → ((l : List ℕ) → IsShortLength l n → h ≡ 1 + length l) → (n < 256 ^ 8 → (l : List ℕ) × IsShortLength l n)
      → HasLength (generalized_time der) bytes_eq (time_text v.0 v.1) (min (h + n) 0xFFFF_FFFF_FFFF_FFFF)
  time_length h f some =
      subst (λ (x : List ℕ). HasLength (generalized_time der) bytes_eq x (min (h + n) 0xFFFF_FFFF_FFFF_FFFF)) (sym text_is)
      (element_length (as_received IsGeneralizedTime) bytes_eq o 0x18 n h (received_length o is_one n e small) f some)

  pub time_writes : (a b c : List ℕ) → AppendsHeader 0x18 n a b → c ≡ b ++ o → length c < 2 ^ 64
      → Writes (generalized_time der) bytes_eq (time_text v.0 v.1) a c
  time_writes a b c h k room =
      subst (λ (x : List ℕ). Writes (generalized_time der) bytes_eq x a c) (sym text_is)
      (element_writes 0x18 n h (received_writes o is_one b c k) (received_length o is_one n e small) room)
