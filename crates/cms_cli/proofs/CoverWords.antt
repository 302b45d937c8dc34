-- What clap makes of the words of `cover`.
use Rattle.std.proofs.Common.{◌≡◌, ℕ, zero, suc, ◌+◌, ◌-◌, ◌<◌, ◌≤◌, Bool, true, false, ◌&&◌, ◌∷◌, Some, None, codes, refl, sym, ap, subst, arith, option_map, drop, cond, ◌==◌, ◌^◌}
use Rattle.std.specs.Str.Parse.{IsNumeral, digits_value, without_leading_plus}
use Rattle.std.proofs.lemmas.Bool.{ne_eqb}
use Rattle.clap.specs.Words.{Text, subcommand_of, takes}
use Rattle.clap.specs.ValueTests.{accepts}
use Rattle.clap.specs.declared.builder.value_parser.ValueParser.TheVariants.{Unsigned}
use Rattle.clap.proofs.OnLiterals.{clap_on_literals}
use Rattle.clap.proofs.ValueTestLemmas.{Accepts-accepts}
use Rattle.cms_cli.specs.CommandLine.{program_app, IsNumber, cover_words, flag_text}
use Rattle.cms_cli.proofs.Entered.{kept}

-- what is made of the words if the number begins with the octet d
abbrev Reads : ℕ → Type 0
Reads d =
    (p ds : Text) (c : Bool) → option_map kept (subcommand_of program_app (cover_words p (d ∷ ds) c))
    ≡ Some (codes "cover", Some (d ∷ ds), Some (flag_text c), None, None, None)

abbrev Takes : ℕ → Type 0
Takes d = (p ds : Text) (c : Bool) → accepts false (Unsigned 0 18446744073709551615) (d ∷ ds) ≡ true → takes program_app (cover_words p (d ∷ ds) c) ≡ true

three : (b : Bool) → b ≡ true → (((b && true) && true) && true) ≡ true
three true e = refl
three false e = absurd cc

six : (b : Bool) → b ≡ true → ((((((b && true) && true) && true) && true) && true) && true) ≡ true
six true e = refl
six false e = absurd cc

both : (P : Bool → Type 0) → P true → P false → (c : Bool) → P c
both P p q true = p
both P p q false = q

-- clap's words compute once the first digit is known
by_digit : (P : ℕ → Type 0) → P 48 → P 49 → P 50 → P 51 → P 52 → P 53 → P 54 → P 55 → P 56 → P 57 → (d : ℕ) → 48 ≤ d → d ≤ 57 → P d
by_digit P a b c d e f g h i j n l m = subst P (let k : 48 + (n - 48) ≡ n = omega arith in k) (go (n - 48) (omega arith))
  where
    go : (k : ℕ) → k < 10 → P (48 + k)
    go zero l = a
    go (suc zero) l = b
    go (suc (suc zero)) l = c
    go (suc (suc (suc zero))) l = d
    go (suc (suc (suc (suc zero)))) l = e
    go (suc (suc (suc (suc (suc zero))))) l = f
    go (suc (suc (suc (suc (suc (suc zero)))))) l = g
    go (suc (suc (suc (suc (suc (suc (suc zero))))))) l = h
    go (suc (suc (suc (suc (suc (suc (suc (suc zero)))))))) l = i
    go (suc (suc (suc (suc (suc (suc (suc (suc (suc zero))))))))) l = j
    go (suc (suc (suc (suc (suc (suc (suc (suc (suc (suc k)))))))))) l = absurd (omega arith)

pub reads : (d : ℕ) → 48 ≤ d → d ≤ 57 → Reads d
unfolding clap_on_literals
reads =
    by_digit Reads (λ p ds. both _ refl refl) (λ p ds. both _ refl refl) (λ p ds. both _ refl refl) (λ p ds. both _ refl refl)
    (λ p ds. both _ refl refl) (λ p ds. both _ refl refl) (λ p ds. both _ refl refl) (λ p ds. both _ refl refl) (λ p ds. both _ refl refl)
    (λ p ds. both _ refl refl)

pub taken : (d : ℕ) → 48 ≤ d → d ≤ 57 → Takes d
unfolding clap_on_literals
taken =
    by_digit Takes (λ p ds. both _ (six _) (three _)) (λ p ds. both _ (six _) (three _)) (λ p ds. both _ (six _) (three _))
    (λ p ds. both _ (six _) (three _)) (λ p ds. both _ (six _) (three _)) (λ p ds. both _ (six _) (three _))
    (λ p ds. both _ (six _) (three _)) (λ p ds. both _ (six _) (three _)) (λ p ds. both _ (six _) (three _)) (λ p ds. both _ (six _) (three _))

-- a number is taken as it stands
pub accepted : (d : ℕ) (ds : Text) (n : ℕ) → 48 ≤ d → IsNumber (d ∷ ds) n → accepts false (Unsigned 0 18446744073709551615) (d ∷ ds) ≡ true
accepted d ds n l h =
    let plain : (d == 43) ≡ false = ne_eqb d 43 (λ e. omega (arith, e)) in
    let same : without_leading_plus (d ∷ ds) ≡ d ∷ ds = ap (λ b. drop (cond b 1 0) (d ∷ ds)) plain in
    Accepts-accepts false (Unsigned 0 18446744073709551615) (d ∷ ds)
    (subst (λ t. IsNumeral 10 t × (digits_value 10 t < 2 ^ 64) × (0 ≤ digits_value 10 t) × (digits_value 10 t ≤ 18446744073709551615))
    (sym same) (h.0, omega (arith, h.1, h.2), omega arith, omega (arith, h.1, h.2)))
