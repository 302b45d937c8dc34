-- The text of an OBJECT IDENTIFIER, octet after octet.
use Rattle.std.proofs.Common.{◌≡◌, ◌≢◌, inl, inr, ◌⊎◌, ℕ, zero, suc, ◌+◌, ◌-◌, ◌*◌, ◌/◌, ◌%◌, ◌^◌, ◌<◌, ◌≤◌, min, nat_lt, nat_le, false, if◌then◌else◌, List, [], ◌∷◌, ◌++◌, length, drop, get_or, map, Option, None, Some, ◌↔◌, refl, sym, ap, subst, ◌∙◌, append_assoc, arith}
use Rattle.std.specs.List.{AllByRecursion, AllZip, join_with_byte}
use Rattle.std.specs.Fmt.{decimal}
use Rattle.std.proofs.Math.Nat.{pow-suc, mul-le-mul_left}
use Rattle.std.proofs.lemmas.Bool.{cases_lt}
use Rattle.std.proofs.lemmas.List.{append-nil, drop_all}
use Rattle.cms_tlv.specs.Headers.{IsBase128, last, more}
use Rattle.cms_tlv.specs.Spelling.{join}
use Rattle.cms_tlv.proofs.Inverse.{differ, leb_no, leb_yes, ltb_no, ltb_yes}
use Rattle.cms_scalars.specs.Scalars.{IsSubidentifier, IsObjectIdentifier}
use Rattle.cms_scalars.specs.Readers.{is_object_identifier}
use Rattle.cms_scalars.specs.Arcs.{subidentifier, PacksFirst, HaveArcs, dotted, IsDotted}
use Rattle.cms_scalars.proofs.ObjectIdentifiers.{object_identifier_tested}

-- the first arc of two in a subidentifier
abbrev root : ℕ → ℕ
root n = min (n / 40) 2

-- a text with the arcs of one subidentifier more
abbrev pub with_arcs : List ℕ → ℕ → List ℕ
with_arcs [] n = dotted (root n ∷ (n - 40 * root n) ∷ [])
with_arcs (t ∷ ts) n = (t ∷ ts) ++ (46 ∷ decimal n)

-- the text at the end of octets, from one and a number that were read
abbrev pub onward : List ℕ → ℕ → List ℕ → Option (List ℕ)
onward t n [] = Some t
onward t n (x ∷ xs) =
    if nat_le (2 ^ 57) n then None
    else if nat_lt x 128 then onward (with_arcs t (n * 128 + x % 128)) 0 xs
    else onward t (n * 128 + x % 128) xs

-- the first two arcs are the only ones
unpacked : (n x y : ℕ) → PacksFirst n x y → (x ≡ root n) × (y ≡ n - 40 * root n)
unpacked n x y p =
    let a = p.packed in
    let b = p.root in
    let c = p.below in
    let e : x ≡ min (n / 40) 2 = by_root x b a c in
    (e, omega arith)
  where
    by_root : (x : ℕ) → x ≤ 2 → n ≡ x * 40 + y → (x < 2 → y ≤ 39) → x ≡ min (n / 40) 2
    by_root zero b a c = let d = c (omega arith) in omega arith
    by_root (suc zero) b a c = let d = c (omega arith) in omega arith
    by_root (suc (suc x)) b a c = omega arith

packs : (n : ℕ) → PacksFirst n (root n) (n - 40 * root n)
packs n = record { packed = omega arith; root = omega arith; below = λ h. omega arith }

pub arcs_pushed : (old new : List ℕ) (n : ℕ) → (old ≡ [] → (x y : ℕ) × PacksFirst n x y × (new ≡ dotted (x ∷ y ∷ [])))
    → (old ≢ [] → new ≡ old ++ (46 ∷ decimal n)) → new ≡ with_arcs old n
arcs_pushed [] new n f g =
    let k = f refl in
    let e = unpacked n k.0 k.1 k.2 in
    k.3 ∙ (rw (e.0, e.1) refl)
arcs_pushed (t ∷ ts) new n f g = g (λ z. cc)

-- One octet of the loop.
next : (xs : List ℕ) (i : ℕ) → i < length xs → drop i xs ≡ get_or xs i 0 ∷ drop (i + 1) xs
next [] i h = absurd (omega arith)
next (x ∷ xs) zero h = refl
next (x ∷ xs) (suc i) h = let n = next xs i (omega arith) in let e : suc i + 1 ≡ suc (i + 1) = omega arith in rw e n

module _ (t : List ℕ) (n : ℕ) (xs : List ℕ) (i : ℕ) (h : i < length xs) where
  pub too_large : 2 ^ 57 ≤ n → onward t n (drop i xs) ≡ None
  too_large l = ap (onward t n) (next xs i h) ∙ (let e = leb_yes (2 ^ 57) n l in rw e refl)

  pub number_ended : n < 2 ^ 57 → get_or xs i 0 < 128 → onward t n (drop i xs) ≡ onward (with_arcs t (n * 128 + get_or xs i 0 % 128)) 0 (drop (i + 1) xs)
  number_ended l k = ap (onward t n) (next xs i h) ∙ (let e = leb_no (2 ^ 57) n l in let f = ltb_yes (get_or xs i 0) 128 k in rw (e, f) refl)

  pub number_goes_on : n < 2 ^ 57 → 128 ≤ get_or xs i 0 → onward t n (drop i xs) ≡ onward t (n * 128 + get_or xs i 0 % 128) (drop (i + 1) xs)
  number_goes_on l k = ap (onward t n) (next xs i h) ∙ (let e = leb_no (2 ^ 57) n l in let f = ltb_no (get_or xs i 0) 128 k in rw (e, f) refl)

pub text_ends : (t : List ℕ) (n : ℕ) (xs : List ℕ) (i : ℕ) → length xs ≤ i → onward t n (drop i xs) ≡ Some t
text_ends t n xs i h = ap (onward t n) (drop_all i xs h)

-- A subidentifier after another.
pow_one : (k : ℕ) → 1 ≤ 128 ^ k
pow_one zero = omega arith
pow_one (suc k) = let t = pow_one k in rw pow-suc (omega arith)

below_first : (v p d n : ℕ) → 1 ≤ p → v * (p * 128) + (d * p + n) < 2 ^ 64 → v < 2 ^ 57
below_first v p d n h l =
    let a : v * 1 ≤ v * p = mul-le-mul_left v h in
    let b : v * (p * 128) ≡ 128 * (v * p) = grind arith in
    omega arith

regroup : (v p d n : ℕ) → (v * 128 + d) * p + n ≡ v * (p * 128) + (d * p + n)
regroup v p d n = grind arith

passes : {s : List ℕ} {n : ℕ} → IsBase128 s n → (t : List ℕ) (v : ℕ) (r : List ℕ) → v * 128 ^ length s + n < 2 ^ 64
    → onward t v (s ++ r) ≡ onward (with_arcs t (v * 128 ^ length s + n)) 0 r
passes (last {d = d} h) t v r l =
    let a = leb_no (2 ^ 57) v (omega arith) in
    let b = ltb_yes d 128 h in
    let c : d % 128 ≡ d = omega arith in
    rw (a, b, c) refl
passes (more {d = d} {ds = ds} {n = n} h k) t v r l =
    let q : v * (128 ^ length ds * 128) + (d * 128 ^ length ds + n) < 2 ^ 64 = (rw (pow-suc 128 (length ds)) at l) in
    let a = leb_no (2 ^ 57) v (below_first v (128 ^ length ds) d n (pow_one (length ds)) q) in
    let b = ltb_no (128 + d) 128 (omega arith) in
    let c : (128 + d) % 128 ≡ d = omega arith in
    let e = regroup v (128 ^ length ds) d n in
    rw (a, b, c, pow-suc) (passes k t (v * 128 + d) r (rw e q) ∙ (rw e refl))

stops : {s : List ℕ} {n : ℕ} → IsBase128 s n → (t : List ℕ) (v : ℕ) (r : List ℕ) → 2 ^ 64 ≤ v * 128 ^ length s + n → onward t v (s ++ r) ≡ None
stops (last {d = d} h) t v r l = let a = leb_yes (2 ^ 57) v (omega arith) in rw a refl
stops (more {d = d} {ds = ds} {n = n} h k) t v r l =
    let q : 2 ^ 64 ≤ v * (128 ^ length ds * 128) + (d * 128 ^ length ds + n) = (rw (pow-suc 128 (length ds)) at l) in
    let c : (128 + d) % 128 ≡ d = omega arith in
    by_size (stops k t (v * 128 + d) r (rw (regroup v (128 ^ length ds) d n) q)) c (cases_lt v (2 ^ 57))
  where
    by_size : onward t (v * 128 + d) (ds ++ r) ≡ None → (128 + d) % 128 ≡ d → (v < 2 ^ 57) ⊎ (2 ^ 57 ≤ v) → onward t v ((128 + d) ∷ (ds ++ r)) ≡ None
    by_size i c (inr g) = let a = leb_yes (2 ^ 57) v g in rw a refl
    by_size i c (inl g) = let a = leb_no (2 ^ 57) v g in let b = ltb_no (128 + d) 128 (omega arith) in rw (a, b, c) i

-- the text with the arcs of all subidentifiers
abbrev with_all : List ℕ → List ℕ → List ℕ
with_all t [] = t
with_all t (n ∷ ns) = with_all (with_arcs t n) ns

abbrev Fit : List ℕ → Type 0
Fit ns = AllByRecursion (λ n. n < 2 ^ 64) ns

-- what is read of subidentifiers, whether or not they fit
all_read : (ss : List (List ℕ)) (ns t : List ℕ) → AllZip subidentifier ss ns
    → (Fit ns × (onward t 0 (join ss) ≡ Some (with_all t ns))) ⊎ ((Fit ns → ⊥) × (onward t 0 (join ss) ≡ None))
all_read [] [] t z = inl (tt, refl)
all_read [] (n ∷ ns) t z = absurd z
all_read (s ∷ ss) [] t z = absurd z
all_read (s ∷ ss) (n ∷ ns) t z = by_size (all_read ss ns (with_arcs t n) z.1) (cases_lt n (2 ^ 64))
  where
    base : IsBase128 s n
    base = subst (IsBase128 s) z.0.1 z.0.0.base_128

    by_size : (Fit ns × (onward (with_arcs t n) 0 (join ss) ≡ Some (with_all (with_arcs t n) ns)))
        ⊎ ((Fit ns → ⊥) × (onward (with_arcs t n) 0 (join ss) ≡ None)) → (n < 2 ^ 64) ⊎ (2 ^ 64 ≤ n)
        → (Fit (n ∷ ns) × (onward t 0 (s ++ join ss) ≡ Some (with_all t (n ∷ ns)))) ⊎ ((Fit (n ∷ ns) → ⊥) × (onward t 0 (s ++ join ss) ≡ None))
    by_size i (inr g) = inr (λ f. (let h = f.0 in omega arith), stops base t 0 (join ss) (omega arith))
    by_size i (inl g) =
        let e : 0 * 128 ^ length s + n ≡ n = omega arith in
        let p : onward t 0 (s ++ join ss) ≡ onward (with_arcs t n) 0 (join ss) = passes base t 0 (join ss) (omega arith)
        ∙ ap (λ k. onward (with_arcs t k) 0 (join ss)) e in
        elim i [ inl k ↦ inl ((g, k.0), p ∙ k.1) | inr k ↦ inr (λ f. k.0 f.1, p ∙ k.1) ]

-- The text of arcs, one after another.
abbrev with_dots : List ℕ → List ℕ
with_dots [] = []
with_dots (n ∷ ns) = 46 ∷ (decimal n ++ with_dots ns)

joined : (z ns : List ℕ) → join_with_byte 46 (z ∷ map decimal ns) ≡ z ++ with_dots ns
joined z [] = sym (append-nil z)
joined z (n ∷ ns) = ap (λ t. z ++ 46 ∷ t) (joined (decimal n) ns)

all_joined : (t ns : List ℕ) → t ≢ [] → with_all t ns ≡ t ++ with_dots ns
all_joined t [] h = sym (append-nil t)
all_joined [] (n ∷ ns) h = absurd (h refl)
all_joined (x ∷ t) (n ∷ ns) h = all_joined ((x ∷ t) ++ (46 ∷ decimal n)) ns (λ z. cc) ∙ append_assoc (x ∷ t) (46 ∷ decimal n) (with_dots ns)

some_first : (a b : List ℕ) → a ++ (46 ∷ b) ≢ []
some_first [] b e = cc
some_first (x ∷ a) b e = cc

whole_text : (n : ℕ) (ns : List ℕ) (x y : ℕ) → PacksFirst n x y → with_all [] (n ∷ ns) ≡ dotted (x ∷ y ∷ ns)
whole_text n ns x y p =
    let e = unpacked n x y p in
    let f : with_arcs [] n ≡ decimal x ++ (46 ∷ decimal y) = rw (e.0, e.1) refl in
    ap (λ t. with_all t ns) f ∙ (all_joined (decimal x ++ (46 ∷ decimal y)) ns (some_first (decimal x) (decimal y))
    ∙ (append_assoc (decimal x) (46 ∷ decimal y) (with_dots ns) ∙ sym (ap (λ t. decimal x ++ 46 ∷ t) (joined (decimal y) ns))))

text_of : (ns arcs : List ℕ) → HaveArcs ns arcs → with_all [] ns ≡ dotted arcs
text_of [] arcs h = absurd h
text_of (n ∷ ns) [] h = absurd h
text_of (n ∷ ns) (x ∷ []) h = absurd h
text_of (n ∷ ns) (x ∷ y ∷ arcs) h = whole_text n ns x y h.0 ∙ ap (λ z. dotted (x ∷ y ∷ z)) h.1

-- From octets to the text and back.
numbers_of : (ss : List (List ℕ)) → AllByRecursion IsSubidentifier ss → (ns : List ℕ) × AllZip subidentifier ss ns
numbers_of [] a = ([], tt)
numbers_of (s ∷ ss) a = let k = numbers_of ss a.1 in (a.0.number ∷ k.0, ((a.0, refl), k.1))

spelled_are : (ss : List (List ℕ)) (ns : List ℕ) → AllZip subidentifier ss ns → AllByRecursion IsSubidentifier ss
spelled_are [] [] z = tt
spelled_are [] (n ∷ ns) z = absurd z
spelled_are (s ∷ ss) [] z = absurd z
spelled_are (s ∷ ss) (n ∷ ns) z = (z.0.0, spelled_are ss ns z.1)

shown_is : (c text : List ℕ) → IsDotted c text → onward [] 0 c ≡ Some text
shown_is c text k = ap (onward [] 0) k.spelled.1 ∙ go (all_read k.spelled.0 k.numbers [] k.spelled.2)
  where
    go : (Fit k.numbers × (onward [] 0 (join k.spelled.0) ≡ Some (with_all [] k.numbers)))
        ⊎ ((Fit k.numbers → ⊥) × (onward [] 0 (join k.spelled.0) ≡ None)) → onward [] 0 (join k.spelled.0) ≡ Some text
    go (inl p) = p.1 ∙ ap Some (text_of k.numbers k.arcs k.have ∙ sym k.shown)
    go (inr p) = absurd (p.0 k.fit)

dotted_identifier : (c text : List ℕ) → IsDotted c text → IsObjectIdentifier c
dotted_identifier c text k = record {
  subidentifiers = k.spelled.0;
  are = spelled_are k.spelled.0 k.numbers k.spelled.2;
  some = λ e. none k.spelled.0 k.numbers k.arcs e k.spelled.2 k.have;
  joined = k.spelled.1;
}
  where
    none : (ss : List (List ℕ)) (ns arcs : List ℕ) → ss ≡ [] → AllZip subidentifier ss ns → HaveArcs ns arcs → ⊥
    none [] [] arcs e z h = h
    none [] (n ∷ ns) arcs e z h = z
    none (s ∷ ss) ns arcs e z h = cc

told_is : (c text : List ℕ) → IsObjectIdentifier c → onward [] 0 c ≡ Some text → IsDotted c text
told_is c text k e = go k.subidentifiers n.0 k.joined k.some n.1 (all_read k.subidentifiers n.0 [] n.1)
  where
    n : (ns : List ℕ) × AllZip subidentifier k.subidentifiers ns
    n = numbers_of k.subidentifiers k.are

    go : (ss : List (List ℕ)) (ns : List ℕ) → c ≡ join ss → ss ≢ [] → AllZip subidentifier ss ns
        → (Fit ns × (onward [] 0 (join ss) ≡ Some (with_all [] ns))) ⊎ ((Fit ns → ⊥) × (onward [] 0 (join ss) ≡ None)) → IsDotted c text
    go ss ns j s z (inr p) = absurd (let d : Some text ≡ None = sym e ∙ (ap (onward [] 0) j ∙ p.1) in cc)
    go [] [] j s z (inl p) = absurd (s refl)
    go [] (m ∷ ns) j s z (inl p) = absurd z
    go (q ∷ ss) [] j s z (inl p) = absurd z
    go (q ∷ ss) (m ∷ ns) j s z (inl p) =
        let d : Some text ≡ Some (with_all [] (m ∷ ns)) = sym e ∙ (ap (onward [] 0) j ∙ p.1) in
        let f : text ≡ with_all [] (m ∷ ns) = cc in
        record {
          numbers = m ∷ ns;
          spelled = (q ∷ ss, j, z);
          fit = p.0;
          arcs = root m ∷ (m - 40 * root m) ∷ ns;
          have = (packs m, refl);
          shown = f ∙ whole_text m ns (root m) (m - 40 * root m) (packs m);
        }

-- what an answer says of octets that are the contents of an OBJECT IDENTIFIER
pub text_means : (c : List ℕ) → IsObjectIdentifier c → (r : Option (List ℕ)) → onward [] 0 c ≡ r → (text : List ℕ) → (r ≡ Some text) ↔ IsDotted c text
text_means c k r e text = (λ h. told_is c text k (e ∙ h), λ h. sym e ∙ shown_is c text h)

-- and of others
pub no_text : (c : List ℕ) → is_object_identifier c ≡ false → (text : List ℕ) → ◌≡◌ {A = Option (List ℕ)} None (Some text) ↔ IsDotted c text
no_text c e text = (λ h. absurd cc, λ h. absurd (differ e (object_identifier_tested c (dotted_identifier c text h))))
