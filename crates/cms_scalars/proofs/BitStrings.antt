-- BIT STRING with a named-bit list: its reader and its spelling, and what is written.
use Rattle.std.proofs.Common.{◌≡◌, ◌≢◌, ℕ, ◌+◌, ◌-◌, ◌*◌, ◌<◌, ◌≤◌, true, ◌==◌, List, [], ◌∷◌, ◌++◌, length, take, drop, replicate, w8, refl, sym, ap, subst, ◌∙◌, append_assoc, arith}
use Rattle.std.specs.Prelude.{bytes_eq}
use Rattle.std.specs.Int.{trailing_zeros}
use Rattle.std.specs.Cmp.Lexicographic.{nat_list_eq_equiv}
use Rattle.std.proofs.lemmas.Bool.{ltb-true, eqb-true}
use Rattle.std.proofs.lemmas.List.{length-append, length-drop, take-append-drop, length-replicate}
use Rattle.std.proofs.lemmas.Slice.Eq.{bytes_eq-Decides}
use Rattle.std.proofs.Math.Seq.{take-append_seam}
use Rattle.cms_tlv.specs.declared.fault.Reason.TheVariants.{BitsMalformed}
use Rattle.cms_tlv.specs.Headers.{AreOctets}
use Rattle.cms_tlv.specs.Spelling.{Rules, ber, minimal, der, element}
use Rattle.cms_tlv.specs.Law.{IsField, Reads}
use Rattle.cms_tlv.specs.Reading.{scalar_of}
use Rattle.cms_tlv.proofs.Inverse.{eqb_yes, ltb_yes}
use Rattle.cms_tlv.proofs.Elements.{scalar_reads}
use Rattle.cms_tlv.proofs.SpellingLaws.{primitive_field}
use Rattle.cms_fields.specs.Assembly.{all_made, marked, made}
use Rattle.cms_fields.specs.Canonical.{IsCanonical, IsByDer, IsDerFramed}
use Rattle.cms_fields.proofs.FirstOctetLaws.{is_primitive}
use Rattle.cms_fields.proofs.CanonicalLaws.{canonical_by, element_framed}
use Rattle.cms_fields.proofs.DerLaws.{element_by_der}
use Rattle.cms_fields.proofs.ReaderLaws.{begins_as}
use Rattle.cms_fields.specs.Sinks.{Taking, Emits, MayStop}
use Rattle.cms_fields.proofs.EmitLaws.{canonical_emits, canonical_stops}
use Rattle.cms_scalars.proofs.Made.{told_reads}
use Rattle.cms_scalars.specs.Scalars.{bits_of, bits}
use Rattle.cms_scalars.specs.Bits.{AreZeros, HasNoTrailingZero, IsNamedBits, named_bits, without_trailing_zeros, used_bits, bits_of_contents, is_bit_string, named_bits_of}
use Rattle.cms_scalars.proofs.BitLists.{trimmed_append, trimmed_same, trimmed_ends, trimmed_splits, replicate_zeros, ends_in_one, last_set, bits_same, length_bits, bits_append}

abbrev IsBitString : List ℕ → Type 0
IsBitString c = AreOctets c × (is_bit_string c ≡ true)

-- Accepted, so spelled: the value is what the contents show.
counted : (count : ℕ) (octets : List ℕ) → is_bit_string (count ∷ octets) ≡ true → (count < 8) × (count ≤ length (bits octets))
counted count [] e = let z = eqb-true count 0 e in (omega arith, omega arith)
counted count (x ∷ xs) e = let l = ltb-true count 8 e in (l, omega arith)

shows : (count : ℕ) (octets : List ℕ) → count < 8 → bits_of_contents (count ∷ octets) ≡ used_bits count octets
shows count octets l = let e = ltb_yes count 8 l in rw e refl

spelled : (count : ℕ) (octets : List ℕ) → AreOctets octets → count < 8 → count ≤ length (bits octets)
    → IsNamedBits ber (count ∷ octets) (used_bits count octets)
spelled count octets o l h =
    let n = length (bits octets) - count in
    let k = trimmed_splits (take n (bits octets)) in
    record {
      count = count;
      octets = octets;
      contents = refl;
      are = o;
      most = omega arith;
      zeros = k.0;
      unused = drop n (bits octets);
      counted = omega (arith, length-drop n (bits octets));
      joined =
          sym (take-append-drop n (bits octets)) ∙ (ap (λ t. t ++ drop n (bits octets)) k.2
          ∙ append_assoc (without_trailing_zeros (take n (bits octets))) k.0 (drop n (bits octets)));
      no_trailing_zero = trimmed_ends (take n (bits octets));
      may_follow = k.1;
    }

tells : (c : List ℕ) → IsBitString c → IsNamedBits ber c (bits_of_contents c)
tells [] k = absurd (let e = k.1 in cc)
tells (count ∷ octets) k =
    let h = counted count octets k.1 in
    subst (IsNamedBits ber (count ∷ octets)) (sym (shows count octets h.0)) (spelled count octets k.0.1 h.0 h.1)

-- Spelled, so accepted.
some_octets : (count : ℕ) (octets : List ℕ) → count < 8 → count ≤ length (bits octets) → is_bit_string (count ∷ octets) ≡ true
some_octets count [] l h = eqb_yes count 0 (omega arith)
some_octets count (x ∷ xs) l h = ltb_yes count 8 l

used : (bs v zeros unused : List ℕ) (count : ℕ) → length unused ≡ count → bs ≡ v ++ (zeros ++ unused) → HasNoTrailingZero v
    → AreZeros zeros → without_trailing_zeros (take (length bs - count) bs) ≡ v
used bs v zeros unused count e j h z =
    let a : bs ≡ (v ++ zeros) ++ unused = j ∙ sym (append_assoc v zeros unused) in
    let n : length bs - count ≡ length (v ++ zeros) =
    (let k : length bs ≡ length (v ++ zeros) + length unused = ap length a ∙ length-append (v ++ zeros) unused in omega arith) in
    let t : take (length bs - count) bs ≡ v ++ zeros = ap (λ m. take m bs) n ∙ (ap (take (length (v ++ zeros))) a ∙ take-append_seam (v ++ zeros) unused) in
    ap without_trailing_zeros t ∙ (trimmed_append v zeros z ∙ trimmed_same v h)

pub told : (c v : List ℕ) → IsNamedBits ber c v → IsBitString c × (bits_of_contents c ≡ v)
told c v k =
    rw k.contents (
      ((omega (arith, k.most), k.are), some_octets k.count k.octets (omega (arith, k.most)) room),
      shows k.count k.octets (omega (arith, k.most)) ∙ used (bits k.octets) v k.zeros k.unused k.count k.counted k.joined k.no_trailing_zero k.may_follow,
    )
  where
    room : k.count ≤ length (bits k.octets)
    room =
        let a = ap length k.joined ∙ length-append v (k.zeros ++ k.unused) in
        let b = length-append k.zeros k.unused in
        let e = k.counted in
        omega arith

contents_read : {m : Rules} → Reads m (element m 0x03 (λ c v. (c ≡ v) × IsBitString c)) (scalar_of 0x03 is_bit_string BitsMalformed)
contents_read = scalar_reads 0x03 is_bit_string BitsMalformed (is_primitive 0x03 refl).0 (is_primitive 0x03 refl).1 (λ z. cc) (λ v o e. (o, e)) (λ v k. k)

-- minimal lengths ask nothing of the contents
to_minimal : (c v : List ℕ) → IsNamedBits ber c v → IsNamedBits minimal c v
to_minimal c v k =
    record {
      count = k.count;
      octets = k.octets;
      contents = k.contents;
      are = k.are;
      most = k.most;
      zeros = k.zeros;
      unused = k.unused;
      counted = k.counted;
      joined = k.joined;
      no_trailing_zero = k.no_trailing_zero;
      may_follow = k.may_follow;
    }

from_minimal : (c v : List ℕ) → IsNamedBits minimal c v → IsNamedBits ber c v
from_minimal c v k =
    record {
      count = k.count;
      octets = k.octets;
      contents = k.contents;
      are = k.are;
      most = k.most;
      zeros = k.zeros;
      unused = k.unused;
      counted = k.counted;
      joined = k.joined;
      no_trailing_zero = k.no_trailing_zero;
      may_follow = k.may_follow;
    }

pub named_bits_reads : (m : Rules) → m ≢ der → Reads m (named_bits m) named_bits_of
unfolding named_bits_of
named_bits_reads ber n = told_reads 0x03 bits_of_contents tells told contents_read
named_bits_reads minimal n =
    told_reads 0x03 bits_of_contents (λ c k. to_minimal c (bits_of_contents c) (tells c k)) (λ c v k. told c v (from_minimal c v k)) contents_read
named_bits_reads der n = absurd (n refl)

-- What DER spells BER spells, and each spelling tells its value.
no_zeros : (zs : List ℕ) → zs ≡ [] → AreZeros zs
no_zeros zs e = rw e tt

within : (c v : List ℕ) → IsNamedBits der c v → IsNamedBits ber c v
within c v k =
    record {
      count = k.count;
      octets = k.octets;
      contents = k.contents;
      are = k.are;
      most = k.most;
      zeros = k.zeros;
      unused = k.unused;
      counted = k.counted;
      joined = k.joined;
      no_trailing_zero = k.no_trailing_zero;
      may_follow = no_zeros k.zeros k.may_follow.0;
    }

one_value : (m : Rules) (c v w : List ℕ) → IsNamedBits m c v → IsNamedBits m c w → v ≡ w
one_value ber c v w p q = sym (told c v p).1 ∙ (told c w q).1
one_value minimal c v w p q = sym (told c v (from_minimal c v p)).1 ∙ (told c w (from_minimal c w q)).1
one_value der c v w p q = sym (told c v (within c v p)).1 ∙ (told c w (within c w q)).1

pub named_bits_field : (m : Rules) → IsField (λ t. t == 3 ≡ true) (named_bits m)
named_bits_field m = begins_as 0x03 (primitive_field m 0x03 (is_primitive 0x03 refl).0 (is_primitive 0x03 refl).1 (one_value m))

-- By DER each value has one spelling.
all_zeros : (xs ys : List ℕ) → AreZeros xs → AreZeros ys → length xs ≡ length ys → xs ≡ ys
all_zeros [] [] a b e = refl
all_zeros [] (y ∷ ys) a b e = cc
all_zeros (x ∷ xs) [] a b e = cc
all_zeros (x ∷ xs) (y ∷ ys) a b e =
    let i = all_zeros xs ys a.1 b.1 (omega arith) in
    let f = a.0 in
    let g = b.0 in
    cc

der_bits : (c v : List ℕ) (k : IsNamedBits der c v) → bits k.octets ≡ v ++ k.unused
der_bits c v k = k.joined ∙ ap (λ t. v ++ (t ++ k.unused)) k.may_follow.0

one_spelling : (b c v : List ℕ) → IsNamedBits der b v → IsNamedBits der c v → b ≡ c
one_spelling b c v p q =
    let x = der_bits b v p in
    let y = der_bits c v q in
    let n = ap length x ∙ length-append v p.unused in
    let m = ap length y ∙ length-append v q.unused in
    let r = length_bits p.octets in
    let s = length_bits q.octets in
    let f = p.counted in
    let g = q.counted in
    let h = p.most in
    let i = q.most in
    let e : p.count ≡ q.count = omega arith in
    let u : p.unused ≡ q.unused = all_zeros p.unused q.unused p.may_follow.1 q.may_follow.1 (f ∙ e ∙ sym g) in
    let o : p.octets ≡ q.octets = bits_same p.octets q.octets p.are q.are (x ∙ ap (λ t. v ++ t) u ∙ sym y) in
    p.contents ∙ (rw (e, o) refl) ∙ sym q.contents

contents_canonical : IsCanonical bytes_eq (IsNamedBits der)
contents_canonical = canonical_by bytes_eq (λ b c v w p q. (
  (λ e. (bytes_eq-Decides v w).1 (one_value der b v w p (subst (λ t. IsNamedBits der t w) (sym e) q))),
  (λ e. one_spelling b c v p (subst (λ t. IsNamedBits der c t) (sym ((bytes_eq-Decides v w).0 e)) q)),
))

contents_by_der : IsByDer bytes_eq IsNamedBits
contents_by_der = record { within = within; canonical = contents_canonical; equivalence = nat_list_eq_equiv }

pub named_bits_by_der : IsByDer bytes_eq named_bits
named_bits_by_der = element_by_der contents_by_der 0x03

pub named_bits_framed : IsDerFramed (named_bits der)
named_bits_framed = element_framed 0x03 (is_primitive 0x03 refl).0

-- What is written: the octets up to the last bit that is set, after the count of the zeros in the last of them.
last_octet : (front : List ℕ) (x : ℕ) → AreOctets (front ++ x ∷ []) → x < 256
last_octet [] x o = o.0
last_octet (y ∷ ys) x o = last_octet ys x o.1

module _ (front : List ℕ) (last : ℕ) (o : AreOctets (front ++ last ∷ [])) (l : 0 < last) where
  h : last < 256
  h = last_octet front last o

  bits_joined : bits (front ++ last ∷ []) ≡ (bits front ++ (take (7 - trailing_zeros w8 last) (bits_of last) ++ 1 ∷ [])) ++ replicate (trailing_zeros w8 last) 0
  bits_joined =
      let k = last_set last l h in
      bits_append front last ∙ (ap (λ t. bits front ++ t) k.1 ∙ sym (append_assoc (bits front)
      (take (7 - trailing_zeros w8 last) (bits_of last) ++ 1 ∷ []) (replicate (trailing_zeros w8 last) 0)))

  value_is : without_trailing_zeros (bits (front ++ last ∷ [])) ≡ bits front ++ (take (7 - trailing_zeros w8 last) (bits_of last) ++ 1 ∷ [])
  value_is =
      let a = take (7 - trailing_zeros w8 last) (bits_of last) in
      let e : bits front ++ (a ++ 1 ∷ []) ≡ (bits front ++ a) ++ 1 ∷ [] = sym (append_assoc (bits front) a (1 ∷ [])) in
      ap without_trailing_zeros bits_joined ∙ (trimmed_append (bits front ++ (a ++ 1 ∷ [])) (replicate (trailing_zeros w8 last) 0)
      (replicate_zeros (trailing_zeros w8 last)) ∙ (ap without_trailing_zeros e
      ∙ (trimmed_same ((bits front ++ a) ++ 1 ∷ []) (ends_in_one (bits front ++ a)) ∙ sym e)))

  significant_spelled : IsNamedBits der (trailing_zeros w8 last ∷ (front ++ last ∷ [])) (without_trailing_zeros (bits (front ++ last ∷ [])))
  significant_spelled = record {
    count = trailing_zeros w8 last;
    octets = front ++ last ∷ [];
    contents = refl;
    are = o;
    most = (let k = (last_set last l h).0 in omega arith);
    zeros = [];
    unused = replicate (trailing_zeros w8 last) 0;
    counted = length-replicate (trailing_zeros w8 last) 0;
    joined = bits_joined ∙ ap (λ t. t ++ replicate (trailing_zeros w8 last) 0) (sym value_is);
    no_trailing_zero = trimmed_ends (bits (front ++ last ∷ []));
    may_follow = (refl, replicate_zeros (trailing_zeros w8 last));
  }

  pub width_is : length (without_trailing_zeros (bits (front ++ last ∷ []))) ≡ 8 * length front + (8 - trailing_zeros w8 last)
  width_is =
      let k = (last_set last l h).0 in
      let n = ap length bits_joined in
      let m = ap length value_is in
      let a = length-append (bits front ++ (take (7 - trailing_zeros w8 last) (bits_of last) ++ 1 ∷ [])) (replicate (trailing_zeros w8 last) 0) in
      let b : length {A = ℕ} (replicate {A = ℕ} (trailing_zeros w8 last) 0) ≡ trailing_zeros w8 last = length-replicate (trailing_zeros w8 last) 0 in
      let c = ap length (bits_append front last) ∙ length-append (bits front) (bits_of last) in
      let d = length_bits front in
      omega arith

empty_spelled : IsNamedBits der (0 ∷ []) []
empty_spelled =
    record {
      count = 0;
      octets = [];
      contents = refl;
      are = tt;
      most = omega arith;
      zeros = [];
      unused = [];
      counted = refl;
      joined = refl;
      no_trailing_zero = trimmed_ends [];
      may_follow = (refl, tt);
    }

module _ {v c : List ℕ} (k : IsNamedBits der c v) where
  pub bits_emit : {S : Type 0} {t : Taking S} {kept : List ℕ} {a b : S} → t.puts kept a (marked made c) b
      → Emits t (IsNamedBits der) (all_made (IsNamedBits der)) bytes_eq v kept a b
  bits_emit = canonical_emits contents_canonical nat_list_eq_equiv k (c, refl, k)

  pub bits_stop : {S : Type 0} (t : Taking S) (n : ℕ) → t.stops (n + length c) → MayStop t (IsNamedBits der) bytes_eq v n
  bits_stop = canonical_stops contents_canonical nat_list_eq_equiv k

pub no_bits : (v : List ℕ) → v ≡ [] → IsNamedBits der (0 ∷ []) v
no_bits v e = subst (IsNamedBits der (0 ∷ [])) (sym e) empty_spelled

pub some_bits : (v front : List ℕ) (last : ℕ) (o : AreOctets (front ++ last ∷ [])) (l : 0 < last) → v ≡ without_trailing_zeros (bits (front ++ last ∷ []))
    → IsNamedBits der (trailing_zeros w8 last ∷ (front ++ last ∷ [])) v
some_bits v front last o l e = subst (IsNamedBits der (trailing_zeros w8 last ∷ (front ++ last ∷ []))) (sym e) (significant_spelled front last o l)
