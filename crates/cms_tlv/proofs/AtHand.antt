-- Whole elements among octets that are at hand.
use Rattle.std.proofs.Common.{◌≡◌, ◌≢◌, take, drop, length-drop, min, slice_index_or, length-append, true, not, eqb, ◌&&◌, ℕ, zero, suc, ◌+◌, ◌-◌, ◌*◌, ◌%◌, ◌<◌, ◌≤◌, List, [], ◌∷◌, ◌++◌, length, refl, sym, ap, subst, ◌∙◌, arith, append_assoc}
use Rattle.cms_tlv.specs.Headers.{AreOctets, IsConstructed, low, IsLength, short, long, IsShortLength, BeginsWithLength, big_endian}
use Rattle.std.proofs.lemmas.List.{append-nil, take-take, length-take, take-append-drop, length-take-le}
use Rattle.std.proofs.Math.Seq.{take-append_seam}
use Rattle.cms_tlv.specs.Opaque.{HasItsForm, IsFramed, primitive, constructed, AreFramed, none, more}
use Rattle.cms_tlv.specs.internal.Whole.{AreWhole, HasWhole, HasHeader, begins_value}
use Rattle.cms_tlv.specs.internal.Found.{IsFoundHeader, IsPrimitive, IsWhole}
use Rattle.cms_tlv.proofs.Inverse.{leb_yes, eqb_yes, and_both, and_first, and_second}
use Rattle.cms_tlv.proofs.OpaqueReads.{form_sound}
use Rattle.cms_tlv.specs.Reading.{has_its_form}
use Rattle.cms_tlv.proofs.ContentsGives.{octets_back}
use Rattle.cms_tlv.proofs.ShortReads.{short_sound}

one_octet : (n : ℕ) → n < 128 → IsShortLength (n ∷ []) n
one_octet n l = short_sound (short l) refl

two_octets : (n : ℕ) → 128 ≤ n → n < 256 → IsShortLength (0x81 ∷ n ∷ []) n
two_octets n l m =
    let e : big_endian (n ∷ []) ≡ n = omega arith in
    let k : IsLength (0x81 ∷ n ∷ []) n = subst (λ t. IsLength (0x81 ∷ n ∷ []) t) e (long {d = n} {ds = []} (omega arith) (m, tt)) in
    short_sound k (and_both (leb_yes 128 n l) (leb_yes 1 n (omega arith)))

three_octets : (a b : ℕ) → a ≢ 0 → a < 256 → b < 256 → IsShortLength (0x82 ∷ a ∷ b ∷ []) (256 * a + b)
three_octets a b z l m =
    let n : ℕ = 256 * a + b in
    let e : big_endian (a ∷ b ∷ []) ≡ n = omega arith in
    let k : IsLength (0x82 ∷ a ∷ b ∷ []) n = subst (λ t. IsLength (0x82 ∷ a ∷ b ∷ []) t) e (long {d = a} {ds = b ∷ []} (omega arith) (l, (m, tt))) in
    short_sound k (and_both (leb_yes 128 n (omega arith)) (leb_yes 256 n (omega arith)))

-- The three lengths.
pub length_1 : (n : ℕ) (xs rest : List ℕ) → xs ≡ n ∷ rest → n < 128 → BeginsWithLength xs n rest
length_1 n xs rest e l = record { sizes = n ∷ []; parts = e; is_length = one_octet n l }

pub length_2 : (n : ℕ) {xs rest : List ℕ} → xs ≡ n ∷ rest → 128 ≤ n → n < 256 → BeginsWithLength (0x81 ∷ xs) n rest
length_2 n e l m = record { sizes = 0x81 ∷ n ∷ []; parts = ap (λ t. 0x81 ∷ t) e; is_length = two_octets n l m }

pub length_3 : (a b : ℕ) {xs ys rest : List ℕ} → xs ≡ a ∷ ys → ys ≡ b ∷ rest → a ≢ 0 → a < 256 → b < 256 → BeginsWithLength (0x82 ∷ xs) (256 * a + b) rest
length_3 a b y z n l m = record { sizes = 0x82 ∷ a ∷ b ∷ []; parts = ap (λ t. 0x82 ∷ t) (y ∙ ap (λ t. a ∷ t) z); is_length = three_octets a b n l m }

-- the octet that a length begins with
pub led_by : {f k : ℕ} {xs ys : List ℕ} → xs ≡ f ∷ ys → f ≡ k → xs ≡ k ∷ ys
led_by {ys = ys} e k = e ∙ ap (λ t. t ∷ ys) k

-- The header.
pub header_of_one : (i len : ℕ) (xs ys rest : List ℕ) → xs ≡ i ∷ ys → BeginsWithLength ys len rest → i < 256 → i ≢ 0 → i % 32 ≢ 31
    → HasItsForm i → HasHeader xs i len rest
header_of_one i len xs ys rest e h o z k f = record {
  sizes = h.sizes;
  parts = e ∙ ap (λ t. i ∷ t) h.parts;
  is_identifier = low o k;
  not_0 = z;
  form = f;
  is_length = h.is_length;
}

pub header_with : {xs : List ℕ} {i len : ℕ} {rest : List ℕ} (contents behind : List ℕ) → HasHeader xs i len rest
    → rest ≡ contents ++ behind → len ≡ length contents → HasHeader xs i (length contents) (contents ++ behind)
header_with {xs = xs} {i = i} {rest = rest} contents behind h e n = subst (λ r. HasHeader xs i (length contents) r) e (subst (λ m. HasHeader xs i m rest) n h)

-- The element.
module _ (levels i : ℕ) (xs contents behind : List ℕ) (h : HasHeader xs i (length contents) (contents ++ behind)) (n : levels ≢ 0) where
  abbrev element : List ℕ
  element = i ∷ (h.sizes ++ contents)

  whole_by : ((d : ℕ) → levels + d ≡ 65 → IsFramed element d) → HasWhole levels xs behind
  whole_by f =
      let e : xs ≡ element ++ behind = h.parts ∙ ap (λ t. i ∷ t) (sym (append_assoc h.sizes contents behind)) in
      record { element = element; parts = e; some = let k = ap length e in omega (arith, k, length-append (h.sizes ++ contents) behind); framed = f }

  pub whole_primitive : (IsConstructed i → ⊥) → AreOctets contents → HasWhole levels xs behind
  whole_primitive k o = whole_by (λ d e. primitive contents d (omega arith) h.is_identifier h.not_0 k h.form h.is_length o)

  pub whole_constructed : IsConstructed i → AreWhole (levels - 1) contents → HasWhole levels xs behind
  whole_constructed k w = whole_by (λ d e. constructed (omega arith) h.is_identifier k h.form h.is_length (w (suc d) (omega arith)))

pub octets_first : (a b : List ℕ) → AreOctets (a ++ b) → AreOctets a
octets_first [] b o = tt
octets_first (x ∷ a) b o = (o.0, octets_first a b o.1)

pub by_fits : (xs : List ℕ) → ((i : ℕ) → slice_index_or xs i 0 < 256) → AreOctets xs
by_fits [] h = tt
by_fits (x ∷ xs) h = (h 0, by_fits xs (λ i. h (suc i)))

pub contents_octets : (i : ℕ) (xs contents behind : List ℕ) → HasHeader xs i (length contents) (contents ++ behind)
    → ((k : ℕ) → slice_index_or xs k 0 < 256) → AreOctets contents
contents_octets i xs contents behind h f =
    let o = subst AreOctets h.parts (by_fits xs f) in
    octets_first contents behind (octets_back (i ∷ h.sizes) (contents ++ behind) o)

-- Elements one after another.
framed_then : {a b : List ℕ} {d : ℕ} → AreFramed a d → AreFramed b d → AreFramed (a ++ b) d
framed_then (none d) q = q
framed_then {b = b} {d = d} (more {f = f} {c = c} p r) q = subst (λ x. AreFramed x d) (sym (append_assoc f c b)) (more p (framed_then r q))

-- whole elements before the rest of some octets
pub record HasRest (levels : ℕ) (octets rest : List ℕ) : Type 0 where
  pub passed : List ℕ
  pub parts : octets ≡ passed ++ rest
  pub whole : AreWhole levels passed

pub all_rest : (levels : ℕ) (octets : List ℕ) → HasRest levels octets octets
all_rest levels octets = record { passed = []; parts = refl; whole = λ d e. none d }

pub less_rest : {levels : ℕ} {octets rest behind : List ℕ} → HasRest levels octets rest → HasWhole levels rest behind → HasRest levels octets behind
less_rest {behind = behind} h w = record {
  passed = h.passed ++ w.element;
  parts = h.parts ∙ ap (λ t. h.passed ++ t) w.parts ∙ sym (append_assoc h.passed w.element behind);
  whole = λ d e. framed_then (h.whole d e) (subst (λ x. AreFramed x d) (append-nil w.element) (more (w.framed d e) (none d)));
}

pub whole_passed : {levels : ℕ} {octets rest : List ℕ} → HasRest levels octets rest → AreWhole levels (take (length octets - length rest) octets)
whole_passed {octets = octets} {rest = rest} h d e =
    let n : length octets - length rest ≡ length h.passed = let k = ap length h.parts in omega (arith, k, length-append h.passed rest) in
    let t : take (length octets - length rest) octets ≡ h.passed = ap (λ i. take i octets) n ∙ ap (take (length h.passed)) h.parts
    ∙ take-append_seam h.passed rest in
    subst (λ x. AreFramed x d) (sym t) (h.whole d e)

pub rest_fits : {levels : ℕ} {octets rest : List ℕ} → HasRest levels octets rest → length rest ≤ length octets
rest_fits {rest = rest} h = let k = ap length h.parts in omega (arith, k, length-append h.passed rest)

-- those among the first m octets
pub within_room : (levels room m : ℕ) (xs : List ℕ) (n : ℕ) → m ≡ min room (length xs) → n ≤ length (take m xs)
    → AreWhole levels (take n (take m xs)) → (length (take n xs) ≤ room) × AreWhole levels (take n xs)
within_room levels room m xs n e l w =
    let k : n ≤ m = omega (arith, l, length-take m xs) in
    (omega (arith, length-take n xs, k, e), λ d i. subst (λ t. AreFramed t d) (take-take n m xs k) (w d i))

-- What is found behind an octet.

-- how many octets a length has
length_octets : {xs rest : List ℕ} {len : ℕ} (b : BeginsWithLength xs len rest) → length xs ≡ length b.sizes + length rest
length_octets {rest = rest} b = ap length b.parts ∙ length-append b.sizes rest

pub header_found : (room i len : ℕ) (xs rest : List ℕ) → BeginsWithLength xs len rest → i < 256 → i % 32 ≢ 31
    → length xs - length rest < room → len ≤ room - (length xs - length rest) - 1 → IsFoundHeader room (i ∷ take (length xs - length rest) xs) i len
header_found room i len xs rest b o k l m =
    let n : length xs - length rest ≡ length b.sizes = omega (arith, length_octets b) in
    let t : take (length xs - length rest) xs ≡ b.sizes = ap (λ j. take j xs) n ∙ ap (take (length b.sizes)) b.parts ∙ take-append_seam b.sizes rest in
    let s : length (take (length xs - length rest) xs) ≡ length b.sizes = ap length t in
    record { sizes = b.sizes; parts = ap (λ x. i ∷ x) t; is_identifier = low o k; is_length = b.is_length; fits = omega (arith, n, s, l, m) }

pub primitive_found : (room i len : ℕ) (xs rest : List ℕ) → BeginsWithLength xs len rest → i < 256 → i % 32 ≢ 31 → len ≤ length rest
    → ((k : ℕ) → slice_index_or xs k 0 < 256) → length xs - length rest + len < room
    → IsPrimitive room i (i ∷ take (length xs - length rest + len) xs) len
primitive_found room i len xs rest b o k l f m =
    let contents : List ℕ = take len rest in
    let n : len ≡ length contents = sym (length-take-le len rest l) in
    let parts : xs ≡ (b.sizes ++ contents) ++ drop len rest = b.parts ∙ ap (λ t. b.sizes ++ t) (sym (take-append-drop len rest))
    ∙ sym (append_assoc b.sizes contents (drop len rest)) in
    let size : length xs - length rest + len ≡ length (b.sizes ++ contents) = omega (arith, length_octets b, length-append b.sizes contents, n) in
    let t : take (length xs - length rest + len) xs ≡ b.sizes ++ contents = ap (λ j. take j xs) size
    ∙ ap (take (length (b.sizes ++ contents))) parts ∙ take-append_seam (b.sizes ++ contents) (drop len rest) in
    record {
      sizes = b.sizes;
      contents = contents;
      parts = ap (λ x. i ∷ x) t;
      is_identifier = low o k;
      is_length = subst (λ z. IsShortLength b.sizes z) n b.is_length;
      are_octets = octets_back b.sizes contents (octets_first (b.sizes ++ contents) (drop len rest) (subst AreOctets parts (by_fits xs f)));
      counted = n;
      fits = omega (arith, ap length t, size, m);
    }

whole_found : (room i m : ℕ) (xs behind : List ℕ) → HasWhole 64 (i ∷ xs) behind → suc m + length behind ≡ suc (length xs) → m < room
    → IsWhole room (i ∷ take m xs)
whole_found room i m xs behind w e l =
    let n : suc m ≡ length w.element = let k = ap length w.parts in omega (arith, k, e, length-append w.element behind) in
    let t : i ∷ take m xs ≡ w.element = ap (take (suc m)) w.parts ∙ ap (λ j. take j (w.element ++ behind)) n ∙ take-append_seam w.element behind in
    let s : length (i ∷ take m xs) ≡ length w.element = ap length t in
    record { framed = subst (λ x. IsFramed x 1) (sym t) (w.framed 1 refl); some = omega (arith, s, n); fits = omega (arith, s, n, l) }

pub element_found : (room i len : ℕ) (xs rest : List ℕ) → BeginsWithLength xs len rest → i < 256 → i ≢ 0 → i % 32 ≢ 31 → HasItsForm i
    → len ≤ length rest → (HasHeader (i ∷ xs) i (length (take len rest)) (take len rest ++ drop len rest)
    → HasWhole 64 (i ∷ xs) (drop len rest)) → length xs - length rest + len < room → IsWhole room (i ∷ take (length xs - length rest + len) xs)
element_found room i len xs rest b o z k f l w m =
    let h = header_of_one i len (i ∷ xs) xs rest refl b o z k f in
    let e : rest ≡ take len rest ++ drop len rest = sym (take-append-drop len rest) in
    let n : len ≡ length (take len rest) = sym (length-take-le len rest l) in
    whole_found room i (length xs - length rest + len) xs (drop len rest) (w (header_with (take len rest) (drop len rest) h e n))
    (omega (arith, length_octets b, length-drop len rest, l)) m

pub all_octets : (i : ℕ) (xs : List ℕ) → i < 256 → ((k : ℕ) → slice_index_or xs k 0 < 256) → (k : ℕ) → slice_index_or (i ∷ xs) k 0 < 256
all_octets i xs o h zero = o
all_octets i xs o h (suc k) = h k

-- what the test of an identifier says
pub value_begins : (t : ℕ) → begins_value t ≡ true → (t ≢ 0) × (t % 32 ≢ 31) × HasItsForm t
value_begins t e =
    let z = and_first (not (eqb t 0)) (not (eqb (t % 32) 31) && has_its_form t) e in
    let f = and_second (not (eqb t 0)) (not (eqb (t % 32) 31) && has_its_form t) e in (
      is_not t 0 z,
      is_not (t % 32) 31 (and_first (not (eqb (t % 32) 31)) (has_its_form t) f),
      form_sound t (and_second (not (eqb (t % 32) 31)) (has_its_form t) f),
    )
  where
    is_not : (a b : ℕ) → not (eqb a b) ≡ true → a ≢ b
    is_not a b h = λ k. absurd (let q = eqb_yes a b k in cc)
