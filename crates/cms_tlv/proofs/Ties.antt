-- What reading refuses with E2 to E5, and for which octets.
use Rattle.std.proofs.Common.{◌≡◌, ◌≢◌, ◌⊎◌, inl, inr, ℕ, zero, suc, ◌+◌, ◌*◌, ◌-◌, ◌/◌, ◌%◌, ◌<◌, ◌≤◌, Bool, true, not, cond, eqb, ltb, leb, ◌&&◌, List, [], ◌∷◌, ◌++◌, length, Option, Some, None, Result, Ok, Err, refl, sym, ap, subst, ◌∙◌, arith, append_assoc, length-append}
use Rattle.std.specs.Prelude.{IfErr}
use Rattle.std.proofs.lemmas.Bool.{ltb-false, ltb-true, leb-true, eqb-true}
use Rattle.std.proofs.lemmas.List.{append-nil}
use Rattle.cms_tlv.specs.declared.fault.Fault.{Fault}
use Rattle.cms_tlv.specs.declared.fault.Fault.TheVariants as faults
use Rattle.cms_tlv.specs.declared.fault.Reason.{Reason}
use Rattle.cms_tlv.specs.declared.fault.Reason.TheVariants.{Truncated, TooLarge, LengthReserved, LengthTooLong, IndefinitePrimitive, Overrun, UnexpectedElement, SignedAttrsNotDer}
use Rattle.cms_tlv.specs.declared.bound.Bound.{Bound}
use Rattle.cms_tlv.specs.declared.bound.Header.{Header}
use Rattle.cms_tlv.specs.Frames.{start}
use Rattle.cms_tlv.specs.Headers.{IsOctet, AreOctets, IsLength, short, long, big_endian}
use Rattle.cms_tlv.specs.State.{State, KeepsNoneAhead, as_list}
use Rattle.cms_tlv.specs.Reading.{Cursor, place, stop, Reader, ◌>>=◌, give, refuse, again, is_past, first_octet, octet_of, look_of, octets_of, tag_of, number_of, is_over, is_shortest, definite_length_of, long_of, indefinite_length_of, after_first, rest_of_tag, ends_here, header_of, expected_of, unless_end, peek_of, is_zeros, end_in, close_of, enter_of, counted_of, primitive_of}
use Rattle.cms_tlv.specs.Refines.{NeedsNoOctets, cursor, Simulates, Refines}
use Rattle.cms_tlv.specs.RefusalReasons.{HeaderTaken, Tied, TiedLast}
pub use Rattle.cms_tlv.specs.RefusalReasons.{HeaderSays, Lasts, Ties, TiesLast}
use Rattle.cms_tlv.proofs.Inverse.{okay, bad, chosen, branch, bind_err, not_eq}
use Rattle.cms_tlv.proofs.Lists.{same_prefixes}
use Rattle.cms_tlv.proofs.ReadingLaws.{Moves, moves_nothing, moves_then}
use Rattle.cms_tlv.proofs.FrameLaws.{identifier_some}
use Rattle.cms_tlv.proofs.OctetReads.{octet_sound}
use Rattle.cms_tlv.proofs.NumberReads.{number_sound}
use Rattle.cms_tlv.proofs.Paths.{path_if}
use Rattle.cms_tlv.proofs.HeaderReads.{sized, opened, tag_part_sound, header_sound}

pub stop_reason : {A : Type 0} {e f : Reason} {m n : ℕ} → bad {A = A} (stop e m) ≡ bad (stop f n) → e ≡ f
stop_reason e = cc

pub stop_place : {A : Type 0} {e f : Reason} {m n : ℕ} → bad {A = A} (stop e m) ≡ bad (stop f n) → m ≡ n
stop_place e = cc

pub lacks_later : {c m : Cursor} {b : List ℕ} (reason : Reason) (at : ℕ) → Moves c b m → NeedsNoOctets m.limit at reason → NeedsNoOctets c.limit at reason
lacks_later reason at p x = subst (λ n. NeedsNoOctets n at reason) p.limit x

-- Octets.

first_lacks : (at limit : ℕ) (xs : List ℕ) {reason : Reason} {stopped : ℕ} → first_octet at limit xs ≡ Err (stop reason stopped)
    → NeedsNoOctets limit stopped reason
first_lacks at limit [] {stopped = stopped} e = subst (NeedsNoOctets limit stopped) (stop_reason {A = ℕ} {e = Truncated} e) tt
first_lacks at limit (x ∷ xs) {reason = reason} {stopped = stopped} e =
    elim (chosen (ltb x 256) (okay (x, place (at + 1) limit xs)) (bad (stop UnexpectedElement at)) (bad (stop reason stopped)) e) [
      | inl h ↦ absurd (let k = h.1 in cc)
      | inr h ↦ subst (NeedsNoOctets limit stopped) (stop_reason h.1) tt
    ]

octet_lacks : (end : Option ℕ) (c : Cursor) {reason : Reason} {at : ℕ} → octet_of end c ≡ Err (stop reason at) → NeedsNoOctets c.limit at reason
unfolding octet_of
octet_lacks end c {reason = reason} {at = at} e = elim (chosen (is_past end c.at) (bad (stop Overrun c.at))
    (cond (leb c.limit c.at) (bad (stop TooLarge c.at)) (first_octet c.at c.limit c.rest)) (bad (stop reason at)) e) [
      | inl x ↦ subst (NeedsNoOctets c.limit at) (stop_reason x.1) tt
      | inr x ↦ elim (chosen (leb c.limit c.at) (bad (stop TooLarge c.at)) (first_octet c.at c.limit c.rest) (bad (stop reason at)) x.1) [
        | inl y ↦ subst (NeedsNoOctets c.limit at) (stop_reason y.1) (subst (λ n. c.limit ≤ n) (stop_place y.1) (leb-true c.limit c.at y.0))
        | inr y ↦ first_lacks c.at c.limit c.rest y.1
      ]
    ]

octets_lacks : (end : Option ℕ) (n : ℕ) (c : Cursor) {reason : Reason} {at : ℕ} → octets_of end n c ≡ Err (stop reason at) → NeedsNoOctets c.limit at reason
unfolding octets_of
octets_lacks end zero c e = absurd cc
octets_lacks end (suc n) c {reason = reason} {at = at} e = elim (bind_err (octet_of end) _ c e) [
  | inl x ↦ octet_lacks end c x
  | inr s ↦
      let one = octet_sound end c s.1 s.0 s.2 in
      elim (bind_err (octets_of end n) _ s.1 s.3) [
        | inl x ↦ lacks_later reason at one.moves (octets_lacks end n s.1 x)
        | inr x ↦ absurd (let k = x.3 in cc)
      ]
]

number_lacks : (count n : ℕ) (end : Option ℕ) (c : Cursor) {reason : Reason} {at : ℕ} → number_of end count n c ≡ Err (stop reason at)
    → NeedsNoOctets c.limit at reason
unfolding number_of
number_lacks zero n end c e = absurd cc
number_lacks (suc count) n end c {reason = reason} {at = at} e = elim (bind_err (octet_of end) _ c e) [
  | inl x ↦ octet_lacks end c x
  | inr s ↦
      let one = octet_sound end c s.1 s.0 s.2 in
      lacks_later reason at one.moves (number_lacks count (256 * n + s.0) end s.1 s.3)
]

tag_lacks : (left n : ℕ) (end : Option ℕ) (c : Cursor) {reason : Reason} {at : ℕ} → tag_of end left n c ≡ Err (stop reason at) → NeedsNoOctets c.limit at reason
unfolding tag_of
tag_lacks zero n end c {at = at} e = subst (NeedsNoOctets c.limit at) (stop_reason {A = Unit {0}} {e = UnexpectedElement} e) tt
tag_lacks (suc left) n end c {reason = reason} {at = at} e = elim (bind_err (octet_of end) _ c e) [
  | inl x ↦ octet_lacks end c x
  | inr s ↦
      let b = s.0 in
      let one = octet_sound end c s.1 b s.2 in
      elim (branch (ltb b 128) (cond (ltb (n * 128 + b) 31) (refuse UnexpectedElement) (give tt))
      (cond (eqb b 128 && eqb n 0) (refuse UnexpectedElement) (tag_of end left (n * 128 + (b - 128)))) s.1 (bad (stop reason at)) s.3) [
        | inl x ↦ elim (branch (ltb (n * 128 + b) 31) (refuse UnexpectedElement) (give tt) s.1 (bad (stop reason at)) x.1) [
          | inl y ↦ subst (NeedsNoOctets c.limit at) (stop_reason y.1) tt
          | inr y ↦ absurd (let k = y.1 in cc)
        ]
        | inr x ↦ elim (branch (eqb b 128 && eqb n 0) (refuse UnexpectedElement) (tag_of end left (n * 128 + (b - 128))) s.1 (bad (stop reason at)) x.1) [
          | inl y ↦ subst (NeedsNoOctets c.limit at) (stop_reason y.1) tt
          | inr y ↦ lacks_later reason at one.moves (tag_lacks left (n * 128 + (b - 128)) end s.1 y.1)
        ]
      ]
]

tag_part_lacks : (end : Option ℕ) (i : ℕ) (c : Cursor) {reason : Reason} {at : ℕ} → rest_of_tag end i c ≡ Err (stop reason at) → NeedsNoOctets c.limit at reason
unfolding rest_of_tag
tag_part_lacks end i c {reason = reason} {at = at} e = elim (branch (eqb (i % 32) 31) (tag_of end 4 0) (give tt) c (bad (stop reason at)) e) [
  | inl x ↦ tag_lacks 4 0 end c x.1
  | inr x ↦ absurd (let k = x.1 in cc)
]

-- Lengths.

-- a definite length is refused where its octets end
sized_says : (bd : Bound) (t n : ℕ) (shortest : Bool) (c : Cursor) (l : List ℕ) {reason : Reason} {at : ℕ} → IsLength l n
    → definite_length_of bd t shortest n c ≡ Err (stop reason at) → (c.at ≡ at) × HeaderSays c.limit at t l reason
unfolding definite_length_of
sized_says bd t n shortest c l {reason = reason} {at = at} k e =
    let answer : Result (Header × Cursor) _ = okay (sized bd c.at t n shortest, c) in
    elim (chosen (is_over bd.end c.at n) (bad (stop Overrun c.at))
    (cond (ltb c.limit (c.at + n)) (bad (stop TooLarge c.at))
    (cond (bd.strict && not shortest) (bad (stop SignedAttrsNotDer c.at)) answer)) (bad (stop reason at)) e) [
      | inl x ↦ (stop_place x.1, subst (HeaderSays c.limit at t l) (stop_reason x.1) tt)
      | inr x ↦ elim (chosen (ltb c.limit (c.at + n)) (bad (stop TooLarge c.at))
          (cond (bd.strict && not shortest) (bad (stop SignedAttrsNotDer c.at)) answer) (bad (stop reason at)) x.1) [
            | inl y ↦
                let over : c.limit < at + n = subst (λ m. c.limit < m + n) (stop_place y.1) (ltb-true c.limit (c.at + n) y.0) in
                (stop_place y.1, subst (HeaderSays c.limit at t l) (stop_reason y.1) (n, k, over))
            | inr y ↦ elim (chosen (bd.strict && not shortest) (bad (stop SignedAttrsNotDer c.at)) answer (bad (stop reason at)) y.1) [
              | inl z ↦ (stop_place z.1, subst (HeaderSays c.limit at t l) (stop_reason z.1) tt)
              | inr z ↦ absurd (let w = z.1 in cc)
            ]
          ]
    ]

-- reading stopped behind length octets that begin with f
record Behind (t f : ℕ) (c : Cursor) (reason : Reason) (at : ℕ) : Type 0 where
  more : List ℕ
  after : Cursor
  moves : Moves c more after
  here : after.at ≡ at
  says : HeaderSays c.limit at t (f ∷ more) reason

behind_first : {t f : ℕ} {c : Cursor} {reason : Reason} {at : ℕ} → c.at ≡ at → HeaderSays c.limit at t (f ∷ []) reason → Behind t f c reason at
behind_first {c = c} e s = record { more = []; after = c; moves = moves_nothing c; here = e; says = s }

long_is : (f : ℕ) (bs : List ℕ) → 128 < f → f ≤ 136 → length bs ≡ f - 128 → AreOctets bs → IsLength (f ∷ bs) (big_endian bs)
long_is f [] a b l o = absurd (omega arith)
long_is f (x ∷ xs) a b l o = let g : 0x81 + length xs ≡ f = omega arith in subst (λ y. IsLength (y ∷ x ∷ xs) (big_endian (x ∷ xs))) g (long (omega arith) o)

after_ties : (bd : Bound) (t f : ℕ) (c : Cursor) {reason : Reason} {at : ℕ} → IsOctet f → after_first bd t f c ≡ Err (stop reason at)
    → NeedsNoOctets c.limit at reason ⊎ Behind t f c reason at
unfolding after_first long_of indefinite_length_of
after_ties bd t f c {reason = reason} {at = at} o e = elim (branch (ltb f 128) (definite_length_of bd t true f)
    (cond (eqb f 128) (indefinite_length_of bd t) (cond (eqb f 255) (refuse LengthReserved)
    (cond (ltb 136 f) (refuse LengthTooLong) (long_of bd t (f - 128))))) c (bad (stop reason at)) e) [
      | inl x ↦ let s = sized_says bd t f true c (f ∷ []) (short (ltb-true f 128 x.0)) x.1 in inr (behind_first s.0 s.1)
      | inr x ↦ elim (branch (eqb f 128) (indefinite_length_of bd t)
          (cond (eqb f 255) (refuse LengthReserved) (cond (ltb 136 f) (refuse LengthTooLong) (long_of bd t (f - 128)))) c (bad (stop reason at)) x.1) [
            | inl y ↦ elim (branch (eqb ((t / 32) % 2) 0) (refuse IndefinitePrimitive)
                (cond bd.strict (refuse SignedAttrsNotDer) (give (opened bd t))) c (bad (stop reason at)) y.1) [
                  | inl z ↦
                      let none : (t / 32) % 2 ≡ 0 = eqb-true ((t / 32) % 2) 0 z.0 in
                      let only : f ∷ [] ≡ 0x80 ∷ [] = ap (λ b. b ∷ []) (eqb-true f 128 y.0) in
                      inr (behind_first (stop_place z.1) (subst (HeaderSays c.limit at t (f ∷ [])) (stop_reason z.1) (only, λ k. omega arith)))
                  | inr z ↦ elim (branch bd.strict (refuse SignedAttrsNotDer) (give (opened bd t)) c (bad (stop reason at)) z.1) [
                    | inl w ↦ inr (behind_first (stop_place w.1) (subst (HeaderSays c.limit at t (f ∷ [])) (stop_reason w.1) tt))
                    | inr w ↦ absurd (let k = w.1 in cc)
                  ]
                ]
            | inr y ↦ elim (branch (eqb f 255) (refuse LengthReserved) (cond (ltb 136 f) (refuse LengthTooLong) (long_of bd t (f - 128))) c
                (bad (stop reason at)) y.1) [
                  | inl z ↦ inr (behind_first (stop_place z.1) (subst (HeaderSays c.limit at t (f ∷ [])) (stop_reason z.1) (ap (λ b. b ∷ []) (eqb-true f 255 z.0))))
                  | inr z ↦ elim (branch (ltb 136 f) (refuse LengthTooLong) (long_of bd t (f - 128)) c (bad (stop reason at)) z.1) [
                    | inl w ↦
                        let above : 136 < f = ltb-true 136 f w.0 in
                        let apart : f ≢ 255 = not_eq f 255 z.0 in
                        inr (behind_first (stop_place w.1) (subst (HeaderSays c.limit at t (f ∷ [])) (stop_reason w.1) (f, refl, omega arith, omega arith)))
                    | inr w ↦
                        let above : 128 ≤ f = ltb-false f 128 x.0 in
                        let apart : f ≢ 128 = not_eq f 128 y.0 in
                        let below : f ≤ 136 = ltb-false 136 f w.0 in
                        elim (bind_err (number_of bd.end (f - 128) 0) _ c w.1) [
                          | inl u ↦ inl (number_lacks (f - 128) 0 bd.end c u)
                          | inr u ↦
                              let p = number_sound (f - 128) 0 bd.end c u.1 u.0 u.2 in
                              let value : big_endian p.0 ≡ u.0 = omega (arith, p.4) in
                              let k : IsLength (f ∷ p.0) u.0 = subst (IsLength (f ∷ p.0)) value (long_is f p.0 (omega arith) below p.3 p.2) in
                              let s = sized_says bd t u.0 (is_shortest (f - 128) u.0) u.1 (f ∷ p.0) k u.3 in
                              inr (record { more = p.0; after = u.1; moves = p.1; here = s.0; says = subst (λ n. HeaderSays n at t (f ∷ p.0) reason) p.1.limit s.1 })
                        ]
                  ]
                ]
          ]
    ]

-- Readers.

pub header_ties : (bd : Bound) (c : Cursor) {reason : Reason} {at : ℕ} → header_of bd c ≡ Err (stop reason at) → Ties c reason at
unfolding header_of
header_ties bd c {reason = reason} {at = at} e = elim (bind_err (octet_of bd.end) _ c e) [
  | inl x ↦ inl (octet_lacks bd.end c x)
  | inr s ↦
      let one = octet_sound bd.end c s.1 s.0 s.2 in
      elim (bind_err (rest_of_tag bd.end s.0) _ s.1 s.3) [
        | inl x ↦ inl (lacks_later reason at one.moves (tag_part_lacks bd.end s.0 s.1 x))
        | inr t ↦
            let two = tag_part_sound bd.end s.0 s.1 t.1 t.0 one.octet t.2 in
            let prefix = moves_then one.moves two.1 in
            elim (bind_err (octet_of bd.end) _ t.1 t.3) [
              | inl x ↦ inl (lacks_later reason at prefix (octet_lacks bd.end t.1 x))
              | inr u ↦
                  let three = octet_sound bd.end t.1 u.1 u.0 u.2 in
                  let limit : u.1.limit ≡ c.limit = three.moves.limit ∙ prefix.limit in
                  elim (after_ties bd s.0 u.0 u.1 three.octet u.3) [
                    | inl x ↦ inl (subst (λ n. NeedsNoOctets n at reason) limit x)
                    | inr y ↦ inr (record {
                      identifier = s.0 ∷ two.0;
                      sizes = u.0 ∷ y.more;
                      first = s.0;
                      after = y.after;
                      moves = moves_then prefix (moves_then three.moves y.moves);
                      here = y.here;
                      is_identifier = two.2;
                      says = subst (λ n. HeaderSays n at s.0 (u.0 ∷ y.more) reason) limit y.says;
                    })
                  ]
            ]
      ]
]

-- another element than the one that is wanted
pub unexpected : {A : Type 0} {c : Cursor} {m : ℕ} {reason : Reason} {at : ℕ} → bad {A = A} (stop UnexpectedElement m) ≡ bad (stop reason at) → Ties c reason at
unexpected {c = c} {at = at} e = inl (subst (NeedsNoOctets c.limit at) (stop_reason e) tt)

pub expected_ties : (bd : Bound) (c : Cursor) {reason : Reason} {at : ℕ} → expected_of bd c ≡ Err (stop reason at) → Ties c reason at
unfolding expected_of
expected_ties bd c {reason = reason} {at = at} e = elim (chosen (ends_here bd c.at) (bad (stop UnexpectedElement c.at)) (header_of bd c)
    (bad (stop reason at)) e) [
      | inl x ↦ unexpected x.1
      | inr x ↦ header_ties bd c x.1
    ]

pub close_ties : (bd : Bound) (c : Cursor) {reason : Reason} {at : ℕ} → close_of bd c ≡ Err (stop reason at) → Ties c reason at
unfolding close_of end_in
close_ties bd c {reason = reason} {at = at} e = elim (chosen (ends_here bd c.at) (okay (tt, c)) (end_in bd c) (bad (stop reason at)) e) [
  | inl x ↦ absurd (let k = x.1 in cc)
  | inr x ↦ elim (bind_err (expected_of bd) _ c x.1) [
    | inl y ↦ expected_ties bd c y
    | inr y ↦ elim (branch (bd.indefinite && is_zeros y.0) (give tt) (refuse UnexpectedElement) y.1 (bad (stop reason at)) y.3) [
      | inl z ↦ absurd (let k = z.1 in cc)
      | inr z ↦ unexpected z.1
    ]
  ]
]

again_err : {A : Type 0} (c : Cursor) (r : Result (A × Cursor) _) {reason : Reason} {at : ℕ} → again c r ≡ Err (stop reason at) → r ≡ Err (stop reason at)
again_err c (Ok p) e = absurd cc
again_err c (Err g) e = cc

pub peek_ties : (bd : Bound) (c : Cursor) {reason : Reason} {at : ℕ} → peek_of bd c ≡ Err (stop reason at) → Ties c reason at
unfolding peek_of look_of
peek_ties bd c {reason = reason} {at = at} e = elim (chosen (ends_here bd c.at) (okay (None, c))
    ((look_of bd.end >>= λ b. give (unless_end bd.indefinite (Some b))) c) (bad (stop reason at)) e) [
      | inl x ↦ absurd (let k = x.1 in cc)
      | inr x ↦ elim (bind_err (look_of bd.end) _ c x.1) [
        | inl y ↦ inl (octet_lacks bd.end c (again_err c (octet_of bd.end c) y))
        | inr y ↦ absurd (let k = y.3 in cc)
      ]
    ]

pub enter_ties : (id : ℕ) (bd : Bound) (c : Cursor) {reason : Reason} {at : ℕ} → enter_of id bd c ≡ Err (stop reason at) → Ties c reason at
unfolding enter_of
enter_ties id bd c {reason = reason} {at = at} e = elim (bind_err (expected_of bd) _ c e) [
  | inl x ↦ expected_ties bd c x
  | inr s ↦ elim (branch (eqb s.0.ident id) (give s.0.inner) (refuse UnexpectedElement) s.1 (bad (stop reason at)) s.3) [
    | inl x ↦ absurd (let k = x.1 in cc)
    | inr x ↦ unexpected x.1
  ]
]

pub counted_lacks : (inner : Bound) (len : Option ℕ) (c : Cursor) {reason : Reason} {at : ℕ}
    → counted_of inner len c ≡ Err (stop reason at) → NeedsNoOctets c.limit at reason
counted_lacks inner None c {at = at} e = subst (NeedsNoOctets c.limit at) (stop_reason {A = List ℕ} {e = UnexpectedElement} e) tt
counted_lacks inner (Some n) c e = octets_lacks inner.end n c e

pub primitive_ties : (id : ℕ) (bd : Bound) (c : Cursor) {reason : Reason} {at : ℕ} → primitive_of id bd c ≡ Err (stop reason at) → Ties c reason at
unfolding primitive_of
primitive_ties id bd c {reason = reason} {at = at} e = elim (bind_err (expected_of bd) _ c e) [
  | inl x ↦ expected_ties bd c x
  | inr s ↦ elim (branch (eqb s.0.ident id) (counted_of s.0.inner s.0.len) (refuse UnexpectedElement) s.1 (bad (stop reason at)) s.3) [
    | inl x ↦ let k = header_sound bd c s.1 s.0 s.2 in inl (lacks_later reason at k.moves (counted_lacks s.0.inner s.0.len s.1 x.1))
    | inr x ↦ unexpected x.1
  ]
]

-- behind what was read well, the last header
pub at_once : {paths : Bool} {c : Cursor} {reason : Reason} {at : ℕ} → Ties c reason at → TiesLast paths c reason at
at_once {paths = paths} {c = c} t = record { prefix = []; path = path_if paths start; last = c; moves = moves_nothing c; ties = t }

-- Calls.

-- old, where b was consumed too
abbrev later : State → List ℕ → State
later old b = record old { done = old.done ++ b }

header_taken :
    {A : Type 0} {f next : Reader A} {old new : State} (p : Simulates f old next new) (b : List ℕ) (m : Cursor) (reason : Reason)
    → KeepsNoneAhead old new → Moves (cursor old (p.more ++ [])) b m → Lasts m reason (length new.done)
    → HeaderTaken (later old b) new (λ t l. HeaderSays old.limit (length new.done) t l reason)
header_taken {old = old} {new = new} p b m reason keeps q y =
    let took = p.took in
    let all : List ℕ = b ++ (y.identifier ++ y.sizes) in
    let whole = moves_then q y.moves in
    let count : length old.done + length all ≡ length new.done = sym whole.at ∙ y.here in
    let same =
    same_prefixes took.read all (as_list new.ahead ++ []) y.after.rest
    (omega (arith, ap length took.done, length-append old.done took.read, count))
    (sym (append_assoc took.read (as_list new.ahead) []) ∙ ap (λ t. t ++ []) (sym took.order)
    ∙ append_assoc (as_list old.ahead) p.more [] ∙ whole.rest) in
    record {
      identifier = y.identifier;
      sizes = y.sizes;
      first = y.first;
      taken = took.done ∙ ap (λ t. old.done ++ t) same.0 ∙ sym (append_assoc old.done b (y.identifier ++ y.sizes));
      none_kept = keeps (omega (arith, count, length-append b (y.identifier ++ y.sizes), length-append y.identifier y.sizes, identifier_some y.is_identifier));
      is_identifier = y.is_identifier;
      says = subst (λ n. HeaderSays n (length new.done) y.first y.sizes reason) q.limit y.says;
    }

pub tied : {A : Type 0} {f next : Reader A} {old new : State} (p : Simulates f old next new) (reason : Reason) (at : ℕ)
    → KeepsNoneAhead old new → (b : List ℕ) (m : Cursor) → Moves (cursor old (p.more ++ [])) b m → Ties m reason (length new.done)
    → Tied (later old b) new (faults.Refused reason at)
tied {new = new} p reason at k b m q (inl x) = inl (subst (λ n. NeedsNoOctets n (length new.done) reason) q.limit x)
tied p reason at k b m q (inr y) = inr (header_taken p b m reason k q y)

pub tied_last_from : {A V : Type 0} (view : State → V → A) (f : Reader A) (old new : State) (r : Result V Fault)
    → ((c : Cursor) (reason : Reason) (at : ℕ) → f c ≡ Err (stop reason at) → TiesLast true c reason at) → Refines view f old new r
    → KeepsNoneAhead old new → IfErr r (TiedLast true old new)
tied_last_from view f old new (Ok v) ties g k = tt
tied_last_from view f old new (Err (faults.Refused reason at)) ties g k =
    let t = ties (cursor old (g.reaches.more ++ [])) reason (length new.done) (g.reaches.refines [] ∙ g.explained.2 [] (λ _. refl)) in
    (t.prefix, t.path, tied g.reaches reason at k t.prefix t.last t.moves t.ties)
tied_last_from view f old new (Err faults.Read) ties g k = ([], start, tt)
tied_last_from view f old new (Err (faults.Write written)) ties g k = ([], start, tt)
tied_last_from view f old new (Err faults.OutOfMemory) ties g k = ([], start, tt)

-- the octets consumed and the limit are all that is said of the state before
tied_same : (old mid new : State) (e : Fault) → mid.done ≡ old.done → mid.limit ≡ old.limit → Tied mid new e → Tied old new e
tied_same old mid new e d l t = since e t
  where
    same : {P : ℕ → List ℕ → Type 0} → HeaderTaken mid new P → HeaderTaken old new P
    same h =
        record {
          identifier = h.identifier;
          sizes = h.sizes;
          first = h.first;
          taken = h.taken ∙ ap (λ x. x ++ (h.identifier ++ h.sizes)) d;
          none_kept = h.none_kept;
          is_identifier = h.is_identifier;
          says = h.says;
        }

    since : (e : Fault) → Tied mid new e → Tied old new e
    since (faults.Refused reason at) (inl x) = inl (subst (λ n. NeedsNoOctets n (length new.done) reason) l x)
    since (faults.Refused reason at) (inr y) =
        inr (subst (λ n. HeaderTaken old new (λ t o. HeaderSays n (length new.done) t o reason)) l (same y))
    since faults.Read y = tt
    since (faults.Write written) y = tt
    since faults.OutOfMemory y = tt

-- the header is the first that the call took
pub tied_from : {A V : Type 0} (view : State → V → A) (f : Reader A) (old new : State) (r : Result V Fault)
    → ((c : Cursor) (reason : Reason) (at : ℕ) → f c ≡ Err (stop reason at) → Ties c reason at) → Refines view f old new r
    → KeepsNoneAhead old new → IfErr r (Tied old new)
tied_from view f old new (Ok v) ties g k = tt
tied_from view f old new (Err (faults.Refused reason at)) ties g k =
    let c = cursor old (g.reaches.more ++ []) in
    let t = ties c reason (length new.done) (g.reaches.refines [] ∙ g.explained.2 [] (λ _. refl)) in
    tied_same old (later old []) new (faults.Refused reason at) (append-nil old.done) refl (tied g.reaches reason at k [] c (moves_nothing c) t)
tied_from view f old new (Err faults.Read) ties g k = tt
tied_from view f old new (Err (faults.Write written)) ties g k = tt
tied_from view f old new (Err faults.OutOfMemory) ties g k = tt
