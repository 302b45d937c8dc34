-- One octet, read and spelled.
use Rattle.std.proofs.Common.{◌≡◌, inl, inr, ℕ, zero, suc, ◌+◌, ◌<◌, ◌≤◌, false, cond, ltb, leb, List, [], ◌∷◌, length, Option, Some, None, Ok, Err, refl, sym, ap, subst, ◌∙◌, arith}
use Rattle.std.specs.Prelude.{IfSome}
use Rattle.std.proofs.lemmas.Bool.{ltb-true, leb-false}
use Rattle.cms_tlv.specs.declared.fault.Reason.TheVariants.{Truncated, TooLarge, Overrun, UnexpectedElement}
use Rattle.cms_tlv.specs.Reading.{Cursor, place, stop, is_past, first_octet, octet_of, octets_of}
use Rattle.cms_tlv.specs.Headers.{IsOctet, AreOctets}
use Rattle.cms_tlv.specs.Clauses.{Room}
use Rattle.cms_tlv.proofs.Inverse.{okay, bad, ok_value, ok_place, passed, other, chosen, bind_ok, bind_err, bound_again, ltb_yes, leb_no}
use Rattle.cms_tlv.proofs.ReadingLaws.{Moves, moves_nothing, moves_then, midway, moves_prefix, moves_suffix, moved, room_less, room_from}

-- one octet more before the end
open_end : (end : Option ℕ) (at : ℕ) → is_past end at ≡ false → IfSome end (λ e. at + 1 ≤ e)
open_end None at h = tt
open_end (Some e) at h = omega (arith, leb-false e at h)

pub not_past : (end : Option ℕ) (at : ℕ) → IfSome end (λ e. at + 1 ≤ e) → is_past end at ≡ false
not_past None at h = refl
not_past (Some e) at h = leb_no e at (omega arith)

-- what is known where an octet was read
pub record OneRead (end : Option ℕ) (c : Cursor) (b : ℕ) (d : Cursor) : Type 0 where
  pub moves : Moves c (b ∷ []) d
  pub octet : IsOctet b
  pub room : Room end c.limit c.at 1

first_ok : (at limit : ℕ) (xs : List ℕ) (b : ℕ) (d : Cursor) → first_octet at limit xs ≡ Ok (b, d)
    → (xs ≡ b ∷ d.rest) × (d.at ≡ at + 1) × (d.limit ≡ limit) × (b < 256)
first_ok at limit [] b d e = absurd cc
first_ok at limit (x ∷ xs) b d e = elim (chosen (ltb x 256) (okay (x, place (at + 1) limit xs)) (bad (stop UnexpectedElement at)) (okay (b, d)) e) [
  | inl h ↦
      let v : x ≡ b = ok_value h.1 in
      let p : place (at + 1) limit xs ≡ d = ok_place h.1 in
      (λ i. v i ∷ (p i).rest, ap (λ q. q.at) (sym p), ap (λ q. q.limit) (sym p), subst (λ n. n < 256) v (ltb-true x 256 h.0))
  | inr h ↦ absurd (let k = h.1 in cc)
]

pub octet_sound : (end : Option ℕ) (c d : Cursor) (b : ℕ) → octet_of end c ≡ Ok (b, d) → OneRead end c b d
unfolding octet_of
octet_sound end c d b e =
    let g = passed (is_past end c.at) (stop Overrun c.at) (cond (leb c.limit c.at) (bad (stop TooLarge c.at)) (first_octet c.at c.limit c.rest)) b d e in
    let k = passed (leb c.limit c.at) (stop TooLarge c.at) (first_octet c.at c.limit c.rest) b d g.1 in
    let f = first_ok c.at c.limit c.rest b d k.1 in
    record { moves = record { rest = f.0; at = f.1; limit = f.2 }; octet = f.3; room = (open_end end c.at g.0, omega (arith, leb-false c.limit c.at k.0)) }

pub opens : (end : Option ℕ) (c : Cursor) → Room end c.limit c.at 1 → octet_of end c ≡ first_octet c.at c.limit c.rest
unfolding octet_of
opens end c r = let p = not_past end c.at r.0 in let q = leb_no c.limit c.at (omega (arith, r.1)) in rw (p, q) refl

first_reads : (at limit b : ℕ) (rest : List ℕ) → b < 256 → first_octet at limit (b ∷ rest) ≡ okay (b, place (at + 1) limit rest)
first_reads at limit b rest h = let p = ltb_yes b 256 h in rw p refl

pub octet_complete : (end : Option ℕ) (c d : Cursor) (b : ℕ) → Moves c (b ∷ []) d → IsOctet b → Room end c.limit c.at 1 → octet_of end c ≡ Ok (b, d)
octet_complete end c d b p o r =
    let to : place (c.at + 1) c.limit d.rest ≡ d = moved (record { rest = p.rest; at = refl; limit = refl }) p refl in
    opens end c r ∙ ap (first_octet c.at c.limit) p.rest ∙ first_reads c.at c.limit b d.rest o ∙ ap (λ q. okay (b, q)) to

first_cut : (at limit : ℕ) (xs : List ℕ) {stopped : ℕ} → first_octet at limit xs ≡ Err (stop Truncated stopped) → xs ≡ []
first_cut at limit [] e = refl
first_cut at limit (x ∷ xs) {stopped = stopped} e = elim (chosen (ltb x 256) (okay (x, place (at + 1) limit xs))
    (bad (stop UnexpectedElement at)) (bad (stop Truncated stopped)) e) [
      | inl h ↦ absurd (let k = h.1 in cc)
      | inr h ↦ absurd (let k = h.1 in cc)
    ]

pub octet_cut : (end : Option ℕ) (c : Cursor) {stopped : ℕ} → octet_of end c ≡ Err (stop Truncated stopped) → (c.rest ≡ []) × Room end c.limit c.at 1
unfolding octet_of
octet_cut end c {stopped = stopped} e =
    let g =
    other (is_past end c.at) (stop Overrun c.at) (stop Truncated stopped)
    (cond (leb c.limit c.at) (bad {A = ℕ} (stop TooLarge c.at)) (first_octet c.at c.limit c.rest)) (λ z. absurd cc) e in
    let k = other (leb c.limit c.at) (stop TooLarge c.at) (stop Truncated stopped) (first_octet c.at c.limit c.rest) (λ z. absurd cc) g.1 in
    (first_cut c.at c.limit c.rest k.1, (open_end end c.at g.0, omega (arith, leb-false c.limit c.at k.0)))

pub nil_length : {xs : List ℕ} → xs ≡ [] → length xs ≡ 0
nil_length e = ap length e

-- several octets
pub octets_sound : (end : Option ℕ) (n : ℕ) (c d : Cursor) (bs : List ℕ) → octets_of end n c ≡ Ok (bs, d) → Moves c bs d × AreOctets bs × (length bs ≡ n)
unfolding octets_of
octets_sound end zero c d bs e =
    let v : [] ≡ bs = ok_value e in
    let p : c ≡ d = ok_place e in
    (subst (λ xs. Moves c xs d) v (subst (λ q. Moves c [] q) p (moves_nothing c)), subst AreOctets v tt, ap length (sym v))
octets_sound end (suc n) c d bs e =
    let s = bind_ok (octet_of end) _ c e in
    let one = octet_sound end c s.1 s.0 s.2 in
    let t = bind_ok (octets_of end n) _ s.1 s.3 in
    let two = octets_sound end n s.1 t.1 t.0 t.2 in
    let v : s.0 ∷ t.0 ≡ bs = ok_value t.3 in
    let p : t.1 ≡ d = ok_place t.3 in (
      subst (λ xs. Moves c xs d) v (subst (λ q. Moves c (s.0 ∷ t.0) q) p (moves_then one.moves two.0)),
      subst AreOctets v (one.octet, two.1),
      ap length (sym v) ∙ ap suc two.2,
    )

pub octets_complete : (end : Option ℕ) (bs : List ℕ) (c d : Cursor) → Moves c bs d → AreOctets bs → Room end c.limit c.at (length bs)
    → octets_of end (length bs) c ≡ Ok (bs, d)
unfolding octets_of
octets_complete end [] c d p o r = ap (λ q. okay ([], q)) (moved (moves_nothing c) p p.rest)
octets_complete end (b ∷ bs) c d p o r =
    let mid = midway c (b ∷ []) bs d in
    let one = octet_complete end c mid b (moves_prefix (b ∷ []) bs p) o.0 (room_less end c.limit c.at (suc (length bs)) 1 (omega arith) r) in
    let two =
    octets_complete end bs mid d (moves_suffix (b ∷ []) bs p) o.1
    (room_from end c.limit c.at c.limit (c.at + 1) (suc (length bs)) (length bs) refl (omega arith) r) in
    bound_again (octet_of end) _ c b mid one ∙ bound_again (octets_of end (length bs)) _ mid bs d two

pub octets_cut : (end : Option ℕ) (n : ℕ) (c : Cursor) {stopped : ℕ} → octets_of end n c ≡ Err (stop Truncated stopped)
    → (length c.rest + 1 ≤ n) × Room end c.limit c.at (length c.rest + 1)
unfolding octets_of
octets_cut end zero c e = absurd cc
octets_cut end (suc n) c e = elim (bind_err (octet_of end) _ c e) [
  | inl x ↦ let y = octet_cut end c x in let l = nil_length y.0 in (omega (arith, l), room_less end c.limit c.at 1 (length c.rest + 1) (omega (arith, l)) y.1)
  | inr x ↦
      let one = octet_sound end c x.1 x.0 x.2 in
      elim (bind_err (octets_of end n) _ x.1 x.3) [
        | inl y ↦
            let two = octets_cut end n x.1 y in
            let l : length c.rest ≡ suc (length x.1.rest) = ap length one.moves.rest in (
              omega (arith, l, two.0),
              room_from end x.1.limit x.1.at c.limit c.at (length x.1.rest + 1) (length c.rest + 1) one.moves.limit
                  (omega (arith, l, one.moves.at)) two.1,
            )
        | inr y ↦ absurd (let k = y.3 in cc)
      ]
]
