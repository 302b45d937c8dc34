-- What fields that must be there give.
use Rattle.std.proofs.Common.{◌≡◌, ◌≢◌, ℕ, zero, suc, ◌+◌, ◌<◌, ◌≤◌, if◌then◌else◌, eqb, List, [], ◌∷◌, ◌++◌, length, Some, None, Result, Ok, Err, refl, sym, ap, subst, ◌∙◌, arith}
use Rattle.cms_tlv.specs.declared.fault.Fault.{Fault}
use Rattle.cms_tlv.specs.declared.fault.Reason.TheVariants.{UnexpectedElement}
use Rattle.cms_tlv.specs.declared.bound.Bound.{Bound}
use Rattle.cms_tlv.specs.declared.bound.Header.{Header}
use Rattle.cms_tlv.specs.declared.span.Span.{Span}
use Rattle.cms_tlv.specs.State.{State}
use Rattle.cms_tlv.specs.Reading.{Cursor, Stop, Reader, ◌>>=◌, then_read, give, refuse, octet_of, octets_of, expected_of, enter_of, enter_next, primitive_of, counted_of}
use Rattle.cms_tlv.specs.Refines.{cursor, RefinesWithValue, Refines, plain, seen}
use Rattle.cms_tlv.proofs.Inverse.{eqb_yes, eqb_no, leb_no}
use Rattle.cms_tlv.proofs.OctetReads.{octet_sound}
use Rattle.cms_tlv.proofs.HeaderReads.{HasLength, header_sound}
use Rattle.cms_tlv.proofs.Bind.{reaches_same, gives_then}

pub enter_bind : (id : ℕ) (bd : Bound) → enter_of id bd ≡ (expected_of bd >>= enter_next id)
unfolding enter_of enter_next
enter_bind id bd = refl

pub enter_same : (id : ℕ) (h : Header) → h.ident ≡ id → enter_next id h ≡ give h.inner
unfolding enter_next
enter_same id h e = let x = eqb_yes h.ident id e in rw x refl

pub enter_other : (id : ℕ) (h : Header) → h.ident ≢ id → enter_next id h ≡ refuse UnexpectedElement
unfolding enter_next
enter_other id h n = let x = eqb_no h.ident id n in rw x refl

-- after the header of a primitive element
unfoldable pub primitive_next : ℕ → Header → Reader (List ℕ)
primitive_next id h = if eqb h.ident id then counted_of h.inner h.len else refuse UnexpectedElement

pub primitive_bind : (id : ℕ) (bd : Bound) → primitive_of id bd ≡ (expected_of bd >>= primitive_next id)
unfolding primitive_of primitive_next
primitive_bind id bd = refl

pub primitive_other : (id : ℕ) (h : Header) → h.ident ≢ id → primitive_next id h ≡ refuse UnexpectedElement
unfolding primitive_next
primitive_other id h n = let x = eqb_no h.ident id n in rw x refl

pub primitive_none : (id : ℕ) (h : Header) → h.ident ≡ id → h.len ≡ None → primitive_next id h ≡ refuse UnexpectedElement
unfolding primitive_next
primitive_none id h e l = let x = eqb_yes h.ident id e in rw (x, l) refl

pub primitive_some : (id n : ℕ) (h : Header) → h.ident ≡ id → h.len ≡ Some n → primitive_next id h ≡ octets_of h.inner.end n
unfolding primitive_next
primitive_some id n h e l = let x = eqb_yes h.ident id e in rw (x, l) refl

-- Octets before an end are read as where there is none.
octet_within : (e : ℕ) (c : Cursor) → c.at < e → octet_of (Some e) c ≡ octet_of None c
unfolding octet_of
octet_within e c l = let x = leb_no e c.at l in rw x refl

-- behind an octet, two readers that agree there give the same
read_alike : (f g : Reader (List ℕ)) (c : Cursor) → ((d : Cursor) → d.at ≡ c.at + 1 → f d ≡ g d) → (r : Result (ℕ × Cursor) Stop)
    → octet_of None c ≡ r → then_read r (λ b. f >>= λ bs. give (b ∷ bs)) ≡ then_read r (λ b. g >>= λ bs. give (b ∷ bs))
unfolding ◌>>=◌
read_alike f g c k (Ok p) q = let m = octet_sound None c p.1 p.0 q in ap (λ r. then_read r (λ bs. give (p.0 ∷ bs))) (k p.1 (omega (arith, m.moves.at)))
read_alike f g c k (Err x) q = refl

octets_within : (e n : ℕ) (c : Cursor) → c.at + n ≤ e → octets_of (Some e) n c ≡ octets_of None n c
unfolding ◌>>=◌ octets_of
octets_within e zero c l = refl
octets_within e (suc n) c l =
    ap (λ r. then_read r (λ b. octets_of (Some e) n >>= λ bs. give (b ∷ bs))) (octet_within e c (omega arith))
    ∙ read_alike (octets_of (Some e) n) (octets_of None n) c (λ d p. octets_within e n d (omega (arith, p))) (octet_of None c) refl

-- the end that a definite header gives
ends_at : (bd : Bound) (at limit n : ℕ) (sizes : List ℕ) (h : Header) → h.len ≡ Some n → HasLength bd at limit sizes h h.len → h.inner.end ≡ Some (at + n)
ends_at bd at limit n sizes h l k = let m : HasLength bd at limit sizes h (Some n) = subst (HasLength bd at limit sizes h) l k in
    ap (λ (x : Header). x.inner.end) (sym m.3)

pub contents_within : (bd : Bound) (n : ℕ) (h : Header) (a b c : State) (r : Result Span Fault)
    → RefinesWithValue plain (expected_of bd) a b h → h.len ≡ Some n → Refines seen (octets_of None n) b c r
    → Refines seen (octets_of h.inner.end n) b c r
contents_within bd n h a b c r g l p =
    let s = header_sound bd (cursor a (g.reaches.more ++ [])) (cursor b []) h (g.reaches.refines []) in
    let e : h.inner.end ≡ Some (length b.done + n) = ends_at bd (length b.done) b.limit n s.sizes h l s.has in
    subst (λ x. Refines seen (octets_of x n) b c r) (sym e) (gives_then seen c r
    (reaches_same b (λ ys. octets_within (length b.done + n) n (cursor b ys) (omega arith))) p)
