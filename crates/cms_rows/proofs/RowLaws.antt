-- Rows, put together from those of parts.
use Rattle.std.proofs.Common.{◌≡◌, ◌⊎◌, ◌≢◌, ℕ, ◌+◌, true, false, ◌==◌, List, [], ◌∷◌, ◌++◌, length, map, refl, sym, ap, ◌∙◌, subst, append_assoc, arith}
use mathlib.Core.Logic.{inl, inr}
use Rattle.std.specs.List.{All, flat_map}
use Rattle.std.proofs.lemmas.List.{append-nil, map-append, length-append}
use Rattle.std.proofs.lemmas.List.Elements.{All-nil, All-cons, All-push}
use Rattle.std.proofs.lemmas.Grind.{flat_map-append}
use Rattle.cms_tlv.specs.declared.span.Span.{Span}
use Rattle.cms_tlv.specs.Spans.{octets_in}
use Rattle.cms_fields.specs.Received.{spanned_in}
use Rattle.cms_tlv.specs.Spelling.{join}
use Rattle.cms_scalars.specs.Bits.{bits_of_contents}
use Rattle.cms_rows.specs.Rows.{Entry, entry, entry_of_bits, IsShown, named, is_string, IsOf, AreOf, Show, AddsRows}
use Rattle.cms_rows.specs.declared.row.Row.{Row}

pub adds_none : {k : List ℕ} (x : List Row) → AddsRows k [] x x
adds_none x = record { rows = []; added = sym (append-nil x); show = refl }

show_then : (k : List ℕ) (es fs : List Entry) (a b : List Row) → Show k es a → Show k fs b → Show k (es ++ fs) (a ++ b)
show_then k [] fs a b p q = subst (λ z. Show k fs (z ++ b)) (sym p) q
show_then k (e ∷ es) fs a b p q = (p.0, p.1 ++ b, ap (λ z. z ++ b) p.2 ∙ append_assoc p.0 p.1 b, p.3, show_then k es fs p.1 b p.4 q)

pub adds_then : {k : List ℕ} {es fs : List Entry} {x y z : List Row} → AddsRows k es x y → AddsRows k fs y z → AddsRows k (es ++ fs) x z
adds_then {k} {es} {fs} {x} {y} {z} p q = record {
  rows = p.rows ++ q.rows;
  added = q.added ∙ (ap (λ t. t ++ q.rows) p.added ∙ append_assoc x p.rows q.rows);
  show = show_then k es fs p.rows q.rows p.show q.show;
}

shows_one : (k : List ℕ) (kind level : ℕ) (o : List ℕ ⊎ List ℕ) (r : Row) → IsOf k kind level r → IsShown (named k r) o
    → Show k ((kind, (level, o)) ∷ []) (r ∷ [])
shows_one k kind level o r is names = (
  r ∷ [],
  [],
  refl,
  record {
    some = λ e. cc;
    one = λ h. refl;
    each = All-cons (IsOf k kind level) r [] is (All-nil (IsOf k kind level));
    octets = subst (λ b. IsShown b o) (sym (append-nil (named k r))) names;
  },
  refl,
)

pub adds_one : {k : List ℕ} {kind level : ℕ} {octets : List ℕ} (r : Row) {x y : List Row} → IsOf k kind level r → named k r ≡ octets
    → y ≡ x ++ r ∷ [] → AddsRows k (entry kind level octets) x y
adds_one {k} {kind} {level} {octets} r {x} {y} is names e = record { rows = r ∷ []; added = e; show = shows_one k kind level (inl octets) r is names }

pub adds_bits : {k : List ℕ} {kind level : ℕ} {b : List ℕ} (r : Row) {x y : List Row} → IsOf k kind level r → named k r ≡ b
    → y ≡ x ++ r ∷ [] → AddsRows k (entry_of_bits kind level (bits_of_contents b)) x y
adds_bits {k} {kind} {level} {b} r {x} {y} is names e =
    record { rows = r ∷ []; added = e; show = shows_one k kind level (inr (bits_of_contents b)) r is (ap bits_of_contents names) }

-- to none
pub shown_alone : {k : List ℕ} {es : List Entry} {old new : List Row} → old ≡ [] → AddsRows k es old new → Show k es new
shown_alone {k} {es} {old} {new} none h = subst (Show k es) (sym (h.added ∙ ap (λ x. x ++ h.rows) none)) h.show

-- the members of a set, one more
pub adds_member : {V : Type 0} (k : List ℕ) (f : V → List Entry) (vs : List V) (v : V) {x y z : List Row} → AddsRows k (flat_map f vs) x y
    → AddsRows k (f v) y z → AddsRows k (flat_map f (vs ++ v ∷ [])) x z
adds_member k f vs v {x} {y} {z} p q =
    subst (λ es. AddsRows k es x z) (sym (flat_map-append f vs (v ∷ []) ∙ ap (λ t. flat_map f vs ++ t) (append-nil (f v)))) (adds_then p q)

-- Segments.

-- rows of the first of these spans, after those that were there
pub record Segments (k : List ℕ) (kind level : ℕ) (spans : List Span) (old new : List Row) : Type 0 where
  pub rows : List Row
  pub added : new ≡ old ++ rows
  pub count : length rows ≡ length spans
  pub each : All (IsOf k kind level) rows
  pub octets : join (map (named k) rows) ≡ join (spanned_in k spans)

pub segments_none : (k : List ℕ) (kind level : ℕ) (x : List Row) → Segments k kind level [] x x
segments_none k kind level x = record { rows = []; added = sym (append-nil x); count = refl; each = All-nil (IsOf k kind level); octets = refl }

joined : (xss yss : List (List ℕ)) → join (xss ++ yss) ≡ join xss ++ join yss
joined = flat_map-append (λ (b : List ℕ). b)

one_more : (xss : List (List ℕ)) (xs : List ℕ) → join (xss ++ xs ∷ []) ≡ join xss ++ xs
one_more xss xs = joined xss (xs ∷ []) ∙ ap (λ z. join xss ++ z) (append-nil xs)

pub segments_more : (k : List ℕ) (kind level : ℕ) (spans : List Span) (s : Span) (r : Row) (x y z : List Row)
    → Segments k kind level spans x y → IsOf k kind level r → named k r ≡ octets_in k s.start s.end → z ≡ y ++ r ∷ []
    → Segments k kind level (spans ++ s ∷ []) x z
segments_more k kind level spans s r x y z h is names e =
    let f : Row → List ℕ = named k in
    let g : Span → List ℕ = λ t. octets_in k t.start t.end in
    record {
      rows = h.rows ++ r ∷ [];
      added = e ∙ (ap (λ t. t ++ r ∷ []) h.added ∙ append_assoc x h.rows (r ∷ []));
      count = length-append h.rows (r ∷ []) ∙ (ap (λ n. n + 1) h.count ∙ sym (length-append spans (s ∷ [])));
      each = All-push (IsOf k kind level) h.rows r h.each is;
      octets =
          ap join (map-append f h.rows (r ∷ [])) ∙ (one_more (map f h.rows) (f r)
          ∙ (ap (λ t. t ++ f r) h.octets ∙ (ap (λ t. join (spanned_in k spans) ++ t) names
          ∙ (sym (one_more (spanned_in k spans) (g s)) ∙ ap join (sym (map-append g spans (s ∷ [])))))));
    }

shows_segments : (k : List ℕ) (kind level : ℕ) (spans : List Span) (x y : List Row) → is_string kind ≡ true → spans ≢ []
    → (h : Segments k kind level spans x y) → AreOf k (kind, (level, inl (join (spanned_in k spans)))) h.rows
shows_segments k kind level [] x y s n h = absurd (n refl)
shows_segments k kind level (a ∷ more) x y s n h = record {
  some = λ e. let l : 0 ≡ length (a ∷ more) = ap length (sym e) ∙ h.count in omega arith;
  one = λ t. let c : true ≡ false = sym s ∙ t in cc;
  each = h.each;
  octets = h.octets;
}

pub adds_segments : {k : List ℕ} {kind level : ℕ} {spans : List Span} {x y : List Row} → is_string kind ≡ true → spans ≢ []
    → Segments k kind level spans x y → AddsRows k (entry kind level (join (spanned_in k spans))) x y
adds_segments {k} {kind} {level} {spans} {x} {y} s n h = record {
  rows = h.rows;
  added = h.added;
  show = (h.rows, [], sym (append-nil h.rows), shows_segments k kind level spans x y s n h, refl);
}

pub not_none : {X : Type 0} (xs : List X) → false ≡ (length xs == 0) → xs ≢ []
not_none [] h = absurd (let e : false ≡ true = h in cc)
not_none (x ∷ xs) h = λ e. cc
