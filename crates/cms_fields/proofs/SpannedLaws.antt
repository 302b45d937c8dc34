-- The octets that spans name, one after another.
use Rattle.std.proofs.Common.{◌≡◌, ℕ, ◌+◌, ◌<◌, ◌≤◌, List, [], ◌∷◌, ◌++◌, length, get_or, take, drop, sym, ap, ◌∙◌, arith, length-append}
use Rattle.std.proofs.lemmas.List.{append-nil, map_more, take-append-drop, map-append}
use Rattle.std.proofs.lemmas.Grind.{flat_map-append}
use Rattle.cms_tlv.specs.declared.span.Span.{Span}
use Rattle.cms_tlv.specs.Spans.{octets_in}
use Rattle.cms_tlv.specs.Spelling.{join}
use Rattle.cms_fields.specs.Received.{spanned_in}

joined : (xss yss : List (List ℕ)) → join (xss ++ yss) ≡ join xss ++ join yss
joined = flat_map-append (λ (b : List ℕ). b)

-- those of one span
abbrev named : List ℕ → Span → List ℕ
named k s = octets_in k s.start s.end

-- one span more
pub spanned_more : (k : List ℕ) (spans : List Span) (i : ℕ) (d : Span) → i < length spans
    → join (spanned_in k (take (i + 1) spans)) ≡ join (spanned_in k (take i spans)) ++ octets_in k (get_or spans i d).start (get_or spans i d).end
spanned_more k spans i d l =
    let before = spanned_in k (take i spans) in
    let s = named k (get_or spans i d) in
    ap join (map_more (named k) spans i d l) ∙ (joined before (s ∷ []) ∙ ap (λ z. join before ++ z) (append-nil s))

-- those before i, and those from i on
pub spanned_parts : (k : List ℕ) (spans : List Span) (i : ℕ)
    → join (spanned_in k spans) ≡ join (spanned_in k (take i spans)) ++ join (spanned_in k (drop i spans))
spanned_parts k spans i =
    ap (λ z. join (spanned_in k z)) (sym (take-append-drop i spans))
    ∙ (ap join (map-append (named k) (take i spans) (drop i spans)) ∙ joined (spanned_in k (take i spans)) (spanned_in k (drop i spans)))

-- those of a span and of the spans after it are no more than all of them
pub shorter_rest : (k : List ℕ) (i : ℕ) (x : Span) (rest spans : List Span) → drop i spans ≡ x ∷ rest
    → length (octets_in k x.start x.end) + length (join (spanned_in k rest)) ≤ length (join (spanned_in k spans))
shorter_rest k i x rest spans e =
    let p = ap length (spanned_parts k spans i) ∙ length-append (join (spanned_in k (take i spans))) (join (spanned_in k (drop i spans))) in
    let q = ap (λ z. length (join (spanned_in k z))) e ∙ length-append (octets_in k x.start x.end) (join (spanned_in k rest)) in
    omega (arith, p, q)
