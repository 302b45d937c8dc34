-- Primitive elements with lengths of one octet, passed one after another.
use Rattle.std.proofs.Common.{◌≡◌, ℕ, min, ◌+◌, ◌-◌, ◌<◌, ◌≤◌, take, drop, List, [], ◌∷◌, ◌++◌, length, map, refl, sym, ap, subst, ◌∙◌, arith, append_assoc, length-append, slice_index_or}
use Rattle.std.specs.List.{AllByRecursion}
use Rattle.std.proofs.lemmas.List.{append-nil, length-take, length-take-le}
use Rattle.std.proofs.Math.Seq.{take-append_seam}
use Rattle.cms_tlv.specs.declared.bound.Bound.{Bound}
use Rattle.cms_tlv.specs.declared.span.Span.{Span}
use Rattle.cms_tlv.specs.Headers.{AreOctets}
use Rattle.cms_tlv.specs.State.{State, Adds}
use Rattle.cms_tlv.specs.Refines.{Kept}
use Rattle.cms_tlv.specs.Spans.{octets_in}
use Rattle.cms_tlv.proofs.SpanLaws.{span_later, span_new}
use Rattle.cms_tlv.specs.Primitives.{HasShortForm, short_primitives, contents_from, BeginsWithPrimitive, PassesPrimitives, TakesPrimitives}
use Rattle.cms_tlv.proofs.AtHand.{by_fits, octets_first}
use Rattle.cms_tlv.proofs.FoundGives.{RoomFor}

-- elements were passed, where their contents lie was added, and the next one begins at the place start
pub record Passed (id at : ℕ) (before after : List Span) (octets rest : List ℕ) (start : ℕ) : Type 0 where
  contents : List (List ℕ)
  are_short : AllByRecursion HasShortForm contents
  parts : octets ≡ short_primitives id contents ++ rest
  spans : after ≡ before ++ contents_from at contents
  here : start ≡ at + length (short_primitives id contents)

pub passed_none : (id at : ℕ) (before : List Span) (octets : List ℕ) → Passed id at before before octets octets at
passed_none id at before octets = record { contents = []; are_short = tt; parts = refl; spans = sym (append-nil before); here = omega arith }

shorts_push : (cs : List (List ℕ)) (c : List ℕ) → AllByRecursion HasShortForm cs → HasShortForm c → AllByRecursion HasShortForm (cs ++ c ∷ [])
shorts_push [] c a h = (h, tt)
shorts_push (x ∷ cs) c a h = (a.0, shorts_push cs c a.1 h)

elements_push : (id : ℕ) (cs : List (List ℕ)) (c : List ℕ) → short_primitives id (cs ++ c ∷ []) ≡ short_primitives id cs ++ (id ∷ length c ∷ c)
elements_push id [] c = append-nil (id ∷ length c ∷ c)
elements_push id (x ∷ cs) c = ap (λ z. (id ∷ length x ∷ x) ++ z) (elements_push id cs c)
    ∙ sym (append_assoc (id ∷ length x ∷ x) (short_primitives id cs) (id ∷ length c ∷ c))

contents_push : (id at : ℕ) (cs : List (List ℕ)) (c : List ℕ) (start : ℕ) → start ≡ at + length (short_primitives id cs)
    → contents_from at (cs ++ c ∷ []) ≡ contents_from at cs ++ record { start = start + 2; end = start + 2 + length c } ∷ []
contents_push id at [] c start e = let k : at ≡ start = omega (arith, e) in ap (λ i. record { start = i + 2; end = i + 2 + length c } ∷ []) k
contents_push id at (x ∷ cs) c start e =
    let n = length-append (id ∷ length x ∷ x) (short_primitives id cs) in
    ap (λ z. record { start = at + 2; end = at + 2 + length x } ∷ z) (contents_push id (at + 2 + length x) cs c start (omega (arith, e, n)))

pub passed_more : {id at : ℕ} {before after : List Span} {octets rest : List ℕ} {start : ℕ} → Passed id at before after octets rest start
    → (len : ℕ) (behind : List ℕ) → BeginsWithPrimitive id rest len behind → (now : List Span)
    → now ≡ after ++ record { start = start + 2; end = start + 2 + len } ∷ [] → Passed id at before now octets behind (start + 2 + len)
passed_more {id = id} {at = at} {before = before} {after = after} {start = start} h len behind b now e =
    let cs = h.contents in
    let c = b.contents in
    let span : Span = record { start = start + 2; end = start + 2 + length c } in
    let one = id ∷ length c ∷ c in
    record {
      contents = cs ++ c ∷ [];
      are_short = shorts_push cs c h.are_short b.is_short;
      parts =
          h.parts ∙ (ap (λ z. short_primitives id cs ++ z) b.parts
          ∙ (sym (append_assoc (short_primitives id cs) one behind) ∙ ap (λ z. z ++ behind) (sym (elements_push id cs c))));
      spans =
          e ∙ (ap (λ n. after ++ record { start = start + 2; end = start + 2 + n } ∷ []) b.counted
          ∙ (ap (λ z. z ++ span ∷ []) h.spans ∙ (append_assoc before (contents_from at cs) (span ∷ [])
          ∙ ap (λ z. before ++ z) (sym (contents_push id at cs c start h.here)))));
      here = omega (arith, h.here, b.counted, ap length (elements_push id cs c), length-append (short_primitives id cs) one);
    }

pub passed_place : {id at : ℕ} {before after : List Span} {octets rest : List ℕ} {start : ℕ} → Passed id at before after octets rest start
    → start + length rest ≡ at + length octets
passed_place {id = id} {rest = rest} h = omega (arith, h.here, ap length h.parts, length-append (short_primitives id h.contents) rest)

pub passed_fits : {id at : ℕ} {before after : List Span} {octets rest : List ℕ} {start : ℕ} → Passed id at before after octets rest start
    → length rest ≤ length octets
passed_fits {id = id} {rest = rest} h = omega (arith, ap length h.parts, length-append (short_primitives id h.contents) rest)

pub begins_fit : {id : ℕ} {octets : List ℕ} {len : ℕ} {behind : List ℕ} → BeginsWithPrimitive id octets len behind → length octets ≡ 2 + len + length behind
begins_fit {behind = behind} b = omega (arith, b.counted, ap length b.parts, length-append b.contents behind)

pub all_passed : {id at : ℕ} {before after : List Span} {octets rest : List ℕ} {start : ℕ} → Passed id at before after octets rest start
    → PassesPrimitives id at before after (take (length octets - length rest) octets)
all_passed {id = id} {octets = octets} {rest = rest} h =
    let passed = short_primitives id h.contents in
    let n : length octets - length rest ≡ length passed = omega (arith, ap length h.parts, length-append passed rest) in
    record {
      contents = h.contents;
      are_short = h.are_short;
      are = ap (λ i. take i octets) n ∙ (ap (take (length passed)) h.parts ∙ take-append_seam passed rest);
      spans = h.spans;
    }

two_first : (octets : List ℕ) → 2 ≤ length octets → octets ≡ slice_index_or octets 0 0 ∷ slice_index_or octets 1 0 ∷ drop 2 octets
two_first [] h = absurd (omega arith)
two_first (x ∷ []) h = absurd (omega arith)
two_first (x ∷ y ∷ octets) h = refl

pub short_begins : (id len : ℕ) (octets contents behind : List ℕ) → 2 ≤ length octets → slice_index_or octets 0 0 ≡ id
    → slice_index_or octets 1 0 ≡ len → drop 2 octets ≡ contents ++ behind → length contents ≡ len → len < 128
    → ((i : ℕ) → slice_index_or octets i 0 < 256) → BeginsWithPrimitive id octets len behind
short_begins id len octets contents behind k p q f n l o =
    let e : octets ≡ id ∷ len ∷ drop 2 octets = two_first octets k
    ∙ (ap (λ z. z ∷ slice_index_or octets 1 0 ∷ drop 2 octets) p ∙ ap (λ z. id ∷ z ∷ drop 2 octets) q) in
    let all : AreOctets (id ∷ len ∷ (contents ++ behind)) = subst AreOctets (e ∙ ap (λ z. id ∷ len ∷ z) f) (by_fits octets o) in
    record {
      contents = contents;
      parts = e ∙ (ap (λ z. id ∷ len ∷ z) f ∙ ap (λ m. id ∷ m ∷ (contents ++ behind)) (sym n));
      counted = sym n;
      is_short = (omega (arith, n, l), octets_first contents behind all.1.1);
    }

-- the elements that were passed among the octets at hand, as they were taken
pub passed_taken : (id room n m : ℕ) (bd : Bound) (before after : List Span) (held octets : List ℕ) {a b : State} → RoomFor bd a room
    → m ≡ min room (length held) → n ≤ length (take m held) → octets ≡ take n (take m held)
    → PassesPrimitives id (length a.done) before after octets → Adds a b octets → TakesPrimitives id bd before after a b
passed_taken id room n m bd before after held octets r e l o p d =
    let s : length octets ≡ n = ap length o ∙ length-take-le n (take m held) l in
    record { octets = octets; passes = p; adds = d; fits = λ some. r (length octets) some (omega (arith, s, l, length-take m held, e)) }

-- where contents lie, they are shown
shown_from : (id : ℕ) (before : List ℕ) (cs : List (List ℕ)) (more whole : List ℕ) → whole ≡ before ++ (short_primitives id cs ++ more)
    → map (λ (s : Span). octets_in whole s.start s.end) (contents_from (length before) cs) ≡ cs
shown_from id before [] more whole e = refl
shown_from id before (c ∷ cs) more whole e =
    let front = before ++ (id ∷ length c ∷ []) in
    let rest = short_primitives id cs ++ more in
    let parts : whole ≡ (front ++ c) ++ rest =
    e ∙ (ap (λ z. before ++ z) (append_assoc (id ∷ length c ∷ c) (short_primitives id cs) more)
    ∙ (sym (append_assoc before (id ∷ length c ∷ []) (c ++ rest)) ∙ sym (append_assoc front c rest))) in
    let n : length front ≡ length before + 2 = length-append before (id ∷ length c ∷ []) in
    let m : length (front ++ c) ≡ length before + 2 + length c = omega (arith, length-append front c, n) in
    let at : octets_in whole (length before + 2) (length before + 2 + length c) ≡ c =
    ap (λ z. octets_in z (length before + 2) (length before + 2 + length c)) parts
    ∙ (span_later (front ++ c) rest (length before + 2) (length before + 2 + length c) (omega arith) (omega (arith, m))
    ∙ (ap (λ i. octets_in (front ++ c) i (length before + 2 + length c)) (sym n)
    ∙ (ap (λ j. octets_in (front ++ c) (length front) j) (sym m) ∙ span_new front c))) in
    let others = shown_from id (front ++ c) cs more whole parts in
    ap (λ z. z ∷ map (λ (s : Span). octets_in whole s.start s.end) (contents_from (length before + 2 + length c) cs)) at
    ∙ ap (λ z. c ∷ z) (ap (λ i. map (λ (s : Span). octets_in whole s.start s.end) (contents_from i cs)) (sym m) ∙ others)

pub contents_shown :
    {id : ℕ} {bd : Bound} {before after : List Span} {a b : State} (t : TakesPrimitives id bd before after a b) (later : State)
    → Kept b later → map (λ (s : Span). octets_in later.done s.start s.end) (contents_from (length a.done) t.passes.contents) ≡ t.passes.contents
contents_shown {id = id} {a = a} t later k =
    let cs = t.passes.contents in
    shown_from id a.done cs k.octets later.done (k.done ∙ (ap (λ z. z ++ k.octets) (t.adds.done ∙ ap (λ z. a.done ++ z) t.passes.are)
    ∙ append_assoc a.done (short_primitives id cs) k.octets))
