-- What reading a primitive element promises in the words of its spelling.
use Rattle.std.proofs.Common.{◌≡◌, inl, inr, ℕ, ◌+◌, ◌-◌, ◌≤◌, Bool, true, false, List, [], ◌∷◌, ◌++◌, length, replicate, Option, Some, None, Result, Ok, Err, refl, sym, ap, subst, ◌∙◌, arith, append_assoc, length-append, eqb, if◌then◌else◌}
use Rattle.std.specs.Prelude.{IfOk, IfErr, OnOk}
use Rattle.std.proofs.lemmas.List.{length-replicate}
use Rattle.std.proofs.lemmas.Bool.{eqb-true}
use Rattle.cms_tlv.specs.declared.fault.Fault.{Fault}
use Rattle.cms_tlv.specs.declared.fault.Reason.TheVariants.{Truncated, UnexpectedElement}
use Rattle.cms_tlv.specs.declared.bound.Bound.{Bound}
use Rattle.cms_tlv.specs.declared.bound.Header.{Header}
use Rattle.cms_tlv.specs.declared.span.Span.{Span}
use Rattle.cms_tlv.specs.Headers.{IsIdentifier, IsLength}
use Rattle.cms_tlv.specs.Frames.{Frame, definite}
use Rattle.cms_tlv.specs.State.{State}
use Rattle.cms_tlv.specs.Reading.{Cursor, place, stop, ends_here, header_of, expected_of, counted_of, primitive_of, refuse}
use Rattle.cms_tlv.specs.Refines.{cursor, Refines, seen}
use Rattle.cms_tlv.specs.Clauses.{Room, IsCut, Found, Faults, length_by, Contains}
use Rattle.cms_tlv.proofs.Inverse.{okay, bad, passed, branch, bind_ok, bind_err}
use Rattle.cms_tlv.proofs.ReadingLaws.{Moves, moves_then, room_less}
use Rattle.cms_tlv.proofs.HeaderReads.{HasLength, shortest_by, sized, in_sound, header_sized, header_cut}
use Rattle.cms_tlv.proofs.ShortReads.{short_sound, short_complete}
use Rattle.cms_tlv.proofs.OctetReads.{octets_complete, octets_cut}
use Rattle.cms_tlv.proofs.Elements.{counted_sound, header_as, later, some_zeros}
use Rattle.cms_tlv.proofs.CallClauses.{found_from, faults_from, is_cut}

rule_of : (s : Bool) (l : List ℕ) (n : ℕ) → IsLength l n → (s ≡ true → shortest_by l n ≡ true) → length_by s l n
rule_of false l n k t = k
rule_of true l n k t = short_sound k (t refl)

of_rule : (s : Bool) (l : List ℕ) (n : ℕ) → length_by s l n → IsLength l n × (s ≡ true → shortest_by l n ≡ true)
of_rule false l n k = (k, λ z. absurd cc)
of_rule true l n k = (k.is, λ z. short_complete k.is k.least)

pub primitive_spells : (id : ℕ) (bd : Bound) (c d : Cursor) (v : List ℕ) → primitive_of id bd c ≡ Ok (v, d)
    → (b : List ℕ) × Moves c b d × Contains id bd.strict b v
unfolding primitive_of expected_of
primitive_spells id bd c d v e =
    let s = bind_ok (expected_of bd) (λ h. if eqb h.ident id then counted_of h.inner h.len else refuse UnexpectedElement) c e in
    let h = s.0 in
    let m = s.1 in
    let k = in_sound bd c m h (passed (ends_here bd c.at) (stop UnexpectedElement c.at) (header_of bd c) h m s.2).1 in
    let i = h.ident ∷ k.more in
    elim (branch (eqb h.ident id) (counted_of h.inner h.len) (refuse UnexpectedElement) m (okay (v, d)) s.3) [
      | inl x ↦
          let p = counted_sound bd m.at m.limit k.sizes h h.len m d v k.has x.1 in (
            (i ++ k.sizes) ++ v,
            moves_then k.moves p.0,
            record {
              identifier = i;
              sizes = k.sizes;
              parts = append_assoc i k.sizes v;
              is_identifier = subst (λ t. IsIdentifier t i) (eqb-true h.ident id x.0) k.is_ident;
              is_length = rule_of bd.strict k.sizes (length v) p.2 p.3;
              octets = p.1;
            },
          )
      | inr x ↦ absurd (let z = x.1 in cc)
    ]

pub primitive_found : (id : ℕ) (bd : Bound) (old new : State) (r : Result Span Fault) → Refines seen (primitive_of id bd) old new r
    → OnOk r (new.ahead ≡ None) → IfOk r (λ s. Found (Contains id bd.strict) old new (seen new s))
primitive_found id bd old new (Ok v) g n =
    let s = primitive_spells id bd (cursor old (g.reaches.more ++ [])) (cursor new []) (seen new v) (g.reaches.refines []) in
    found_from seen (Contains id bd.strict) old new v g n s.0 s.1 s.2
primitive_found id bd old new (Err e) g n = tt

primitive_there : (id : ℕ) (bd : Bound) (b y : List ℕ) (c : Cursor) (v : List ℕ) → Contains id bd.strict b v → c.rest ≡ b ++ y
    → Room bd.end c.limit c.at (length b) → (z : List ℕ × Cursor) × (primitive_of id bd c ≡ Ok z)
unfolding primitive_of
primitive_there id bd b y c v k e r =
    let i = k.identifier in
    let l = k.sizes in
    let q = of_rule bd.strict l (length v) k.is_length in
    let d : Cursor = place (c.at + length (i ++ l)) c.limit (v ++ y) in
    let last : Cursor = place (d.at + length v) c.limit y in
    let parts : c.rest ≡ (i ++ l) ++ (v ++ y) = e ∙ ap (λ z. z ++ y) (k.parts ∙ sym (append_assoc i l v)) ∙ append_assoc (i ++ l) v y in
    let n : length b ≡ length (i ++ l) + length v = omega (arith, ap length k.parts, length-append i (l ++ v), length-append l v, length-append i l) in
    let one =
    header_sized bd id (length v) i l c d k.is_identifier q.0 q.1 (record { rest = parts; at = refl; limit = refl })
    (room_less bd.end c.limit c.at (length b) (length (i ++ l) + length v) (omega (arith, n)) r) in
    let two =
    octets_complete (Some (d.at + length v)) v d last (record { rest = refl; at = refl; limit = refl }) k.octets
    (omega arith, omega (arith, r.1, n)) in
    ((v, last), header_as bd id c d (sized bd d.at id (length v) (shortest_by l (length v))) (λ h. counted_of h.inner h.len) one refl ∙ two)

-- the contents end before their length
contents_cut : (bd : Bound) (i l : List ℕ) (h : Header) (len : Option ℕ) (m : Cursor) {stopped : ℕ} → IsIdentifier h.ident i
    → HasLength bd m.at m.limit l h len → counted_of h.inner len m ≡ Err (stop Truncated stopped)
    → IsCut ((i ++ l) ++ m.rest) × Room bd.end m.limit m.at (length m.rest + 1)
contents_cut bd i l h None m id k e = absurd cc
contents_cut bd i l h (Some n) m id (k, s, room, q) e =
    let p = m.rest in
    let less : length p + 1 ≤ n = (octets_cut h.inner.end n m e).0 in
    let due : ℕ = n - length p in
    let zs : List ℕ = replicate due 0 in
    let whole : ((i ++ l) ++ p) ++ zs ≡ i ++ (l ++ (p ++ zs)) = append_assoc (i ++ l) p zs ∙ append_assoc i l (p ++ zs) in
    let all : n ≡ length (p ++ zs) = omega (arith, length-append p zs, length-replicate {A = ℕ} due 0, less) in (
      (
        zs,
        (λ z. some_zeros due (omega (arith, less)) z),
        subst Frame (sym whole)
            (definite (p ++ zs) id (subst (λ t. IsLength l t) all k)),
      ),
      room_less bd.end m.limit m.at n (length p + 1) less room,
    )

primitive_cut : (id : ℕ) (bd : Bound) (c : Cursor) {stopped : ℕ} → primitive_of id bd c ≡ Err (stop Truncated stopped)
    → IsCut c.rest × Room bd.end c.limit c.at (length c.rest + 1)
unfolding primitive_of expected_of
primitive_cut id bd c {stopped = stopped} e = elim (bind_err (expected_of bd)
    (λ h. if eqb h.ident id then counted_of h.inner h.len else refuse UnexpectedElement) c e) [
      | inl x ↦ is_cut (header_cut bd c x)
      | inr s ↦ elim (branch (eqb s.0.ident id) (counted_of s.0.inner s.0.len) (refuse UnexpectedElement) s.1 (bad (stop Truncated stopped)) s.3) [
        | inl x ↦
            let k = in_sound bd c s.1 s.0 (passed (ends_here bd c.at) (stop UnexpectedElement c.at) (header_of bd c) s.0 s.1 s.2).1 in
            let z = contents_cut bd (s.0.ident ∷ k.more) k.sizes s.0 s.0.len s.1 k.is_ident k.has x.1 in
            (subst IsCut (sym k.moves.rest) z.0, later bd.end ((s.0.ident ∷ k.more) ++ k.sizes) k.moves z.1)
        | inr x ↦ absurd (let k = x.1 in cc)
      ]
    ]

pub primitive_faults : (id : ℕ) (bd : Bound) (old new : State) (r : Result Span Fault) → Refines seen (primitive_of id bd) old new r
    → IfErr r (Faults (Contains id bd.strict) bd old new)
primitive_faults id bd old new (Ok v) g = tt
primitive_faults id bd old new (Err e) g = faults_from (Contains id bd.strict) (primitive_of id bd) bd old
    (λ xs b y v s p room. primitive_there id bd b y (place (length old.done) old.limit xs) v s p room)
    (λ xs at p. primitive_cut id bd (place (length old.done) old.limit xs) p) new e g
