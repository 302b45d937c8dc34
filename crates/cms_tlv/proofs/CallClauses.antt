-- What single calls promise in the words of the spellings, from what they give.
use Rattle.std.proofs.Common.{◌≡◌, ◌≢◌, ℕ, ◌+◌, Bool, true, false, List, [], ◌∷◌, ◌++◌, length, Option, Some, None, Result, Ok, Err, refl, sym, ap, subst, ◌∙◌, arith, append_assoc, length-append, inl, inr, cond, if◌then◌else◌, eqb}
use Rattle.std.specs.Prelude.{IfOk, IfErr, OnOk}
use Rattle.std.proofs.lemmas.List.{append-nil, append_cancel_right}
use Rattle.cms_tlv.specs.declared.fault.Fault.{Fault}
use Rattle.cms_tlv.specs.declared.fault.Fault.TheVariants as faults
use Rattle.cms_tlv.specs.declared.fault.Reason.{Reason}
use Rattle.cms_tlv.specs.declared.fault.Reason.TheVariants.{Truncated, UnexpectedElement}
use Rattle.cms_tlv.specs.declared.bound.Bound.{Bound}
use Rattle.cms_tlv.specs.declared.bound.Header.{Header}
use Rattle.cms_tlv.specs.declared.span.Span.{Span}
use Rattle.cms_tlv.specs.Headers.{IsIdentifier, IsLength}
use Rattle.cms_tlv.specs.Frames.{Frame, definite, indefinite, of_short_length}
use Rattle.cms_tlv.specs.State.{State, as_list}
use Rattle.cms_tlv.specs.Spelling.{Spelling}
use Rattle.cms_tlv.specs.Reading.{Cursor, place, stop, Reader, header_of, peek_of, close_of, octets_of, refuse, enter_of, expected_of, ends_here, give}
use Rattle.cms_tlv.specs.Refines.{cursor, Simulates, RefinesWithValue, Failed, Refines, plain, seen}
use Rattle.cms_tlv.specs.Clauses.{Room, IsCut, OctetsTaken, Found, Consumed, Refuses, Ends, Faults, frame_by, LengthSays, SpellsHeader, end_of, end_from, counted, Enters, frame_of}
use Rattle.cms_tlv.proofs.Inverse.{both, differ, okay, bad, ok_value, ok_place, passed, branch, bind_ok, bind_err, bound_again, eqb_yes}
use Rattle.std.proofs.lemmas.Bool.{eqb-true}
use Rattle.cms_tlv.proofs.ReadingLaws.{Moves, room_less, CutField, EndedBy}
use Rattle.cms_tlv.proofs.FrameLaws.{identifier_some, frame_two}
use Rattle.cms_tlv.proofs.HeaderReads.{HasLength, shortest_by, in_sound, header_sized, header_opened, outer, in_cut, header_cut}
use Rattle.cms_tlv.proofs.ShortReads.{short_sound, short_complete}
use Rattle.cms_tlv.proofs.OctetReads.{octets_sound}
use Rattle.cms_tlv.proofs.Ends.{close_sound, close_complete, close_cut, peek_some, peek_cut, field_octet}

-- What was taken.
taken : {A : Type 0} {f g : Reader A} {old new : State} (r : Simulates f old g new) → OctetsTaken old new (as_list old.ahead ++ r.more)
taken {old = old} {new = new} r = record {
  more = r.more;
  order = refl;
  left = r.took.left;
  limit = r.took.limit;
  whole = ap (λ t. t ++ as_list new.ahead) r.took.done ∙ append_assoc old.done r.took.read (as_list new.ahead)
      ∙ ap (λ t. old.done ++ t) (sym r.took.order);
}

-- the octets that the places lie apart are those consumed
consumed_same : {A : Type 0} {f g : Reader A} {old new : State} (r : Simulates f old g new) (b : List ℕ)
    → Moves (cursor old (r.more ++ [])) b (cursor new []) → r.took.read ≡ b
consumed_same {old = old} {new = new} r b m =
    let rest : as_list old.ahead ++ r.more ≡ b ++ as_list new.ahead = ap (λ t. as_list old.ahead ++ t) (sym (append-nil r.more)) ∙ m.rest
    ∙ ap (λ t. b ++ t) (append-nil (as_list new.ahead)) in
    append_cancel_right r.took.read b (as_list new.ahead) (sym r.took.order ∙ rest)

pub found_from :
    {A V : Type 0} (view : State → V → A) {f : Reader A} (R : Spelling A) (old new : State) (v : V) (g : RefinesWithValue view f old new v)
    → new.ahead ≡ None → (b : List ℕ) → Moves (cursor old (g.reaches.more ++ [])) b (cursor new []) → R b (view new v)
    → Found R old new (view new v)
found_from view R old new v g none b m s =
    let r = g.reaches in
    let same = consumed_same r b m in
    record {
      octets = r.took.read;
      taken =
          record {
            more = r.more;
            order = sym (r.took.order ∙ ap (λ t. r.took.read ++ as_list t) none ∙ append-nil r.took.read);
            left = r.took.left;
            limit = r.took.limit;
            whole = ap (λ t. new.done ++ as_list t) none ∙ append-nil new.done ∙ r.took.done;
          };
      kept = r.took.done;
      spells = subst (λ t. R t (view new v)) (sym same) s;
    }

pub consumed_from :
    {A V : Type 0} (view : State → V → A) {f : Reader A} (R : Spelling A) (old new : State) (v : V) (g : RefinesWithValue view f old new v)
    → (b : List ℕ) → Moves (cursor old (g.reaches.more ++ [])) b (cursor new []) → R b (view new v) → Consumed R old new (view new v)
consumed_from view R old new v g b m s =
    record {
      octets = g.reaches.took.read;
      kept = g.reaches.took.done;
      spells = subst (λ t. R t (view new v)) (sym (consumed_same g.reaches b m)) s;
    }

-- What is refused.
pub is_cut : {xs : List ℕ} {A : Type 0} → CutField xs × A → IsCut xs × A
is_cut (k, a) = ((k.rest, k.proper, k.frame), a)

module _ {A B : Type 0} (R : Spelling A) (f : Reader B) (bd : Bound) (old : State)
    (complete : (xs b y : List ℕ) (v : A) → R b v → xs ≡ b ++ y → Room bd.end old.limit (length old.done) (length b)
    → (z : B × Cursor) × (f (place (length old.done) old.limit xs) ≡ Ok z))
    (cut : (xs : List ℕ) (at : ℕ) → f (place (length old.done) old.limit xs) ≡ Err (stop Truncated at)
    → IsCut xs × Room bd.end old.limit (length old.done) (length xs + 1)) where
  hopeless : (new : State) (reason : Reason) (at : ℕ) → reason ≢ Truncated → Failed f old new (faults.Refused reason at) → Refuses R bd old new
  hopeless new reason at n p = record {
    octets = as_list old.ahead ++ p.reaches.more;
    taken = taken p.reaches;
    hopeless = λ x b y v room parts spelled.
        let no : f (cursor old (p.reaches.more ++ x)) ≡ Err (stop reason (length new.done)) = p.reaches.refines x ∙ p.explained.2 x (λ t. absurd (n t)) in
        let rest : as_list old.ahead ++ (p.reaches.more ++ x) ≡ b ++ y = sym (append_assoc (as_list old.ahead) p.reaches.more x) ∙ parts in
        let yes = complete (as_list old.ahead ++ (p.reaches.more ++ x)) b y v spelled rest room in
        both yes.1 no;
  }

  cut_short : (new : State) (at : ℕ) → Failed f old new (faults.Refused Truncated at) → Ends bd old new
  cut_short new at p =
      let more = p.reaches.more in
      let no : f (cursor old (more ++ [])) ≡ Err (stop Truncated (length new.done)) = p.reaches.refines [] ∙ p.explained.2 [] (λ t. refl) in
      let c = cut (as_list old.ahead ++ (more ++ [])) (length new.done) no in
      let same : as_list old.ahead ++ (more ++ []) ≡ as_list old.ahead ++ more = ap (λ t. as_list old.ahead ++ t) (append-nil more) in
      record {
        octets = as_list old.ahead ++ more;
        taken = taken p.reaches;
        at_end = (p.explained.1 refl).0;
        room = subst (λ t. Room bd.end old.limit (length old.done) (length t + 1)) same c.1;
        cut = subst IsCut same c.0;
      }

  pub faults_from : (new : State) (e : Fault) → Failed f old new e → Faults R bd old new e
  faults_from new (faults.Refused reason at) p =
      (p.explained.0, (λ n. hopeless new reason at n p), λ e. cut_short new at (subst (λ t. Failed f old new (faults.Refused t at)) e p))
  faults_from new faults.Read p = p.explained
  faults_from new (faults.Write written) p = p.explained
  faults_from new faults.OutOfMemory p = tt

-- Headers.
says_of : (bd : Bound) (limit at : ℕ) (l : List ℕ) (h : Header) (n : Option ℕ) → HasLength bd at limit l h n → LengthSays bd limit at l h n
says_of bd limit at l h None (e, k, s, o) = (e, k, s, ap (λ (x : Header). x.inner) (sym o), ap (λ (x : Header). x.shortest) (sym o))
says_of bd limit at l h (Some n) (k, s, r, o) =
    let same : h.shortest ≡ shortest_by l n = ap (λ (x : Header). x.shortest) (sym o) in
    (k, r, (λ e. same ∙ s e), ap (λ (x : Header). x.inner) (sym o), ((λ t. short_sound k (sym same ∙ t)), λ p. same ∙ short_complete k p.least))

header_spells : (bd : Bound) (c d : Cursor) (h : Header) → header_of bd c ≡ Ok (h, d) → (b : List ℕ) × Moves c b d × SpellsHeader bd d.limit d.at b h
header_spells bd c d h e =
    let k = in_sound bd c d h e in (
      (h.ident ∷ k.more) ++ k.sizes,
      k.moves,
      record {
        identifier = h.ident ∷ k.more;
        sizes = k.sizes;
        parts = refl;
        is_identifier = k.is_ident;
        says = says_of bd d.limit d.at k.sizes h h.len k.has;
      },
    )

pub header_found : (bd : Bound) (old new : State) (r : Result Header Fault) → Refines plain (header_of bd) old new r
    → OnOk r (new.ahead ≡ None) → IfOk r (Found (SpellsHeader bd new.limit (length new.done)) old new)
header_found bd old new (Ok h) g n =
    let s = header_spells bd (cursor old (g.reaches.more ++ [])) (cursor new []) h (g.reaches.refines []) in
    found_from plain (SpellsHeader bd new.limit (length new.done)) old new h g n s.0 s.1 s.2
header_found bd old new (Err e) g n = tt

-- a frame in the room has a header
frame_read : (bd : Bound) (b y : List ℕ) (c : Cursor) (u : Unit {0}) → frame_by bd.strict b u → c.rest ≡ b ++ y
    → Room bd.end c.limit c.at (length b) → (z : Header × Cursor) × (header_of bd c ≡ Ok z)
frame_read bd b y c u f e r = by_strict bd.strict b refl f e r
  where
    sizes_read : {t : ℕ} {i l : List ℕ} (x : List ℕ) → IsIdentifier t i → IsLength l (length x)
        → (bd.strict ≡ true → shortest_by l (length x) ≡ true) → c.rest ≡ (i ++ (l ++ x)) ++ y
        → Room bd.end c.limit c.at (length (i ++ (l ++ x))) → (z : Header × Cursor) × (header_of bd c ≡ Ok z)
    sizes_read {t = t} {i = i} {l = l} x id k s e r =
        let d : Cursor = place (c.at + length (i ++ l)) c.limit (x ++ y) in
        let parts : c.rest ≡ (i ++ l) ++ (x ++ y) = e ∙ ap (λ z. z ++ y) (sym (append_assoc i l x)) ∙ append_assoc (i ++ l) x y in
        let m : Moves c (i ++ l) d = record { rest = parts; at = refl; limit = refl } in
        let n : length (i ++ (l ++ x)) ≡ length (i ++ l) + length x = omega (arith, length-append i (l ++ x), length-append l x, length-append i l) in
        let room : Room bd.end c.limit c.at (length (i ++ l) + length x) =
        room_less bd.end c.limit c.at (length (i ++ (l ++ x))) (length (i ++ l) + length x) (omega arith) r in
        let two = identifier_some id in
        let one : Room bd.end c.limit c.at 1 = room_less bd.end c.limit c.at (length (i ++ (l ++ x))) 1 (omega (arith, length-append i (l ++ x))) r in
        (_, sym (outer bd c one) ∙ header_sized bd t (length x) i l c d id k s m room)

    by_strict : (s : Bool) (b : List ℕ) → bd.strict ≡ s → frame_by s b u → c.rest ≡ b ++ y → Room bd.end c.limit c.at (length b)
        → (z : Header × Cursor) × (header_of bd c ≡ Ok z)
    by_strict true _ q (of_short_length x id k) e r = sizes_read x id k.is (λ _. short_complete k.is k.least) e r
    by_strict false _ q (definite x id k) e r = sizes_read x id k (λ z. absurd (differ q z)) e r
    by_strict false _ q (indefinite {t = t} {i = i} {c = x} id k fs) e r =
        let rest : List ℕ = x ++ 0 ∷ 0 ∷ [] in
        let d : Cursor = place (c.at + length (i ++ (0x80 ∷ []))) c.limit (rest ++ y) in
        let parts : c.rest ≡ (i ++ (0x80 ∷ [])) ++ (rest ++ y) = e ∙ append_assoc i (0x80 ∷ rest) y ∙ sym (append_assoc i (0x80 ∷ []) (rest ++ y)) in
        let m : Moves c (i ++ (0x80 ∷ [])) d = record { rest = parts; at = refl; limit = refl } in
        let n : length (i ++ (0x80 ∷ rest)) ≡ length (i ++ (0x80 ∷ [])) + length rest =
        omega (arith, length-append i (0x80 ∷ rest), length-append i (0x80 ∷ [])) in
        let room : Room bd.end c.limit c.at (length (i ++ (0x80 ∷ []))) =
        room_less bd.end c.limit c.at (length (i ++ (0x80 ∷ rest))) (length (i ++ (0x80 ∷ []))) (omega arith) r in
        let one : Room bd.end c.limit c.at 1 = room_less bd.end c.limit c.at (length (i ++ (0x80 ∷ rest))) 1 (omega (arith, length-append i (0x80 ∷ rest))) r in
        (_, sym (outer bd c one) ∙ header_opened bd t i c d id k q m room)

pub header_faults : (bd : Bound) (old new : State) (r : Result Header Fault) → Refines plain (header_of bd) old new r
    → IfErr r (Faults (frame_by bd.strict) bd old new)
header_faults bd old new (Ok h) g = tt
header_faults bd old new (Err e) g = faults_from (frame_by bd.strict) (header_of bd) bd old
    (λ xs b y v s p room. frame_read bd b y (place (length old.done) old.limit xs) v s p room)
    (λ xs at p. is_cut (in_cut bd (place (length old.done) old.limit xs) p)) new e g

-- Peeking.
peek_there : (bd : Bound) (b y : List ℕ) (c : Cursor) → Frame b → c.rest ≡ b ++ y → Room bd.end c.limit c.at (length b)
    → (z : Option ℕ × Cursor) × (peek_of bd c ≡ Ok z)
peek_there bd b y c f e r =
    let t = frame_two f in
    let first : c.rest ≡ t.0 ∷ ((t.1 ∷ t.2) ++ y) = e ∙ ap (λ z. z ++ y) t.3 in (
      _,
      peek_some bd c t.0 ((t.1 ∷ t.2) ++ y) first (field_octet t.0 (t.1 ∷ t.2) f t.3)
          (room_less bd.end c.limit c.at (length b) 1 (omega (arith, ap length t.3)) r),
    )

pub peek_faults : (bd : Bound) (old new : State) (r : Result (Option ℕ) Fault) → Refines plain (peek_of bd) old new r
    → IfErr r (Faults (frame_by false) bd old new)
peek_faults bd old new (Ok o) g = tt
peek_faults bd old new (Err e) g = faults_from (frame_by false) (peek_of bd) bd old
    (λ xs b y v s p room. peek_there bd b y (place (length old.done) old.limit xs) s p room)
    (λ xs at p. is_cut (peek_cut bd (place (length old.done) old.limit xs) p)) new e g

-- The end of an element.
ended_end : (i : Bool) (end : Option ℕ) (at : ℕ) (o : List ℕ) → EndedBy i end at [] o → end_from i end at o
ended_end true end at o p = p
ended_end false end at o p = let z : at + 0 ≡ at = omega arith in (p.0, p.1 ∙ ap Some z)

end_ended : (i : Bool) (end : Option ℕ) (at : ℕ) (o : List ℕ) → end_from i end at o → EndedBy i end at [] o
end_ended true end at o p = p
end_ended false end at o p = let z : at ≡ at + 0 = omega arith in (p.0, p.1 ∙ ap Some z)

pub close_found : (bd : Bound) (old new : State) (r : Result (Unit {0}) Fault) → Refines plain (close_of bd) old new r
    → OnOk r (Consumed (end_of bd (length old.done)) old new tt)
close_found bd old new (Ok u) g =
    let s = close_sound bd (cursor old (g.reaches.more ++ [])) (cursor new []) u (g.reaches.refines []) in
    consumed_from plain (end_of bd (length old.done)) old new tt g s.0 s.2 (ended_end bd.indefinite bd.end (length old.done) s.0 s.1)
close_found bd old new (Err e) g = tt

pub close_faults : (bd : Bound) (old new : State) (r : Result (Unit {0}) Fault) → Refines plain (close_of bd) old new r
    → IfErr r (Faults (end_of bd (length old.done)) bd old new)
close_faults bd old new (Ok u) g = tt
close_faults bd old new (Err e) g = faults_from (end_of bd (length old.done)) (close_of bd) bd old
    (λ xs b y v s p room. (
      _,
      close_complete bd (place (length old.done) old.limit xs) (place (length old.done + length b) old.limit y) b
          (end_ended bd.indefinite bd.end (length old.done) b s) (record { rest = p; at = refl; limit = refl }) room,
    ))
    (λ xs at p. is_cut (close_cut bd (place (length old.done) old.limit xs) p)) new e g

-- Contents.
pub contents_found : (n : ℕ) (old new : State) (r : Result Span Fault) → Refines seen (octets_of None n) old new r → new.ahead ≡ None
    → IfOk r (λ s. Found (counted n) old new (seen new s))
contents_found n old new (Ok v) g none =
    let s = octets_sound None n (cursor old (g.reaches.more ++ [])) (cursor new []) (seen new v) (g.reaches.refines []) in
    found_from seen (counted n) old new v g none (seen new v) s.0 (refl, s.1, s.2)
contents_found n old new (Err e) g none = tt

-- Entering an element.
enter_reads : (id : ℕ) (bd : Bound) (c d : Cursor) (inner : Bound) → enter_of id bd c ≡ Ok (inner, d)
    → (h : Header) × (header_of bd c ≡ Ok (h, d)) × (h.ident ≡ id) × (h.inner ≡ inner)
unfolding enter_of expected_of
enter_reads id bd c d inner e =
    let s = bind_ok (expected_of bd) (λ h. if eqb h.ident id then give h.inner else refuse UnexpectedElement) c e in
    let h = s.0 in
    let m = s.1 in
    let first = (passed (ends_here bd c.at) (stop UnexpectedElement c.at) (header_of bd c) h m s.2).1 in
    elim (branch (eqb h.ident id) (give h.inner) (refuse UnexpectedElement) m (okay (inner, d)) s.3) [
      | inl x ↦ (h, subst (λ q. header_of bd c ≡ Ok (h, q)) (ok_place x.1) first, eqb-true h.ident id x.0, ok_value x.1)
      | inr x ↦ absurd (let k = x.1 in cc)
    ]

enter_spells : (id : ℕ) (bd : Bound) (c d : Cursor) (inner : Bound) → enter_of id bd c ≡ Ok (inner, d)
    → (b : List ℕ) × Moves c b d × Enters bd id d.limit d.at b inner
enter_spells id bd c d inner e =
    let r = enter_reads id bd c d inner e in
    let s = header_spells bd c d r.0 r.1 in
    (s.0, s.1, record { header = r.0; spells = s.2; ident = r.2; ends = r.3 })

pub enter_found : (id : ℕ) (bd : Bound) (old new : State) (r : Result Bound Fault) → Refines plain (enter_of id bd) old new r
    → OnOk r (new.ahead ≡ None) → IfOk r (Found (Enters bd id new.limit (length new.done)) old new)
enter_found id bd old new (Ok v) g n =
    let s = enter_spells id bd (cursor old (g.reaches.more ++ [])) (cursor new []) v (g.reaches.refines []) in
    found_from plain (Enters bd id new.limit (length new.done)) old new v g n s.0 s.1 s.2
enter_found id bd old new (Err e) g n = tt

enter_there : (id : ℕ) (bd : Bound) (b y : List ℕ) (c : Cursor) (u : Unit {0}) → frame_of id bd.strict b u → c.rest ≡ b ++ y
    → Room bd.end c.limit c.at (length b) → (z : Bound × Cursor) × (enter_of id bd c ≡ Ok z)
unfolding enter_of
enter_there id bd b y c u f e r =
    let z = frame_read bd b y c u f.0 e r in
    let h = z.0.0 in
    let d = z.0.1 in
    let k = in_sound bd c d h z.1 in
    let starts : h.ident ∷ ((k.more ++ k.sizes) ++ d.rest) ≡ id ∷ (f.1.0 ++ y) = sym k.moves.rest ∙ e ∙ ap (λ t. t ++ y) f.1.1 in
    let same : h.ident ≡ id = cc in
    let x = eqb_yes h.ident id same in
    let one : Room bd.end c.limit c.at 1 = room_less bd.end c.limit c.at (length b) 1 (omega (arith, ap length f.1.1)) r in
    let there : expected_of bd c ≡ Ok (h, d) = outer bd c one ∙ z.1 in (
      (h.inner, d),
      bound_again (expected_of bd) (λ h. if eqb h.ident id then give h.inner else refuse UnexpectedElement) c h d there
          ∙ ap (λ t. (cond t (give h.inner) (refuse UnexpectedElement)) d) x,
    )

enter_cut : (id : ℕ) (bd : Bound) (c : Cursor) {stopped : ℕ} → enter_of id bd c ≡ Err (stop Truncated stopped)
    → CutField c.rest × Room bd.end c.limit c.at (length c.rest + 1)
unfolding enter_of
enter_cut id bd c {stopped = stopped} e = elim (bind_err (expected_of bd) (λ h. if eqb h.ident id then give h.inner else refuse UnexpectedElement) c e) [
  | inl x ↦ header_cut bd c x
  | inr s ↦ elim (branch (eqb s.0.ident id) (give s.0.inner) (refuse UnexpectedElement) s.1 (bad (stop Truncated stopped)) s.3) [
    | inl x ↦ absurd (let k = x.1 in cc)
    | inr x ↦ absurd (let k = x.1 in cc)
  ]
]

pub enter_faults : (id : ℕ) (bd : Bound) (old new : State) (r : Result Bound Fault) → Refines plain (enter_of id bd) old new r
    → IfErr r (Faults (frame_of id bd.strict) bd old new)
enter_faults id bd old new (Ok v) g = tt
enter_faults id bd old new (Err e) g = faults_from (frame_of id bd.strict) (enter_of id bd) bd old
    (λ xs b y v s p room. enter_there id bd b y (place (length old.done) old.limit xs) v s p room)
    (λ xs at p. is_cut (enter_cut id bd (place (length old.done) old.limit xs) p)) new e g
