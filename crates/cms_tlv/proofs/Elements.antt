-- Elements, read and spelled.
use Rattle.std.proofs.Common.{◌≡◌, ◌≢◌, inl, inr, ℕ, zero, suc, ◌+◌, ◌-◌, ◌%◌, ◌<◌, ◌≤◌, Bool, true, false, cond, eqb, List, [], ◌∷◌, ◌++◌, length, replicate, Option, Some, None, Ok, Err, refl, sym, ap, subst, ◌∙◌, arith, append_assoc, length-append}
use Rattle.std.proofs.lemmas.List.{length-replicate}
use Rattle.std.proofs.lemmas.Bool.{eqb-true}
use Rattle.cms_tlv.specs.declared.fault.Reason.{Reason}
use Rattle.cms_tlv.specs.declared.fault.Reason.TheVariants.{Truncated, UnexpectedElement}
use Rattle.cms_tlv.specs.declared.bound.Bound.{Bound}
use Rattle.cms_tlv.specs.declared.bound.Header.{Header}
use Rattle.cms_tlv.specs.Headers.{AreOctets, IsConstructed, IsIdentifier, low, high, IsLength, IsShortLength}
use Rattle.cms_tlv.specs.Frames.{Frame, definite, indefinite, of_length, to_end, of_short_length}
use Rattle.cms_tlv.specs.Spelling.{Rules, ber, minimal, der, Spelling, IsElementBy, element}
use Rattle.cms_tlv.specs.Reading.{Cursor, stop, Reader, ◌>>=◌, give, refuse, expected_of, enter_of, counted_of, primitive_of, give_if, scalar_of}
use Rattle.cms_tlv.specs.Clauses.{Room}
use Rattle.cms_tlv.proofs.SpellingLaws.{IsFieldOctet}
use Rattle.cms_tlv.proofs.Inverse.{okay, bad, ok_value, ok_place, branch, bind_ok, bind_err, bound_again, eqb_yes, differ}
use Rattle.cms_tlv.proofs.ReadingLaws.{Moves, moves_then, midway, moves_prefix, moves_suffix, room_less, room_from, Follows, CutField, CutContents, Ended, Reads, ReadsTo}
use Rattle.cms_tlv.proofs.OctetReads.{octets_sound, octets_complete, octets_cut}
use Rattle.cms_tlv.proofs.HeaderReads.{shortest_by, sized, opened, HasLength, header_sound, header_sized, header_opened, header_cut}
use Rattle.cms_tlv.proofs.ShortReads.{short_sound, short_complete}

low_alone : {t u : ℕ} {ds : List ℕ} → t % 32 ≢ 31 → IsIdentifier t (u ∷ ds) → ds ≡ []
low_alone h (low o q) = refl
low_alone h (high o q _ _ _ _) = absurd (h q)

-- the header of an element id
pub record Entered (m : Rules) (bd : Bound) (id : ℕ) (c d : Cursor) (h : Header) : Type 0 where
  pub same : h.ident ≡ id
  pub sizes : List ℕ
  pub moves : Moves c (id ∷ sizes) d
  pub has : HasLength bd d.at d.limit sizes h h.len

pub entered : {m : Rules} (bd : Bound) (id : ℕ) (c d : Cursor) (h : Header) → id % 32 ≢ 31 → expected_of bd c ≡ Ok (h, d) → h.ident ≡ id → Entered m bd id c d h
entered bd id c d h n e k =
    let s = header_sound bd c d h e in
    let z : s.more ≡ [] = low_alone (λ q. n (ap (λ t. t % 32) (sym k) ∙ q)) s.is_ident in
    record {
      same = k;
      sizes = s.sizes;
      moves = subst (λ t. Moves c (t ∷ s.sizes) d) k
          (subst (λ t. Moves c ((h.ident ∷ t) ++ s.sizes) d) z s.moves);
      has = s.has;
    }

no_strict : (b : Bool) → b ≡ false → b ≡ true → ⊥
no_strict b e f = differ e f

some_same : {a b : ℕ} → Some a ≡ Some b → a ≡ b
some_same e = cc

of_counted : (m : Rules) (bd : Bound) (id n : ℕ) (l b : List ℕ) → Follows m bd → IsLength l n → (bd.strict ≡ true → shortest_by l n ≡ true)
    → n ≡ length b → IsElementBy m (id ∷ (l ++ b)) id b
of_counted ber bd id n l b i k s e = of_length b (subst (λ t. IsLength l t) e k)
of_counted minimal bd id n l b i k s e = of_short_length b (subst (λ t. IsShortLength l t) e (short_sound k (s i)))
of_counted der bd id n l b i k s e = of_short_length b (subst (λ t. IsShortLength l t) e (short_sound k (s i)))

of_open : (m : Rules) (bd : Bound) (id : ℕ) (b : List ℕ) → Follows m bd → bd.strict ≡ false → IsConstructed id
    → IsElementBy m (id ∷ 0x80 ∷ (b ++ (0 ∷ 0 ∷ []))) id b
of_open ber bd id b i s k = to_end b k
of_open minimal bd id b i s k = absurd (no_strict bd.strict s i)
of_open der bd id b i s k = absurd (no_strict bd.strict s i)

-- contents and their end, behind a header, make an element
element_made : (m : Rules) (bd : Bound) (id at limit : ℕ) (l b o : List ℕ) (h : Header) (len : Option ℕ) → Follows m bd → h.ident ≡ id
    → HasLength bd at limit l h len → Ended h.inner at b o → IsElementBy m (id ∷ (l ++ o)) id b
element_made m bd id at limit l b o h None i e (p, k, s, q) z =
    let o' : o ≡ b ++ (0 ∷ 0 ∷ []) = subst (λ (t : Header). Ended t.inner at b o) (sym q) z in
    let whole : 0x80 ∷ (b ++ (0 ∷ 0 ∷ [])) ≡ l ++ o = sym (ap (λ t. t ++ o) p ∙ ap (λ t. 0x80 ∷ t) o') in
    subst (λ t. IsElementBy m (id ∷ t) id b) whole (of_open m bd id b i s (subst IsConstructed e k))
element_made m bd id at limit l b o h (Some n) i e (k, s, r, q) z =
    let w : (o ≡ b) × (Some (at + n) ≡ Some (at + length b)) = subst (λ (t : Header). Ended t.inner at b o) (sym q) z in
    let v : at + n ≡ at + length b = some_same w.1 in
    subst (λ t. IsElementBy m (id ∷ (l ++ t)) id b) (sym w.0) (of_counted m bd id n l b i k s (omega arith))

pub some_zeros : (j : ℕ) → 0 < j → replicate {A = ℕ} j 0 ≡ [] → ⊥
some_zeros zero h e = omega arith
some_zeros (suc j) h e = absurd cc

-- contents that are cut
cut_element : (bd : Bound) (id at limit : ℕ) (l p : List ℕ) (h : Header) (len : Option ℕ) → IsFieldOctet id → h.ident ≡ id
    → HasLength bd at limit l h len → (h.inner.indefinite ≡ true → CutContents p) → Room h.inner.end limit at (length p + 1)
    → CutField (id ∷ (l ++ p)) × Room bd.end limit at (length p + 1)
cut_element bd id at limit l p h None f e (z, k, s, q) g r =
    let c = g (ap (λ (t : Header). t.inner.indefinite) (sym q)) in
    let whole : (id ∷ (l ++ p)) ++ c.rest ≡ (id ∷ []) ++ (0x80 ∷ (c.contents ++ (0 ∷ 0 ∷ []))) = ap (λ t. id ∷ ((t ++ p) ++ c.rest)) z
    ∙ ap (λ t. id ∷ 0x80 ∷ t) c.whole in (
      record {
        rest = c.rest;
        proper = c.proper;
        frame = subst Frame (sym whole)
            (indefinite (low f.octet f.one) (subst IsConstructed e k) c.frames);
        field = λ y. f.not_0 (let w = y.1 in cc);
      },
      subst (λ (t : Header). Room t.inner.end limit at (length p + 1)) (sym q) r,
    )
cut_element bd id at limit l p h (Some n) f e (k, s, room, q) g r =
    let r' : Room (Some (at + n)) limit at (length p + 1) = subst (λ (t : Header). Room t.inner.end limit at (length p + 1)) (sym q) r in
    let less : length p + 1 ≤ n = omega (arith, r'.0) in
    let zs : List ℕ = replicate (n - length p) 0 in
    let lz : length zs ≡ n - length p = length-replicate {A = ℕ} (n - length p) 0 in
    let whole : (id ∷ (l ++ p)) ++ zs ≡ (id ∷ []) ++ (l ++ (p ++ zs)) = ap (λ t. id ∷ t) (append_assoc l p zs) in
    let all : n ≡ length (p ++ zs) = omega (arith, length-append p zs, lz) in (
      record {
        rest = zs;
        proper = λ y. some_zeros (n - length p) (omega arith) y;
        frame = subst Frame (sym whole) (definite (p ++ zs) (low f.octet f.one) (subst (λ t. IsLength l t) all k));
        field = λ y. f.not_0 (let w = y.1 in cc);
      },
      room_less bd.end limit at n (length p + 1) less room,
    )

pub later : (end : Option ℕ) {c m : Cursor} (b : List ℕ) → Moves c b m → Room end m.limit m.at (length m.rest + 1) → Room end c.limit c.at (length c.rest + 1)
later end {c = c} {m = m} b p r = room_from end m.limit m.at c.limit c.at (length m.rest + 1) (length c.rest + 1) p.limit
    (omega (arith, p.at, ap length p.rest, length-append b m.rest)) r

-- the header is the one that is wanted
pub header_as : {A : Type 0} (bd : Bound) (id : ℕ) (c d : Cursor) (h : Header) (f : Header → Reader A) → expected_of bd c ≡ Ok (h, d)
    → h.ident ≡ id → (expected_of bd >>= λ h. cond (eqb h.ident id) (f h) (refuse UnexpectedElement)) c ≡ f h d
header_as bd id c d h f e k = bound_again (expected_of bd) _ c h d e ∙ ap (λ t. (cond t (f h) (refuse UnexpectedElement)) d) (eqb_yes h.ident id k)

-- an element of length octets l
sized_as : {A : Type 0} (bd : Bound) (id : ℕ) (b : List ℕ) (c d : Cursor) (l : List ℕ) (f : Header → Reader A) → IsIdentifier id (id ∷ [])
    → IsLength l (length b) → (bd.strict ≡ true → shortest_by l (length b) ≡ true) → Moves c (id ∷ (l ++ b)) d
    → Room bd.end c.limit c.at (length (id ∷ (l ++ b))) → (expected_of bd >>= λ h. cond (eqb h.ident id) (f h) (refuse UnexpectedElement))
    c ≡ f (sized bd (midway c (id ∷ l) b d).at id (length b) (shortest_by l (length b))) (midway c (id ∷ l) b d)
sized_as bd id b c d l f o k s p r =
    let mid = midway c (id ∷ l) b d in
    let one =
    header_sized bd id (length b) (id ∷ []) l c mid o k s (moves_prefix (id ∷ l) b p)
    (room_less bd.end c.limit c.at (length (id ∷ (l ++ b))) (length ((id ∷ []) ++ l) + length b) (omega (arith, length-append l b)) r) in
    header_as bd id c mid (sized bd mid.at id (length b) (shortest_by l (length b))) f one refl

inner_follows : (m : Rules) (bd : Bound) (h : Header) (at limit : ℕ) (l : List ℕ) (len : Option ℕ) → Follows m bd
    → HasLength bd at limit l h len → Follows m h.inner
inner_follows m bd h at limit l None i q = subst (λ (t : Header). Follows m t.inner) q.3 i
inner_follows m bd h at limit l (Some n) i q = subst (λ (t : Header). Follows m t.inner) q.3 i

-- a test for another identifier is no end of the input
pub enter_cut : (id : ℕ) (bd : Bound) (c : Cursor) {stopped : ℕ} → enter_of id bd c ≡ Err (stop Truncated stopped)
    → CutField c.rest × Room bd.end c.limit c.at (length c.rest + 1)
unfolding enter_of
enter_cut id bd c {stopped = stopped} e = elim (bind_err (expected_of bd) _ c e) [
  | inl x ↦ header_cut bd c x
  | inr s ↦ elim (branch (eqb s.0.ident id) (give s.0.inner) (refuse UnexpectedElement) s.1 (bad (stop Truncated stopped)) s.3) [
    | inl x ↦ absurd (let z = x.1 in cc)
    | inr x ↦ absurd (let z = x.1 in cc)
  ]
]

entered_as : {A : Type 0} (id : ℕ) (bd : Bound) (g : Bound → Reader A) (c d : Cursor) (h : Header) → expected_of bd c ≡ Ok (h, d)
    → h.ident ≡ id → (enter_of id bd >>= g) c ≡ g h.inner d
unfolding enter_of
entered_as id bd g c d h e i = bound_again (enter_of id bd) g c h.inner d (header_as bd id c d h (λ h. give h.inner) e i)

module _ {W A : Type 0} {S : Spelling W} {k : W → A} {g : Bound → Reader A} (id : ℕ) (o : IsFieldOctet id) (bd : Bound) where
  from_counted : (m : Rules) (r : ReadsTo m S k g) (c d : Cursor) (l b : List ℕ) (w : W) → Follows m bd → IsLength l (length b)
      → (bd.strict ≡ true → shortest_by l (length b) ≡ true) → Moves c (id ∷ (l ++ b)) d → S b w
      → Room bd.end c.limit c.at (length (id ∷ (l ++ b))) → (enter_of id bd >>= g) c ≡ Ok (k w, d)
  from_counted m r c d l b w i q s p u room =
      let mid = midway c (id ∷ l) b d in
      let one =
      header_sized bd id (length b) (id ∷ []) l c mid (low o.octet o.one) q s (moves_prefix (id ∷ l) b p)
      (room_less bd.end c.limit c.at (length (id ∷ (l ++ b))) (length ((id ∷ []) ++ l) + length b) (omega (arith, length-append l b)) room) in
      let h = sized bd mid.at id (length b) (shortest_by l (length b)) in
      let two = r.complete h.inner mid d b b w i (moves_suffix (id ∷ l) b p) u (refl, refl) (omega arith, omega (arith, room.1, length-append l b)) in
      entered_as id bd g c mid h one refl ∙ two

  from_open : (m : Rules) (r : ReadsTo m S k g) (c d : Cursor) (b : List ℕ) (w : W) → Follows m bd → IsConstructed id → bd.strict ≡ false
      → Moves c (id ∷ 0x80 ∷ (b ++ (0 ∷ 0 ∷ []))) d → S b w → Room bd.end c.limit c.at (length (id ∷ 0x80 ∷ (b ++ (0 ∷ 0 ∷ []))))
      → (enter_of id bd >>= g) c ≡ Ok (k w, d)
  from_open m r c d b w i q s p u room =
      let end : List ℕ = b ++ (0 ∷ 0 ∷ []) in
      let mid = midway c (id ∷ 0x80 ∷ []) end d in
      let one =
      header_opened bd id (id ∷ []) c mid (low o.octet o.one) q s (moves_prefix (id ∷ 0x80 ∷ []) end p)
      (room_less bd.end c.limit c.at (length (id ∷ 0x80 ∷ end)) 2 (omega arith) room) in
      let two =
      r.complete (opened bd id).inner mid d b end w i (moves_suffix (id ∷ 0x80 ∷ []) end p) u refl
      (room_from bd.end c.limit c.at c.limit (c.at + 2) (length (id ∷ 0x80 ∷ end)) (length end) refl (omega arith) room) in
      entered_as id bd g c mid (opened bd id) one refl ∙ two

  by_element : (m : Rules) (r : ReadsTo m S k g) (c d : Cursor) (e b : List ℕ) (w : W) → Follows m bd → IsElementBy m e id b → Moves c e d
      → S b w → Room bd.end c.limit c.at (length e) → (enter_of id bd >>= g) c ≡ Ok (k w, d)
  by_element ber r c d e b w i (of_length {l = l} b' q) p u room = from_counted ber r c d l b' w i q (λ t. absurd (no_strict bd.strict i t)) p u room
  by_element ber r c d e b w i (to_end b' q) p u room = from_open ber r c d b' w i q i p u room
  by_element minimal r c d e b w i (of_short_length {l = l} b' q) p u room =
      from_counted minimal r c d l b' w i q.is (λ t. short_complete q.is q.least) p u room
  by_element der r c d e b w i (of_short_length {l = l} b' q) p u room = from_counted der r c d l b' w i q.is (λ t. short_complete q.is q.least) p u room

module _ {W A : Type 0} {m : Rules} {S : Spelling W} {k : W → A} {g : Bound → Reader A} where
  pub element_reads : (id : ℕ) → IsFieldOctet id → (fields : A → W) → ((w : W) → fields (k w) ≡ w) → ((a : A) → k (fields a) ≡ a)
      → ReadsTo m S k g → Reads m (λ b a. element m id S b (fields a)) (λ bd. enter_of id bd >>= g)
  unfolding enter_of
  element_reads id o fields there back r = record { sound = sound; complete = complete; cut = cut }
    where
      sound : (bd : Bound) (c d : Cursor) (a : A) → Follows m bd → (enter_of id bd >>= g) c ≡ Ok (a, d)
          → (b : List ℕ) × Moves c b d × element m id S b (fields a)
      sound bd c d a i e =
          let s = bind_ok (enter_of id bd) g c e in
          let h = bind_ok (expected_of bd) _ c s.2 in
          elim (branch (eqb h.0.ident id) (give h.0.inner) (refuse UnexpectedElement) h.1 (okay (s.0, s.1)) h.3) [
            | inl x ↦
                let n = entered {m = m} bd id c h.1 h.0 o.one h.2 (eqb-true h.0.ident id x.0) in
                let inner : h.0.inner ≡ s.0 = ok_value x.1 in
                let mid : h.1 ≡ s.1 = ok_place x.1 in
                let body : g h.0.inner h.1 ≡ okay (a, d) = ap (λ t. g t h.1) inner ∙ ap (λ t. g s.0 t) mid ∙ s.3 in
                let p = r.sound h.0.inner h.1 d a (inner_follows m bd h.0 h.1.at h.1.limit n.sizes h.0.len i n.has) body in (
                  id ∷ (n.sizes ++ p.2),
                  moves_then n.moves p.4,
                  (
                    p.1,
                    element_made m bd id h.1.at h.1.limit n.sizes p.1 p.2 h.0 h.0.len i
                        n.same n.has p.3,
                    subst (λ t. S p.1 t) (sym (there p.0) ∙ ap fields p.6) p.5,
                  ),
                )
            | inr x ↦ absurd (let z = x.1 in cc)
          ]

      complete : (bd : Bound) (c d : Cursor) (b : List ℕ) (a : A) → Follows m bd → Moves c b d → element m id S b (fields a)
          → Room bd.end c.limit c.at (length b) → (enter_of id bd >>= g) c ≡ Ok (a, d)
      complete bd c d b a i p s room = by_element id o bd m r c d b s.0 (fields a) i s.1 p s.2 room ∙ ap (λ t. okay (t, d)) (back a)

      cut : (bd : Bound) (c : Cursor) (stopped : ℕ) → Follows m bd → (enter_of id bd >>= g) c ≡ Err (stop Truncated stopped)
          → CutField c.rest × Room bd.end c.limit c.at (length c.rest + 1)
      cut bd c stopped i e = elim (bind_err (enter_of id bd) g c e) [
        | inl x ↦ enter_cut id bd c x
        | inr s ↦
            let h = bind_ok (expected_of bd) _ c s.2 in
            elim (branch (eqb h.0.ident id) (give h.0.inner) (refuse UnexpectedElement) h.1 (okay (s.0, s.1)) h.3) [
              | inl x ↦
                  let n = entered {m = m} bd id c h.1 h.0 o.one h.2 (eqb-true h.0.ident id x.0) in
                  let inner : h.0.inner ≡ s.0 = ok_value x.1 in
                  let mid : h.1 ≡ s.1 = ok_place x.1 in
                  let body : g h.0.inner h.1 ≡ bad (stop Truncated stopped) = ap (λ t. g t h.1) inner ∙ ap (λ t. g s.0 t) mid ∙ s.3 in
                  let y = r.cut h.0.inner h.1 stopped (inner_follows m bd h.0 h.1.at h.1.limit n.sizes h.0.len i n.has) body in
                  let z = cut_element bd id h.1.at h.1.limit n.sizes h.1.rest h.0 h.0.len o n.same n.has y.0 y.1 in
                  (subst CutField (sym n.moves.rest) z.0, later bd.end (id ∷ n.sizes) n.moves z.1)
              | inr x ↦ absurd (let z = x.1 in cc)
            ]
      ]

-- the contents of a primitive element
pub counted_sound : (bd : Bound) (at limit : ℕ) (l : List ℕ) (h : Header) (len : Option ℕ) (c d : Cursor) (v : List ℕ)
    → HasLength bd at limit l h len → counted_of h.inner len c ≡ Ok (v, d)
    → Moves c v d × AreOctets v × IsLength l (length v) × (bd.strict ≡ true → shortest_by l (length v) ≡ true)
counted_sound bd at limit l h None c d v k e = absurd cc
counted_sound bd at limit l h (Some n) c d v (k, s, r, q) e =
    let p = octets_sound h.inner.end n c d v e in
    (p.0, p.1, subst (λ t. IsLength l t) (sym p.2) k, λ t. subst (λ z. shortest_by l z ≡ true) (sym p.2) (s t))

counted_cut : (bd : Bound) (at limit : ℕ) (l : List ℕ) (h : Header) (len : Option ℕ) (c : Cursor) {stopped : ℕ}
    → HasLength bd at limit l h len → counted_of h.inner len c ≡ Err (stop Truncated stopped)
    → (h.inner.indefinite ≡ true → CutContents c.rest) × Room h.inner.end c.limit c.at (length c.rest + 1)
counted_cut bd at limit l h None c k e = absurd cc
counted_cut bd at limit l h (Some n) c (k, s, r, q) e =
    (λ t. absurd (differ (ap (λ (t : Header). t.inner.indefinite) (sym q)) t), (octets_cut h.inner.end n c e).1)

-- a primitive element with these contents
pub primitive_complete : (bd : Bound) (id : ℕ) (b : List ℕ) (c d : Cursor) (l : List ℕ) → IsIdentifier id (id ∷ []) → IsLength l (length b)
    → (bd.strict ≡ true → shortest_by l (length b) ≡ true) → AreOctets b → Moves c (id ∷ (l ++ b)) d
    → Room bd.end c.limit c.at (length (id ∷ (l ++ b))) → primitive_of id bd c ≡ Ok (b, d)
unfolding primitive_of
primitive_complete bd id b c d l o k s a p room =
    let mid = midway c (id ∷ l) b d in
    sized_as bd id b c d l (λ h. counted_of h.inner h.len) o k s p room
    ∙ octets_complete (Some (mid.at + length b)) b mid d (moves_suffix (id ∷ l) b p) a (omega arith, omega (arith, room.1, length-append l b))

-- a primitive element of which P is true
pub scalar_reads : {m : Rules} (id : ℕ) (test : List ℕ → Bool) (reason : Reason) {P : List ℕ → Type 0} → IsFieldOctet id
    → (IsConstructed id → ⊥) → reason ≢ Truncated → ((v : List ℕ) → AreOctets v → test v ≡ true → P v)
    → ((v : List ℕ) → P v → AreOctets v × (test v ≡ true)) → Reads m (element m id (λ c v. (c ≡ v) × P c)) (scalar_of id test reason)
unfolding scalar_of primitive_of give_if
scalar_reads {m = m} id test reason {P = P} o prim known there back = record { sound = sound; complete = complete; cut = cut }
  where
    sound : (bd : Bound) (c d : Cursor) (v : List ℕ) → Follows m bd → scalar_of id test reason bd c ≡ Ok (v, d)
        → (b : List ℕ) × Moves c b d × element m id (λ c v. (c ≡ v) × P c) b v
    sound bd c d v i e =
        let s = bind_ok (primitive_of id bd) (give_if test reason) c e in
        let h = bind_ok (expected_of bd) _ c s.2 in
        elim (branch (test s.0) (give s.0) (refuse reason) s.1 (okay (v, d)) s.3) [
          | inl t ↦ elim (branch (eqb h.0.ident id) (counted_of h.0.inner h.0.len) (refuse UnexpectedElement) h.1 (okay (s.0, s.1)) h.3) [
            | inl x ↦
                let n = entered {m = m} bd id c h.1 h.0 o.one h.2 (eqb-true h.0.ident id x.0) in
                let p = counted_sound bd h.1.at h.1.limit n.sizes h.0 h.0.len h.1 s.1 s.0 n.has x.1 in
                let v' : s.0 ≡ v = ok_value t.1 in
                let d' : s.1 ≡ d = ok_place t.1 in (
                  id ∷ (n.sizes ++ s.0),
                  subst (λ q. Moves c (id ∷ (n.sizes ++ s.0)) q) d' (moves_then n.moves p.0),
                  (s.0, of_counted m bd id (length s.0) n.sizes s.0 i p.2 p.3 refl, (v', there s.0 p.1 t.0)),
                )
            | inr x ↦ absurd (let z = x.1 in cc)
          ]
          | inr t ↦ absurd (let z = t.1 in cc)
        ]

    counted : (bd : Bound) (c d : Cursor) (l b : List ℕ) → IsLength l (length b) → (bd.strict ≡ true → shortest_by l (length b) ≡ true)
        → P b → Moves c (id ∷ (l ++ b)) d → Room bd.end c.limit c.at (length (id ∷ (l ++ b))) → scalar_of id test reason bd c ≡ Ok (b, d)
    counted bd c d l b k s u p room =
        bound_again (primitive_of id bd) (give_if test reason) c b d
        (primitive_complete bd id b c d l (low o.octet o.one) k s (back b u).0 p room)
        ∙ ap (λ t. (cond t (give b) (refuse reason)) d) (back b u).1

    by_form : (m : Rules) (bd : Bound) (c d : Cursor) (e b v : List ℕ) → Follows m bd → IsElementBy m e id b → b ≡ v → P b → Moves c e d
        → Room bd.end c.limit c.at (length e) → scalar_of id test reason bd c ≡ Ok (v, d)
    by_form ber bd c d e b v i (of_length {l = l} b' q) z u p room = counted bd c d l b' q (λ t. absurd (no_strict bd.strict i t)) u p room
        ∙ ap (λ t. okay (t, d)) z
    by_form ber bd c d e b v i (to_end b' q) z u p room = absurd (prim q)
    by_form minimal bd c d e b v i (of_short_length {l = l} b' q) z u p room =
        counted bd c d l b' q.is (λ t. short_complete q.is q.least) u p room ∙ ap (λ t. okay (t, d)) z
    by_form der bd c d e b v i (of_short_length {l = l} b' q) z u p room =
        counted bd c d l b' q.is (λ t. short_complete q.is q.least) u p room ∙ ap (λ t. okay (t, d)) z

    complete : (bd : Bound) (c d : Cursor) (b v : List ℕ) → Follows m bd → Moves c b d → element m id (λ c v. (c ≡ v) × P c) b v
        → Room bd.end c.limit c.at (length b) → scalar_of id test reason bd c ≡ Ok (v, d)
    complete bd c d b v i p s room = by_form m bd c d b s.0 v i s.1 s.2.0 s.2.1 p room

    cut : (bd : Bound) (c : Cursor) (stopped : ℕ) → Follows m bd → scalar_of id test reason bd c ≡ Err (stop Truncated stopped)
        → CutField c.rest × Room bd.end c.limit c.at (length c.rest + 1)
    cut bd c stopped i e = elim (bind_err (primitive_of id bd) (give_if test reason) c e) [
      | inl x ↦ elim (bind_err (expected_of bd) _ c x) [
        | inl y ↦ header_cut bd c y
        | inr h ↦ elim (branch (eqb h.0.ident id) (counted_of h.0.inner h.0.len) (refuse UnexpectedElement) h.1 (bad (stop Truncated stopped)) h.3) [
          | inl y ↦
              let n = entered {m = m} bd id c h.1 h.0 o.one h.2 (eqb-true h.0.ident id y.0) in
              let q = counted_cut bd h.1.at h.1.limit n.sizes h.0 h.0.len h.1 n.has y.1 in
              let z = cut_element bd id h.1.at h.1.limit n.sizes h.1.rest h.0 h.0.len o n.same n.has q.0 q.1 in
              (subst CutField (sym n.moves.rest) z.0, later bd.end (id ∷ n.sizes) n.moves z.1)
          | inr y ↦ absurd (let z = y.1 in cc)
        ]
      ]
      | inr s ↦ elim (branch (test s.0) (give s.0) (refuse reason) s.1 (bad (stop Truncated stopped)) s.3) [
        | inl y ↦ absurd (let z = y.1 in cc)
        | inr y ↦ absurd (known (let z = y.1 in cc))
      ]
    ]
