-- What is passed on the way through a message.
use Rattle.std.proofs.Common.{◌≡◌, ◌≢◌, ◌⊎◌, inl, inr, ℕ, zero, suc, ◌+◌, ◌-◌, ◌<◌, ◌≤◌, List, [], ◌∷◌, ◌++◌, length, take, drop, replicate, Option, Some, None, true, false, refl, sym, ◌∙◌, ap, subst, arith, append_assoc, length-append}
use Rattle.std.proofs.lemmas.List.{append-nil, length-replicate, length-take-le, take-append-drop}
use Rattle.std.proofs.Math.Seq.{drop-append_seam}
use Rattle.std.specs.Io.KnownBytes.{Consumes}
use Rattle.cms_tlv.specs.declared.bound.Bound.{Bound}
use Rattle.cms_tlv.specs.declared.bound.Header.{Header}
use Rattle.cms_tlv.specs.declared.fault.Fault.{Fault}
use Rattle.cms_tlv.specs.declared.fault.Fault.TheVariants as faults
use Rattle.cms_tlv.specs.declared.fault.Reason.TheVariants as reasons
use Rattle.cms_tlv.specs.Clauses.{Ends, Faults, Found, IsCut, OctetsTaken, Refuses, SpellsHeader, frame_by}
use Rattle.cms_tlv.specs.Headers.{IsConstructed, IsIdentifier, low, high, IsLength, short, long}
use Rattle.cms_tlv.specs.Frames.{Frame, Frames, definite, indefinite, none, more, IsEnd}
use Rattle.cms_tlv.specs.State.{State}
use Rattle.cms_c.specs.Extents.{BeginsNoFrame, HasFrame, IsOpenedAt, IsOpened, IsPartOf, IsReachBy, IsReached, BeginsNeither, Reaches, into}
use Rattle.cms_c.specs.declared.extent.Part.TheVariants as parts
use Rattle.cms_c.specs.declared.extent.Reach.{Reach}
use Rattle.cms_c.specs.declared.extent.Reach.TheVariants as reaches
use Rattle.cms_c.specs.Extents as extents

-- one more frame after others
frames_then : {c f : List ℕ} → Frames c → Frame f → (IsEnd f → ⊥) → Frames (c ++ f)
frames_then {f = f} none h k = subst Frames (append-nil f) (more h k none)
frames_then {f = f} (more {f = g} {c = c} p q r) h k = subst Frames (sym (append_assoc g c f)) (more p q (frames_then r h k))

assoc_header : (i l c x : List ℕ) → (i ++ (l ++ c)) ++ x ≡ i ++ (l ++ (c ++ x))
assoc_header i l c x = simp append_assoc

assoc_opened : (b i c x : List ℕ) → (b ++ (i ++ (0x80 ∷ c))) ++ x ≡ b ++ (i ++ (0x80 ∷ (c ++ x)))
assoc_opened b i c x = simp append_assoc

-- nothing is open in no octets
pub opened_none : {b : List ℕ} → IsOpened 0 b → b ≡ []
opened_none extents.none = refl

-- a header of indefinite length is entered
pub opened_into : {n t : ℕ} {b i : List ℕ} → IsOpened n b → IsIdentifier t i → IsConstructed t → IsOpened (suc n) (b ++ (i ++ (0x80 ∷ [])))
opened_into o p k = into o p k none

-- a frame is passed
pub opened_past : {n : ℕ} {b f : List ℕ} → IsOpened (suc n) b → Frame f → (IsEnd f → ⊥) → IsOpened (suc n) (b ++ f)
opened_past {n = n} {f = f} (into {b = b} {i = i} {c = c} o p k cs) h e =
    subst (IsOpened (suc n)) (sym (assoc_opened b i c f)) (into o p k (frames_then cs h e))

not_end : {t : ℕ} {i : List ℕ} (x : List ℕ) → IsIdentifier t i → IsConstructed t → IsEnd (i ++ x) → ⊥
not_end x (low {t = t} o p) k e = let h : t ≡ 0 = cc in omega (arith, k, h)
not_end x (high {t = t} o p q r s m) k e = let h : t ≡ 0 = cc in omega (arith, k, h)

-- contents are ended
pub ended : {b : List ℕ} → IsOpened 1 b → Frame (b ++ 0 ∷ 0 ∷ [])
ended (into {b = b} {i = i} {c = c} o p k cs) =
    subst Frame (sym (assoc_opened b i c (0 ∷ 0 ∷ [])) ∙ refl) (rw (opened_none o) (indefinite p k cs))

pub ended_inside : {n : ℕ} {b : List ℕ} → IsOpened (suc (suc n)) b → IsOpened (suc n) (b ++ 0 ∷ 0 ∷ [])
ended_inside {n = n} (into {b = b} {i = i} {c = c} o p k cs) =
    subst (IsOpened (suc n)) (sym (assoc_opened b i c (0 ∷ 0 ∷ [])))
    (opened_past o (indefinite p k cs) (not_end (0x80 ∷ (c ++ 0 ∷ 0 ∷ [])) p k))

-- what ends all that is open
pub all_ended : (n : ℕ) {b : List ℕ} → IsOpened (suc n) b → (zs : List ℕ) × Frame (b ++ 0 ∷ 0 ∷ zs)
all_ended zero o = ([], ended o)
all_ended (suc n) {b = b} o =
    let h = all_ended n (ended_inside o) in
    (0 ∷ 0 ∷ h.0, subst Frame (append_assoc b (0 ∷ 0 ∷ []) (0 ∷ 0 ∷ h.0)) h.1)

nil_left : (x y : List ℕ) → x ++ y ≡ [] → x ≡ []
nil_left [] y e = refl
nil_left (v ∷ vs) y e = cc

moved : (b rest x y : List ℕ) → (b ++ (rest ++ x)) ++ y ≡ (b ++ rest) ++ (x ++ y)
moved b rest x y = simp append_assoc

rest_inside : {n : ℕ} {b : List ℕ} (rest x : List ℕ) → IsOpened (suc n) b → Frame (rest ++ x) → x ≢ [] → (IsEnd (rest ++ x) → ⊥) → IsCut (b ++ rest)
rest_inside {n = n} {b = b} rest x o h k e =
    let (zs, f) = all_ended n (opened_past o h e) in
    (x ++ 0 ∷ 0 ∷ zs, (λ q. k (nil_left x (0 ∷ 0 ∷ zs) q)), subst Frame (moved b rest x (0 ∷ 0 ∷ zs)) f)

-- octets are missing inside, if they are missing at the place
pub cut_inside : (n : ℕ) {b : List ℕ} (rest : List ℕ) → IsOpened n b → (0 < n → IsEnd rest → ⊥) → IsCut rest → IsCut (b ++ rest)
cut_inside zero rest o e h = rw (opened_none o) h
cut_inside (suc n) {b = b} [] o e h = let (zs, f) = all_ended n o in (0 ∷ 0 ∷ zs, (λ q. cc), subst Frame (ap (λ t. t ++ 0 ∷ 0 ∷ zs) (sym (append-nil b))) f)
cut_inside (suc n) {b = b} (zero ∷ []) o e h = let (zs, f) = all_ended n o in (0 ∷ zs, (λ q. cc), subst Frame (sym (append_assoc b (0 ∷ []) (0 ∷ zs))) f)
cut_inside (suc n) (suc p ∷ []) o e (x, k, h) = rest_inside (suc p ∷ []) x o h k (λ z. cc)
cut_inside (suc n) (p ∷ q ∷ r) o e (x, k, h) = rest_inside (p ∷ q ∷ r) x o h k (λ z. e (omega arith) (r, cc))

-- A header that a reader over octets in memory took, or failed to take.

abbrev pub start : List ℕ → ℕ → State
start octets limit = record { done = []; ahead = None; left = Some octets; failures = 0; limit = limit; fault = None }

abbrev pub top : Bound
top = record { end = None; indefinite = true; strict = false }

consumed_rest : (octets : List ℕ) (left : Option (List ℕ)) (taken : List ℕ) → Consumes (Some octets) left taken
    → (rest : List ℕ) × (left ≡ Some rest) × (octets ≡ taken ++ rest)
consumed_rest octets None taken h = absurd h
consumed_rest octets (Some rest) taken h = (rest, refl, h)

-- the octets that were taken, and those that are left
taken_rest : (octets : List ℕ) (limit : ℕ) (new : State) (taken : List ℕ) → OctetsTaken (start octets limit) new taken
    → (rest : List ℕ) × (new.left ≡ Some rest) × (octets ≡ taken ++ rest)
taken_rest octets limit new taken h =
    let (rest, l, p) = consumed_rest octets new.left h.more h.left in
    (rest, l, p ∙ ap (λ t. t ++ rest) (sym h.order))

pub nothing_begins : (octets : List ℕ) (limit : ℕ) (new : State) → Refuses (frame_by false) top (start octets limit) new → BeginsNoFrame limit octets
nothing_begins octets limit new h x f y room e is =
    let (rest, l, p) = taken_rest octets limit new h.octets h.taken in
    h.hopeless (rest ++ x) f y tt (tt, omega (arith, room)) (sym (append_assoc h.octets rest x) ∙ ap (λ t. t ++ x) (sym p) ∙ e) is

pub octets_missing : (octets : List ℕ) (limit : ℕ) (new : State) → Ends top (start octets limit) new → IsCut octets × (length octets < limit)
octets_missing octets limit new h =
    let (rest, l, p) = taken_rest octets limit new h.octets h.taken in
    let n : rest ≡ [] = rw l at h.at_end in
    let all : octets ≡ h.octets = p ∙ ap (λ t. h.octets ++ t) n ∙ append-nil h.octets in
    (subst IsCut (sym all) h.cut, omega (arith, ap length all, h.room.1))

-- why no header was read
pub lacks : (octets : List ℕ) (limit : ℕ) (new : State) (f : Fault) (reach : Reach) → Faults (frame_by false) top (start octets limit) new f
    → IsReachBy f reach → BeginsNeither octets limit reach
lacks octets limit new f reaches.More h (at, is) = octets_missing octets limit new ((rw is at h).2 refl)
lacks octets limit new f reaches.Nothing h (reason, at, is, other) = nothing_begins octets limit new ((rw is at h).1 other)
lacks octets limit new f reaches.Unknown h by = tt
lacks octets limit new f reaches.Whole h by = absurd by

pub lacks_of : (octets : List ℕ) (limit : ℕ) (bd : Bound) (old new : State) (f : Fault) (reach : Reach) → bd ≡ top → old ≡ start octets limit
    → Faults (frame_by bd.strict) bd old new f → IsReachBy f reach → BeginsNeither octets limit reach
lacks_of octets limit bd old new f reach e s h by = lacks octets limit new f reach (rw (e, s) at h) by

module _ (octets : List ℕ) (limit : ℕ) (new : State) (header : Header) (n : ℕ)
    (found : Found (SpellsHeader top new.limit (length new.done)) (start octets limit) new header) (is : header.len ≡ Some n) where
  -- the header and what follows it
  record HasHeader : Type 0 where
    pub identifier : List ℕ
    pub sizes : List ℕ
    pub rest : List ℕ
    pub parts : octets ≡ identifier ++ (sizes ++ rest)
    pub count : length new.done ≡ length identifier + length sizes
    pub is_identifier : IsIdentifier header.ident identifier
    pub is_length : IsLength sizes n
    pub fits : length new.done + n ≤ limit

  has_header : HasHeader
  has_header =
      let (rest, l, p) = taken_rest octets limit new found.octets found.taken in
      let s = found.spells in
      record {
        identifier = s.identifier;
        sizes = s.sizes;
        rest = rest;
        parts = p ∙ ap (λ t. t ++ rest) s.parts ∙ append_assoc s.identifier s.sizes rest;
        count = ap length (found.kept ∙ s.parts) ∙ length-append s.identifier s.sizes;
        is_identifier = s.is_identifier;
        is_length = (rw is at s.says).0;
        fits = omega (arith, (rw is at s.says).1.1, found.taken.limit);
      }

  -- fewer octets than the contents have
  pub contents_missing : length octets - length new.done < n → IsCut octets × (length octets < limit)
  contents_missing less =
      let h = has_header in
      let l = ap length h.parts ∙ length-append h.identifier (h.sizes ++ h.rest) ∙ ap (λ m. length h.identifier + m) (length-append h.sizes h.rest) in
      let x = replicate (n - length h.rest) 0 in
      let k : n ≡ length (h.rest ++ x) = omega (arith, less, l, h.count, length-append h.rest x, length-replicate {A = ℕ} (n - length h.rest) 0) in
      let f = definite (h.rest ++ x) h.is_identifier (subst (IsLength h.sizes) k h.is_length) in
      let cut : IsCut octets = (
        x,
        (λ e. let z = ap length e in omega (arith, less, l, h.count, z, length-replicate {A = ℕ} (n - length h.rest) 0)),
        subst Frame (sym (ap (λ t. t ++ x) h.parts ∙ assoc_header h.identifier h.sizes h.rest x)) f,
      ) in
      (cut, omega (arith, less, h.fits, l, h.count))

  -- all of the contents
  pub element_whole : n ≤ length octets - length new.done → HasFrame octets (length new.done + n) × (length new.done + n ≤ limit)
  element_whole fits =
      let h = has_header in
      let l = ap length h.parts ∙ length-append h.identifier (h.sizes ++ h.rest) ∙ ap (λ m. length h.identifier + m) (length-append h.sizes h.rest) in
      let k : length (take n h.rest) ≡ n = length-take-le n h.rest (omega (arith, fits, l, h.count)) in (
        record {
          frame = h.identifier ++ (h.sizes ++ take n h.rest);
          rest = drop n h.rest;
          parts = h.parts ∙ ap (λ t. h.identifier ++ (h.sizes ++ t)) (sym (take-append-drop n h.rest))
              ∙ sym (assoc_header h.identifier h.sizes (take n h.rest) (drop n h.rest));
          count = length-append h.identifier (h.sizes ++ take n h.rest) ∙ ap (λ m. length h.identifier + m) (length-append h.sizes (take n h.rest))
              ∙ omega (arith, k, h.count);
          is = definite (take n h.rest) h.is_identifier (subst (IsLength h.sizes) (sym k) h.is_length);
        },
        h.fits,
      )

module _ (octets : List ℕ) (limit : ℕ) (bd : Bound) (old new : State) (header : Header) (n : ℕ) (e : bd ≡ top) (s : old ≡ start octets limit)
    (found : Found (SpellsHeader bd new.limit (length new.done)) old new header) (is : header.len ≡ Some n) where
  pub contents_missing_of : length octets - length new.done < n → IsCut octets × (length octets < limit)
  contents_missing_of = contents_missing octets limit new header n (rw (e, s) at found) is

  pub element_whole_of : n ≤ length octets - length new.done → HasFrame octets (length new.done + n) × (length new.done + n ≤ limit)
  element_whole_of = element_whole octets limit new header n (rw (e, s) at found) is

-- What is passed after what was passed before.

-- as many headers have as many octets
pub opened_count : {n : ℕ} {b : List ℕ} → IsOpened n b → n ≤ length b
opened_count extents.none = omega arith
opened_count (into {b = b} {i = i} {c = c} o p k cs) =
    omega (arith, opened_count o, length-append b (i ++ (0x80 ∷ c)), length-append i (0x80 ∷ c))

pub begun_count : (octets : List ℕ) (end n : ℕ) → IsOpenedAt octets end n → (n ≤ end) × (end ≤ length octets)
begun_count octets end n h =
    (omega (arith, opened_count h.opened, h.count), omega (arith, h.count, ap length h.parts, length-append h.passed h.rest))

-- the octets from the place on
rest_of : (octets left : List ℕ) (end n : ℕ) → left ≡ drop end octets → (h : IsOpenedAt octets end n) → left ≡ h.rest
rest_of octets left end n q h = q ∙ ap (λ m. drop m octets) (sym h.count) ∙ ap (drop (length h.passed)) h.parts ∙ drop-append_seam h.passed h.rest

module _ (octets left : List ℕ) (end n : ℕ) (at : left ≡ drop end octets) where
  pub stops : (limit : ℕ) (reach : Reach) → (0 < n → IsEnd left → ⊥) → BeginsNeither left (limit - end) reach
      → IsOpenedAt octets end n → Reaches octets limit end n reach
  stops limit reaches.More k h b = record {
    cut = rw b.parts (cut_inside n b.rest b.opened (rw (rest_of octets left end n at b) at k) (rw (rest_of octets left end n at b) at h.0));
    fewer = omega (arith, h.1, ap length (rest_of octets left end n at b), ap length b.parts, length-append b.passed b.rest, b.count);
    begun = b;
    last = rw (rest_of octets left end n at b) at h.0;
  }
  stops limit reaches.Whole k h b = absurd h
  stops limit reaches.Nothing k h b = record { begun = b; nothing = rw (rest_of octets left end n at b) at h }
  stops limit reaches.Unknown k h b = b

  -- what follows `f`
  begun_with : (b : IsOpenedAt octets end n) (f r : List ℕ) (m k : ℕ) → b.rest ≡ f ++ r → length f ≡ k → IsOpened m (b.passed ++ f) → IsOpenedAt octets (end + k) m
  begun_with b f r m k p q o = record {
    passed = b.passed ++ f;
    rest = r;
    parts = b.parts ∙ ap (λ t. b.passed ++ t) p ∙ sym (append_assoc b.passed f r);
    count = length-append b.passed f ∙ omega (arith, b.count, q);
    opened = o;
  }

  frame_with : (b : IsOpenedAt octets end n) (f r : List ℕ) (k : ℕ) → b.rest ≡ f ++ r → length f ≡ k → Frame (b.passed ++ f) → HasFrame octets (end + k)
  frame_with b f r k p q o = record {
    frame = b.passed ++ f;
    rest = r;
    parts = b.parts ∙ ap (λ t. b.passed ++ t) p ∙ sym (append_assoc b.passed f r);
    count = length-append b.passed f ∙ omega (arith, b.count, q);
    is = o;
  }

  pub past_header : (room k : ℕ) → IsPartOf left room (parts.Header k) → IsOpenedAt octets end n → IsOpenedAt octets (end + k) (n + 1)
  past_header room k (t, i, r, p, q, is, con) b =
      let e : suc n ≡ n + 1 = omega arith in
      subst (IsOpenedAt octets (end + k)) e (begun_with b (i ++ (0x80 ∷ [])) r (suc n) k (sym (rest_of octets left end n at b) ∙ p) q (opened_into b.opened is con))

some_identifier : {t : ℕ} {i : List ℕ} → IsIdentifier t i → 0 < length i
some_identifier (low o p) = omega arith
some_identifier (high o p q r s k) = omega arith

some_length : {l : List ℕ} {n : ℕ} → IsLength l n → 0 < length l
some_length (short p) = omega arith
some_length (long p q) = omega arith

-- an element has two octets or more
two_octets : {f : List ℕ} → Frame f → 2 ≤ length f
two_octets (definite {i = i} {l = l} c p q) = omega (arith, some_identifier p, some_length q, length-append i (l ++ c), length-append l c)
two_octets (indefinite {i = i} {c = c} p k cs) = omega (arith, some_identifier p, length-append i (0x80 ∷ (c ++ 0 ∷ 0 ∷ [])))

pub element_count : (octets : List ℕ) (k : ℕ) → HasFrame octets k → (0 < k) × (k ≤ length octets)
element_count octets k h =
    (omega (arith, two_octets h.is, h.count), omega (arith, h.count, ap length h.parts, length-append h.frame h.rest))

pub past_element : (octets left : List ℕ) (end n limit k : ℕ) → left ≡ drop end octets → (0 < n → IsEnd left → ⊥)
    → IsPartOf left (limit - end) (parts.Element k) → IsOpenedAt octets end n → IsReached octets limit (end + k) n
past_element octets left end zero limit k at e (h, fits) b = inr (
  refl,
  frame_with octets left end zero at b h.frame h.rest k (sym (rest_of octets left end zero at b) ∙ h.parts) h.count (rw (opened_none b.opened) h.is),
  omega (arith, fits, element_count left k h),
)
past_element octets left end (suc n) limit k at e (h, fits) b =
    inl (begun_with octets left end (suc n) at b h.frame h.rest (suc n) k (sym (rest_of octets left end (suc n) at b) ∙ h.parts) h.count
    (opened_past b.opened h.is (λ z. e (omega arith) (z.0 ++ h.rest, h.parts ∙ ap (λ t. t ++ h.rest) z.1))))

past_end : (octets left : List ℕ) (end n limit : ℕ) → left ≡ drop end octets → IsEnd left → end + 2 ≤ limit → IsOpenedAt octets end (suc n)
    → IsReached octets limit (end + 2) n
past_end octets left end zero limit at h fits b =
    inr (refl, frame_with octets left end 1 at b (0 ∷ 0 ∷ []) h.0 2 (sym (rest_of octets left end 1 at b) ∙ h.1) refl (ended b.opened), fits)
past_end octets left end (suc n) limit at h fits b =
    inl (begun_with octets left end (suc (suc n)) at b (0 ∷ 0 ∷ []) h.0 (suc n) 2 (sym (rest_of octets left end (suc (suc n)) at b) ∙ h.1) refl (ended_inside b.opened))

pub past_last : (octets left : List ℕ) (end n limit : ℕ) → left ≡ drop end octets → 0 < n → IsEnd left → end + 2 ≤ limit → IsOpenedAt octets end n
    → IsReached octets limit (end + 2) (n - 1)
past_last octets left end n limit at p h fits b =
    let e : n ≡ suc (n - 1) = omega (arith, p) in past_end octets left end (n - 1) limit at h fits (subst (IsOpenedAt octets end) e b)

-- where two octets pass the limit, nothing begins
pub no_room : (octets : List ℕ) (end n limit : ℕ) → limit < end + 2 → IsOpenedAt octets end n → Reaches octets limit end n reaches.Nothing
no_room octets end n limit less b = record {
  begun = b;
  nothing = λ x f y room e is. let two : 2 ≤ length f = two_octets is in omega (arith, room, two, less);
}

-- the end of the way
pub all_reached : (octets : List ℕ) (limit end : ℕ) → end ≢ 0 → IsReached octets limit end 0 → HasFrame octets end × (end ≤ limit)
all_reached octets limit end e (inl b) = absurd (e (sym b.count ∙ ap length (opened_none b.opened)))
all_reached octets limit end e (inr h) = (h.1, h.2)

pub still_begun : (octets : List ℕ) (limit end n : ℕ) → (end ≡ 0) ⊎ (0 < n) → IsReached octets limit end n → IsOpenedAt octets end n
still_begun octets limit end n at (inl b) = b
still_begun octets limit end n (inl z) (inr h) = let s = two_octets h.1.is in let no : ⊥ = omega (arith, z, s, h.1.count) in absurd no
still_begun octets limit end n (inr p) (inr h) = let no : ⊥ = omega (arith, p, h.0) in absurd no
