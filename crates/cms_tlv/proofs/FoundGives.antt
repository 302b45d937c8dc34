-- What is found at hand gives.
use Rattle.std.proofs.Common.{◌≡◌, ℕ, suc, ◌+◌, ◌-◌, ◌<◌, ◌≤◌, take, List, [], ◌∷◌, ◌++◌, length, Option, Some, None, true, Ok, refl, sym, ap, subst, ◌∙◌, arith, append_assoc, length-append}
use Rattle.std.specs.Io.KnownBytes.{Consumes}
use Rattle.std.proofs.lemmas.List.{append-nil}
use Rattle.cms_tlv.specs.declared.bound.Bound.{Bound}
use Rattle.cms_tlv.specs.declared.fault.Fault.{Fault}
use Rattle.cms_tlv.specs.declared.fault.Fault.TheVariants as faults
use Rattle.cms_tlv.specs.Clauses.{Room}
use Rattle.cms_tlv.specs.internal.Found.{Heads, found_at_hand, IsFoundHeader, IsPrimitive, IsWhole, TakesFound, WantsMemory, HasHeaderOf, HasPrimitiveOf, HasElementOf}
use Rattle.cms_tlv.specs.State.{State, as_list}
use Rattle.cms_tlv.specs.Reading.{Reader, expected_of, framed_of, primitive_of}
use Rattle.cms_tlv.specs.Spans.{octets_in}
use Rattle.cms_tlv.proofs.Elements.{primitive_complete}
use Rattle.cms_tlv.proofs.SpanLaws.{span_later, span_new}
use Rattle.cms_tlv.specs.Refines.{cursor, RefinesWithValue, Failed, Kept, plain, seen}
use Rattle.cms_tlv.proofs.Inverse.{okay}
use Rattle.cms_tlv.proofs.ReadingLaws.{Moves}
use Rattle.cms_tlv.proofs.Steps.{with_fault, Advance-fault, not_read}
use Rattle.cms_tlv.proofs.HeaderReads.{sized, shortest_by, header_sized}
use Rattle.cms_tlv.proofs.ShortReads.{short_complete}
use Rattle.cms_tlv.proofs.OpaqueReads.{framed_complete}

taken_so : (ahead : Option ℕ) (n first : ℕ) (held behind : List ℕ) → Heads ahead held first behind
    → first ∷ take n behind ≡ as_list ahead ++ found_at_hand ahead n held
taken_so None n first held behind h =
    let e : suc n ≡ n + 1 = omega arith in
    ap (λ m. take m (first ∷ behind)) e ∙ ap (take (n + 1)) (sym h)
taken_so (Some octet) n first held behind h = rw (h.0, h.1) refl

pub takes_found : (P : List ℕ → Type 0) (old new : State) (n first : ℕ) (held behind : List ℕ) → Heads old.ahead held first behind
    → P (first ∷ take n behind) → new.done ≡ old.done ++ first ∷ take n behind → new.ahead ≡ None
    → Consumes old.left new.left (found_at_hand old.ahead n held) → new.limit ≡ old.limit → new.failures ≡ old.failures → new.fault ≡ None
    → TakesFound P old new
takes_found P old new n first held behind h p d a l m f s = record {
  octets = first ∷ take n behind;
  found = p;
  more = found_at_hand old.ahead n held;
  order = taken_so old.ahead n first held behind h;
  done = d;
  clear = a;
  left = l;
  limit = m;
  failures = f;
  sound = s;
}

module _ {P : List ℕ → Type 0} {a b : State} (t : TakesFound P a b) where
  found_moves : (ys : List ℕ) → Moves (cursor a (t.more ++ ys)) t.octets (cursor b ys)
  found_moves ys = record {
    rest = sym (append_assoc (as_list a.ahead) t.more ys) ∙ ap (λ x. x ++ ys) (sym t.order) ∙ ap (λ x. t.octets ++ (as_list x ++ ys)) (sym t.clear);
    at = ap length t.done ∙ length-append a.done t.octets;
    limit = t.limit;
  }

  found_gave : {V W : Type 0} (view : State → V → W) (f : Reader W) (v : V) → a.fault ≡ None
      → ((ys : List ℕ) → f (cursor a (t.more ++ ys)) ≡ Ok (view b v, cursor b ys))
      → ((later : State) → Kept b later → view later v ≡ view b v) → RefinesWithValue view f a b v
  found_gave view f v n g lasts = record {
    reaches = record {
      more = t.more;
      took = record {
        read = t.octets;
        done = t.done;
        order = sym t.order ∙ sym (append-nil t.octets) ∙ ap (λ x. t.octets ++ as_list x) (sym t.clear);
        left = t.left;
        limit = t.limit;
        failures = omega (arith, t.failures);
        sound = λ _. n;
        unfailed = λ _. (not_read n, t.failures);
      };
      refines = g;
    };
    sound = t.sound;
    lasts = lasts;
  }

  found_more : 0 < length t.octets → length a.done < length b.done
  found_more l = omega (arith, ap length t.done, length-append a.done t.octets, l)

-- there is room for some octets, if there are no more of them
abbrev pub RoomFor : Bound → State → ℕ → Type 0
RoomFor bd s room = (n : ℕ) → 0 < n → n ≤ room → Room bd.end s.limit (length s.done) n

pub header_gave : (bd : Bound) (room ident len : ℕ) {a b : State} → TakesFound (λ o. IsFoundHeader room o ident len) a b → a.fault ≡ None
    → RoomFor bd a room → HasHeaderOf bd a b (sized bd (length b.done) ident len true)
header_gave bd room ident len {a = a} {b = b} t n r =
    let h = t.found in
    let short : shortest_by h.sizes len ≡ true = short_complete h.is_length.is h.is_length.least in
    let size : length t.octets ≡ suc (length h.sizes) = ap length h.parts in
    let fits : Room bd.end a.limit (length a.done) (suc (length h.sizes) + len) = r (suc (length h.sizes) + len) (omega arith) (omega (arith, size, h.fits)) in
    record {
      gave = found_gave t plain (expected_of bd) (sized bd (length b.done) ident len true) n (λ ys.
          header_sized bd ident len (ident ∷ []) h.sizes (cursor a (t.more ++ ys)) (cursor b ys) h.is_identifier h.is_length.is
          (λ _. short) (subst (λ x. Moves (cursor a (t.more ++ ys)) x (cursor b ys)) h.parts (found_moves t ys)) fits
          ∙ ap (λ s. okay (sized bd (length b.done) ident len s, cursor b ys)) short) (λ later k. refl);
      clear = t.clear;
      moved = found_more t (omega (arith, size));
      room = let p = ap (λ x. length (as_list x)) t.clear in omega (arith, p, ap length t.done, length-append a.done t.octets, size, t.limit, fits.1);
    }

pub element_gave : (bd : Bound) (room : ℕ) {a b : State} → TakesFound (λ o. IsWhole room o) a b → a.fault ≡ None → RoomFor bd a room → HasElementOf bd a b
element_gave bd room {a = a} {b = b} t n r =
    let h = t.found in
    record {
      gave =
          found_gave t plain (framed_of 64 bd) tt n (λ ys. framed_complete 64 1 refl bd (cursor a (t.more ++ ys)) (cursor b ys) t.octets
          h.framed (found_moves t ys) (r (length t.octets) h.some h.fits)) (λ later k. refl);
      clear = t.clear;
      moved = found_more t h.some;
    }

pub primitive_gave : (bd : Bound) (room id len start end : ℕ) {a b : State} → TakesFound (λ o. IsPrimitive room id o len) a b
    → a.fault ≡ None → RoomFor bd a room → end ≡ length b.done → start ≡ end - len → HasPrimitiveOf id bd a b (record { start = start; end = end })
primitive_gave bd room id len start end {a = a} {b = b} t n r e s =
    let h = t.found in
    let before : List ℕ = a.done ++ (id ∷ h.sizes) in
    let parts : b.done ≡ before ++ h.contents = t.done ∙ ap (λ x. a.done ++ x) h.parts ∙ sym (append_assoc a.done (id ∷ h.sizes) h.contents) in
    let whole : length b.done ≡ length before + length h.contents = ap length parts ∙ length-append before h.contents in
    let from : start ≡ length before = omega (arith, e, s, whole, h.counted) in
    let to : end ≡ length (before ++ h.contents) = e ∙ ap length parts in
    let shows : octets_in b.done start end ≡ h.contents = ap (λ x. octets_in x start end) parts
    ∙ ap (λ i. octets_in (before ++ h.contents) i end) from ∙ ap (λ i. octets_in (before ++ h.contents) (length before) i) to
    ∙ span_new before h.contents in
    let some : 0 < length t.octets = omega (arith, ap length h.parts) in
    let fits : Room bd.end a.limit (length a.done) (length (id ∷ (h.sizes ++ h.contents))) =
    subst (λ x. Room bd.end a.limit (length a.done) (length x)) h.parts (r (length t.octets) some h.fits) in
    record {
      gave = found_gave t seen (primitive_of id bd) (record { start = start; end = end }) n (λ ys.
          primitive_complete bd id h.contents (cursor a (t.more ++ ys)) (cursor b ys) h.sizes h.is_identifier h.is_length.is
          (λ _. short_complete h.is_length.is h.is_length.least) h.are_octets
          (subst (λ x. Moves (cursor a (t.more ++ ys)) x (cursor b ys)) h.parts (found_moves t ys)) fits
          ∙ ap (λ x. okay (x, cursor b ys)) (sym shows))
          (λ later k. ap (λ x. octets_in x start end) k.done ∙ span_later b.done k.octets start end (omega arith) (omega (arith, e)));
      clear = t.clear;
      moved = found_more t some;
      lies = (omega arith, omega (arith, e));
    }

pub memory_wanted : {A : Type 0} (f : Reader A) {a b : State} {e : Fault} → a.fault ≡ None → WantsMemory a b e → Failed f a b e
memory_wanted f {a = a} {b = b} {e = e} n w =
    let to : State = with_fault a (Some faults.OutOfMemory) in
    let h : Failed f a to faults.OutOfMemory = record {
      next = f;
      reaches = record { more = []; took = Advance-fault a (Some faults.OutOfMemory) (λ _. n) (λ _. not_read n); refines = λ ys. refl };
      sticky = refl;
      explained = tt;
    } in
    subst (λ x. Failed f a x e) (sym w.1) (subst (λ x. Failed f a to x) (sym w.0) h)
