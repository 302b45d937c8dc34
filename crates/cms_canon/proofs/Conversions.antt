-- Messages that were converted one after another.
use Rattle.std.proofs.Common.{◌≡◌, ◌⊎◌, inl, inr, ℕ, ◌+◌, ◌-◌, ◌<◌, ◌≤◌, ◌^◌, List, [], ◌∷◌, ◌++◌, length, take, drop, map, Bool, true, false, Option, None, Some, Result, Ok, Err, IfOk, refl, sym, ap, subst, ◌∙◌, arith, length-append, append_assoc}
use Rattle.std.specs.Prelude.{nat_lt}
use Rattle.std.proofs.lemmas.List.{append-nil, map-append, length-map, take-append-le}
use Rattle.std.proofs.Math.Seq.{take-append-add}
use Rattle.std.proofs.lemmas.Grind.{flat_map-append}
use Rattle.std.proofs.lemmas.List.Elements.{All-append, All-cons, All-head, All-nil, All-push, All-tail}
use Rattle.std.specs.List.{All, flat_map}
use Rattle.std.specs.Io.KnownBytes.{Consumes, Appends}
use Rattle.std.proofs.KnownBytes.{Consumes-nil, Consumes-trans, Appends-nil, Appends-trans}
use Rattle.cms_tlv.specs.declared.fault.Fault.{Fault}
use Rattle.cms_tlv.specs.declared.fault.Fault.TheVariants as faults
use Rattle.cms_tlv.specs.declared.fault.Reason.{Reason}
use Rattle.cms_tlv.specs.declared.fault.Reason.TheVariants as reasons
use Rattle.cms_tlv.specs.Law.{IsField}
use Rattle.cms_tlv.specs.Pouring.{StopsAfter}
use Rattle.cms_tlv.specs.Spelling.{ber}
use Rattle.cms_tlv.specs.Streams.{Rose, one_more as one_failure_more}
use Rattle.cms_canon.specs.Kinds.{whole_message}
use Rattle.cms_canon.specs.declared.convert.Done.{Done}
use Rattle.cms_canon.specs.declared.many.Many.{Many}
use Rattle.cms_canon.specs.declared.many.ManyFault.{ManyFault}
use Rattle.cms_canon.specs.declared.message.Tail.TheVariants as tails
use Rattle.cms_canon.specs.Many.{Conversion, AreOnePiece, IsReadAhead, IsFaithful, messages_of, ders_of, ArePastEnd, IsAfter, StopsAt, ManyFaults, AreConverted}
use Rattle.cms_canon.specs.internal.ManySteps.{InHand, Progress, Proceeds, NextFails, IsBeforeEnd, IsNext, IsShort, with_message, with_der, all_written, split_at_message, stopped}
use Rattle.cms_canon.specs.Messages.{IsDerOf, IsRead, IsAfterMessage, IsRefused, Hopeless}
use Rattle.cms_canon.specs.Exact.{ExactFaults}
use Rattle.cms_canon.specs.Streams.{Reading, Writing, between, since, Takes, HasEnded, WritesAll, WritesNone}
use Rattle.cms_canon.specs.internal.Steps.{IsSent, SendFaults}
use Rattle.cms_canon.specs.Whole.{Whole}
use Rattle.cms_canon.proofs.Canonicalised.{ReceivedAreKept, counted_rose}
use Rattle.cms_canon.proofs.Prefixes.{is_truncated}

-- a message has an octet, and is within the largest limit
pub is_short : {P : ℕ → Type 0} → IsField P (whole_message ber) → (r : Reading) (limit : ℕ) (m : Whole) → limit ≤ 2 ^ 40
    → IsRead r limit tails.Leave m → IsShort m
is_short f r limit m l k =
    let s = f.starts m.octets m.value k.message.0 in
    (omega (arith, ap length s.2), omega (arith, k.message.1, l), (k.writable.0, λ o d. omega (arith, k.writable.1 o d, l)))

abbrev pub conversion : Whole → List ℕ → Conversion
conversion m octets = record { message = m.octets; der = octets }

-- what is written for a message that was read
pub is_conversion : ReceivedAreKept → (r : Reading) (limit : ℕ) (m : Whole) (octets : List ℕ) → IsRead r limit tails.Leave m
    → IsDerOf m.value octets → IsFaithful limit (conversion m octets)
is_conversion law r limit m octets k o =
    record {
      is_written = record {
        read = m.value;
        spells = k.message.0;
        short = k.message.1;
        written = o.value;
        der_spells = o.spells;
        is_same = o.same;
        der_short = k.writable.1 octets o;
      };
      received = law m.octets octets m.value o.value k.message.0 o.spells o.same;
    }

-- lists of them, put together
module _ (f : Conversion → List ℕ) where
  one_more : (cs ds : List Conversion) (c : Conversion) → flat_map f (cs ++ (ds ++ c ∷ [])) ≡ flat_map f (cs ++ ds) ++ f c
  one_more cs ds c = ap (flat_map f) (sym (append_assoc cs ds (c ∷ []))) ∙ flat_map-append f (cs ++ ds) (c ∷ [])
      ∙ ap (λ t. flat_map f (cs ++ ds) ++ t) (append-nil (f c))

  no_more : (cs : List Conversion) → flat_map f (cs ++ []) ≡ flat_map f cs
  no_more cs = ap (flat_map f) (append-nil cs)

  in_three : (cs front : List Conversion) (c : Conversion) (back : List Conversion)
      → flat_map f (cs ++ (front ++ c ∷ back)) ≡ flat_map f (cs ++ front) ++ (f c ++ flat_map f back)
  in_three cs front c back = ap (flat_map f) (sym (append_assoc cs front (c ∷ back))) ∙ flat_map-append f (cs ++ front) (c ∷ back)

abbrev lengths_of : List Conversion → List ℕ
lengths_of = map (λ (c : Conversion). length c.der)

-- the reader was asked for more and gave nothing
pub still : {left mid after : Option (List ℕ)} {failures some fails limit : ℕ} {w : Writing} {b : InHand}
    → Progress (between left failures mid some) w limit b → Consumes mid after [] → fails ≡ some
    → Progress (between left failures after fails) w limit b
still {left = left} {mid = mid} {after = after} p t l = record {
  done = p.done;
  others = p.others;
  are_done = p.are_done;
  are_others = p.are_others;
  one_piece = p.one_piece;
  taken =
      subst (Consumes left after) (append-nil (messages_of (p.done ++ p.others)))
      (Consumes-trans left mid after (messages_of (p.done ++ p.others)) [] p.taken t);
  unfailed = l ∙ p.unfailed;
  written_all = p.written_all;
  octets = p.octets;
  lengths = p.lengths;
  messages = p.messages;
  read = p.read;
  written = p.written;
}

-- what is true of each of them
module _ (P : Conversion → Type 0) where
  front_of : (front back : List Conversion) → All P (front ++ back) → All P front
  front_of [] back h = All-nil P
  front_of (c ∷ front) back h = All-cons P c front (All-head P c (front ++ back) h) (front_of front back (All-tail P c (front ++ back) h))

  back_of : (front back : List Conversion) → All P (front ++ back) → All P back
  back_of [] back h = h
  back_of (c ∷ front) back h = back_of front back (All-tail P c (front ++ back) h)

  next_of : (front : List Conversion) (next : Conversion) (back : List Conversion) → All P (front ++ next ∷ back) → P next
  next_of [] next back h = All-head P next back h
  next_of (c ∷ front) next back h = next_of front next back (All-tail P c (front ++ next ∷ back) h)

none_left : (cs : List Conversion) → map (λ (c : Conversion). length c.der) cs ≡ [] → cs ≡ []
none_left [] e = refl
none_left (c ∷ cs) e = absurd cc

-- nothing is one piece
no_piece : AreOnePiece []
no_piece = record { before_last = omega arith; after_first = All-nil (λ (c : Conversion). length c.message < 0x1_0000) }

-- one piece, and a message more
longer : (cs : List Conversion) (c : Conversion) → AreOnePiece cs → length (ders_of cs) < 0x1_0000
    → cs ≡ [] ⊎ (length c.message < 0x1_0000) → AreOnePiece (cs ++ c ∷ [])
longer cs c h l s = record { before_last = subst (λ t. length (ders_of t) < 0x1_0000) (sym all_but) l; after_first = go cs h.after_first s }
  where
    small : Conversion → Type 0
    small d = length d.message < 0x1_0000

    all_but : take (length (cs ++ c ∷ []) - 1) (cs ++ c ∷ []) ≡ cs
    all_but = ap (λ n. take n (cs ++ c ∷ [])) (let l = length-append cs (c ∷ []) in omega (arith, l)) ∙ take-append-add cs (c ∷ []) 0 ∙ append-nil cs

    go : (cs : List Conversion) → All small (drop 1 cs) → cs ≡ [] ⊎ small c → All small (drop 1 (cs ++ c ∷ []))
    go [] a s = All-nil small
    go (d ∷ cs) a (inl e) = absurd cc
    go (d ∷ cs) a (inr s) = All-push small cs c a s

-- the messages of one piece from one of them on
rest_of : (front back : List Conversion) (next : Conversion) → AreOnePiece (front ++ next ∷ back) → AreOnePiece (next ∷ back)
rest_of front back next h = record {
  before_last = subst (λ n. length (ders_of (take n (next ∷ back))) < 0x1_0000) one (omega (arith, h.before_last, total));
  after_first = go front h.after_first;
}
  where
    small : Conversion → Type 0
    small d = length d.message < 0x1_0000

    one : length back ≡ length (next ∷ back) - 1
    one = omega arith

    all_but : take (length (front ++ next ∷ back) - 1) (front ++ next ∷ back) ≡ front ++ take (length back) (next ∷ back)
    all_but = ap (λ n. take n (front ++ next ∷ back)) (let l = length-append front (next ∷ back) in omega (arith, l))
        ∙ take-append-add front (next ∷ back) (length back)

    total :
        length (ders_of (take (length (front ++ next ∷ back) - 1) (front ++ next ∷ back)))
        ≡ length (ders_of front) + length (ders_of (take (length back) (next ∷ back)))
    total = ap (λ t. length (ders_of t)) all_but ∙ ap length (flat_map-append (λ c. c.der) front (take (length back) (next ∷ back)))
        ∙ length-append (ders_of front) (ders_of (take (length back) (next ∷ back)))

    after : (cs : List Conversion) → All small (cs ++ next ∷ back) → All small back
    after [] a = All-tail small next back a
    after (c ∷ cs) a = after cs (All-tail small c (cs ++ next ∷ back) a)

    go : (cs : List Conversion) → All small (drop 1 (cs ++ next ∷ back)) → All small back
    go [] a = a
    go (c ∷ cs) a = after cs a

-- a message more, whose DER is still to be written
pub more : {left mid after : Option (List ℕ)} {failures some fails limit : ℕ} {w : Writing} {b : InHand}
    → Progress (between left failures mid some) w limit b → (c : Conversion) → IsFaithful limit c → length b.octets < 0x1_0000
    → b.lengths ≡ [] ⊎ (length c.message < 0x1_0000) → Consumes mid after c.message → fails ≡ some
    → Progress (between left failures after fails) w limit (with_der b (length c.message) c.der)
more {left = left} {mid = mid} {after = after} {limit = limit} {b = b} p c k small either t l = record {
  done = p.done;
  others = p.others ++ c ∷ [];
  are_done = p.are_done;
  are_others = All-push (IsFaithful limit) p.others c p.are_others k;
  one_piece = longer p.others c p.one_piece (subst (λ t. length t < 0x1_0000) p.octets small) (none_or either);
  taken =
      subst (Consumes left after) (sym (one_more (λ c. c.message) p.done p.others c))
      (Consumes-trans left mid after (messages_of (p.done ++ p.others)) c.message p.taken t);
  unfailed = l ∙ p.unfailed;
  written_all = p.written_all;
  octets = ap (λ t. t ++ c.der) p.octets ∙ sym (one_more (λ c. c.der) [] p.others c);
  lengths = ap (λ t. t ++ length c.der ∷ []) p.lengths ∙ sym (map-append (λ (c : Conversion). length c.der) p.others (c ∷ []));
  messages = omega (arith, p.messages, length-append p.done p.others, length-append p.done (p.others ++ c ∷ []), length-append p.others (c ∷ []));
  read = ap (λ n. n + length c.message) p.read ∙ sym (length-append (messages_of (p.done ++ p.others)) c.message)
      ∙ ap length (sym (one_more (λ c. c.message) p.done p.others c));
  written = ap (λ n. n + length c.der) p.written ∙ sym (length-append (ders_of (p.done ++ p.others)) c.der)
      ∙ ap length (sym (one_more (λ c. c.der) p.done p.others c));
}
  where
    none_or : b.lengths ≡ [] ⊎ (length c.message < 0x1_0000) → p.others ≡ [] ⊎ (length c.message < 0x1_0000)
    none_or (inl e) = inl (none_left p.others (sym p.lengths ∙ e))
    none_or (inr s) = inr s

pub collected :
    ReceivedAreKept → {left mid after : Option (List ℕ)} {failures some fails limit : ℕ} {w : Writing} {old new : InHand} (m : Whole)
    → Progress (between left failures mid some) w limit old → length old.octets < 0x1_0000 → length m.octets < 0x1_0000
    → IsRead (between mid some after fails) limit tails.Leave m
    → (h : (octets : List ℕ) × IsDerOf m.value octets × (new ≡ with_der old (length m.octets) octets))
    → Progress (between left failures after fails) w limit new
collected law {left = left} {mid = mid} {after = after} {failures = failures} {some = some} {fails = fails} {limit = limit} {w = w} m p room short k h =
    subst (Progress (between left failures after fails) w limit) (sym h.2)
    (more p (conversion m h.0) (is_conversion law (between mid some after fails) limit m h.0 k h.1) room (inr short) k.taken k.unfailed)

-- all DER was written
pub flushed : {out mid after : Option (List ℕ)} {failed some fails limit : ℕ} {r : Reading} {b : InHand}
    → Progress r (since out failed mid some) limit b → WritesAll (since mid some after fails) b.octets
    → Progress r (since out failed after fails) limit (all_written b)
flushed {out = out} {mid = mid} {after = after} {limit = limit} {r = r} p h = record {
  done = p.done ++ p.others;
  others = [];
  are_done = All-append (IsFaithful limit) p.done p.others p.are_done p.are_others;
  are_others = All-nil (IsFaithful limit);
  one_piece = no_piece;
  taken = subst (Takes r) (sym (no_more (λ c. c.message) (p.done ++ p.others))) p.taken;
  unfailed = p.unfailed;
  written_all = (
    subst (Appends out after) (sym (flat_map-append (λ c. c.der) p.done p.others))
        (Appends-trans out mid after (ders_of p.done) (ders_of p.others) p.written_all.0 (subst (Appends mid after) p.octets h.0)),
    h.1 ∙ p.written_all.1,
  );
  octets = refl;
  lengths = refl;
  messages = p.messages ∙ ap length (sym (append-nil (p.done ++ p.others)));
  read = p.read ∙ ap length (sym (no_more (λ c. c.message) (p.done ++ p.others)));
  written = p.written ∙ ap length (sym (no_more (λ c. c.der) (p.done ++ p.others)));
}

-- all was written, and the input has ended
pub finished : {r : Reading} {w : Writing} {limit : ℕ} {b : InHand} → Progress r w limit b → HasEnded r → b.lengths ≡ []
    → IsBeforeEnd b.count → 0 < limit → AreConverted r w limit b.count
finished {w = w} {limit = limit} p e none few some =
    let n = none_left p.others (sym p.lengths ∙ none) in
    let all : p.done ++ p.others ≡ p.done = ap (λ t. p.done ++ t) n ∙ append-nil p.done in
    record {
      some_limit = some;
      conversions = p.done ++ p.others;
      are = All-append (IsFaithful limit) p.done p.others p.are_done p.are_others;
      taken = p.taken;
      ended = e;
      unfailed = p.unfailed;
      written_all = subst (λ t. WritesAll w (ders_of t)) (sym all) p.written_all;
      messages = p.messages;
      read = p.read;
      written = p.written;
      few = (omega (arith, few.0, p.read), omega (arith, few.1, p.written));
    }

-- all was written, and the next message fails
pub fails_next : {left mid after : Option (List ℕ)} {failures some fails limit : ℕ} {w : Writing} {b : InHand}
    → Progress (between left failures mid some) w limit b → b.lengths ≡ [] → (e : Fault)
    → NextFails (between mid some after fails) limit b.count e → ManyFaults (between left failures after fails) w limit (stopped b e)
fails_next {left = left} {mid = mid} {after = after} {failures = failures} {some = some} {fails = fails} {limit = limit} {w = w} {b = b} p none e h = go e h
  where
    n : p.others ≡ []
    n = none_left p.others (sym p.lengths ∙ none)

    all : p.done ++ p.others ≡ p.done
    all = ap (λ t. p.done ++ t) n ∙ append-nil p.done

    out : WritesAll w (ders_of (p.done ++ p.others))
    out = subst (λ t. WritesAll w (ders_of t)) (sym all) p.written_all

    after_these : (e : Fault) → NextFails (between mid some after fails) limit b.count e
        → IsAfter (between left failures after fails) limit (p.done ++ p.others) e
        ⊎ ((e ≡ faults.Read) × Takes (between left failures after fails) (messages_of (p.done ++ p.others)) × ArePastEnd (p.done ++ p.others))
    after_these e (inl k) = inl (record {
      left = mid;
      taken = p.taken;
      faults = subst (λ n. ExactFaults (between mid n after fails) limit tails.Leave e) p.unfailed k.0;
      begun = k.1;
      few = (omega (arith, k.2.0, p.read), omega (arith, k.2.1, p.written));
    })
    after_these e (inr k) =
        inr (
          k.0,
          subst (Consumes left after) (append-nil (messages_of (p.done ++ p.others)))
              (Consumes-trans left mid after (messages_of (p.done ++ p.others)) [] p.taken k.1),
          past k.2,
        )
      where
        past : (2 ^ 62 < b.count.read) ⊎ (2 ^ 62 < b.count.written) → ArePastEnd (p.done ++ p.others)
        past (inl l) = inl (omega (arith, l, p.read))
        past (inr l) = inr (omega (arith, l, p.written))

    are : All (IsFaithful limit) (p.done ++ p.others)
    are = All-append (IsFaithful limit) p.done p.others p.are_done p.are_others

    go : (e : Fault) → NextFails (between mid some after fails) limit b.count e → ManyFaults (between left failures after fails) w limit (stopped b e)
    go (faults.Refused reason at) h =
        record {
          conversions = p.done ++ p.others;
          are = are;
          done = p.messages;
          stops = (out, p.written, after_these (faults.Refused reason at) h);
        }
    go faults.Read h = record { conversions = p.done ++ p.others; are = are; done = p.messages; stops = (out, p.written, after_these faults.Read h) }
    go (faults.Write written) (inl k) = absurd k.0.0
    go (faults.Write written) (inr k) = absurd (let x = k.0 in cc)
    go faults.OutOfMemory h =
        record { conversions = p.done ++ p.others; are = are; done = p.messages; stops = (out, p.written, after_these faults.OutOfMemory h) }

-- some messages were written whole, and a part of the next one
module _ {r : Reading} {w : Writing} {limit : ℕ} (front : List Conversion) (next : Conversion) (rest : List ℕ) (left : ℕ) where
  stops_in : All (IsFaithful limit) front → IsFaithful limit next → IsReadAhead limit next rest
      → Takes r (messages_of front ++ (next.message ++ rest)) → Appends w.contents_before w.contents_after
      (ders_of front ++ take left next.der) → left < length next.der → Rose w.failures_before w.failures_after → (f : ManyFault)
      → f.done ≡ length front → f.written ≡ length (ders_of front) + left → f.fault ≡ faults.Write left → ManyFaults r w limit f
  stops_in are k ahead t a l rose f done written fault =
      let fewer : f.written < length (ders_of front ++ next.der) = omega (arith, written, l, length-append (ders_of front) next.der) in
      let part : take f.written (ders_of front ++ next.der) ≡ ders_of front ++ take left next.der =
      ap (λ n. take n (ders_of front ++ next.der)) written ∙ take-append-add (ders_of front) next.der left in
      record {
        conversions = front;
        are = are;
        done = done;
        stops =
            subst (StopsAt r w limit front f.written) (sym fault) (
              next,
              rest,
              k,
              ahead,
              t,
              (fewer, subst (Appends w.contents_before w.contents_after) (sym part) a, rose),
              written,
            );
      }

-- the messages that are whole in n octets, the one that is not, and those after it
record Split (cs : List Conversion) (n : ℕ) : Type 0 where
  front : List Conversion
  next : Conversion
  back : List Conversion
  parts : cs ≡ front ++ next ∷ back
  whole : length front ≡ (split_at_message (lengths_of cs) n).0
  octets : length (ders_of front) + (split_at_message (lengths_of cs) n).1 ≡ n
  part : (split_at_message (lengths_of cs) n).1 < length next.der

split_at : (c : Conversion) (cs : List Conversion) (n : ℕ) → n < length (ders_of (c ∷ cs))
    → ((m : ℕ) → m < length (ders_of cs) → Split cs m) → (t : Bool) → nat_lt n (length c.der) ≡ t → Split (c ∷ cs) n
split_at c cs n l rest true e =
    record { front = []; next = c; back = cs; parts = refl; whole = rw e refl; octets = rw e (omega arith); part = rw e (grind arith) }
split_at c cs n l rest false e =
    let enough : length c.der ≤ n = grind arith in
    let s = rest (n - length c.der) (omega (arith, l, enough, length-append c.der (ders_of cs))) in
    record {
      front = c ∷ s.front;
      next = s.next;
      back = s.back;
      parts = ap (λ t. c ∷ t) s.parts;
      whole = rw e (omega (arith, s.whole));
      octets = rw e (omega (arith, s.octets, enough, length-append c.der (ders_of s.front)));
      part = rw e s.part;
    }

split : (cs : List Conversion) (n : ℕ) → n < length (ders_of cs) → Split cs n
split [] n l = absurd (omega arith)
split (c ∷ cs) n l = split_at c cs n l (λ m. split cs m) (nat_lt n (length c.der)) refl

-- writing failed in what was still to be written, after more octets were read
pub stops_writing : {left middle end out mid after : Option (List ℕ)} {failures now later failed some fails limit : ℕ} {b : InHand}
    → Progress (between left failures middle now) (since out failed mid some) limit b → (more : List ℕ) → Consumes middle end more
    → length more ≤ limit → (written : ℕ) → written < length b.octets → Appends mid after (take written b.octets) → Rose some fails
    → (f : ManyFault) → f.done ≡ b.count.messages - length b.lengths + (split_at_message b.lengths written).0
    → f.written ≡ b.count.written - length b.octets + written → f.fault ≡ faults.Write (split_at_message b.lengths written).1
    → ManyFaults (between left failures end later) (since out failed after fails) limit f
stops_writing {left = left} {middle = middle} {end = end} {out = out} {mid = mid} {after = after} {fails = fails} {limit = limit} {b = b} p
    more c short written l a rose f is_done is_written is_fault =
    let s = split p.others written (omega (arith, l, ap length p.octets)) in
    let partly : (split_at_message b.lengths written).1 ≡ (split_at_message (lengths_of p.others) written).1 =
    ap (λ t. (split_at_message t written).1) p.lengths in
    let whole : (split_at_message b.lengths written).0 ≡ (split_at_message (lengths_of p.others) written).0 =
    ap (λ t. (split_at_message t written).0) p.lengths in
    let n = (split_at_message (lengths_of p.others) written).1 in
    let are_front : All (IsFaithful limit) (s.front ++ s.next ∷ s.back) = subst (All (IsFaithful limit)) s.parts p.are_others in
    let rest = messages_of s.back ++ more in
    let taken : messages_of (p.done ++ p.others) ++ more ≡ messages_of (p.done ++ s.front) ++ (s.next.message ++ rest) =
    ap (λ t. messages_of (p.done ++ t) ++ more) s.parts ∙ ap (λ t. t ++ more) (in_three (λ c. c.message) p.done s.front s.next s.back)
    ∙ append_assoc (messages_of (p.done ++ s.front)) (s.next.message ++ messages_of s.back) more
    ∙ ap (λ t. messages_of (p.done ++ s.front) ++ t) (append_assoc s.next.message (messages_of s.back) more) in
    let ders : b.octets ≡ ders_of s.front ++ (s.next.der ++ ders_of s.back) = p.octets ∙ ap ders_of s.parts ∙ in_three (λ c. c.der) [] s.front s.next s.back in
    let part : take written b.octets ≡ ders_of s.front ++ take n s.next.der =
    ap (λ t. take written t) ders ∙ ap (λ m. take m (ders_of s.front ++ (s.next.der ++ ders_of s.back))) (sym s.octets)
    ∙ take-append-add (ders_of s.front) (s.next.der ++ ders_of s.back) n
    ∙ ap (λ t. ders_of s.front ++ t) (take-append-le n s.next.der (ders_of s.back) (omega (arith, s.part))) in
    let front : ders_of (p.done ++ s.front) ≡ ders_of p.done ++ ders_of s.front = flat_map-append (λ c. c.der) p.done s.front in
    let all : ders_of p.done ++ (ders_of s.front ++ take n s.next.der) ≡ ders_of (p.done ++ s.front) ++ take n s.next.der =
    sym (append_assoc (ders_of p.done) (ders_of s.front) (take n s.next.der)) ∙ ap (λ t. t ++ take n s.next.der) (sym front) in
    let total : length (ders_of (p.done ++ p.others)) ≡ length (ders_of p.done) + length b.octets =
    ap length (flat_map-append (λ c. c.der) p.done p.others) ∙ length-append (ders_of p.done) (ders_of p.others)
    ∙ ap (λ t. length (ders_of p.done) + length t) (sym p.octets) in
    stops_in (p.done ++ s.front) s.next rest n
    (All-append (IsFaithful limit) p.done s.front p.are_done (front_of (IsFaithful limit) s.front (s.next ∷ s.back) are_front))
    (next_of (IsFaithful limit) s.front s.next s.back are_front)
    (record {
      others = s.back;
      rest = more;
      parts = refl;
      are = All-tail (IsFaithful limit) s.next s.back
          (back_of (IsFaithful limit) s.front (s.next ∷ s.back) are_front);
      one_piece = rest_of s.front s.back s.next (subst AreOnePiece s.parts p.one_piece);
      short = short;
    })
    (subst (Consumes left end) taken (Consumes-trans left middle end (messages_of (p.done ++ p.others)) more p.taken c))
    (subst (Appends out after) all (Appends-trans out mid after (ders_of p.done) _ p.written_all.0 (subst (Appends mid after) part a)))
    s.part
    (subst (λ n. Rose n fails) p.written_all.1 rose)
    f
    (is_done ∙ omega (
      arith,
      whole,
      s.whole,
      p.messages,
      ap length p.lengths,
      length-map p.others (λ (c : Conversion). length c.der),
      length-append p.done p.others,
      length-append p.done s.front,
    ))
    (is_written ∙ omega (arith, p.written, total, s.octets, ap length front, length-append (ders_of p.done) (ders_of s.front)))
    (is_fault ∙ ap faults.Write partly)

-- a message that is refused took no more octets than the limit
refused_short : {r : Reading} {limit : ℕ} {reason : Reason} {at : ℕ} (h : IsRefused r limit tails.Leave reason at) → length h.octets ≤ limit
refused_short {limit = limit} {reason = reason} {at = at} h = elim (is_truncated reason) [
  | inl e ↦ omega (arith, (h.refusal.truncated e).2)
  | inr n ↦ go (h.refusal.hopeless n)
]
  where
    past : (reason : Reason) → IsAfterMessage limit tails.Leave reason h.octets → length h.octets ≤ limit
    past reasons.TooLarge k = k.1.1
    past reasons.Trailing k = absurd (let z = k.0 in cc)
    past reason k = absurd k

    go : (Hopeless limit h.octets × (length h.octets ≤ limit)) ⊎ IsAfterMessage limit tails.Leave reason h.octets → length h.octets ≤ limit
    go (inl k) = k.1
    go (inr k) = past reason k

-- what a message that fails took
pub next_took : (mid after : Option (List ℕ)) (some fails limit : ℕ) (c : Many) (e : Fault)
    → NextFails (between mid some after fails) limit c e → (octets : List ℕ) × Consumes mid after octets × (length octets ≤ limit)
next_took mid after some fails limit c (faults.Refused reason at) (inl k) = (k.0.0.octets, k.0.0.taken, refused_short k.0.0)
next_took mid after some fails limit c faults.Read (inl k) = (k.0.0.1.0, k.0.0.1.1, k.0.0.1.2)
next_took mid after some fails limit c (faults.Write written) (inl k) = absurd k.0.0
next_took mid after some fails limit c faults.OutOfMemory (inl k) = (k.0.0.1.0, k.0.0.1.1, k.0.0.1.2)
next_took mid after some fails limit c e (inr k) = ([], k.1, omega arith)

-- memory was wanted for a message that was read
pub read_in_vain : (r : Reading) (limit : ℕ) (m : Whole) (c : Many) → IsRead r limit tails.Leave m → IsBeforeEnd c → NextFails r limit c faults.OutOfMemory
read_in_vain r limit m c k few = inl (((k.unfailed, (m.octets, k.taken, k.message.1)), tt), tt, few)

-- writing what was still to be written failed
pub flush_stops : {left middle end out mid after : Option (List ℕ)} {failures now later failed some fails limit : ℕ} {b : InHand}
    → Progress (between left failures middle now) (since out failed mid some) limit b → (more : List ℕ) → Consumes middle end more
    → length more ≤ limit → (octets : List ℕ) → octets ≡ b.octets → (e : Fault) → StopsAfter octets mid after e
    → fails ≡ one_failure_more some → ManyFaults (between left failures end later) (since out failed after fails) limit (stopped b e)
flush_stops {mid = mid} {after = after} {some = some} {fails = fails} {b = b} p more c short octets same (faults.Write n) h f =
    stops_writing p more c short n (subst (λ (t : List ℕ). n < length t) same h.0)
    (subst (λ (t : List ℕ). Appends mid after (take n t)) same h.1) (counted_rose some fails f) (stopped b (faults.Write n)) refl refl refl
flush_stops p more c short octets same (faults.Refused reason at) h f = absurd h
flush_stops p more c short octets same faults.Read h f = absurd h
flush_stops p more c short octets same faults.OutOfMemory h f = absurd h

-- nothing was written
pub unwritten : {out mid after : Option (List ℕ)} {failed some fails limit : ℕ} {r : Reading} {b : InHand}
    → Progress r (since out failed mid some) limit b → WritesNone (since mid some after fails) → Progress r (since out failed after fails) limit b
unwritten {out = out} {mid = mid} {failed = failed} {fails = fails} {limit = limit} {r = r} {b = b} p h =
    subst (λ (c : Option (List ℕ)). Progress r (since out failed c fails) limit b) (sym h.0)
    (subst (λ (n : ℕ). Progress r (since out failed mid n) limit b) (sym h.1) p)

-- what was collected was written before the next message is read, or was left
pub next_begins : {out mid after : Option (List ℕ)} {failed some fails limit : ℕ} {r : Reading} {old new : InHand}
    → Progress r (since out failed mid some) limit old → ((new ≡ old) × WritesNone (since mid some after fails))
    ⊎ ((new ≡ all_written old) × WritesAll (since mid some after fails) old.octets) → Progress r (since out failed after fails) limit new
next_begins {out = out} {after = after} {failed = failed} {fails = fails} {limit = limit} {r = r} p (inl h) =
    subst (Progress r (since out failed after fails) limit) (sym h.0) (unwritten p h.1)
next_begins {out = out} {after = after} {failed = failed} {fails = fails} {limit = limit} {r = r} p (inr h) =
    subst (Progress r (since out failed after fails) limit) (sym h.0) (flushed p h.1)

same_hand : (a b : InHand) → a.count ≡ b.count → a.octets ≡ b.octets → a.lengths ≡ b.lengths → a ≡ b
same_hand a b c o l = λ i. record { count = c i; octets = o i; lengths = l i }

-- A message was written by itself, when nothing else was still to be written.
module _ (law : ReceivedAreKept) {left mid after out before : Option (List ℕ)} {failures some fails failed few limit : ℕ} (b : InHand)
    (m : Whole) (p : Progress (between left failures mid some) (since out failed before few) limit (all_written b))
    (k : IsRead (between mid some after fails) limit tails.Leave m) where
  read_too :
      (octets : List ℕ) → IsDerOf m.value octets → Progress (between left failures after fails) (since out failed before few) limit
      (with_der (all_written b) (length m.octets) octets)
  read_too octets o =
      more p (conversion m octets) (is_conversion law (between mid some after fails) limit m octets k o) (omega arith) (inl refl) k.taken k.unfailed

  pub written_alone : {behind : Option (List ℕ)} {rose : ℕ} (d : Done) → IsSent (since before few behind rose) m d → (new : InHand)
      → new.count ≡ with_message b.count d.read d.written → new.octets ≡ [] → new.lengths ≡ []
      → Progress (between left failures after fails) (since out failed behind rose) limit new
  written_alone {behind = behind} {rose = rose} d h new count octets lengths =
      let counts : with_message b.count d.read d.written ≡ with_message b.count (length m.octets) (length h.octets) =
      λ i. with_message b.count (h.read i) (h.written i) in
      subst (Progress (between left failures after fails) (since out failed behind rose) limit)
      (sym (same_hand new (all_written (with_der (all_written b) (length m.octets) h.octets)) (count ∙ counts) octets lengths))
      (flushed (read_too h.octets h.is_der) h.written_all)

  pub alone_stops : {behind : Option (List ℕ)} {rose : ℕ} → IsBeforeEnd b.count → (e : Fault)
      → SendFaults (since before few behind rose) m e → ManyFaults (between left failures after fails) (since out failed behind rose) limit
      (stopped (all_written b) e)
  alone_stops small (faults.Write n) h =
      let in_it : nat_lt n (length h.0) ≡ true = grind (arith, h.2.0) in
      stops_writing (read_too h.0 h.1) [] (Consumes-nil after) (omega arith) n h.2.0 h.2.1 h.2.2 (stopped (all_written b) (faults.Write n))
      (rw in_it (omega arith)) (omega arith) (rw in_it refl)
  alone_stops small faults.OutOfMemory h =
      fails_next (unwritten p h) refl faults.OutOfMemory (read_in_vain (between mid some after fails) limit m b.count k small)
  alone_stops small (faults.Refused reason at) h = absurd h
  alone_stops small faults.Read h = absurd h

-- what the reading of the next message gave
module _ (r : Reading) (limit : ℕ) (a : Result (Option Whole) Fault) (o : Option Whole) (is : a ≡ Ok o) where
  pub next_message : (m : Whole) → o ≡ Some m → IfOk a (IsNext r limit) → IsRead r limit tails.Leave m
  next_message m e h = subst (IsNext r limit) e (subst (λ x. IfOk x (IsNext r limit)) is h)

  pub no_message : o ≡ None → IfOk a (IsNext r limit) → IsNext r limit None
  no_message e h = subst (IsNext r limit) e (subst (λ x. IfOk x (IsNext r limit)) is h)

-- no message was read
pub begun : (left out : Option (List ℕ)) (failures failed limit : ℕ)
    → Progress (between left failures left failures) (since out failed out failed) limit
    (record { count = record { messages = 0; read = 0; written = 0 }; octets = []; lengths = [] })
begun left out failures failed limit = record {
  done = [];
  others = [];
  are_done = All-nil (IsFaithful limit);
  are_others = All-nil (IsFaithful limit);
  one_piece = no_piece;
  taken = Consumes-nil left;
  unfailed = refl;
  written_all = (Appends-nil out, refl);
  octets = refl;
  lengths = refl;
  messages = refl;
  read = refl;
  written = refl;
}

module _ {V : Type 0} (r : Reading) (w : Writing) (limit : ℕ) (b : InHand) (a : Result V ManyFault) (h : Proceeds r w limit b a) where
  pub goes_on : (v : V) → a ≡ Ok v → Progress r w limit b
  goes_on v e = subst (Proceeds r w limit b) e h

  pub stops_there : (f : ManyFault) → a ≡ Err f → ManyFaults r w limit f
  stops_there f e = subst (Proceeds r w limit b) e h
