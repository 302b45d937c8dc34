-- What contents that are taken in pieces give.
use Rattle.std.proofs.Common.{◌≡◌, ◌≢◌, ◌⊎◌, inl, inr, ◌^◌, ℕ, zero, suc, ◌+◌, ◌-◌, ◌<◌, ◌≤◌, cond, List, [], ◌∷◌, ◌++◌, length, slice_index_or, Option, Some, None, Result, Ok, Err, refl, sym, ap, subst, ◌∙◌, arith, append_assoc, length-append}
use Rattle.std.specs.Io.KnownBytes.{Consumes, IsAtEnd}
use Rattle.std.proofs.lemmas.List.{append-nil, nil_from_length}
use Rattle.std.proofs.lemmas.Bool.{cases_lt}
use Rattle.cms_tlv.specs.declared.fault.Fault.{Fault}
use Rattle.cms_tlv.specs.declared.fault.Fault.TheVariants as faults
use Rattle.cms_tlv.specs.declared.fault.Reason.TheVariants.{Truncated}
use Rattle.cms_tlv.specs.Headers.{AreOctets}
use Rattle.cms_tlv.specs.State.{State, Advance, Adds, TakesDue, LacksMemory, as_list, position}
use Rattle.cms_tlv.specs.Streams.{Fills, Rose, one_more}
use Rattle.cms_tlv.specs.Spans.{octets_in}
use Rattle.cms_tlv.specs.Reading.{Cursor, place, Stop, stop, Reader, ◌>>=◌, then_read, give, octet_of, octets_of}
use Rattle.cms_tlv.specs.Clauses.{EndsEarly}
use Rattle.cms_tlv.specs.Refines.{cursor, Simulates, RefinesWithValue, Failed, Explains, seen}
use Rattle.cms_tlv.proofs.Inverse.{okay, bound_again, leb_no, ltb_yes, ltb_no}
use Rattle.cms_tlv.proofs.ReadingLaws.{Moves}
use Rattle.cms_tlv.proofs.SpanLaws.{span_new, span_later}
use Rattle.cms_tlv.proofs.OctetReads.{octet_complete}
use Rattle.cms_tlv.proofs.Bind.{reaches_then, reaches_same, fails, fails_then, gave}
use Rattle.cms_tlv.proofs.Steps.{not_read}

-- n octets, behind those before
unfoldable pub behind : List ℕ → ℕ → Reader (List ℕ)
behind bs n = octets_of None n >>= λ cs. give (bs ++ cs)

then_behind : (a b : List ℕ) (r : Result (List ℕ × Cursor) Stop)
    → then_read (then_read r (λ cs. give (b ++ cs))) (λ cs. give (a ++ cs)) ≡ then_read r (λ cs. give ((a ++ b) ++ cs))
then_behind a b (Ok p) = ap (λ t. okay (t, p.1)) (sym (append_assoc a b p.0))
then_behind a b (Err e) = refl

then_same : (r : Result (List ℕ × Cursor) Stop) → then_read r (λ cs. give cs) ≡ r
then_same (Ok p) = refl
then_same (Err e) = refl

behind_none : (n : ℕ) (c : Cursor) → octets_of None n c ≡ behind [] n c
unfolding ◌>>=◌ behind
behind_none n c = sym (then_same (octets_of None n c))

-- octets that are there are read
octets_read : (bs ys : List ℕ) (at limit n m : ℕ) → n ≡ length bs + m → AreOctets bs → at + length bs ≤ limit
    → octets_of None n (place at limit (bs ++ ys)) ≡ behind bs m (place (at + length bs) limit ys)
unfolding ◌>>=◌ behind octets_of
octets_read [] ys at limit n m e o l =
    let k : n ≡ m = omega arith in
    let p : at ≡ at + 0 = omega arith in
    ap (λ i. octets_of None i (place at limit ys)) k ∙ ap (λ i. octets_of None m (place i limit ys)) p
    ∙ sym (then_same (octets_of None m (place (at + 0) limit ys)))
octets_read (b ∷ bs) ys at limit n m e o l =
    let k : n ≡ suc (length bs + m) = omega arith in
    let c : Cursor = place at limit (b ∷ (bs ++ ys)) in
    let d : Cursor = place (at + 1) limit (bs ++ ys) in
    let one = octet_complete None c d b (record { rest = refl; at = refl; limit = refl }) o.0 (tt, omega arith) in
    let rest = octets_read bs ys (at + 1) limit (length bs + m) m refl o.1 (omega arith) in
    let p : at + 1 + length bs ≡ at + length (b ∷ bs) = omega arith in
    ap (λ i. octets_of None i c) k
    ∙ bound_again (octet_of None) (λ x. octets_of None (length bs + m) >>= λ xs. give (x ∷ xs)) c b d one
    ∙ ap (λ r. then_read r (λ xs. give (b ∷ xs))) rest
    ∙ then_behind (b ∷ []) bs (octets_of None m (place (at + 1 + length bs) limit ys))
    ∙ ap (λ i. then_read (octets_of None m (place i limit ys)) (λ cs. give ((b ∷ bs) ++ cs))) p

-- so many of n octets were taken, and the rest is due
pub record HasTaken (n due : ℕ) (old new : State) : Type 0 where
  pub octets : List ℕ
  pub count : length octets + due ≡ n
  pub done : new.done ≡ old.done ++ octets
  pub so_far : Simulates (octets_of None n) old (behind octets due) new
  pub clear : new.ahead ≡ None
  pub sound : new.fault ≡ None

pub has_none : (n : ℕ) (s : State) → s.ahead ≡ None → s.fault ≡ None → HasTaken n n s s
has_none n s a f =
    record {
      octets = [];
      count = omega arith;
      done = sym (append-nil s.done);
      so_far = reaches_same s (λ ys. behind_none n (cursor s ys));
      clear = a;
      sound = f;
    }

pub cursor_clear : (s : State) (ys : List ℕ) → s.ahead ≡ None → cursor s ys ≡ place (length s.done) s.limit ys
cursor_clear s ys e = ap (λ t. place (length s.done) s.limit (as_list t ++ ys)) e

-- octets that were consumed, with none kept ahead before and after
pub adds_took : {a b : State} (octets : List ℕ) → a.fault ≡ None → a.ahead ≡ None → b.ahead ≡ None → Adds a b octets → Advance a b octets
adds_took octets n p q m =
    record {
      read = octets;
      done = m.done;
      order = ap (λ t. as_list t ++ octets) p ∙ sym (append-nil octets)
          ∙ ap (λ t. octets ++ as_list t) (sym q);
      left = m.left;
      limit = m.limit;
      failures = omega (arith, m.failures);
      sound = λ _. n;
      unfailed = λ _. (not_read n, m.failures);
    }

pub adds_moves : {a b : State} (octets ys : List ℕ) → a.ahead ≡ None → b.ahead ≡ None → Adds a b octets → Moves (cursor a (octets ++ ys)) octets (cursor b ys)
adds_moves {a = a} octets ys p q m = record {
  rest = ap (λ t. as_list t ++ (octets ++ ys)) p
      ∙ ap (λ t. octets ++ (as_list t ++ ys)) (sym q);
  at = ap length m.done ∙ length-append a.done octets;
  limit = m.limit;
}

pub has_more : (n due k : ℕ) {a b c : State} → HasTaken n due a b → TakesDue b c due k → c.ahead ≡ None → length b.done + due ≤ b.limit
    → HasTaken n (due - k) a c
unfolding ◌>>=◌ behind
has_more n due k {a = a} {b = b} {c = c} h p e room =
    let o = h.octets in
    let q = p.octets in
    let split : due ≡ length q + (due - k) = omega (arith, p.count, p.most) in
    let at : length b.done + length q ≡ length c.done = omega (arith, ap length p.adds.done, length-append b.done q) in
    record {
      octets = o ++ q;
      count = omega (arith, length-append o q, p.count, p.most, h.count);
      done = p.adds.done ∙ ap (λ t. t ++ q) h.done ∙ append_assoc a.done o q;
      so_far = reaches_then h.so_far (record {
        more = q;
        took = adds_took q h.sound h.clear e p.adds;
        refines = λ ys.
            ap (λ x. then_read (octets_of None due x) (λ cs. give (o ++ cs))) (cursor_clear b (q ++ ys) h.clear)
            ∙ ap (λ r. then_read r (λ cs. give (o ++ cs))) (octets_read q ys (length b.done) b.limit due (due - k) split p.are
            (omega (arith, p.count, p.most, room)))
            ∙ then_behind o q (octets_of None (due - k) (place (length b.done + length q) b.limit ys))
            ∙ ap (λ i. then_read (octets_of None (due - k) (place i b.limit ys)) (λ cs. give ((o ++ q) ++ cs))) at
            ∙ ap (λ i. then_read (octets_of None (due - k) (place (length c.done) i ys)) (λ cs. give ((o ++ q) ++ cs))) (sym p.adds.limit)
            ∙ ap (λ x. then_read (octets_of None (due - k) x) (λ cs. give ((o ++ q) ++ cs))) (sym (cursor_clear c ys e));
      });
      clear = e;
      sound = p.adds.sound;
    }

pub due_fits : (n due : ℕ) {a b : State} → HasTaken n due a b → length a.done + n ≤ a.limit → length b.done + due ≤ b.limit
due_fits n due {a = a} h r = omega (arith, ap length h.done, length-append a.done h.octets, h.count, h.so_far.took.limit, r)

-- none were at hand
pub has_no_more : (n due k : ℕ) {a b c : State} → HasTaken n due a b → TakesDue b c due k → k ≡ 0 → c.ahead ≡ None
    → length b.done + due ≤ b.limit → HasTaken n due a c
has_no_more n due k {a = a} {c = c} h p z e room = let same : due - k ≡ due = omega arith in subst (λ d. HasTaken n d a c) same (has_more n due k h p e room)

pub has_ended : (n due : ℕ) {a b : State} (c : State) (e : Fault) → HasTaken n due a b → EndsEarly due b c e → EndsEarly n a c e
has_ended n due {a = a} c (faults.Refused reason at) h q = (q.0, q.1, omega (arith, q.2, ap length h.done, length-append a.done h.octets, h.count), q.3)
has_ended n due c faults.Read h (inl l) = inl (omega (arith, l, h.so_far.took.failures))
has_ended n due c faults.Read h (inr l) = inr l
has_ended n due c (faults.Write written) h q = absurd q
has_ended n due c faults.OutOfMemory h q = tt

pub has_failed : (n due : ℕ) {a b c : State} {e : Fault} → HasTaken n due a b → Failed (octets_of None due) b c e → Failed (octets_of None n) a c e
unfolding behind
has_failed n due h q = fails_then h.so_far (fails _ q)

all_read : (bs : List ℕ) (due : ℕ) (c : Cursor) → due ≡ 0 → behind bs due c ≡ Ok (bs, c)
unfolding ◌>>=◌ behind octets_of
all_read bs due c e = ap (λ n. then_read (octets_of None n c) (λ cs. give (bs ++ cs))) e ∙ ap (λ t. okay (t, c)) (append-nil bs)

pub has_all : (n due start end : ℕ) (a b : State) → due ≡ 0 → HasTaken n due a b → start ≡ length a.done → end ≡ start + n
    → RefinesWithValue seen (octets_of None n) a b (record { start = start; end = end })
has_all n due start end a b z h s t =
    let o = h.octets in
    let whole : length (a.done ++ o) ≡ start + n = omega (arith, length-append a.done o, h.count) in
    let shows : octets_in b.done start end ≡ o = ap (λ x. octets_in x start end) h.done ∙ ap (λ i. octets_in (a.done ++ o) i end) s
    ∙ ap (λ i. octets_in (a.done ++ o) (length a.done) i) (t ∙ sym whole) ∙ span_new a.done o in
    gave (record { start = start; end = end }) (reaches_then h.so_far (reaches_same b (λ ys. all_read o due (cursor b ys) z))) (sym shows) h.sound
    (λ later k. ap (λ x. octets_in x start end) k.done ∙ span_later b.done k.octets start end (omega arith) (omega (arith, ap length h.done, whole)))

-- no octet came, and this fault is the answer
pub none_came : {A : Type 0} (f : Reader A) {old new : State} {e : Fault} → new.done ≡ old.done → old.ahead ≡ None → new.ahead ≡ None
    → Consumes old.left new.left [] → old.failures ≤ new.failures → new.limit ≡ old.limit → new.fault ≡ Some e → Explains f old new e
    → old.fault ≡ None → (e ≢ faults.Read → new.failures ≡ old.failures) → Failed f old new e
none_came f {old = old} {new = new} d a b l u m s x n k = record {
  next = f;
  reaches = record {
    more = [];
    took =
        record {
          read = [];
          done = d ∙ sym (append-nil old.done);
          order = ap (λ t. as_list t ++ []) a ∙ sym (ap as_list b);
          left = l;
          limit = m;
          failures = u;
          sound = λ _. n;
          unfailed = λ r. (not_read n, k (λ z. r (s ∙ ap Some z)));
        };
    refines =
        λ ys. ap f (cursor_clear old ys a ∙ ap (λ t. place (length t) old.limit ys) (sym d)
        ∙ ap (λ t. place (length new.done) t ys) (sym m) ∙ sym (cursor_clear new ys b));
  };
  sticky = s;
  explained = x;
}

wanted : (due : ℕ) (c : Cursor) → 0 < due → c.rest ≡ [] → c.at < c.limit → octets_of None due c ≡ Err (stop Truncated c.at)
unfolding ◌>>=◌ octets_of octet_of
wanted zero c p r l = absurd (omega arith)
wanted (suc n) c p r l = let x = leb_no c.limit c.at l in rw (x, r) refl

pub ended_early : (due at : ℕ) {old new : State} → 0 < due → new.done ≡ old.done → old.ahead ≡ None → new.ahead ≡ None
    → Consumes old.left new.left [] → new.failures ≡ old.failures → new.limit ≡ old.limit → new.fault ≡ Some (faults.Refused Truncated at)
    → IsAtEnd new.left → at ≡ position new → length old.done < old.limit → old.fault ≡ None → Failed (octets_of None due) old new (faults.Refused Truncated at)
ended_early due at {old = old} {new = new} p d a b l f m s w i k sound =
    let n : length new.done < new.limit = omega (arith, ap length d, m, k) in
    let z : position new ≡ length new.done = ap (λ t. length new.done + length (as_list t)) b ∙ omega arith in
    none_came (octets_of None due) d a b l (omega (arith, f)) m s (
      i,
      (λ _. (w, omega arith)),
      (λ ys e. wanted due (cursor new ys) p (ap (λ t. as_list t ++ ys) b ∙ e refl) n),
      inr b,
    ) sound (λ _. f)

pub reader_failed : (due : ℕ) {old new : State} → new.done ≡ old.done → old.ahead ≡ None → new.ahead ≡ None → Consumes old.left new.left []
    → Rose old.failures new.failures → old.failures ≤ new.failures → new.limit ≡ old.limit → new.fault ≡ Some faults.Read
    → old.fault ≡ None → Failed (octets_of None due) old new faults.Read
reader_failed due d a b l r f m s n = none_came (octets_of None due) d a b l f m s r n (λ k. absurd (k refl))

pub no_memory : {A : Type 0} (f : Reader A) {old new : State} {e : Fault} → old.fault ≡ None → old.ahead ≡ None → new.ahead ≡ None → LacksMemory old new e
    → Failed f old new e
no_memory f {old = old} {new = new} n a b h =
    rw h.is (none_came f h.done a b h.left (omega (arith, h.failures)) h.limit (h.sticky ∙ ap Some h.is) tt n (λ _. h.failures))

-- Octets of a vector.
pub by_index : (xs : List ℕ) → ((i d : ℕ) → i < length xs → slice_index_or xs i d < 256) → AreOctets xs
by_index [] h = tt
by_index (x ∷ xs) h = (h 0 0 (omega arith), by_index xs (λ i d l. h (suc i) d (omega arith)))

pub octets_back : (xs ys : List ℕ) → AreOctets (xs ++ ys) → AreOctets ys
octets_back [] ys o = o
octets_back (x ∷ xs) ys o = octets_back xs ys o.1

-- a reader that gave nothing
pub nothing_filled : (a b : Option (List ℕ)) (before after : List ℕ) → Fills a b before after 0 → (after ≡ before) × Consumes a b []
nothing_filled a b before after p = let e = nil_from_length p.octets p.count in
    (p.appended ∙ ap (λ t. before ++ t) e ∙ append-nil before, subst (Consumes a b) e p.consumed)

-- a failure that was counted
pub counted_rose : (old new : ℕ) → new ≡ one_more old → Rose old new × (old ≤ new)
counted_rose old new e = go (cases_lt old (2 ^ 64 - 1))
  where
    go : (old < 2 ^ 64 - 1) ⊎ (2 ^ 64 - 1 ≤ old) → Rose old new × (old ≤ new)
    go (inl l) = let t = ltb_yes old (2 ^ 64 - 1) l in let k : new ≡ old + 1 = e ∙ ap (λ b. cond b (old + 1) old) t in (inl (omega arith), omega arith)
    go (inr l) = let t = ltb_no old (2 ^ 64 - 1) l in let k : new ≡ old = e ∙ ap (λ b. cond b (old + 1) old) t in (inr (omega arith), omega arith)
