-- What looking at an octet, and consuming it, gives.
use Rattle.std.proofs.Common.{inl, ◌≡◌, ◌≢◌, ℕ, ◌+◌, ◌<◌, ◌≤◌, true, false, leb, List, [], ◌∷◌, ◌++◌, length, Option, Some, None, Ok, Err, refl, sym, ap, subst, ◌∙◌, arith, length-append, append_assoc}
use Rattle.std.specs.Prelude.{IfSome}
use Rattle.std.specs.Io.KnownBytes.{Consumes}
use Rattle.std.proofs.lemmas.List.{append-nil}
use Rattle.cms_tlv.specs.declared.fault.Fault.{Fault}
use Rattle.cms_tlv.specs.declared.fault.Fault.TheVariants as faults
use Rattle.cms_tlv.specs.declared.fault.Reason.TheVariants as reasons
use Rattle.cms_tlv.specs.State.{State, Advance, Looked, NoOctet, as_list, position}
use Rattle.cms_tlv.specs.Reading.{Cursor, place, Stop, stop, Reader, again, is_past, first_octet, octet_of, look_of}
use Rattle.cms_tlv.specs.Refines.{cursor, RefinesWithValue, Failed, Explains, plain}
use Rattle.cms_tlv.proofs.Inverse.{okay, leb_yes}
use Rattle.cms_tlv.proofs.OctetReads.{octet_complete, opens, not_past}
use Rattle.cms_tlv.proofs.Steps.{not_read}

past_true : (end : Option ℕ) (at : ℕ) → end ≢ None → IfSome end (λ e. e ≤ at) → is_past end at ≡ true
past_true None at n h = absurd (n refl)
past_true (Some e) at n h = leb_yes e at h

passes : (end : Option ℕ) (c : Cursor) → is_past end c.at ≡ true → octet_of end c ≡ Err (stop reasons.Overrun c.at)
unfolding octet_of
passes end c p = rw p refl

fills : (end : Option ℕ) (c : Cursor) → is_past end c.at ≡ false → leb c.limit c.at ≡ true → octet_of end c ≡ Err (stop reasons.TooLarge c.at)
unfolding octet_of
fills end c p q = rw (p, q) refl

before : (end : Option ℕ) (at : ℕ) → IfSome end (λ e. at < e) → IfSome end (λ e. at + 1 ≤ e)
before None at h = tt
before (Some e) at h = omega arith

nothing_taken : (old new : State) (f : Fault) → old.fault ≡ None → Looked old new → new.fault ≡ Some f → new.ahead ≡ old.ahead → Advance old new []
nothing_taken old new f n l h e =
    record {
      read = [];
      done = l.done ∙ sym (append-nil old.done);
      order = append-nil (as_list old.ahead) ∙ ap as_list (sym e);
      left = subst (λ t. Consumes old.left new.left t) (nothing (as_list old.ahead) l.more (l.order ∙ ap as_list e)) l.left;
      limit = l.limit;
      failures = l.failures;
      sound = λ _. n;
      unfailed = λ r. (not_read n, l.unfailed r);
    }
  where
    nothing : (a m : List ℕ) → a ++ m ≡ a → m ≡ []
    nothing a m e = nil m (omega (arith, ap length e, length-append a m))
      where
        nil : (m : List ℕ) → length m ≡ 0 → m ≡ []
        nil [] e = refl
        nil (x ∷ m) e = absurd (omega arith)

-- no fault stands, so that the reader did not fail
pub unfailed_by : {old new : State} → Looked old new → new.fault ≡ None → new.failures ≡ old.failures
unfailed_by l n = l.unfailed (λ r. absurd (let s = sym n ∙ r in cc))

-- f fails as the octet does
abbrev pub FailsAs : {V : Type 0} → Option ℕ → Reader V → Type 0
FailsAs end f = (c : Cursor) (e : Stop) → octet_of end c ≡ Err e → f c ≡ Err e

same_cursor : (old new : State) (ys : List ℕ) → Looked old new → new.ahead ≡ old.ahead → cursor old ys ≡ cursor new ys
same_cursor old new ys l e = rw (l.done, l.limit, e) refl

explained : {V : Type 0} (end : Option ℕ) (f : Reader V) → FailsAs end f → (e : Fault) (old new : State) → Looked old new
    → new.ahead ≡ old.ahead → NoOctet end old new e → Explains f old new e
explained end f k (faults.Refused reasons.Truncated at) old new l a s =
    let d : length new.done ≡ length old.done = ap length l.done in
    let p : position old ≡ position new = rw (a, l.done) refl in
    let none : new.ahead ≡ None = a ∙ s.4 in (
      s.0 ∙ p,
      (λ _. (s.1, omega (arith, s.2, p, l.limit))),
      (λ ys e.
          k (cursor new ys) _ (opens end (cursor new ys) (
            before end (length new.done) (subst (λ n. IfSome end (λ e. n < e)) (sym d) s.3),
            omega (arith, s.2, d, l.limit),
          ) ∙ ap (first_octet (length new.done) new.limit) (ap (λ t. as_list t ++ ys) none ∙ e refl))),
      inl tt,
    )
explained end f k (faults.Refused reasons.TooLarge at) old new l a s =
    let d : length new.done ≡ length old.done = ap length l.done in
    let p : position old ≡ position new = rw (a, l.done) refl in (
      s.0 ∙ p,
      (λ e. absurd cc),
      (λ ys e. k (cursor new ys) _
          (fills end (cursor new ys) (not_past end (length new.done)
          (before end (length new.done) (subst (λ n. IfSome end (λ e. n < e)) (sym d) s.2)))
          (leb_yes new.limit (length new.done) (omega (arith, s.1, d, l.limit))))),
      inl (omega (arith, s.1, d, l.limit)),
    )
explained end f k (faults.Refused reasons.Overrun at) old new l a s =
    let d : length new.done ≡ length old.done = ap length l.done in
    let p : position old ≡ position new = rw (a, l.done) refl in (
      s.0 ∙ p,
      (λ e. absurd cc),
      (λ ys e. k (cursor new ys) _
          (passes end (cursor new ys) (past_true end (length new.done) s.2 (subst (λ n. IfSome end (λ e. e ≤ n)) (sym d) s.1)))),
      inl tt,
    )
explained end f k (faults.Refused reason at) old new l a s = absurd s
explained end f k faults.Read old new l a s = s
explained end f k (faults.Write written) old new l a s = absurd s
explained end f k faults.OutOfMemory old new l a s = tt

pub stops : {V : Type 0} (end : Option ℕ) (f : Reader V) → FailsAs end f → (e : Fault) (old new : State) → old.fault ≡ None → Looked old new
    → new.fault ≡ Some e → new.ahead ≡ old.ahead → NoOctet end old new e → Failed f old new e
stops end f k e old new n l h a s = record {
  next = f;
  reaches = record { more = []; took = nothing_taken old new e n l h a; refines = λ ys. ap f (same_cursor old new ys l a) };
  sticky = h;
  explained = explained end f k e old new l a s;
}

pub octet_as : (end : Option ℕ) → FailsAs end (octet_of end)
octet_as end c e h = h

pub look_as : (end : Option ℕ) → FailsAs end (look_of end)
unfolding look_of
look_as end c e h = ap (λ r. again c r) h

pub look_failed : (end : Option ℕ) (old new : State) (e : Fault) → old.fault ≡ None → Looked old new → new.fault ≡ Some e → new.ahead ≡ old.ahead
    → NoOctet end old new e → Failed (look_of end) old new e
look_failed end old new e = stops end (look_of end) (look_as end) e old new

-- the octet is there
sees : (end : Option ℕ) (old new : State) (b : ℕ) (ys : List ℕ) → (l : Looked old new) → new.ahead ≡ Some b → b < 256
    → IfSome end (λ e. length old.done < e) → length old.done < old.limit
    → (cursor old (l.more ++ ys) ≡ cursor new ys) × (octet_of end (cursor new ys) ≡ Ok (b, place (length new.done + 1) new.limit ys))
sees end old new b ys l a o e k =
    let rest : as_list old.ahead ++ (l.more ++ ys) ≡ as_list new.ahead ++ ys = sym (append_assoc (as_list old.ahead) l.more ys) ∙ ap (λ t. t ++ ys) l.order in
    let d : length new.done ≡ length old.done = ap length l.done in
    let at : length old.done ≡ length new.done = sym d in
    let limit : old.limit ≡ new.limit = sym l.limit in
    let same : cursor old (l.more ++ ys) ≡ cursor new ys = λ i. place (at i) (limit i) (rest i) in (
      same,
      octet_complete end (cursor new ys) (place (length new.done + 1) new.limit ys) b
          (record { rest = ap (λ t. as_list t ++ ys) a; at = refl; limit = refl }) o
          (before end (length new.done) (subst (λ n. IfSome end (λ e. n < e)) (sym d) e), omega (arith, k, d, l.limit)),
    )

pub look_gave : (end : Option ℕ) (old new : State) (b : ℕ) → (l : Looked old new) → new.ahead ≡ Some b → old.fault ≡ None
    → new.fault ≡ None → b < 256 → IfSome end (λ e. length old.done < e) → length old.done < old.limit
    → RefinesWithValue plain (look_of end) old new b
unfolding look_of
look_gave end old new b l a n h o e k = record {
  reaches =
      record {
        more = l.more;
        took = record {
          read = [];
          done = l.done ∙ sym (append-nil old.done);
          order = l.order;
          left = l.left;
          limit = l.limit;
          failures = l.failures;
          sound = λ f. n;
          unfailed = λ r. (not_read n, l.unfailed r);
        };
        refines = λ ys. let s = sees end old new b ys l a o e k in ap (look_of end) s.0 ∙ ap (λ r. again (cursor new ys) r) s.1;
      };
  sound = h;
  lasts = λ later p. refl;
}

-- and is consumed
pub next_gave : (end : Option ℕ) (old mid new : State) (b : ℕ) → (l : Looked old mid) → mid.ahead ≡ Some b → old.fault ≡ None
    → mid.fault ≡ None → b < 256 → IfSome end (λ e. length old.done < e) → length old.done < old.limit
    → new ≡ record {
      done = mid.done ++ b ∷ [];
      ahead = None;
      left = mid.left;
      failures = mid.failures;
      limit = mid.limit;
      fault = mid.fault;
    } → RefinesWithValue plain (octet_of end) old new b
next_gave end old mid new b l a m h o e k n =
    let to : State = record { done = mid.done ++ b ∷ []; ahead = None; left = mid.left; failures = mid.failures; limit = mid.limit; fault = mid.fault } in
    let w : length mid.done + 1 ≡ length (mid.done ++ b ∷ []) = omega (arith, length-append mid.done (b ∷ [])) in
    subst (λ s. RefinesWithValue plain (octet_of end) old s b) (sym n) (record {
      reaches =
          record {
            more = l.more;
            took = record {
              read = b ∷ [];
              done = ap (λ t. t ++ b ∷ []) l.done;
              order = l.order ∙ ap as_list a;
              left = l.left;
              limit = l.limit;
              failures = l.failures;
              sound = λ f. m;
              unfailed = λ r. (not_read m, l.unfailed r);
            };
            refines = λ ys. let s = sees end old mid b ys l a o e k in ap (octet_of end) s.0 ∙ s.1 ∙ ap (λ p. okay (b, place p mid.limit ys)) w;
          };
      sound = h;
      lasts = λ later p. refl;
    })

-- nothing was at hand or came
pub looked_none : {old new : State} → new.done ≡ old.done → old.ahead ≡ None → new.ahead ≡ None → Consumes old.left new.left []
    → new.limit ≡ old.limit → old.failures ≤ new.failures → (new.fault ≢ Some faults.Read → new.failures ≡ old.failures) → Looked old new
looked_none {old = old} {new = new} d k e l m f u = record
    { done = d; more = []; order = append-nil (as_list old.ahead) ∙ ap as_list (k ∙ sym e); left = l; limit = m; failures = f; unfailed = u }

-- an octet came, which is kept ahead
pub looked_one : {old new : State} (b : ℕ) → new.done ≡ old.done → old.ahead ≡ None → new.ahead ≡ Some b
    → Consumes old.left new.left (b ∷ []) → new.limit ≡ old.limit → old.failures ≤ new.failures
    → (new.fault ≢ Some faults.Read → new.failures ≡ old.failures) → Looked old new
looked_one {old = old} {new = new} b d k e l m f u = record
    { done = d; more = b ∷ []; order = ap (λ a. as_list a ++ b ∷ []) k ∙ ap as_list (sym e); left = l; limit = m; failures = f; unfailed = u }

-- there is room for an octet where none is kept ahead
pub none_ahead : {n m : ℕ} {a : Option ℕ} → a ≡ None → n < m → n + length (as_list a) < m
none_ahead {n = n} {m = m} k l = rw k (omega arith)
