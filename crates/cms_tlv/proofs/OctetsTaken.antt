-- A value, with the octets that it takes.
use Rattle.std.proofs.Common.{◌≡◌, ℕ, ◌+◌, ◌-◌, List, ◌++◌, length, take, drop, append_assoc, length-append, Result, Ok, Err, sym, ap, ◌∙◌, arith, None}
use Rattle.std.proofs.Math.Seq.{drop-append_seam, take-append_seam}
use Rattle.std.proofs.lemmas.List.{append-nil}
use Rattle.cms_tlv.specs.declared.fault.Fault.{Fault}
use Rattle.cms_tlv.specs.declared.fault.Fault.TheVariants as faults
use Rattle.cms_tlv.specs.declared.fault.Reason.TheVariants.{Truncated}
use Rattle.cms_tlv.specs.declared.bound.Bound.{Bound}
use Rattle.cms_tlv.specs.declared.span.Span.{Span}
use Rattle.cms_tlv.specs.State.{State, as_list}
use Rattle.cms_tlv.specs.Spans.{octets_in}
use Rattle.cms_tlv.specs.Spelling.{Rules, Spelling, with_octets}
use Rattle.cms_tlv.specs.Reading.{Cursor, Stop, stop, Reader, and_octets, taking}
use Rattle.cms_tlv.specs.Refines.{cursor, RefinesWithValue, Failed, Explains, seen}
use Rattle.cms_tlv.proofs.Inverse.{okay, ok_value, ok_place}
use Rattle.cms_tlv.proofs.ReadingLaws.{Moves, Reads}
use Rattle.cms_tlv.proofs.SpanLaws.{span_new, span_later}

taken_from : {A : Type 0} (c : Cursor) (r : Result (A × Cursor) Stop) (v : List ℕ × A) (d : Cursor) → and_octets c r ≡ Ok (v, d)
    → (r ≡ Ok (v.1, d)) × (take (d.at - c.at) c.rest ≡ v.0)
taken_from c (Ok p) v d e = (
  ap (λ (t : List ℕ × _). okay (t.1, p.1)) (ok_value e) ∙ ap (λ (t : Cursor). okay (v.1, t)) (ok_place e),
  ap (λ (t : Cursor). take (t.at - c.at) c.rest) (sym (ok_place e)) ∙ ap (λ (t : List ℕ × _). t.0) (ok_value e),
)
taken_from c (Err x) v d e = absurd cc

taken_cut : {A : Type 0} (c : Cursor) (r : Result (A × Cursor) Stop) (x : Stop) → and_octets c r ≡ Err x → r ≡ Err x
taken_cut c (Ok p) x e = absurd cc
taken_cut c (Err y) x e = cc

pub taking_cut : {A : Type 0} (f : Bound → Reader A) (bd : Bound) (c : Cursor) (x : Stop) → taking f bd c ≡ Err x → f bd c ≡ Err x
unfolding taking
taking_cut f bd c x e = taken_cut c (f bd c) x e

taken_octets : (c d : Cursor) (b : List ℕ) → Moves c b d → take (d.at - c.at) c.rest ≡ b
taken_octets c d b m =
    let n : d.at - c.at ≡ length b = omega (arith, m.at) in
    ap (λ i. take i c.rest) n ∙ ap (take (length b)) m.rest ∙ take-append_seam b d.rest

pub taking_reads : {V : Type 0} {m : Rules} {R : Spelling V} {f : Bound → Reader V} → Reads m R f → Reads m (with_octets R) (taking f)
unfolding taking
taking_reads {f = f} r = record {
  sound = λ bd c d v i e.
      let t = taken_from c (f bd c) v d e in
      let p = r.sound bd c d v.1 i t.0 in
      (p.0, p.1, (sym (taken_octets c d p.0 p.1) ∙ t.1, p.2));
  complete = λ bd c d b v i p s room.
      let one = r.complete bd c d b v.1 i p s.1 room in
      ap (and_octets c) one ∙ ap (λ t. okay ((t, v.1), d)) (taken_octets c d b p ∙ s.0);
  cut = λ bd c at i e. r.cut bd c at i (taken_cut c (f bd c) (stop Truncated at) e);
}

-- what g reads, from a state behind the octets more
abbrev again_from : {B : Type 0} → Reader B → State → State → List ℕ → Reader B
again_from g a b more = λ c. g (cursor a (more ++ drop (length (as_list b.ahead)) c.rest))

again_here : {B : Type 0} (g : Reader B) (a b : State) (more ys : List ℕ) → again_from g a b more (cursor b ys) ≡ g (cursor a (more ++ ys))
again_here g a b more ys = ap (λ x. g (cursor a (more ++ x))) (drop-append_seam (as_list b.ahead) ys)

-- What fails in the one reader fails so in the other.
explained_as : {A B : Type 0} (f : Reader A) (g : Reader B) (h : Reader A) (a b : State) (more : List ℕ) (e : Fault)
    → ((c : Cursor) (x : Stop) → f c ≡ Err x → g c ≡ Err x) → ((ys : List ℕ) → f (cursor a (more ++ ys)) ≡ h (cursor b ys))
    → Explains h a b e → Explains (again_from g a b more) a b e
explained_as f g h a b more (faults.Refused reason at) k r q =
    (q.0, q.1, (λ ys m. again_here g a b more ys ∙ k (cursor a (more ++ ys)) _ (r ys ∙ q.2 ys m)), q.3)
explained_as f g h a b more faults.Read k r q = q
explained_as f g h a b more (faults.Write written) k r q = q
explained_as f g h a b more faults.OutOfMemory k r q = q

fails_as : {A B : Type 0} {f : Reader A} {g : Reader B} {a b : State} {e : Fault} → ((c : Cursor) (x : Stop) → f c ≡ Err x → g c ≡ Err x)
    → Failed f a b e → Failed g a b e
fails_as {f = f} {g = g} {a = a} {b = b} {e = e} k p = record {
  next = again_from g a b p.reaches.more;
  reaches = record { more = p.reaches.more; took = p.reaches.took; refines = λ ys. sym (again_here g a b p.reaches.more ys) };
  sticky = p.sticky;
  explained = explained_as f g p.next a b p.reaches.more e k p.reaches.refines p.explained;
}

pub taking_failed : {A : Type 0} (f : Bound → Reader A) (bd : Bound) {a b : State} {e : Fault} → Failed (f bd) a b e → Failed (taking f bd) a b e
unfolding taking
taking_failed f bd p = fails_as (λ c x q. ap (and_octets c) q) p

pub taking_gave : {V W : Type 0} {view : State → V → W} (f : Bound → Reader W) (bd : Bound) {a b : State} {start end : ℕ} {v : V}
    → start ≡ length a.done → end ≡ length b.done → b.ahead ≡ None → RefinesWithValue view (f bd) a b v
    → RefinesWithValue (λ s (p : Span × V). (seen s p.0, view s p.1)) (taking f bd) a b (record { start = start; end = end }, v)
unfolding taking
taking_gave {view = view} f bd {a = a} {b = b} {start = start} {end = end} {v = v} s t none g =
    let r = g.reaches in
    let o = r.took.read in
    let order : as_list a.ahead ++ r.more ≡ o = r.took.order ∙ ap (λ x. o ++ as_list x) none ∙ append-nil o in
    let n : length b.done ≡ length a.done + length o = ap length r.took.done ∙ length-append a.done o in
    let shows : octets_in b.done start end ≡ o = ap (λ i. octets_in b.done i end) s ∙ ap (λ i. octets_in b.done (length a.done) i) t
    ∙ ap (λ x. octets_in x (length a.done) (length x)) r.took.done ∙ span_new a.done o in
    let prefix : (ys : List ℕ) → take (length b.done - length a.done) (as_list a.ahead ++ (r.more ++ ys)) ≡ o = λ ys.
    let m : length b.done - length a.done ≡ length o = omega arith in
    ap (λ i. take i (as_list a.ahead ++ (r.more ++ ys))) m ∙ ap (take (length o))
    (sym (append_assoc (as_list a.ahead) r.more ys) ∙ ap (λ x. x ++ ys) order) ∙ take-append_seam o ys in
    record {
      reaches =
          record {
            more = r.more;
            took = r.took;
            refines = λ ys. ap (and_octets (cursor a (r.more ++ ys))) (r.refines ys)
                ∙ ap (λ x. okay ((x, view b v), cursor b ys)) (prefix ys ∙ sym shows);
          };
      sound = g.sound;
      lasts =
          λ later k. ap (λ x. (x, view later v)) (ap (λ x. octets_in x start end) k.done
          ∙ span_later b.done k.octets start end (omega arith) (omega arith)) ∙ ap (λ y. (octets_in b.done start end, y)) (g.lasts later k);
    }
