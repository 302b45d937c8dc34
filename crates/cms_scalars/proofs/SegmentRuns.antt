-- Primitive segments that were at hand, read at once.
use Rattle.std.proofs.Common.{◌≡◌, ◌≢◌, ℕ, List, [], ◌∷◌, ◌++◌, length, map, Some, None, Ok, refl, sym, ap, subst, ◌∙◌, arith, append_assoc, length-append, ◌≤◌, inl, inr}
use Rattle.std.specs.Prelude.{◌==◌}
use Rattle.std.specs.List.{AllByRecursion}
use Rattle.std.proofs.lemmas.List.{append-nil}
use Rattle.cms_tlv.specs.declared.bound.Bound.{Bound}
use Rattle.cms_tlv.specs.declared.span.Span.{Span}
use Rattle.cms_tlv.specs.declared.fault.Fault.{Fault}
use Rattle.cms_tlv.specs.Clauses.{Room}
use Rattle.cms_tlv.specs.Headers.{low, short}
use Rattle.cms_tlv.specs.Law.{Moves}
use Rattle.cms_tlv.specs.Refines.{Kept, Failed}
use Rattle.cms_tlv.specs.Primitives.{HasShortForm, contents_from, TakesPrimitives}
use Rattle.cms_tlv.specs.Reading.{Cursor, Reader, give, peek_of, primitive_of, row_of, rows_of}
use Rattle.cms_tlv.specs.State.{State}
use Rattle.cms_tlv.proofs.AtOnce.{AreRead, sees, more_at_once}
use Rattle.cms_tlv.proofs.Bind.{fails_then}
use Rattle.cms_tlv.proofs.ContentsGives.{no_memory}
use Rattle.cms_tlv.proofs.Elements.{primitive_complete}
use Rattle.cms_tlv.proofs.Inverse.{bound_again}
use Rattle.cms_tlv.proofs.Loops.{HasRead, peek_fails}
use Rattle.cms_tlv.proofs.PassLaws.{contents_shown}
use Rattle.cms_tlv.proofs.ReadingLaws.{room_less}
use Rattle.cms_fields.specs.Choices.{choice_of}
use Rattle.cms_fields.specs.Readers.{holding}
use Rattle.cms_fields.specs.Received.{spanned_in}
use Rattle.cms_scalars.specs.Octets.{one_part, of_either, in_turn}
use Rattle.cms_scalars.specs.Readers.{constructed, part_of, parts_of}
use Rattle.cms_scalars.specs.internal.Segments.{SeesNoSegment}
use Rattle.cms_scalars.proofs.StringGives.{view}

-- a span as the spans of a string of one part
abbrev pub alone : List Span → List (List Span)
alone spans = map (λ s. s ∷ []) spans

not_0 : (let four : ℕ = 0x04 in four ≢ 0)
not_0 e = absurd (omega (arith, e))

module _ (g : Bound → Reader (List (List ℕ))) (bd : Bound) where
  part_read : (b : List ℕ) (c d : Cursor) → HasShortForm b → Moves c (0x04 ∷ length b ∷ b) d
      → Room bd.end c.limit c.at (length (0x04 ∷ length b ∷ b)) → part_of 0x04 bd c ≡ Ok (one_part b, d)
  unfolding part_of
  part_read b c d s m room =
      bound_again (primitive_of 0x04 bd) _ c b d (primitive_complete bd 0x04 b c d (length b ∷ [])
      (low (omega arith) (λ e. absurd (omega (arith, e)))) (short s.0) (λ _. refl) s.1 m room)

  parts_read : (b : List ℕ) (c d : Cursor) → HasShortForm b → Moves c (0x04 ∷ length b ∷ b) d
      → Room bd.end c.limit c.at (length (0x04 ∷ length b ∷ b)) → parts_of 0x04 g bd c ≡ Ok (one_part b, d)
  unfolding parts_of choice_of
  parts_read b c d s m room =
      let look =
      sees (parts_of 0x04 g) bd c 0x04 (length b ∷ (b ++ d.rest)) m.rest (omega arith) not_0
      (room_less bd.end c.limit c.at (length (0x04 ∷ length b ∷ b)) 1 (omega arith) room) in
      let part = bound_again (part_of 0x04 bd) (λ v. give (inl v)) c (one_part b) d (part_read b c d s m room) in
      bound_again (choice_of (λ t. t == 0x04) (part_of 0x04) (holding (constructed 0x04) g) bd) (λ x. give (of_either x)) c
      (inl (one_part b)) d (bound_again (peek_of bd) _ c (Some 0x04) c look ∙ part)

  each_read : (cs : List (List ℕ)) → AllByRecursion HasShortForm cs → AreRead (parts_of 0x04 g) bd (map (λ c. 0x04 ∷ length c ∷ c) cs) (map one_part cs)
  each_read [] a = tt
  each_read (c ∷ cs) a = (((0x04, length c ∷ c, refl, omega arith, not_0), (λ x d m room. parts_read c x d a.0 m room)), each_read cs a.1)

alone_shown : (k : List ℕ) (spans : List Span) → map (spanned_in k) (alone spans) ≡ map one_part (spanned_in k spans)
alone_shown k [] = refl
alone_shown k (s ∷ spans) = ap (λ z. spanned_in k (s ∷ []) ∷ z) (alone_shown k spans)

pub in_turn_alone : (xss : List (List Span)) (spans : List Span) → in_turn (xss ++ alone spans) ≡ in_turn xss ++ spans
in_turn_alone [] [] = refl
in_turn_alone [] (s ∷ spans) = ap (λ z. s ∷ z) (in_turn_alone [] spans)
in_turn_alone (xs ∷ xss) spans = ap (λ z. xs ++ z) (in_turn_alone xss spans) ∙ sym (append_assoc xs (in_turn xss) spans)

-- segments were read, and these after them
module _ (g : Bound → Reader (List (List ℕ))) (bd : Bound) {a b c : State} {xss : List (List Span)}
    (h : HasRead view (row_of (parts_of 0x04 g)) tt bd a b tt xss) (p : b.ahead ≡ None) (q : c.ahead ≡ None) where
  pub these_read : {before after : List Span} (t : TakesPrimitives 0x04 bd before after b c)
      → HasRead view (row_of (parts_of 0x04 g)) tt bd a c tt (xss ++ alone (contents_from (length b.done) t.passes.contents))
  these_read t =
      let cs = t.passes.contents in
      let spans = contents_from (length b.done) cs in
      let shown = λ (later : State) (k : Kept c later). alone_shown later.done spans ∙ ap (map one_part) (contents_shown t later k) in
      let now = shown c (record { octets = []; done = sym (append-nil c.done) }) in
      more_at_once view (parts_of 0x04 g) bd (alone spans) (map (λ (c : List ℕ). 0x04 ∷ length c ∷ c) cs) h p q (rw (← t.passes.are) t.adds)
      (subst (λ z. AreRead (parts_of 0x04 g) bd (map (λ (c : List ℕ). 0x04 ∷ length c ∷ c) cs) z) (sym now) (each_read g bd cs t.passes.are_short))
      (λ later k. shown later k ∙ sym now)
      (rw (← t.passes.are) t.fits)

-- nor these, or what follows them
pub sees_none : (g : Bound → Reader (List (List ℕ))) (bd : Bound) {a b c : State} {xss : List (List Span)} {e : Fault}
    → HasRead view (row_of (parts_of 0x04 g)) tt bd a b tt xss → b.ahead ≡ None → SeesNoSegment bd b c e
    → Failed (rows_of (parts_of 0x04 g) bd) a c e
sees_none g bd h p (inl l) = fails_then h.so_far (no_memory _ h.sound p l.1 l.0)
sees_none g bd {a = a} {c = c} {e = e} h p (inr (before, after, mid, t, q, f)) =
    peek_fails view (row_of (parts_of 0x04 g)) tt bd a mid c tt _ e (these_read g bd h p q t) f

pub taken_on : {before after : List Span} {bd : Bound} {a b : State} (t : TakesPrimitives 0x04 bd before after a b) → length a.done ≤ length b.done
taken_on {a = a} t = omega (arith, ap length t.adds.done, length-append a.done t.octets)

-- what they add
pub adds_alone : (a b c spans : List Span) (xss : List (List Span)) → b ≡ a ++ in_turn xss → c ≡ b ++ spans → c ≡ a ++ in_turn (xss ++ alone spans)
adds_alone a b c spans xss e f = f ∙ (ap (λ z. z ++ spans) e ∙ (append_assoc a (in_turn xss) spans ∙ ap (λ z. a ++ z) (sym (in_turn_alone xss spans))))
