-- Fields one after another.
use Rattle.std.proofs.Common.{◌≡◌, inl, inr, ℕ, ◌+◌, List, [], ◌∷◌, ◌++◌, length, Option, refl, sym, ap, subst, ◌∙◌, arith, append_assoc, length-append}
use Rattle.std.proofs.lemmas.List.{append-nil}
use Rattle.cms_tlv.specs.declared.bound.Bound.{Bound}
use Rattle.cms_tlv.specs.Frames.{Frame, Frames, IsEnd, none, more}
use Rattle.cms_tlv.specs.Spelling.{Rules, Spelling, ◌⨟◌}
use Rattle.cms_tlv.specs.Reading.{Cursor, Reader, ◌>>=◌}
use Rattle.cms_tlv.specs.Clauses.{Room}
use Rattle.cms_tlv.proofs.SpellingLaws.{IsField, not_end}
use Rattle.cms_tlv.proofs.Inverse.{bind_ok, bind_err, bound_again}
use Rattle.cms_tlv.proofs.ReadingLaws.{Moves, moves_then, midway, moves_prefix, moves_suffix, room_less, room_from, CutField, CutContents, Ended, Reads, ReadsTo, ended_prefix, ended_suffix}

-- what is cut in a field is cut in the contents
pub cut_first : {p : List ℕ} → CutField p → CutContents p
cut_first {p = p} k = record {
  rest = k.rest ++ (0 ∷ 0 ∷ []);
  proper = λ e. k.proper (prefix_nil k.rest e);
  contents = p ++ k.rest;
  frames = subst Frames (append-nil (p ++ k.rest)) (more k.frame k.field none);
  whole = sym (append_assoc p k.rest (0 ∷ 0 ∷ []));
}
  where
    prefix_nil : (xs : List ℕ) → xs ++ (0 ∷ 0 ∷ []) ≡ [] → xs ≡ []
    prefix_nil [] e = refl
    prefix_nil (x ∷ xs) e = absurd cc

-- behind a field
pub cut_later : {p q : List ℕ} (b : List ℕ) → p ≡ b ++ q → Frame b → (IsEnd b → ⊥) → CutContents q → CutContents p
cut_later {q = q} b e f n k = record {
  rest = k.rest;
  proper = k.proper;
  contents = b ++ k.contents;
  frames = more f n k.frames;
  whole = ap (λ t. t ++ k.rest) e ∙ append_assoc b q k.rest ∙ ap (λ t. b ++ t) k.whole ∙ sym (append_assoc b k.contents (0 ∷ 0 ∷ []));
}

later_room : (end : Option ℕ) {c m : Cursor} (b : List ℕ) → Moves c b m → Room end m.limit m.at (length m.rest + 1) → Room end c.limit c.at (length c.rest + 1)
later_room end {c = c} {m = m} b p r = room_from end m.limit m.at c.limit c.at (length m.rest + 1) (length c.rest + 1) p.limit
    (omega (arith, p.at, ap length p.rest, length-append b m.rest)) r

module _ {V W A : Type 0} {m : Rules} {R : Spelling V} {S : Spelling W} {k : V × W → A} {f : Bound → Reader V} {g : V → Bound → Reader A} where
  pub then_reads : {P : ℕ → Type 0} → IsField P R → Reads m R f → ((v : V) → ReadsTo m S (λ w. k (v, w)) (g v))
      → ReadsTo m (R ⨟ S) k (λ bd. f bd >>= λ v. g v bd)
  then_reads h r t = record {
    sound = λ bd c d a o e.
        let s = bind_ok (f bd) (λ v. g v bd) c e in
        let p = r.sound bd c s.1 s.0 o s.2 in
        let q = (t s.0).sound bd s.1 d a o s.3 in (
          (s.0, q.0),
          p.0 ++ q.1,
          p.0 ++ q.2,
          ended_prefix bd.indefinite bd.end c.at s.1.at p.0 q.1 q.2 p.1.at q.3,
          moves_then p.1 q.4,
          (p.0, q.1, refl, p.2, q.5),
          q.6,
        );
    complete = λ bd c d b o w i u s e room.
        let b1 = s.0 in
        let b2 = s.1 in
        let z = ended_suffix bd.indefinite bd.end c.at b1 b2 o (subst (λ t. Ended bd c.at t o) s.2 e) in
        let u' : Moves c (b1 ++ z.rest) d = subst (λ t. Moves c t d) z.whole u in
        let l : length o ≡ length b1 + length z.rest = ap length z.whole ∙ length-append b1 z.rest in
        let mid = midway c b1 z.rest d in
        let one = r.complete bd c mid b1 w.0 i (moves_prefix b1 z.rest u') s.3 (room_less bd.end c.limit c.at (length o) (length b1) (omega (arith, l)) room) in
        let two =
        (t w.0).complete bd mid d b2 z.rest w.1 i (moves_suffix b1 z.rest u') s.4 z.ended
        (room_from bd.end c.limit c.at c.limit (c.at + length b1) (length o) (length z.rest) refl (omega (arith, l)) room) in
        bound_again (f bd) (λ v. g v bd) c w.0 mid one ∙ two;
    cut = λ bd c at i e. elim (bind_err (f bd) (λ v. g v bd) c e) [
      | inl x ↦ let y = r.cut bd c at i x in ((λ _. cut_first y.0), y.1)
      | inr x ↦
          let p = r.sound bd c x.1 x.0 i x.2 in
          let y = (t x.0).cut bd x.1 at i x.3 in
          ((λ j. cut_later p.0 p.1.rest (h.frame p.0 x.0 p.2) (not_end h p.0 x.0 p.2) (y.0 j)), later_room bd.end p.0 p.1 y.1)
    ];
  }

-- a spelling in other words
pub respelled : {W X A : Type 0} {m : Rules} {S : Spelling W} {T : Spelling X} {k : W → A} {g : Bound → Reader A} (to : W → X) (of : X → W)
    → ((b : List ℕ) (w : W) → S b w → T b (to w)) → ((b : List ℕ) (x : X) → T b x → S b (of x)) → ((w : W) → of (to w) ≡ w)
    → ReadsTo m S k g → ReadsTo m T (λ x. k (of x)) g
respelled {k = k} to of there back same r = record {
  sound = λ bd c d a i e. let p = r.sound bd c d a i e in (to p.0, p.1, p.2, p.3, p.4, there p.1 p.0 p.5, ap k (same p.0) ∙ p.6);
  complete = λ bd c d b o x i u s e room. r.complete bd c d b o (of x) i u (back b x s) e room;
  cut = r.cut;
}

-- no fields more
abbrev pub nothing : Spelling (Unit {0})
nothing b u = b ≡ []
