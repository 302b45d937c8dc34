-- The laws of contents of one of two kinds.
use Rattle.std.proofs.Common.{◌≡◌, ℕ, ◌+◌, Bool, true, cond, List, ◌∷◌, ◌++◌, length, Ok, sym, ap, subst, ◌∙◌, inl, inr, ◌⊎◌, arith, length-append}
use Rattle.std.specs.Prelude.{◌||◌}
use Rattle.cms_tlv.specs.declared.fault.Reason.TheVariants.{Truncated}
use Rattle.cms_tlv.specs.declared.bound.Bound.{Bound}
use Rattle.cms_tlv.specs.Frames.{Frames}
use Rattle.cms_tlv.specs.Spelling.{Rules, Spelling, ◌⨟◌, either}
use Rattle.cms_tlv.specs.Reading.{Cursor, stop, Reader, ◌>>=◌, may_be, peek_of}
use Rattle.cms_tlv.specs.Clauses.{Room}
use Rattle.cms_tlv.specs.Law.{Moves, Follows, Ended, ReadsTo, IsField, IsContents}
use Rattle.cms_tlv.proofs.SpellingLaws.{then_contents}
use Rattle.cms_tlv.proofs.ReadingLaws.{midway, moves_prefix, room_less, ended_suffix}
use Rattle.cms_tlv.proofs.Inverse.{okay, bad, ok_value, ok_place, branch, bind_ok, bind_err, bound_again}
use Rattle.cms_tlv.proofs.Sequences.{cut_first}
use Rattle.cms_tlv.proofs.Ends.{peek_same, peek_cut}
use Rattle.cms_tlv.proofs.Fields.{first_unseen}
use Rattle.cms_fields.specs.FirstOctets.{are_apart}
use Rattle.cms_fields.specs.Readers.{Begins}
use Rattle.cms_fields.specs.Choices.{choice_of}
use Rattle.cms_fields.proofs.ReaderLaws.{then_begins, avoids, yes_left, yes_right}
use Rattle.cms_fields.proofs.ChoiceLaws.{one, other, next_seen}

module _ {X Y W : Type 0} {p q : ℕ → Bool} {R : Spelling X} (T : Spelling Y) {S : Spelling W} (h : IsField (λ t. p t ≡ true) R)
    (k : IsContents S) (j : Begins (λ t. q t ≡ true) S) (apart : are_apart 0x100 p q ≡ true) where
  -- no octets spell both kinds
  pub contents_clash : (b : List ℕ) (v : X × Y) (w : W) → (R ⨟ T) b v → S b w → ⊥
  contents_clash b v w r s = let z = h.starts r.0 v.0 r.3 in (avoids h k j apart).avoids b w z.0 (z.1 ++ r.1) s (r.2 ∙ ap (λ t. t ++ r.1) z.2) z.4

  pub contents_choice : IsContents T → IsContents (either (R ⨟ T) S)
  contents_choice f = record { frames = frames; same = same }
    where
      frames : (b : List ℕ) (x : X × Y ⊎ W) → either (R ⨟ T) S b x → Frames b
      frames b (inl v) r = (then_contents h f).frames b v r
      frames b (inr w) s = k.frames b w s

      same : (b : List ℕ) (x y : X × Y ⊎ W) → either (R ⨟ T) S b x → either (R ⨟ T) S b y → x ≡ y
      same b (inl v) (inl w) r s = ap inl ((then_contents h f).same b v w r s)
      same b (inl v) (inr w) r s = absurd (contents_clash b v w r s)
      same b (inr v) (inl w) r s = absurd (contents_clash b w v s r)
      same b (inr v) (inr w) r s = ap inr (k.same b v w r s)

  pub contents_choice_begins : Begins (λ t. (p t || q t) ≡ true) (either (R ⨟ T) S)
  contents_choice_begins = record { begins = go }
    where
      go : (b : List ℕ) (x : X × Y ⊎ W) (t : ℕ) (r : List ℕ) → either (R ⨟ T) S b x → b ≡ t ∷ r → (p t || q t) ≡ true
      go b (inl v) t r s e = yes_left (p t) (q t) ((then_begins T h).begins b v t r s e)
      go b (inr w) t r s e = yes_right (p t) (q t) (j.begins b w t r s e)

  pub contents_choice_reads : {m : Rules} {f : Bound → Reader (X × Y)} {g : Bound → Reader W} → ReadsTo m (R ⨟ T) (λ v. v) f
      → ReadsTo m S (λ w. w) g → ReadsTo m (either (R ⨟ T) S) (λ x. x) (choice_of p f g)
  unfolding choice_of
  contents_choice_reads {m = m} {f = f} {g = g} r u = record {
    sound = λ bd c d x i e.
        let s = bind_ok (peek_of bd) _ c e in
        let at = peek_same bd c s.1 s.0 s.2 in
        elim (branch (may_be p s.0) (one W f bd) (other (X × Y) g bd) s.1 (okay (x, d)) s.3) [
          | inl y ↦
              let t = bind_ok (f bd) _ s.1 y.1 in
              let n = r.sound bd s.1 t.1 t.0 i t.2 in (
                inl n.0,
                n.1,
                n.2,
                subst (λ (z : Cursor). Ended bd z.at n.1 n.2) (sym at) n.3,
                subst (λ z. Moves c n.2 z) (ok_place t.3) (subst (λ z. Moves z n.2 t.1) (sym at) n.4),
                n.5,
                ap inl n.6 ∙ ok_value t.3,
              )
          | inr y ↦
              let t = bind_ok (g bd) _ s.1 y.1 in
              let n = u.sound bd s.1 t.1 t.0 i t.2 in (
                inr n.0,
                n.1,
                n.2,
                subst (λ (z : Cursor). Ended bd z.at n.1 n.2) (sym at) n.3,
                subst (λ z. Moves c n.2 z) (ok_place t.3) (subst (λ z. Moves z n.2 t.1) (sym at) n.4),
                n.5,
                ap inr n.6 ∙ ok_value t.3,
              )
        ];
    complete = λ bd c d b o x i n s e room. all bd c d b o x i n s e room;
    cut = λ bd c stopped i e. elim (bind_err (peek_of bd) _ c e) [
      | inl x ↦ let y = peek_cut bd c x in ((λ _. cut_first y.0), y.1)
      | inr s ↦
          let at = peek_same bd c s.1 s.0 s.2 in
          elim (branch (may_be p s.0) (one W f bd) (other (X × Y) g bd) s.1 (bad (stop Truncated stopped)) s.3) [
            | inl x ↦ elim (bind_err (f bd) _ s.1 x.1) [
              | inl y ↦ r.cut bd c stopped i (ap (f bd) at ∙ y)
              | inr y ↦ absurd (let z = y.3 in cc)
            ]
            | inr x ↦ elim (bind_err (g bd) _ s.1 x.1) [
              | inl y ↦ u.cut bd c stopped i (ap (g bd) at ∙ y)
              | inr y ↦ absurd (let z = y.3 in cc)
            ]
          ]
    ];
  }
    where
      all : (bd : Bound) (c d : Cursor) (b o : List ℕ) (x : X × Y ⊎ W) → Follows m bd → Moves c o d → either (R ⨟ T) S b x
          → Ended bd c.at b o → Room bd.end c.limit c.at (length o)
          → (peek_of bd >>= λ o. cond (may_be p o) (one W f bd) (other (X × Y) g bd)) c ≡ Ok (x, d)
      all bd c d b o (inl v) i n s e room =
          let y = ended_suffix bd.indefinite bd.end c.at s.0 s.1 o (subst (λ t. Ended bd c.at t o) s.2 e) in
          let l : length o ≡ length s.0 + length y.rest = ap length y.whole ∙ length-append s.0 y.rest in
          let z =
          next_seen h bd c (midway c s.0 y.rest d) s.0 v.0 (moves_prefix s.0 y.rest (subst (λ t. Moves c t d) y.whole n)) s.3
          (room_less bd.end c.limit c.at (length o) (length s.0) (omega (arith, l)) room) in
          bound_again (peek_of bd) _ c _ c z.3 ∙ ap (λ t. (cond t (one W f bd) (other (X × Y) g bd)) c) z.2
          ∙ bound_again (f bd) _ c v d (r.complete bd c d b o v i n s e room)
      all bd c d b o (inr w) i n s e room =
          let z = first_unseen (record { yes = λ t e. e; so = λ t e. e }) k (avoids h k j apart) bd c d b o w n s e room in
          bound_again (peek_of bd) _ c z.0 c z.1 ∙ ap (λ t. (cond t (one W f bd) (other (X × Y) g bd)) c) z.2
          ∙ bound_again (g bd) _ c w d (u.complete bd c d b o w i n s e room)
