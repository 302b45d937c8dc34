-- The laws of spellings, once for each way of putting them together.
use Rattle.std.proofs.Common.{◌≡◌, ◌≢◌, ℕ, ◌%◌, List, [], ◌∷◌, ◌++◌, refl, sym, ◌∙◌, ap, subst, Option, None, Some, ◌⊎◌}
use mathlib.Core.Logic.{inl, inr}
use Rattle.std.specs.List.{AllZip}
use Rattle.std.proofs.lemmas.List.{append_cancel_right, append-nil}
use Rattle.cms_tlv.specs.Headers.{IsOctet, IsConstructed, low}
use Rattle.cms_tlv.specs.Frames.{Frame, Frames, definite, indefinite, none, more, IsEnd, IsElement, of_length, to_end, of_short_length}
use Rattle.cms_tlv.specs.Spelling.{Rules, ber, minimal, der, Spelling, IsElementBy, element, ◌⨟◌, optional, either, join, members, ◌where_value◌}
pub use Rattle.cms_tlv.specs.Law.{IsField, IsFieldOctet, IsContents, Avoids}
use Rattle.cms_tlv.proofs.HeaderCuts.{length_cut}
use Rattle.cms_tlv.proofs.FrameLaws.{frame_cut, length_not_80}

-- DER's elements are BER's
pub element_by : {b c : List ℕ} {id : ℕ} (m : Rules) → IsElementBy m b id c → IsElement b id c
element_by ber e = e
element_by minimal (of_short_length c l) = of_length c l.is
element_by der (of_short_length c l) = of_length c l.is

-- an element has one identifier octet and one list of contents
pub element_same : {a b c d : List ℕ} {id ie : ℕ} → IsElement a id c → IsElement b ie d → a ≡ b → (id ≡ ie) × (c ≡ d)
element_same (of_length {l = l} c p) (of_length {l = m} d q) e =
    let h : l ++ c ≡ m ++ d = cc in
    (cc, (length_cut p q h).2)
element_same (of_length {l = l} c p) (to_end d q) e =
    let h : l ++ c ≡ 0x80 ∷ (d ++ 0 ∷ 0 ∷ []) = cc in
    absurd (length_not_80 c (d ++ 0 ∷ 0 ∷ []) p h)
element_same (to_end d q) (of_length {l = l} c p) e =
    let h : l ++ c ≡ 0x80 ∷ (d ++ 0 ∷ 0 ∷ []) = cc in
    absurd (length_not_80 c (d ++ 0 ∷ 0 ∷ []) p h)
element_same (to_end c p) (to_end d q) e =
    let h : c ++ 0 ∷ 0 ∷ [] ≡ d ++ 0 ∷ 0 ∷ [] = cc in
    (cc, append_cancel_right c d (0 ∷ 0 ∷ []) h)

pub element_frame : {b c : List ℕ} {id : ℕ} → IsElement b id c → IsOctet id → id % 32 ≢ 31 → (IsConstructed id → Frames c) → Frame b
element_frame (of_length c p) o q f = definite c (low o q) p
element_frame (to_end c p) o q f = indefinite (low o q) p (f p)

pub element_starts : {b c : List ℕ} {id : ℕ} → IsElement b id c → (r : List ℕ) × (b ≡ id ∷ r)
element_starts (of_length {l = l} c p) = (l ++ c, refl)
element_starts (to_end c p) = (0x80 ∷ (c ++ 0 ∷ 0 ∷ []), refl)

module _ {V : Type 0} {R : Spelling V} where
  pub element_field : (m : Rules) (id : ℕ) → IsFieldOctet id → (IsConstructed id → (b : List ℕ) (v : V) → R b v → Frames b)
      → ((b : List ℕ) (v w : V) → R b v → R b w → v ≡ w) → IsField (λ t. t ≡ id) (element m id R)
  element_field m id o f s = record {
    frame = λ b v r. element_frame (element_by m r.1) o.octet o.one (λ k. f k r.0 v r.2);
    starts = λ b v r. let h = element_starts (element_by m r.1) in (id, h.0, h.1, o.not_0, refl);
    same = λ b v w r q. let e = element_same (element_by m r.1) (element_by m q.1) refl in s q.0 v w (subst (λ c. R c v) e.1 r.2) q.2;
  }

  pub constructed_field : (m : Rules) (id : ℕ) → IsFieldOctet id → IsContents R → IsField (λ t. t ≡ id) (element m id R)
  constructed_field m id o f = element_field m id o (λ k b v r. f.frames b v r) f.same

  pub primitive_field : (m : Rules) (id : ℕ) → IsFieldOctet id → (IsConstructed id → ⊥) → ((b : List ℕ) (v w : V) → R b v → R b w → v ≡ w)
      → IsField (λ t. t ≡ id) (element m id R)
  primitive_field m id o k s = element_field m id o (λ j. absurd (k j)) s

-- a field is no end of contents
pub not_end : {P : ℕ → Type 0} {V : Type 0} {R : Spelling V} → IsField P R → (b : List ℕ) (v : V) → R b v → IsEnd b → ⊥
not_end f b v r z = let h = f.starts b v r in h.3 (let e : h.0 ∷ h.1 ≡ 0 ∷ 0 ∷ z.0 = sym h.2 ∙ z.1 in cc)

pub field_cut : {P : ℕ → Type 0} {V : Type 0} {R : Spelling V} → IsField P R → (b c x y : List ℕ) (v w : V) → R b v → R c w
    → b ++ x ≡ c ++ y → (b ≡ c) × (v ≡ w) × (x ≡ y)
field_cut {R = R} f b c x y v w p q e =
    let h = frame_cut x y (f.frame b v p) (f.frame c w q) e in
    (h.0, f.same c v w (subst (λ d. R d v) h.0 p) q, h.1)

module _ {P : ℕ → Type 0} {V W : Type 0} {R : Spelling V} {S : Spelling W} where
  pub then_contents : IsField P R → IsContents S → IsContents (R ⨟ S)
  then_contents f g = record {
    frames = λ b v r. subst Frames (sym r.2) (more (f.frame r.0 v.0 r.3) (not_end f r.0 v.0 r.3) (g.frames r.1 v.1 r.4));
    same = λ b v w r q.
        let h = field_cut f r.0 q.0 r.1 q.1 v.0 w.0 r.3 q.3 (sym r.2 ∙ q.2) in
        let k = g.same q.1 v.1 w.1 (subst (λ c. S c v.1) h.2 r.4) q.4 in
        λ i. (h.1 i, k i);
  }

  pub maybe_contents : IsField P R → IsContents S → Avoids P S → IsContents (optional R ⨟ S)
  maybe_contents f g a = record {
    frames = λ b v r. frames b v.0 v.1 r.0 r.1 r.2 r.3 r.4;
    same = λ b v w r q. let h = same v.0 w.0 v.1 w.1 r.0 q.0 r.1 q.1 (sym r.2 ∙ q.2) r.3 q.3 r.4 q.4 in λ i. (h.0 i, h.1 i);
  }
    where
      frames : (b : List ℕ) (o : Option V) (w : W) (b₁ b₂ : List ℕ) → b ≡ b₁ ++ b₂ → optional R b₁ o → S b₂ w → Frames b
      frames b None w b₁ b₂ e p q = subst Frames (sym (e ∙ ap (λ z. z ++ b₂) p)) (g.frames b₂ w q)
      frames b (Some v) w b₁ b₂ e p q = subst Frames (sym e) (more (f.frame b₁ v p) (not_end f b₁ v p) (g.frames b₂ w q))

      clash : (v : V) (w : W) (b c x : List ℕ) → R b v → S c w → c ≡ b ++ x → ⊥
      clash v w b c x p q e = let h = f.starts b v p in a.avoids c w h.0 (h.1 ++ x) q (e ∙ ap (λ z. z ++ x) h.2) h.4

      same : (o u : Option V) (w w' : W) (b c x y : List ℕ) → b ++ x ≡ c ++ y → optional R b o → optional R c u → S x w → S y w' → (o ≡ u) × (w ≡ w')
      same None None w w' b c x y e p q r s = let k : x ≡ y = (rw (p, q) at e) in (refl, g.same y w w' (subst (λ z. S z w) k r) s)
      same None (Some v) w w' b c x y e p q r s = let k : x ≡ c ++ y = (rw p at e) in absurd (clash v w c x y q r k)
      same (Some v) None w w' b c x y e p q r s = let k : b ++ x ≡ y = (rw q at e) in absurd (clash v w' b y x p s (sym k))
      same (Some v) (Some v') w w' b c x y e p q r s =
          let h = field_cut f b c x y v v' p q e in
          (ap Some h.1, g.same y w w' (subst (λ z. S z w) h.2 r) s)

module _ {P : ℕ → Type 0} {V : Type 0} {R : Spelling V} (f : IsField P R) where
  -- the members' spellings are their join's alone
  pub members_cut : (bs cs : List (List ℕ)) (vs ws : List V) → AllZip R bs vs → AllZip R cs ws → join bs ≡ join cs → (bs ≡ cs) × (vs ≡ ws)
  members_cut [] [] [] [] p q e = (refl, refl)
  members_cut [] (c ∷ cs) [] (w ∷ ws) p q e = let h = f.starts c w q.0 in absurd (let k : [] ≡ h.0 ∷ (h.1 ++ join cs) = e ∙ ap (λ z. z ++ join cs) h.2 in cc)
  members_cut (b ∷ bs) [] (v ∷ vs) [] p q e = let h = f.starts b v p.0 in
      absurd (let k : [] ≡ h.0 ∷ (h.1 ++ join bs) = sym e ∙ ap (λ z. z ++ join bs) h.2 in cc)
  members_cut (b ∷ bs) (c ∷ cs) (v ∷ vs) (w ∷ ws) p q e =
      let h = field_cut f b c (join bs) (join cs) v w p.0 q.0 e in
      let k = members_cut bs cs vs ws p.1 q.1 h.2 in
      (cc, cc)
  members_cut [] cs (v ∷ vs) ws p q e = absurd p
  members_cut (b ∷ bs) cs [] ws p q e = absurd p
  members_cut bs [] vs (w ∷ ws) p q e = absurd q
  members_cut bs (c ∷ cs) vs [] p q e = absurd q

  members_frames : (bs : List (List ℕ)) (vs : List V) → AllZip R bs vs → Frames (join bs)
  members_frames [] [] p = none
  members_frames [] (v ∷ vs) p = absurd p
  members_frames (b ∷ bs) [] p = absurd p
  members_frames (b ∷ bs) (v ∷ vs) p = more (f.frame b v p.0) (not_end f b v p.0) (members_frames bs vs p.1)

  pub members_contents : (m : Rules) → IsContents (members m R)
  members_contents m = record {
    frames = λ b vs r. subst Frames (sym r.1) (members_frames r.0 vs r.2);
    same = λ b vs ws r q. (members_cut r.0 q.0 vs ws r.2 q.2 (sym r.1 ∙ q.1)).1;
  }

  -- one field alone
  pub alone_contents : IsContents R
  alone_contents = record { frames = λ b v r. subst Frames (append-nil b) (more (f.frame b v r) (not_end f b v r) none); same = f.same }

  pub maybe_alone_contents : IsContents (optional R)
  maybe_alone_contents = record { frames = frames; same = same }
    where
      frames : (b : List ℕ) (o : Option V) → optional R b o → Frames b
      frames b None e = subst Frames (sym e) none
      frames b (Some v) r = alone_contents.frames b v r

      clash : (b : List ℕ) (v : V) → b ≡ [] → R b v → ⊥
      clash b v e r = let h = f.starts b v r in let k : [] ≡ h.0 ∷ h.1 = sym e ∙ h.2 in cc

      same : (b : List ℕ) (o u : Option V) → optional R b o → optional R b u → o ≡ u
      same b None None p q = refl
      same b None (Some v) p q = absurd (clash b v p q)
      same b (Some v) None p q = absurd (clash b v q p)
      same b (Some v) (Some w) p q = ap Some (f.same b v w p q)

module _ {V : Type 0} {R : Spelling V} (Q : V → Type 0) where
  pub where_contents : IsContents R → IsContents (R where_value Q)
  where_contents g = record { frames = λ b v r. g.frames b v r.0; same = λ b v w r q. g.same b v w r.0 q.0 }

-- values of either kind, which begin apart
pub either_field : {P Q : ℕ → Type 0} {V W : Type 0} {R : Spelling V} {S : Spelling W} → IsField P R → IsField Q S
    → ((t : ℕ) → P t → Q t → ⊥) → IsField (λ t. P t ⊎ Q t) (either R S)
either_field {P = P} {Q = Q} {V = V} {W = W} {R = R} {S = S} f g apart = record { frame = frame; starts = starts; same = same }
  where
    frame : (b : List ℕ) (v : V ⊎ W) → either R S b v → Frame b
    frame b (inl v) r = f.frame b v r
    frame b (inr w) r = g.frame b w r

    starts : (b : List ℕ) (v : V ⊎ W) → either R S b v → (t : ℕ) × (r : List ℕ) × (b ≡ t ∷ r) × (t ≢ 0) × (P t ⊎ Q t)
    starts b (inl v) r = let h = f.starts b v r in (h.0, h.1, h.2, h.3, inl h.4)
    starts b (inr w) r = let h = g.starts b w r in (h.0, h.1, h.2, h.3, inr h.4)

    clash : (b : List ℕ) (v : V) (w : W) → R b v → S b w → ⊥
    clash b v w r s = let h = f.starts b v r in let k = g.starts b w s in let e : h.0 ∷ h.1 ≡ k.0 ∷ k.1 = sym h.2 ∙ k.2 in let d :
        k.0 ≡ h.0 = cc in apart h.0 h.4 (subst Q d k.4)

    same : (b : List ℕ) (v w : V ⊎ W) → either R S b v → either R S b w → v ≡ w
    same b (inl v) (inl w) r q = ap inl (f.same b v w r q)
    same b (inl v) (inr w) r q = absurd (clash b v w r q)
    same b (inr v) (inl w) r q = absurd (clash b w v q r)
    same b (inr v) (inr w) r q = ap inr (g.same b v w r q)
