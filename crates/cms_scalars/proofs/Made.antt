-- What is made of a value that was read.
use Rattle.std.proofs.Common.{◌≡◌, inl, inr, ℕ, List, refl, sym, ap, subst, ◌∙◌}
use Rattle.cms_tlv.specs.declared.bound.Bound.{Bound}
use Rattle.cms_tlv.specs.Spelling.{Rules, Spelling, element}
use Rattle.cms_tlv.specs.Reading.{Reader, ◌>>=◌, give}
use Rattle.cms_tlv.specs.Law.{Moves, Reads, ReadsTo, IsField, IsContents}
use Rattle.cms_tlv.proofs.Inverse.{okay, ok_value, ok_place, bind_ok, bind_err, bound_again}
use Rattle.cms_fields.proofs.ReaderLaws.{mapped_reads}
use Rattle.cms_scalars.specs.Image.{image}

module _ {V W : Type 0} (h : V → W) where
  pub made_field : {P : ℕ → Type 0} {R : Spelling V} → IsField P R → IsField P (image h R)
  made_field f =
      record {
        frame = λ b w r. f.frame b r.0 r.2;
        starts = λ b w r. f.starts b r.0 r.2;
        same = λ b v w r q. sym r.1 ∙ ap h (f.same b r.0 q.0 r.2 q.2) ∙ q.1;
      }

  pub made_contents : {R : Spelling V} → IsContents R → IsContents (image h R)
  made_contents f = record { frames = λ b w r. f.frames b r.0 r.2; same = λ b v w r q. sym r.1 ∙ ap h (f.same b r.0 q.0 r.2 q.2) ∙ q.1 }

  pub made_reads : {m : Rules} {R : Spelling V} {f : Bound → Reader V} → Reads m R f → Reads m (image h R) (λ bd. f bd >>= λ v. give (h v))
  made_reads {R = R} {f = f} r = record {
    sound = λ bd c d w i e.
        let s = bind_ok (f bd) _ c e in
        let p = r.sound bd c s.1 s.0 i s.2 in
        (p.0, subst (λ z. Moves c p.0 z) (ok_place s.3) p.1, (s.0, ok_value s.3, p.2));
    complete = λ bd c d b w i p s room. bound_again (f bd) _ c s.0 d (r.complete bd c d b s.0 i p s.2 room) ∙ ap (λ z. okay (z, d)) s.1;
    cut = λ bd c at i e. elim (bind_err (f bd) _ c e) [ inl x ↦ r.cut bd c at i x | inr s ↦ absurd (let z = s.3 in cc) ];
  }

  pub made_contents_read : {m : Rules} {S : Spelling V} {g : Bound → Reader V} → ReadsTo m S (λ v. v) g
      → ReadsTo m (image h S) (λ w. w) (λ bd. g bd >>= λ v. give (h v))
  made_contents_read r = (let t = mapped_reads h r in record {
    sound = λ bd c d a i e. (let p = t.sound bd c d a i e in (a, p.1, p.2, p.3, p.4, (p.0, p.6, p.5), refl));
    complete = λ bd c d b o w i p s e room. t.complete bd c d b o s.0 i p s.2 e room ∙ ap (λ z. okay (z, d)) s.1;
    cut = t.cut;
  })

-- an element of which the contents tell the value
pub told_reads : {V : Type 0} {m : Rules} (id : ℕ) {P : List ℕ → Type 0} {S : Spelling V} {f : Bound → Reader (List ℕ)} (h : List ℕ → V)
    → ((c : List ℕ) → P c → S c (h c)) → ((c : List ℕ) (v : V) → S c v → P c × (h c ≡ v)) → Reads m (element m id (λ c v. (c ≡ v) × P c)) f
    → Reads m (element m id S) (λ bd. f bd >>= λ c. give (h c))
told_reads id {S = S} {f = f} h tells told r = (let k = made_reads h r in record {
  sound = λ bd c d v i e. (let p = k.sound bd c d v i e in let q = p.2.2 in (p.0, p.1, (q.0, q.1, subst (S q.0) (ap h q.2.0 ∙ p.2.1) (tells q.0 q.2.1))));
  complete = λ bd c d b v i p s room. (let t = told s.0 v s.2 in k.complete bd c d b v i p (s.0, t.1, (s.0, s.1, (refl, t.0))) room);
  cut = k.cut;
})
