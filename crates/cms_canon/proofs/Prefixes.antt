-- An input that begins with octets that were written.
use Rattle.std.proofs.Common.{◌≡◌, ◌≢◌, ℕ, ◌≤◌, List, [], ◌∷◌, ◌++◌, length, Option, Some, None, ◌⊎◌, inl, inr, true, refl, sym, ap, subst, ◌∙◌, append_assoc, arith}
use Rattle.std.proofs.lemmas.List.{append-nil}
use Rattle.std.specs.Io.KnownBytes.{Consumes, IsAtEnd}
use Rattle.cms_tlv.specs.Spelling.{ber, Spelling}
use Rattle.cms_tlv.specs.Law.{IsField}
use Rattle.cms_tlv.specs.declared.fault.Reason.{Reason}
use Rattle.cms_tlv.specs.declared.fault.Reason.TheVariants as reasons
use Rattle.cms_tlv.proofs.FrameLaws.{frame_cut}
use Rattle.cms_fields.specs.Canonical.{IsByDer}
use Rattle.cms_canon.specs.Kinds.{whole_message, same_message}
use Rattle.cms_canon.specs.declared.convert.Done.{Done}
use Rattle.cms_canon.specs.declared.message.Tail.{Tail}
use Rattle.cms_canon.specs.declared.message.Tail.TheVariants as tails
use Rattle.cms_canon.specs.Conversions.{IsCanonicalised}
use Rattle.cms_canon.specs.Denotes.{EndThemselves, IsReadAlone, IsAcceptedAs}
use Rattle.cms_canon.specs.Messages.{IsMessage, IsAfterMessage, IsRefused, Hopeless}
use Rattle.cms_canon.specs.Prefixes.{IsReadAgain}
use Rattle.cms_canon.specs.Streams.{Reading, Writing, WritesAll}
use Rattle.cms_canon.proofs.Headline.{IsMessageKind, written_again, der_unchanged}
use Rattle.cms_canon.proofs.MessageLaws.{message_kind}

pub end_themselves : {V : Type 0} {P : ℕ → Type 0} {R : Spelling V} → IsField P R → EndThemselves R
end_themselves {R = R} f b c x y v w p q e =
    let k = frame_cut x y (f.frame b v p) (f.frame c w q) e in
    (k.0, f.same b v w p (subst (λ t. R t w) (sym k.0) q), k.1)

-- what is left of octets that are known is known
pub left_of : (xs octets : List ℕ) (before after : Option (List ℕ)) → before ≡ Some xs → Consumes before after octets
    → (ys : List ℕ) × (after ≡ Some ys) × (xs ≡ octets ++ ys)
left_of xs octets before after e h = known after (subst (λ t. Consumes t after octets) e h)
  where
    known : (after : Option (List ℕ)) → Consumes (Some xs) after octets → (ys : List ℕ) × (after ≡ Some ys) × (xs ≡ octets ++ ys)
    known None h = absurd h
    known (Some ys) h = (ys, refl, h)

pub is_truncated : (reason : Reason) → (reason ≡ reasons.Truncated) ⊎ (reason ≢ reasons.Truncated)
is_truncated reasons.Truncated = inl refl
is_truncated reasons.TooLarge = inr (λ e. absurd cc)
is_truncated reasons.LengthReserved = inr (λ e. absurd cc)
is_truncated reasons.LengthTooLong = inr (λ e. absurd cc)
is_truncated reasons.IndefinitePrimitive = inr (λ e. absurd cc)
is_truncated reasons.Overrun = inr (λ e. absurd cc)
is_truncated reasons.UnexpectedElement = inr (λ e. absurd cc)
is_truncated reasons.IntegerMalformed = inr (λ e. absurd cc)
is_truncated reasons.OidMalformed = inr (λ e. absurd cc)
is_truncated reasons.BooleanMalformed = inr (λ e. absurd cc)
is_truncated reasons.BitsMalformed = inr (λ e. absurd cc)
is_truncated reasons.SegmentsTooDeep = inr (λ e. absurd cc)
is_truncated reasons.OpaqueNotDer = inr (λ e. absurd cc)
is_truncated reasons.OpaqueTooDeep = inr (λ e. absurd cc)
is_truncated reasons.SignedAttrsNotDer = inr (λ e. absurd cc)
is_truncated reasons.EmptyAttributes = inr (λ e. absurd cc)
is_truncated reasons.NotSignedData = inr (λ e. absurd cc)
is_truncated reasons.Trailing = inr (λ e. absurd cc)
is_truncated reasons.CountersignTooDeep = inr (λ e. absurd cc)

module _ {P : ℕ → Type 0} (fields : IsField P (whole_message ber)) (by_der : IsByDer same_message whole_message) (limit : ℕ)
    (b o rest : List ℕ) (h : IsAcceptedAs whole_message same_message limit b o) where
  kind : IsMessageKind whole_message same_message
  kind = message_kind fields by_der

  spelled : whole_message ber o h.written
  spelled = by_der.within o h.written h.der_spells

  message : IsMessage limit o h.written
  message = (spelled, h.der_short)

  done : (r : Reading) (w : Writing) (tail : Tail) (d : Done) → r.left_before ≡ Some (o ++ rest) → IsCanonicalised r w limit tail d
      → (r.left_after ≡ Some rest) × WritesAll w o × (d.read ≡ length o) × (d.written ≡ length o)
  done r w tail d e c =
      let l = left_of (o ++ rest) c.message.octets r.left_before r.left_after e c.is_read.taken in
      let k = end_themselves fields o c.message.octets rest l.0 h.written c.message.value spelled c.is_read.message.0 l.2 in
      let same : c.octets ≡ o =
      (written_again kind limit b o h).1 c.octets (subst (λ t. IsAcceptedAs whole_message same_message limit t c.octets) (sym k.0)
      c.is_written) in
      (l.1 ∙ ap Some (sym k.2), subst (WritesAll w) same c.written_all, c.read ∙ ap length (sym k.0), c.written ∙ ap length same)

  past : (tail : Tail) (reason : Reason) (octets ys : List ℕ) → o ++ rest ≡ octets ++ ys → IsAfterMessage limit tail reason octets
      → (reason ≡ reasons.Trailing) × (tail ≡ tails.Refuse) × (rest ≢ [])
  past tail reasons.TooLarge octets ys e p =
      let k = end_themselves fields o octets rest ys h.written p.0 spelled p.1.0 e in
      let long =
      p.2 o (record {
        value = h.written;
        spells = h.der_spells;
        same = subst (λ v. same_message v h.written ≡ true) k.1 (by_der.equivalence.refl h.written);
      }) in
      absurd (omega (arith, h.der_short, long))
  past tail reasons.Trailing octets ys e p =
      let q = p.1 in
      let k = end_themselves fields o q.0 rest (q.1 ∷ ys) h.written q.2 spelled q.4.0 (e ∙ ap (λ t. t ++ ys) q.3 ∙ append_assoc q.0 (q.1 ∷ []) ys) in
      (refl, p.0, λ n. let z = sym n ∙ k.2 in absurd cc)
  past tail reason octets ys e p = absurd p

  refused : (r : Reading) (tail : Tail) (reason : Reason) (at : ℕ) → r.left_before ≡ Some (o ++ rest) → IsRefused r limit tail reason at
      → (reason ≡ reasons.Trailing) × (tail ≡ tails.Refuse) × (rest ≢ [])
  refused r tail reason at e f =
      let l = left_of (o ++ rest) f.octets r.left_before r.left_after e f.taken in
      go l.0 l.1 l.2 (is_truncated reason)
    where
      go : (ys : List ℕ) → r.left_after ≡ Some ys → o ++ rest ≡ f.octets ++ ys
          → (reason ≡ reasons.Truncated) ⊎ (reason ≢ reasons.Truncated) → (reason ≡ reasons.Trailing) × (tail ≡ tails.Refuse) × (rest ≢ [])
      go ys a parts (inl t) =
          let u = f.refusal.truncated t in
          let none : ys ≡ [] = subst IsAtEnd a u.1 in
          let x = u.0.0 in
          let all : o ++ (rest ++ x) ≡ (f.octets ++ x) ++ [] = sym (append_assoc o rest x)
          ∙ ap (λ t. t ++ x) (parts ∙ ap (λ t. f.octets ++ t) none ∙ append-nil f.octets) ∙ sym (append-nil (f.octets ++ x)) in
          let k = frame_cut (rest ++ x) [] (fields.frame o h.written spelled) u.0.2 all in
          absurd (u.0.1 (tail_nil rest x k.1))
        where
          tail_nil : (p q : List ℕ) → p ++ q ≡ [] → q ≡ []
          tail_nil [] q e = e
          tail_nil (x ∷ p) q e = absurd cc
      go ys a parts (inr n) = either (f.refusal.hopeless n)
        where
          either : (Hopeless limit f.octets × (length f.octets ≤ limit)) ⊎ IsAfterMessage limit tail reason f.octets
              → (reason ≡ reasons.Trailing) × (tail ≡ tails.Refuse) × (rest ≢ [])
          either (inl p) = absurd (p.0 ys o rest h.written (sym parts) message)
          either (inr p) = past tail reason f.octets ys parts p

  pub read_again : IsReadAgain limit o rest
  read_again = record { done = done; refused = refused }

  pub read_alone : IsReadAlone whole_message same_message limit o
  read_alone = record {
    again = der_unchanged kind limit o h.written h.der_spells h.der_short;
    alone = λ c x y v e s. sym (end_themselves fields o c x y h.written v spelled s e).0;
  }
