-- Laws of messages that come one after another, and of limits.
use Rattle.std.proofs.Common.{◌≡◌, ◌≢◌, ℕ, ◌≤◌, List, [], ◌∷◌, ◌++◌, length, length-append, ap, ap₂, sym, arith}
use Rattle.std.specs.List.{All}
use Rattle.std.proofs.lemmas.List.Elements.{All-head, All-tail}
use Rattle.cms_tlv.specs.Law.{IsField}
use Rattle.cms_tlv.specs.Spelling.{ber, Rules, Spelling}
use Rattle.cms_fields.specs.Canonical.{IsByDer}
use Rattle.std.proofs.Common.{Bool}
use Rattle.cms_canon.specs.Denotes.{IsAcceptedAs}
use Rattle.cms_canon.specs.Kinds.{whole_message, same_message}
use Rattle.cms_canon.specs.Many.{Conversion, IsFaithful, messages_of, ders_of, AreSame}
use Rattle.cms_canon.proofs.Headline.{IsMessageKind, one_output}
use Rattle.cms_canon.proofs.MessageLaws.{message_kind}
use Rattle.cms_canon.proofs.Prefixes.{end_themselves}

abbrev pub larger_written : {V : Type 0} {R : Rules → Spelling V} {s : V → V → Bool} (limit larger : ℕ) (b o : List ℕ) → limit ≤ larger
    → IsAcceptedAs R s limit b o → IsAcceptedAs R s larger b o
larger_written limit larger b o l w =
    record {
      read = w.read;
      spells = w.spells;
      short = omega (arith, w.short, l);
      written = w.written;
      der_spells = w.der_spells;
      is_same = w.is_same;
      der_short = omega (arith, w.der_short, l);
    }

module _ {P : ℕ → Type 0} (fields : IsField P (whole_message ber)) (by_der : IsByDer same_message whole_message) (limit : ℕ) where
  kind : IsMessageKind whole_message same_message
  kind = message_kind fields by_der

  not_empty : (c : Conversion) (rest : List ℕ) → IsFaithful limit c → c.message ++ rest ≢ []
  not_empty c rest k e =
      let s = fields.starts c.message k.is_written.read k.is_written.spells in
      omega (arith, ap length s.2, ap length e, length-append c.message rest)

  -- the empty input has no message
  pub none_in_nothing : (cs : List Conversion) → All (IsFaithful limit) cs → messages_of cs ≡ [] → cs ≡ []
  none_in_nothing [] h e = λ i. []
  none_in_nothing (c ∷ cs) h e = absurd (not_empty c (messages_of cs) (All-head (IsFaithful limit) c cs h) e)

  der_not_empty : (c : Conversion) (rest : List ℕ) → IsFaithful limit c → c.der ++ rest ≢ []
  der_not_empty c rest k e =
      let s = fields.starts c.der k.is_written.written (by_der.within c.der k.is_written.written k.is_written.der_spells) in
      omega (arith, ap length s.2, ap length e, length-append c.der rest)

  pub to_same : (cs ds : List Conversion) → All (IsFaithful limit) cs → All (IsFaithful limit) ds → ders_of cs ≡ ders_of ds → AreSame limit cs ds
  to_same [] [] h k e = tt
  to_same [] (d ∷ ds) h k e = absurd (der_not_empty d (ders_of ds) (All-head (IsFaithful limit) d ds k) (sym e))
  to_same (c ∷ cs) [] h k e = absurd (der_not_empty c (ders_of cs) (All-head (IsFaithful limit) c cs h) e)
  to_same (c ∷ cs) (d ∷ ds) h k e =
      let x = (All-head (IsFaithful limit) c cs h).is_written in
      let y = (All-head (IsFaithful limit) d ds k).is_written in
      let ends =
      end_themselves fields c.der d.der (ders_of cs) (ders_of ds) x.written y.written (by_der.within c.der x.written x.der_spells)
      (by_der.within d.der y.written y.der_spells) e in (
        (one_output kind limit c.message d.message c.der d.der x y).0 ends.0,
        to_same cs ds (All-tail (IsFaithful limit) c cs h) (All-tail (IsFaithful limit) d ds k) ends.2,
      )

  pub to_equal : (cs ds : List Conversion) → All (IsFaithful limit) cs → All (IsFaithful limit) ds → AreSame limit cs ds → ders_of cs ≡ ders_of ds
  to_equal [] [] h k s = λ i. []
  to_equal [] (d ∷ ds) h k s = absurd s
  to_equal (c ∷ cs) [] h k s = absurd s
  to_equal (c ∷ cs) (d ∷ ds) h k s =
      let x = (All-head (IsFaithful limit) c cs h).is_written in
      let y = (All-head (IsFaithful limit) d ds k).is_written in
      ap₂ (λ a b. a ++ b) ((one_output kind limit c.message d.message c.der d.der x y).1 s.0)
      (to_equal cs ds (All-tail (IsFaithful limit) c cs h) (All-tail (IsFaithful limit) d ds k) s.1)
