-- What is told of a cover, written or not.
use Rattle.std.proofs.Common.{◌≡◌, ℕ, List, [], ◌∷◌, Option, Some, None, Bool, true, false, Result, Ok, Err, OnOk, IfErr, inl, inr, sym, subst, ◌∙◌}
use Rattle.cms_tlv.specs.declared.fault.Fault.{Fault}
use Rattle.cms_tlv.specs.declared.fault.Fault.TheVariants as faults
use Rattle.cms_tlv.specs.Spelling.{Rules, ber}
use Rattle.cms_canon.specs.declared.cover.NoCover.{NoCover}
use Rattle.cms_canon.specs.declared.cover.NoCover.TheVariants as uncovered
use Rattle.cms_canon.specs.Given.{IsGiven, GivenFaults}
use Rattle.cms_canon.specs.Kinds.{MessageValue, whole_message}
use Rattle.cms_canon.specs.Covering.{cover_at, cover_in, Covers, CoversAttributes, PourFaults, IsCoverWritten, CoverFaults}
use Rattle.cms_canon.specs.Streams.{Reading, Writing, WritesAll, WritesNone}
use Rattle.cms_canon.specs.Whole.{Whole}
use Rattle.cms_canon.proofs.Attributes.{of_one_signer}

-- what the law of signed attributes says
abbrev pub AttributesLie : Type 0
AttributesLie = (m : Rules) (b : List ℕ) (v : MessageValue) (path : List ℕ) (detached : Option (List ℕ)) → whole_message m b v
    → CoversAttributes b v path (cover_at v path detached)

module _ (r : Reading) (w : Writing) (limit : ℕ) (with_content : Bool) (signer : ℕ) where
  spelled : (b : Bool) (m : Whole) (d : Option (List ℕ)) → IsGiven r limit b m d → whole_message ber m.octets m.value
  spelled false m None g = g.message.0
  spelled false m (Some rest) g = absurd g
  spelled true m None g = absurd g
  spelled true m (Some rest) g = g.2.message.0

  module _ (lie : AttributesLie) (m : Whole) (d : Option (List ℕ)) (g : IsGiven r limit with_content m d) where
    covers : (cover : Option (Option (Option (List ℕ)))) → cover_in m.value signer d ≡ cover → Covers r limit with_content signer cover
    covers cover k = record {
      message = m;
      detached = d;
      is_given = g;
      cover_is = k;
      attributes =
          subst (CoversAttributes m.octets m.value (signer ∷ [])) (of_one_signer m.value signer d ∙ k)
          (lie ber m.octets m.value (signer ∷ []) d (spelled with_content m d g));
    }

    poured : (u : NoCover) → PourFaults w (cover_in m.value signer d) u → CoverFaults r w limit with_content signer u
    poured uncovered.NoSignedData h = (covers None h.0, h.1)
    poured uncovered.NoSigner h = (covers (Some None) h.0, h.1)
    poured uncovered.NoContent h = (covers (Some (Some None)) h.0, h.1)
    poured (uncovered.Fault (faults.Write written)) h = (h.0, covers (Some (Some (Some h.0))) h.1, h.2)
    poured (uncovered.Fault faults.OutOfMemory) h = (inr (h.0, covers (Some (Some (Some h.0))) h.1), h.2)
    poured (uncovered.Fault (faults.Refused reason at)) h = absurd h
    poured (uncovered.Fault faults.Read) h = absurd h

    pub is_poured :
        {T : Type 0} (a : Result T NoCover) → OnOk a ((c : List ℕ) × (cover_in m.value signer d ≡ Some (Some (Some c))) × WritesAll w c)
        → OnOk a (IsCoverWritten r w limit with_content signer)
    is_poured (Ok t) h = (h.0, covers (Some (Some (Some h.0))) h.1, h.2)
    is_poured (Err u) h = tt

    pub not_poured : {T : Type 0} (a : Result T NoCover) → IfErr a (PourFaults w (cover_in m.value signer d))
        → IfErr a (CoverFaults r w limit with_content signer)
    not_poured (Ok t) h = tt
    not_poured (Err u) h = poured u h

  no_write : (b : Bool) (written : ℕ) → GivenFaults r limit b (faults.Write written) → ⊥
  no_write false written h = h.0
  no_write true written (inl h) = h.0
  no_write true written (inr h) = h.4

  not_given_so : (e : Fault) → GivenFaults r limit with_content e → WritesNone w → CoverFaults r w limit with_content signer (uncovered.Fault e)
  not_given_so (faults.Write written) h n = absurd (no_write with_content written h)
  not_given_so faults.OutOfMemory h n = (inl h, n)
  not_given_so (faults.Refused reason at) h n = (h, n)
  not_given_so faults.Read h n = (h, n)

  pub not_given : (e : Fault) → GivenFaults r limit with_content e → WritesNone w → {T : Type 0} (a : Result T NoCover)
      → a ≡ Err (uncovered.Fault e) → IfErr a (CoverFaults r w limit with_content signer)
  not_given e h n a k = subst (λ z. IfErr z (CoverFaults r w limit with_content signer)) (sym k) (not_given_so e h n)
