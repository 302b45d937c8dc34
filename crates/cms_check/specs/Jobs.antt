-- What a verifier is asked.
use Rattle.std.specs.Prelude.{ℕ, List, Option, Some, None, map}
use Rattle.cms_tlv.specs.Spelling.{join}
use Rattle.cms_message.specs.Algorithms.{AlgorithmIdentifier}
use Rattle.cms_message.specs.Spanned.{borrowed_signer_identifier}
use Rattle.cms_message.specs.SignerInfo.{SignerIdentifier, sid, digest_algorithm}
use Rattle.cms_message.specs.SignerInfo.{signature_algorithm, signature}
use Rattle.cms_message.specs.Signers.{BorrowedSigner}
use Rattle.cms_message.specs.SignedData.{SignedData, certificates}
use Rattle.cms_check.specs.declared.verifier.Job.{Job}
use Rattle.cms_check.specs.declared.verifier.Verdict.{Verdict}
use Rattle.cms_check.specs.declared.verifier.Verdict.TheVariants.{Unknown}

--- `JobValue`: the octets that a signature covers, the signature, both algorithms, the signer's
---   identifier, and the certificates
abbrev pub JobValue : Type 0
JobValue = List ℕ
    × (List ℕ × (AlgorithmIdentifier
    × (AlgorithmIdentifier × (SignerIdentifier × Option (List (List ℕ))))))

--- `job v s covered`: these of the signer `s` of the SignedData `v`
abbrev pub job : SignedData → BorrowedSigner → List ℕ → JobValue
job v s covered =
    (covered, (signature s, (signature_algorithm s, (digest_algorithm s, (sid s, certificates v)))))

--- `borrowed_job j`: the value of a borrowed `Job`
abbrev pub borrowed_job : Job → JobValue
borrowed_job j = (
  join (map (λ p. p.now) j.covered.now),
  (
    join (map (λ p. p.now) j.signature.now),
    (
      j.signature_algorithm,
      (j.digest_algorithm, (borrowed_signer_identifier j.sid, j.certificates)),
    ),
  ),
)

--- `answer_of answer o`: what a verifier says of a job, if there is one; if not, that of no
---   signature it is known whether it is good
abbrev pub answer_of : {V : Type 0} → (V → JobValue → Verdict) → Option V → JobValue → Verdict
answer_of answer None = λ job. Unknown
answer_of answer (Some v) = answer v
