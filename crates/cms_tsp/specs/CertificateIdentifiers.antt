-- The first certificate identifier of a signing-certificate attribute (RFC 5035, 3 to 6).
use Rattle.std.specs.Prelude.{ℕ, List, Option, Some, None, bytes_eq, option_map, if◌then◌else◌}
use Rattle.std.specs.Option.{option_and_then}
use Rattle.cms_tlv.specs.FirstElement.{first_element, first_contents}
use Rattle.cms_scalars.specs.Readers.{is_object_identifier}
use Rattle.cms_scalars.specs.ObjectIdentifiers.{id_aa_signing_certificate}
use Rattle.cms_scalars.specs.ObjectIdentifiers.{id_aa_signing_certificate_v2, id_sha1, id_sha256}
use Rattle.cms_message.specs.Attributes.{attr_type}
use Rattle.cms_message.specs.Only.{only}
use Rattle.cms_message.specs.Signers.{AnyAttribute, opaque_values}
use Rattle.cms_tsp.specs.declared.cert_id.CertId.{CertId}

--- `borrowed_cert_id x`: the value of a borrowed `CertId`
abbrev pub borrowed_cert_id : CertId → List ℕ × List ℕ
borrowed_cert_id x = (x.algorithm.now, x.hash.now)

-- SigningCertificate ::= SEQUENCE { certs SEQUENCE OF ESSCertID, policies SEQUENCE OF
-- PolicyInformation OPTIONAL } (5)
-- SigningCertificateV2 ::= SEQUENCE { certs SEQUENCE OF ESSCertIDv2, policies SEQUENCE OF
-- PolicyInformation OPTIONAL } (3)
--- `first_of_certs b`: the contents of the first member of certs in `b` [RFC 5035, 3, 5]
abbrev pub first_of_certs : List ℕ → Option (List ℕ)
first_of_certs value =
    option_and_then (first_contents 0x30)
    (option_and_then (first_contents 0x30) (first_contents 0x30 value))

-- Hash ::= OCTET STRING; a certHash is one
--- `cert_hash b`: the contents of the OCTET STRING that `b` begins with [RFC 5035, 4, 6]
abbrev pub cert_hash : List ℕ → Option (List ℕ)
cert_hash octets = first_contents 0x04 octets

-- ESSCertID ::= SEQUENCE { certHash Hash, issuerSerial IssuerSerial OPTIONAL }; the hash is by
-- SHA-1 (6)
--- `ess_cert_id c`: SHA-1, and certHash of the ESSCertID with the contents `c` [RFC 5035, 6]
abbrev pub ess_cert_id : List ℕ → Option (List ℕ × List ℕ)
ess_cert_id c = option_map (λ hash. (id_sha1, hash)) (cert_hash c)

-- AlgorithmIdentifier ::= SEQUENCE { algorithm OBJECT IDENTIFIER, parameters ANY DEFINED BY
-- algorithm OPTIONAL } (RFC 5280, 4.1.1.2)
--- `algorithm_in c`: the OBJECT IDENTIFIER, if it is well-formed, of the AlgorithmIdentifier with
---   the contents `c` [RFC 5035, 4]
abbrev pub algorithm_in : List ℕ → Option (List ℕ)
algorithm_in c =
    option_and_then (λ oid. if is_object_identifier oid then Some oid else None)
    (first_contents 0x06 c)

-- by hashAlgorithm if it is there, its contents and what follows it; else by SHA-256
abbrev with_algorithm : Option (List ℕ × List ℕ) → List ℕ → Option (List ℕ × List ℕ)
with_algorithm None c = option_map (λ hash. (id_sha256, hash)) (cert_hash c)
with_algorithm (Some (algorithm, rest)) c =
    option_and_then (λ oid. option_map (λ hash. (oid, hash)) (cert_hash rest))
    (algorithm_in algorithm)

-- ESSCertIDv2 ::= SEQUENCE { hashAlgorithm AlgorithmIdentifier DEFAULT {algorithm id-sha256},
-- certHash Hash, issuerSerial IssuerSerial OPTIONAL } (4)
--- `ess_cert_id_v2 c`: hashAlgorithm, SHA-256 if it is absent, and certHash of the ESSCertIDv2 with
---   the contents `c` [RFC 5035, 4]
abbrev pub ess_cert_id_v2 : List ℕ → Option (List ℕ × List ℕ)
ess_cert_id_v2 c = with_algorithm (first_element 0x30 c) c

--- `first_in a`: the contents of the first identifier in the one value of `a` [RFC 5035, 3, 5]
abbrev pub first_in : AnyAttribute → Option (List ℕ)
first_in a = option_and_then first_of_certs (only (opaque_values a))

--- `first_cert_id a`: the algorithm, by the contents octets of its OBJECT IDENTIFIER, and certHash
---   of the first identifier in the attribute `a`; [RFC 5035, 3 to 6]
--- | none if `a` is of another type, has more or fewer values than one, or does not begin so [ours]
abbrev pub first_cert_id : AnyAttribute → Option (List ℕ × List ℕ)
first_cert_id a =
    if bytes_eq (attr_type a) id_aa_signing_certificate
    then option_and_then ess_cert_id (first_in a)
    else if bytes_eq (attr_type a) id_aa_signing_certificate_v2
    then option_and_then ess_cert_id_v2 (first_in a)
    else None
