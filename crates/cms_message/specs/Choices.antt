-- CertificateChoices and RevocationInfoChoice (RFC 5652, 10.2.2 and 10.2.1): opaque elements, told
-- apart by their identifiers.
use Rattle.std.specs.Prelude.{ℕ, List, [], ◌∷◌, Bool, ◌==◌, ◌||◌, if◌then◌else◌}
use Rattle.cms_message.specs.declared.choices.CertificateKind.{CertificateKind}
use Rattle.cms_message.specs.declared.choices.CertificateKind.TheVariants as certificates
use Rattle.cms_message.specs.declared.choices.RevocationInfoKind.{RevocationInfoKind}
use Rattle.cms_message.specs.declared.choices.RevocationInfoKind.TheVariants as revocations

-- CertificateChoices ::= CHOICE {
--   certificate Certificate,
--   extendedCertificate [0] IMPLICIT ExtendedCertificate,
--   v1AttrCert [1] IMPLICIT AttributeCertificateV1,
--   v2AttrCert [2] IMPLICIT AttributeCertificateV2,
--   other [3] IMPLICIT OtherCertificateFormat }
--- `is_certificate_choices t`: `t` is 30, A0, A1, A2 or A3 [RFC 5652, 10.2.2]
abbrev pub is_certificate_choices : ℕ → Bool
is_certificate_choices t =
    (t == 0x30) || ((t == 0xa0) || ((t == 0xa1) || ((t == 0xa2) || (t == 0xa3))))

--- `kind_of_certificate t`: which alternative has the identifier octet `t` [RFC 5652, 10.2.2]
abbrev pub kind_of_certificate : ℕ → CertificateKind
kind_of_certificate t =
    if t == 0x30 then certificates.Certificate
    else if t == 0xa0 then certificates.ExtendedCertificate
    else if t == 0xa1 then certificates.V1AttrCert
    else if t == 0xa2 then certificates.V2AttrCert
    else certificates.Other

-- RevocationInfoChoice ::= CHOICE { crl CertificateList, other [1] IMPLICIT
-- OtherRevocationInfoFormat }
--- `is_revocation_info_choice t`: `t` is 30 or A1 [RFC 5652, 10.2.1]
abbrev pub is_revocation_info_choice : ℕ → Bool
is_revocation_info_choice t = (t == 0x30) || (t == 0xa1)

--- `kind_of_revocation t`: which alternative has the identifier octet `t` [RFC 5652, 10.2.1]
abbrev pub kind_of_revocation : ℕ → RevocationInfoKind
kind_of_revocation t = if t == 0x30 then revocations.Crl else revocations.Other

--- `identifier_octet b`: the first octet of `b`, which is the identifier octet; 0 if `b` is empty
abbrev pub identifier_octet : List ℕ → ℕ
identifier_octet [] = 0
identifier_octet (t ∷ r) = t
