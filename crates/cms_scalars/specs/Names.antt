-- The names of object identifiers.
use Rattle.std.specs.Prelude.{ℕ, List, [], ◌∷◌, Option, Some, None, codes, bytes_eq, if◌then◌else◌}
use Rattle.cms_scalars.specs.declared.names.Named.{Named}
use Rattle.cms_scalars.specs.ObjectIdentifiers.{id_data, id_signed_data, id_content_type}
use Rattle.cms_scalars.specs.ObjectIdentifiers.{id_message_digest, id_signing_time}
use Rattle.cms_scalars.specs.ObjectIdentifiers.{id_countersignature, id_ct_tst_info}
use Rattle.cms_scalars.specs.ObjectIdentifiers.{id_aa_signing_certificate}
use Rattle.cms_scalars.specs.ObjectIdentifiers.{id_aa_signing_certificate_v2, id_sha1, id_sha256}
use Rattle.cms_scalars.specs.ObjectIdentifiers.{id_sha384, id_sha512, id_sha224, id_sha512_224}
use Rattle.cms_scalars.specs.ObjectIdentifiers.{id_sha512_256}

--- `names`: the table of names: the contents octets of object identifiers, each with its name
---   [RFC 5652, 5035, 3161, 8017, 5754]
abbrev pub names : List (List ℕ × List ℕ)
names =
    (id_data, codes "data") ∷
    (id_signed_data, codes "signedData") ∷
    (id_content_type, codes "contentType") ∷
    (id_message_digest, codes "messageDigest") ∷
    (id_signing_time, codes "signingTime") ∷
    (id_countersignature, codes "countersignature") ∷
    (id_ct_tst_info, codes "tSTInfo") ∷
    (id_aa_signing_certificate, codes "signingCertificate") ∷
    (id_aa_signing_certificate_v2, codes "signingCertificateV2") ∷
    (id_sha1, codes "sha1") ∷
    (id_sha256, codes "sha256") ∷
    (id_sha384, codes "sha384") ∷
    (id_sha512, codes "sha512") ∷
    (id_sha224, codes "sha224") ∷
    (id_sha512_224, codes "sha512-224") ∷
    (id_sha512_256, codes "sha512-256") ∷
    []

--- `name_in rows c`: the name that a table has for the contents octets `c`, or none
abbrev pub name_in : List (List ℕ × List ℕ) → List ℕ → Option (List ℕ)
name_in [] c = None
name_in (row ∷ rows) c = if bytes_eq c row.0 then Some row.1 else name_in rows c

--- `names_table rows`: the table that the code has
abbrev pub names_table : List Named → List (List ℕ × List ℕ)
names_table [] = []
names_table (row ∷ rows) = (row.octets.now, row.name.now) ∷ names_table rows
