-- The object identifiers that are known here, by their contents octets.
use Rattle.std.specs.Prelude.{ℕ, List, [], ◌∷◌}

--- `pkcs ds`: the contents octets of an OBJECT IDENTIFIER below 1.2.840.113549.1
abbrev pub pkcs : List ℕ → List ℕ
pkcs ds = 0x2a ∷ 0x86 ∷ 0x48 ∷ 0x86 ∷ 0xf7 ∷ 0x0d ∷ 0x01 ∷ ds

--- `id_data`, `id_signed_data`, `id_ct_tst_info`: the contents octets of the OBJECT IDENTIFIER with
---   that name [RFC 5652, 4, 5.1; RFC 3161, 2.4.2]
abbrev pub id_data : List ℕ
id_data = pkcs (7 ∷ 1 ∷ [])

-- id-signedData, 1.2.840.113549.1.7.2 (RFC 5652, 5.1)
abbrev pub id_signed_data : List ℕ
id_signed_data = pkcs (7 ∷ 2 ∷ [])

--- `id_content_type`, `id_message_digest`, `id_signing_time`, `id_countersignature`: those of the
---   types of attributes [RFC 5652, 11.1 to 11.4]
abbrev pub id_content_type : List ℕ
id_content_type = pkcs (9 ∷ 3 ∷ [])

abbrev pub id_message_digest : List ℕ
id_message_digest = pkcs (9 ∷ 4 ∷ [])

abbrev pub id_signing_time : List ℕ
id_signing_time = pkcs (9 ∷ 5 ∷ [])

-- id-countersignature, 1.2.840.113549.1.9.6 (RFC 5652, 11.4)
abbrev pub id_countersignature : List ℕ
id_countersignature = pkcs (9 ∷ 6 ∷ [])

-- RFC 3161, 2.4.2
abbrev pub id_ct_tst_info : List ℕ
id_ct_tst_info = pkcs (9 ∷ 16 ∷ 1 ∷ 4 ∷ [])

--- `id_aa_signing_certificate`, `id_aa_signing_certificate_v2`: those of the types of attributes
---   that name the signer's certificate [RFC 5035, 5, 3]
abbrev pub id_aa_signing_certificate : List ℕ
id_aa_signing_certificate = pkcs (9 ∷ 16 ∷ 2 ∷ 12 ∷ [])

abbrev pub id_aa_signing_certificate_v2 : List ℕ
id_aa_signing_certificate_v2 = pkcs (9 ∷ 16 ∷ 2 ∷ 47 ∷ [])

--- `id_sha1`, `id_sha256` and five more: those of the digest algorithms
---   [RFC 3370, 2.1; RFC 8017, B.1]
abbrev pub id_sha1 : List ℕ
id_sha1 = 0x2b ∷ 0x0e ∷ 0x03 ∷ 0x02 ∷ 0x1a ∷ []

--- `hash_algs d`: those of one below hashAlgs, 2.16.840.1.101.3.4.2 [RFC 8017, B.1]
abbrev pub hash_algs : ℕ → List ℕ
hash_algs d = 0x60 ∷ 0x86 ∷ 0x48 ∷ 0x01 ∷ 0x65 ∷ 0x03 ∷ 0x04 ∷ 0x02 ∷ d ∷ []

abbrev pub id_sha256 : List ℕ
id_sha256 = hash_algs 1

abbrev pub id_sha384 : List ℕ
id_sha384 = hash_algs 2

abbrev pub id_sha512 : List ℕ
id_sha512 = hash_algs 3

abbrev pub id_sha224 : List ℕ
id_sha224 = hash_algs 4

abbrev pub id_sha512_224 : List ℕ
id_sha512_224 = hash_algs 5

abbrev pub id_sha512_256 : List ℕ
id_sha512_256 = hash_algs 6
