use Rattle.std.proofs.Common.{◌≡◌, ℕ, List, Option, Some, None, true, bytes_eq, refl, ap}
use Rattle.std.specs.Option.{option_eq}
use Rattle.std.specs.Cmp.{first_so, second_so}
use Rattle.std.proofs.lemmas.Slice.Eq.{bytes_eq-Decides}
use Rattle.cms_tlv.specs.Spelling.{Rules}
use Rattle.cms_tlv.specs.Opaque.{IsOpaque}
use Rattle.cms_fields.specs.Grammar.{last_optional}
use Rattle.cms_fields.specs.Received.{IsOpaqueAmong, ArePartsOf, CountedAlike}
use Rattle.cms_fields.proofs.ReaderLaws.{pairs}
use Rattle.cms_fields.proofs.ReceivedLaws.{no_parts, element_parts, then_parts, first_parts, maybe_part, keeps_none, keeps_of, keeps_then, keeps_first, keeps_maybe}
use Rattle.cms_scalars.specs.Grammar.{boolean_type, integer_type, object_identifier_type, octet_string_type}
use Rattle.cms_message.specs.Algorithms.{AlgorithmIdentifier, algorithm_identifier}
use Rattle.cms_message.specs.Received.{in_algorithm_identifier}
use Rattle.cms_scalars.specs.Octets.{octet_string}
use Rattle.cms_tsp.specs.Requests.{MessageImprint, message_imprint, hash_algorithm, is_extensions}
use Rattle.cms_tsp.proofs.laws.request_octets_are_kept.Goals as goal

imprint_parts : (m : Rules) → ArePartsOf (message_imprint.spelled m) (λ v. in_algorithm_identifier (hash_algorithm v))
imprint_parts m = element_parts (first_parts (octet_string 0x04 m) (element_parts (then_parts no_parts maybe_part) m 0x30)) m 0x30

keeps_imprint : CountedAlike message_imprint.is_value message_imprint.same (λ v. in_algorithm_identifier (hash_algorithm v))
keeps_imprint = keeps_first (octet_string_type 0x04) (keeps_then (keeps_none object_identifier_type) (keeps_maybe IsOpaque))

equal_options : (o u : Option (List ℕ)) → option_eq bytes_eq o u ≡ true → o ≡ u
equal_options None None e = refl
equal_options None (Some x) e = absurd cc
equal_options (Some x) None e = absurd cc
equal_options (Some x) (Some y) e = ap Some ((bytes_eq-Decides x y).0 e)

equal_algorithms : (v w : AlgorithmIdentifier) → algorithm_identifier.same v w ≡ true → v ≡ w
equal_algorithms v w e =
    pairs ((bytes_eq-Decides v.0 w.0).0 (first_so (bytes_eq v.0 w.0) (option_eq bytes_eq v.1 w.1) e))
    (equal_options v.1 w.1 (second_so (bytes_eq v.0 w.0) (option_eq bytes_eq v.1 w.1) e))

equal_imprints : (v w : MessageImprint) → message_imprint.same v w ≡ true → v ≡ w
equal_imprints v w e =
    pairs (equal_algorithms v.0 w.0 (first_so (algorithm_identifier.same v.0 w.0) (bytes_eq v.1 w.1) e))
    ((bytes_eq-Decides v.1 w.1).0 (second_so (algorithm_identifier.same v.0 w.0) (bytes_eq v.1 w.1) e))

pub returns-clause-are_parts : goal.returns-clause-are_parts
returns-clause-are_parts c m =
    element_parts (then_parts no_parts (then_parts (imprint_parts m)
    (then_parts no_parts (then_parts no_parts (then_parts no_parts maybe_part))))) m 0x30

pub returns-clause-counted : goal.returns-clause-counted
returns-clause-counted c =
    keeps_of
    (keeps_then (keeps_none integer_type)
    (keeps_then keeps_imprint
    (keeps_then (keeps_none (last_optional object_identifier_type))
    (keeps_then (keeps_none (last_optional integer_type))
    (keeps_then (keeps_none boolean_type) (keeps_maybe (IsOpaqueAmong is_extensions)))))))
    (λ v p. (p.0, (p.1.0, (p.1.1.0, (p.1.1.1.0, (tt, p.1.1.1.1))))))

pub returns-clause-imprint : goal.returns-clause-imprint
returns-clause-imprint c v w e = equal_imprints v.1.0 w.1.0 (first_so (message_imprint.same v.1.0 w.1.0) _ (second_so (bytes_eq v.0 w.0) _ e))
