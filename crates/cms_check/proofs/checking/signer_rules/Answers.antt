use Rattle.std.proofs.Common.{ap, sym, ◌∙◌, map, not, refl}
use Rattle.std.specs.Prelude.{bytes_eq}
use Rattle.std.proofs.lemmas.List.Sorted.{list_any-IsPermutation}
use Rattle.cms_message.specs.Algorithms.{algorithm}
use Rattle.cms_message.specs.SignedData.{digest_algorithms}
use Rattle.cms_message.specs.SignerInfo.{digest_algorithm}
use Rattle.cms_check.proofs.Found.{any_map}
use Rattle.cms_check.proofs.checking.signer_rules.Goals as goal

pub returns-clause-ok : goal.returns-clause-ok
returns-clause-ok c m k =
    let oid = algorithm (digest_algorithm c.args.signer.now) in
    let all = digest_algorithms c.args.signed_data.now in
    let unlisted =
    c.has_unlisted_digest_algorithm.ensures ∙ ap not (sym (list_any-IsPermutation (λ n. bytes_eq n oid) (map algorithm all)
    c.args.listed.now c.requires.listed) ∙ any_map algorithm (λ n. bytes_eq n oid) all) in
    rw (
      c.signer_has_another_version.ensures,
      c.lacks_signed_attributes.ensures,
      c.lacks_content_type.ensures,
      c.has_another_content_type.ensures,
      c.lacks_message_digest.ensures,
      c.in_ok-has_another_digest.ensures.ok m k,
      c.has_unknown_algorithm.ensures,
      unlisted,
      c.is_bad.ensures,
      c.is_unknown.ensures,
      c.requires.cert_id,
    ) refl
