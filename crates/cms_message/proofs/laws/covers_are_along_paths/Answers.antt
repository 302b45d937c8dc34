use Rattle.std.proofs.Common.{◌≡◌, refl, ℕ, List, [], ◌∷◌, Option, Some, None, option_map, slice_get, map, sym, ap, ◌∙◌}
use Rattle.std.specs.Option.{option_and_then}
use Rattle.std.proofs.lemmas.Option.{slice_get-map}
use Rattle.cms_message.specs.SignerInfo.{signature}
use Rattle.cms_message.specs.Signers.{within, borrowed_by}
use Rattle.cms_message.specs.SignedData.{SignedData, Signer, signer_infos}
use Rattle.cms_message.specs.Cover.{Covered, IsCoveredAlong, content_given, cover_from, covers, covers_within, signer_from}
use Rattle.cms_message.proofs.PathLaws.{Among, at_index, from_index, of_one, of_all, to_path, from_path, none_here}
use Rattle.cms_message.proofs.laws.covers_are_along_paths.Goals as goal

at_signer :
    (v : SignedData) (i : ℕ) → slice_get (map (borrowed_by (map (within 4))) (signer_infos v)) i
    ≡ option_map (borrowed_by (map (within 4))) (slice_get (signer_infos v) i)
at_signer v i = slice_get-map (borrowed_by (map (within 4))) (signer_infos v) i

along : (v : SignedData) (detached : Option (List ℕ)) (p : Covered) → (i : ℕ) × (slice_get (covers v detached) i ≡ Some p)
    → (path : List ℕ) × IsCoveredAlong v detached path p
along v detached p h =
    let k = of_one (covers_within 5 (content_given v detached)) (signer_infos v) p (from_index p (covers v detached) h.0 h.1) in
    let deeper = to_path 4 (content_given v detached) k.item p k.among in
    let there = at_signer v k.index ∙ ap (option_map (borrowed_by (map (within 4)))) k.there in (
      k.index ∷ deeper.0,
      (
        ap (option_and_then (λ s. cover_from s (content_given v detached) deeper.0)) there ∙ deeper.1.0,
        ap (λ o. option_map signature (option_and_then (λ s. signer_from s deeper.0) o)) there ∙ deeper.1.1,
      ),
    )

back : (v : SignedData) (detached : Option (List ℕ)) (p : Covered) (path : List ℕ) → IsCoveredAlong v detached path p
    → (i : ℕ) × (slice_get (covers v detached) i ≡ Some p)
back v detached p [] h = absurd (let e = h.0 in cc)
back v detached p (i ∷ path) h = at_index p (covers v detached) (go (slice_get (signer_infos v) i) refl)
  where
    go : (o : Option Signer) → slice_get (signer_infos v) i ≡ o → Among p (covers v detached)
    go None e = absurd (none_here (λ s. cover_from s (content_given v detached) path) (at_signer v i ∙ ap (option_map (borrowed_by (map (within 4)))) e) h.0)
    go (Some s) e =
        let there = at_signer v i ∙ ap (option_map (borrowed_by (map (within 4)))) e in
        of_all (covers_within 5 (content_given v detached)) (signer_infos v) p i s e (from_path 4 (content_given v detached) s p path (
          sym (ap (option_and_then (λ s. cover_from s (content_given v detached) path)) there) ∙ h.0,
          sym (ap (λ o. option_map signature (option_and_then (λ s. signer_from s path) o)) there) ∙ h.1,
        ))

pub returns : goal.returns
returns c v detached p = (along v detached p, λ h. back v detached p h.0 h.1)
