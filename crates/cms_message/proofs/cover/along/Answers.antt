use Rattle.std.proofs.Common.{◌≡◌, ◌+◌, ℕ, List, ◌∷◌, Option, None, Some, option_map, slice_get, drop, sym, ap, ◌∙◌, arith}
use Rattle.std.specs.Option.{option_and_then, option_or}
use Rattle.cms_tlv.specs.Spelling.{join}
use Rattle.cms_scalars.specs.Borrowed.{borrowed_pieces}
use Rattle.std.proofs.Math.ListN.{get_or}
use Rattle.std.proofs.lemmas.List.{drop_more}
use Rattle.cms_message.specs.Cover.{cover_from}
use Rattle.cms_message.specs.SignerInfo.{signature}
use Rattle.cms_message.specs.Signers.{AnySigner, BorrowedSigner, borrowed_signer, below}
use Rattle.cms_message.proofs.cover.along.Goals as goal

step : (s next : BorrowedSigner) (x : Option (List ℕ)) (i : ℕ) (path : List ℕ)
    → Some next ≡ option_map borrowed_signer (slice_get (below s) i) → cover_from next (Some (signature s)) path ≡ cover_from s x (i ∷ path)
step s next x i path e = go (slice_get (below s) i) e
  where
    go : (o : Option AnySigner) → Some next ≡ option_map borrowed_signer o
        → cover_from next (Some (signature s)) path ≡ option_and_then (λ c. cover_from (borrowed_signer c) (Some (signature s)) path) o
    go None e = absurd cc
    go (Some c) e = (let k : next ≡ borrowed_signer c = cc in ap (λ z. cover_from z (Some (signature s)) path) k)

pub loop-j-preserved : goal.loop-j-preserved
loop-j-preserved c content =
    let p = c.args.path.now in
    let x = option_or (option_map (λ o. join (borrowed_pieces o)) c.loop-j.signed) content in
    ap (λ z. cover_from c.in_ok-next.next (Some z) (drop (c.loop-j.j + 1) p)) c.signature.ensures
    ∙ (step c.loop-j.signer c.in_ok-next.next x (get_or p c.loop-j.j 0) (drop (c.loop-j.j + 1) p) c.in_ok-next.ensures
    ∙ (ap (cover_from c.loop-j.signer x) (sym (drop_more p c.loop-j.j 0 (omega (arith, c.loop-j-test.true)))) ∙ c.loop-j.invariant content))
