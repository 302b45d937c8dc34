use Rattle.std.proofs.Common.{◌≡◌, ◌∙◌, ap₂, subst, sym}
use Rattle.std.specs.List.{All}
use Rattle.std.proofs.lemmas.Result.{IfOk-weaker}
use Rattle.cms_fields.specs.Assembly.{unmarked}
use Rattle.cms_setof.specs.Pieces.{marked_pieces}
use Rattle.cms_listing.specs.Changes.{LiesIn}
use Rattle.cms_canon.specs.Messages.{IsDerOf}
use Rattle.cms_canon.proofs.changes.changes_of.Goals as goal

pub returns : goal.returns
returns c =
    let m = c.args.message.now in
    let der = c.deref-2.result.now in
    let is_made : der ≡ unmarked (marked_pieces m.octets c.in_ok-pieces.pieces.items) =
    c.deref-2.ensures.value ∙ c.in_ok-der.ensures ∙ ap₂ (λ k ps. unmarked (marked_pieces k ps)) c.octets.ensures c.deref.ensures.value in
    IfOk-weaker c.find_changes.result _ _ (λ v h. (
      der,
      subst (IsDerOf m.value) (sym is_made) c.in_ok-pieces.ensures.der,
      subst (λ o. All (LiesIn o der) v.items) c.octets-2.ensures h,
    )) c.find_changes.ensures
