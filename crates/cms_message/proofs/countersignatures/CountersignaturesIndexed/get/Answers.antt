use Rattle.std.proofs.Common.{slice_get, sym, ap, ◌∙◌}
use Rattle.std.proofs.lemmas.Iterator.Adapters.{option_map_id}
use Rattle.std.proofs.lemmas.Option.{slice_get-map}
use Rattle.cms_message.specs.Signers.{countersignatures, borrowed_signer}
use Rattle.cms_message.proofs.countersignatures.CountersignaturesIndexed.get.Goals as goal

pub returns : goal.returns
returns c =
    option_map_id c.countersignature.result ∙ c.countersignature.ensures ∙ (sym (slice_get-map borrowed_signer (countersignatures c.self.inside.0) c.args.i)
    ∙ ap (λ xs. slice_get xs c.args.i) c.self.view_is)
