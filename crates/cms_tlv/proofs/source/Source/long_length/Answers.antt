use Rattle.std.proofs.lemmas.Result.{err_from_is_err_and}
use Rattle.cms_tlv.specs.Refines.{plain}
use Rattle.cms_tlv.specs.Reading.{long_of}
use Rattle.cms_tlv.proofs.Bind.{fails, gives_bind}
use Rattle.cms_tlv.proofs.source.Source.long_length.Goals as goal

pub returns-in_err-n-clause-refines : goal.returns-in_err-n-clause-refines
unfolding long_of
returns-in_err-n-clause-refines g c =
    let p = err_from_is_err_and c.from_residual.result c.from_residual.ensures.1 in
    rw (p.1, p.2) (fails _ c.in_err-n.ensures.refines)

pub returns-clause-refines : goal.returns-clause-refines
unfolding long_of
returns-clause-refines g c = gives_bind plain _ _ c.definite.result c.in_ok-n.ensures.refines (rw (← c.fewest.ensures) c.definite.ensures.refines)
