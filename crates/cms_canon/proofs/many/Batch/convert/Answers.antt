use Rattle.std.proofs.Common.{refl, ap, ◌∙◌, arith}
use Rattle.std.proofs.lemmas.Result.{err_from_is_err_and}
use Rattle.cms_canon.specs.internal.ManySteps.{InHand}
use Rattle.cms_canon.proofs.many.Batch.convert.Goals as goal
use Rattle.cms_canon.proofs.many.Batch.convert.Goals.{then-octets-lt-PIECE+in_ok-collect, else-octets-lt-PIECE+in_ok-write_alone}

pub returns-in_err-collect-clause-proceeds : goal.returns-in_err-collect-clause-proceeds
returns-in_err-collect-clause-proceeds g c left mid after failures some fails out failed limit p k =
    let q = err_from_is_err_and c.from_residual.result c.from_residual.ensures.1 in
    rw (q.1, q.2) (c.in_err-collect.ensures.proceeds left mid after failures some fails out failed limit p k)

pub returns-in_err-write_alone-clause-proceeds : goal.returns-in_err-write_alone-clause-proceeds
returns-in_err-write_alone-clause-proceeds g c left mid after failures some fails out failed limit p k =
    let q = err_from_is_err_and c.from_residual-in_err-write_alone.result c.from_residual-in_err-write_alone.ensures.1 in
    rw (q.1, q.2) (c.in_err-write_alone.ensures.proceeds left mid after failures some fails out failed limit p k)

pub returns-clause-proceeds : goal.returns-clause-proceeds
returns-clause-proceeds g c left mid after failures some fails out failed limit p k = elim c.if-octets-lt-PIECE.branch [
  | then-octets-lt-PIECE+in_ok-collect w ↦ rw (c.self.view_is, w.self-is, w.writer-is)
      (w.in_ok-collect.ensures.proceeds left mid after failures some fails out failed limit p k)
  | else-octets-lt-PIECE+in_ok-write_alone w ↦ rw (c.self.view_is, w.self-is, w.writer-is)
      (w.in_ok-write_alone.ensures.proceeds left mid after failures some fails out failed limit p k)
]

pub returns-clause-more : goal.returns-clause-more
returns-clause-more g c = elim c.if-octets-lt-PIECE.branch [
  | then-octets-lt-PIECE+in_ok-collect w ↦ (
    refl,
    omega (
      arith,
      c.requires.short.0,
      w.in_ok-collect.ensures.read,
      ap (λ (b : InHand). b.count.read) (c.self.view_is ∙ w.self-is),
    ),
  )
  | else-octets-lt-PIECE+in_ok-write_alone w ↦ (
    refl,
    omega
        (arith, c.requires.short.0, w.in_ok-write_alone.ensures.read, ap (λ (b : InHand). b.count.read) (c.self.view_is ∙ w.self-is)),
  )
]
