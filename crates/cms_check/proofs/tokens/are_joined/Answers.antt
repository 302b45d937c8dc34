use Rattle.std.proofs.Common.{List, ℕ, sym, ap, ◌∙◌}
use Rattle.std.specs.Prelude.{bytes_eq}
use Rattle.cms_tlv.specs.Spelling.{join}
use Rattle.cms_fields.specs.Indexed.{left}
use Rattle.cms_scalars.specs.Borrowed.{borrowed_pieces}
use Rattle.cms_check.proofs.Joined.{after_piece, without_piece, nothing_left}
use Rattle.cms_check.proofs.tokens.are_joined.Goals as goal

pub loop-piece-preserved : goal.loop-piece-preserved
loop-piece-preserved c =
    let rest = c.loop-piece.rest.now in
    let others = join (left borrowed_pieces c.next.new.self) in
    let cases = c.in-Some-strip_prefix.ensures.cases in (
      tt,
      tt,
      ap (bytes_eq others) cases.1 ∙ after_piece c.in-Some.piece.now others rest cases.0
          ∙ sym (ap (λ (ps : List (List ℕ)). bytes_eq (join ps) rest) c.in-Some.ensures.steps) ∙ c.loop-piece.invariant.2,
    )

pub returns-in-None-strip_prefix : goal.returns-in-None-strip_prefix
returns-in-None-strip_prefix c =
    let rest = c.loop-piece.rest.now in
    sym (without_piece c.in-Some.piece.now (join (left borrowed_pieces c.next.new.self)) rest c.in-None-strip_prefix.ensures.cases)
    ∙ sym (ap (λ (ps : List (List ℕ)). bytes_eq (join ps) rest) c.in-Some.ensures.steps) ∙ c.loop-piece.invariant.2

pub returns : goal.returns
returns c =
    let rest = c.loop-piece.rest.now in
    c.is_empty.ensures ∙ nothing_left rest ∙ sym (ap (λ (ps : List (List ℕ)). bytes_eq (join ps) rest) c.in-None.ensures.steps.0) ∙ c.loop-piece.invariant.2
