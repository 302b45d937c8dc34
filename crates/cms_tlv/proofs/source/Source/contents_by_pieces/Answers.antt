use Rattle.std.proofs.Common.{◌+◌, arith, refl}
use Rattle.std.proofs.lemmas.Result.{err_from_is_err_and}
use Rattle.cms_tlv.proofs.ContentsGives.{HasTaken, has_none, has_more, has_no_more, has_failed, has_ended, has_all, due_fits, no_memory}
use Rattle.cms_tlv.proofs.source.Source.contents_by_pieces.Goals as goal
use Rattle.cms_tlv.proofs.source.Source.contents_by_pieces.Goals.{Then-at_hand-eq0}

pub loop-due-init : goal.loop-due-init
loop-due-init g c = has_none c.args.n c.args.self.now c.requires.clear c.requires.sound

pub piece_at_hand-requires-clause-room : goal.piece_at_hand-requires-clause-room
piece_at_hand-requires-clause-room g c = due_fits c.args.n c.loop-due.due c.loop-due.invariant c.requires.room

pub returns-in_err-at_hand-clause-refines : goal.returns-in_err-at_hand-clause-refines
returns-in_err-at_hand-clause-refines g c =
    let p = err_from_is_err_and c.from_residual.result c.from_residual.ensures.1 in
    rw (p.1, p.2) (has_failed c.args.n c.loop-due.due c.loop-due.invariant
    (no_memory _ c.loop-due.invariant.sound c.loop-due.invariant.clear c.in_err-at_hand.ensures.clear c.in_err-at_hand.ensures.err))

pub loop-due-preserved : goal.loop-due-preserved
loop-due-preserved g c =
    has_more c.args.n c.loop-due.due _ c.loop-due.invariant c.in_ok-at_hand.ensures.ok c.in_ok-at_hand.ensures.clear
    (due_fits c.args.n c.loop-due.due c.loop-due.invariant c.requires.room)

-- where none were at hand
asked : (g : _) (c : Then-at_hand-eq0 g) → HasTaken c.args.n c.loop-due.due c.args.self.now c.piece_at_hand.new.self
asked g c =
    has_no_more c.args.n c.loop-due.due c.in_ok-at_hand.at_hand c.loop-due.invariant c.in_ok-at_hand.ensures.ok c.if-at_hand-eq0.true
    c.in_ok-at_hand.ensures.clear (due_fits c.args.n c.loop-due.due c.loop-due.invariant c.requires.room)

pub piece-requires-clause-room : goal.piece-requires-clause-room
piece-requires-clause-room g c = due_fits c.args.n c.loop-due.due (asked g (goal.at.piece-requires-clause-room g c).Then-at_hand-eq0) c.requires.room

pub returns-in_err-due-clause-refines : goal.returns-in_err-due-clause-refines
returns-in_err-due-clause-refines g c =
    let p = err_from_is_err_and c.from_residual-in_err-due.result c.from_residual-in_err-due.ensures.1 in
    rw (p.1, p.2) (has_failed c.args.n c.loop-due.due (asked g (goal.at.returns-in_err-due-clause-refines g c).Then-at_hand-eq0) c.in_err-due.ensures.err)

pub returns-in_err-due-clause-faults : goal.returns-in_err-due-clause-faults
returns-in_err-due-clause-faults g c =
    let p = err_from_is_err_and c.from_residual-in_err-due.result c.from_residual-in_err-due.ensures.1 in
    rw (p.1, p.2) (has_ended c.args.n c.loop-due.due c.piece.new.self c.in_err-due.field-0.0
    (asked g (goal.at.returns-in_err-due-clause-faults g c).Then-at_hand-eq0) c.in_err-due.ensures.early)

pub loop-due-preserved-then-at_hand-eq0 : goal.loop-due-preserved-then-at_hand-eq0
loop-due-preserved-then-at_hand-eq0 g c =
    let h = asked g (goal.at.loop-due-preserved-then-at_hand-eq0 g c).Then-at_hand-eq0 in
    has_more c.args.n c.loop-due.due _ h c.in_ok-due.ensures.ok c.in_ok-due.ensures.clear (due_fits c.args.n c.loop-due.due h c.requires.room)

pub returns-clause-refines : goal.returns-clause-refines
returns-clause-refines g c =
    has_all c.args.n c.loop-due.due c.consumed-start.result (c.consumed-start.result + c.args.n) c.args.self.now c.loop-due.self
    (omega arith) c.loop-due.invariant c.consumed-start.ensures.value refl
