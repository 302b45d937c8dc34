use Rattle.std.proofs.Common.{◌≡◌, ◌-◌, length, None, true, option_map}
use Rattle.std.specs.Prelude.{IfSome}
use Rattle.cms_tlv.specs.State.{State, Succeeds}
use Rattle.cms_tlv.specs.Spans.{LiesIn}
use Rattle.cms_tlv.specs.Refines.{seen}
use Rattle.cms_tlv.specs.Reading.{ends_here, member_of}
use Rattle.cms_tlv.proofs.Loops.{HasRead}
use Rattle.cms_setof.proofs.set.SetOfFields.read_to_end.Given as goal

abbrev pub invariant-loop-set : goal.invariant-loop-set
invariant-loop-set g l =
    Succeeds l.fn.source l.source × ((ends_here l.fn.bound (length l.fn.source.done) ≡ true → l.fn.source.ahead ≡ None)
    → ends_here l.fn.bound (length l.source.done) ≡ true → l.source.ahead ≡ None) × IfSome l.last (λ s. LiesIn s l.source)
    × HasRead (λ (s : State) v. g.T.Write.value s.done v) (member_of g.T.Write.grammar.reader) None l.fn.bound l.fn.source l.source
    (option_map (seen l.source) l.last) l.set

abbrev pub decreases-loop-set : goal.decreases-loop-set
decreases-loop-set g l = l.source.limit - length l.source.done
