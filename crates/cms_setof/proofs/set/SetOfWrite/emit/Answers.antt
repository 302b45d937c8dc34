use Rattle.std.proofs.Common.{rules}
use Rattle.cms_setof.proofs.MemberLaws.{all_shown}
use Rattle.cms_setof.proofs.set.SetOfWrite.emit.Goals as goal

pub emit_row-requires-clause-are_values : goal.emit_row-requires-clause-are_values
emit_row-requires-clause-are_values g c =
    (let h = all_shown (g.T.Write.value c.args.kept.now) g.T.Write.grammar.is_value _ c.requires.1 in search rules)
