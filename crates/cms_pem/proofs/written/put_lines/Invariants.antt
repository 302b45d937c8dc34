use Rattle.std.proofs.Common.{◌≡◌, ◌++◌, length}
use Rattle.cms_pem.specs.Pem.{lines_of}
use Rattle.cms_pem.proofs.written.put_lines.Given as goal

abbrev pub invariant-loop-rest : goal.invariant-loop-rest
invariant-loop-rest l = l.text.items ++ lines_of l.rest ≡ l.initial.text.items ++ lines_of l.symbols

abbrev pub decreases-loop-rest : goal.decreases-loop-rest
decreases-loop-rest l = length l.rest
