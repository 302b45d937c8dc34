use Rattle.std.proofs.Common.{◌≡◌, ◌++◌, take}
use Rattle.cms_check.specs.Findings.{findings_of}
use Rattle.cms_check.proofs.checking.append_broken.Given as goal

abbrev pub invariant-loop-code : goal.invariant-loop-code
invariant-loop-code l = l.findings.items ≡ l.initial.findings.items ++ findings_of l.signer (take l.code-index l.rules)
