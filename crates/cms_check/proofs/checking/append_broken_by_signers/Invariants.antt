use Rattle.std.proofs.Common.{◌≡◌, ◌++◌, ℕ, List, Option, drop}
use Rattle.std.specs.Option.{option_copied}
use Rattle.cms_message.specs.SignedData.{borrowed_signers, certificates}
use Rattle.cms_check.specs.Findings.{rules_for, of_signers}
use Rattle.cms_check.specs.Jobs.{answer_of}
use Rattle.cms_check.specs.Known.{Correspond, IsContentOf}
use Rattle.cms_check.proofs.checking.append_broken_by_signers.Given as goal

abbrev pub invariant-loop-i : goal.invariant-loop-i
invariant-loop-i g l =
    let answer = answer_of g.V.Verifier.answer (option_copied l.verifier) in
    record {
      content : l.content ≡ l.initial.content;
      certificates : l.certificates ≡ certificates l.signed_data;
      findings : (m : Option (List ℕ)) → Correspond IsContentOf l.initial.content m
          → l.findings.items ++ of_signers (rules_for answer l.signed_data m) l.i (drop l.i (borrowed_signers l.signed_data))
          ≡ l.initial.findings.items ++ of_signers (rules_for answer l.signed_data m) 0 (borrowed_signers l.signed_data);
    }
