use Rattle.std.proofs.Common.{◌≡◌, ◌++◌, List, ℕ, sym, ap, ◌∙◌, append_assoc}
use Rattle.cms_pem.specs.Pem.{trimmed, dashes}
use Rattle.cms_pem.proofs.Edges.{begins_so, begins_otherwise, label_some, label_none, none_if}
use Rattle.cms_pem.proofs.edge.label_in.Goals as goal

pub returns-in_err-strip_prefix-clause-none : goal.returns-in_err-strip_prefix-clause-none
returns-in_err-strip_prefix-clause-none c =
    none_if c.from_residual.result _
    (λ (label : List ℕ). λ e. begins_otherwise c.args.word.now c.trimmed.result.now c.in_err-strip_prefix.ensures.cases (label ++ dashes)
    (c.trimmed.ensures ∙ e ∙ append_assoc c.args.word.now label dashes))

-- the line, once it is known how it begins
begun : (c : goal.After-strip_suffix) → trimmed c.args.line.now ≡ c.args.word.now ++ c.in_ok-strip_prefix.field-0.now
begun c =
    let h = c.in_ok-strip_prefix.ensures.cases in
    sym c.trimmed.ensures ∙ begins_so c.args.word.now c.trimmed.result.now h.0 ∙ ap (λ r. c.args.word.now ++ r) (sym h.1)

pub returns-clause-some : goal.returns-clause-some
returns-clause-some c = label_some _ _ c.in_ok-strip_prefix.field-0.now dashes c.strip_suffix.result _ (begun c) c.strip_suffix.ensures.cases

pub returns-clause-none : goal.returns-clause-none
returns-clause-none c = label_none _ _ c.in_ok-strip_prefix.field-0.now dashes c.strip_suffix.result _ (begun c) c.strip_suffix.ensures.cases
