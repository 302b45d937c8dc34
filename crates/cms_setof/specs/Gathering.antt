-- What is gathered to be written, of which long strings stay where they are kept.
use Rattle.std.specs.Prelude.{ℕ, List, ◌++◌}
use Rattle.cms_tlv.specs.declared.span.Span.{Span}
use Rattle.cms_tlv.specs.Spelling.{join}
use Rattle.cms_fields.specs.Received.{spanned_in}

--- `Parts`: what was gathered so far: octets, spans of octets that are kept elsewhere, and octets
abbrev pub Parts : Type 0
Parts = List ℕ × (List Span × List ℕ)

--- `octets_of_parts k g`: all of `g` one after another, with the octets that its spans show in `k`
abbrev pub octets_of_parts : List ℕ → Parts → List ℕ
octets_of_parts k g = g.0 ++ (join (spanned_in k g.1.0) ++ g.1.1)
