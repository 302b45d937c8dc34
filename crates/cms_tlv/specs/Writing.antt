-- What is written.
use Rattle.std.specs.Prelude.{◌≡◌, ℕ, List, ◌++◌, ◌∷◌}
use Rattle.cms_tlv.specs.Headers.{IsShortLength}

--- `IsDerHeader id n b`: `b` is the identifier octet `id` and the shortest length octets of `n`
---   [X.690, 10.1]
abbrev pub IsDerHeader : ℕ → ℕ → List ℕ → Type 0
IsDerHeader id n b = (l : List ℕ) × IsShortLength l n × (b ≡ id ∷ l)

-- an identifier octet and the shortest length octets of n were appended (X.690, 10.1)
abbrev pub AppendsHeader : ℕ → ℕ → List ℕ → List ℕ → Type 0
AppendsHeader id n old new = (l : List ℕ) × IsShortLength l n × (new ≡ old ++ id ∷ l)
