-- What an input over memory has left.
use Rattle.std.specs.Prelude.{ℕ, List}
use Rattle.cms_tlv.specs.declared.input.Slice.{Slice}

--- `rest_of`: what an input over memory has left
abbrev pub rest_of : Slice → List ℕ
rest_of s = s.rest.now
