-- What is kept of a message.
use Rattle.std.specs.Prelude.{◌≡◌, ℕ, List, Bool, true}
use Rattle.cms_tlv.specs.Spelling.{ber, der}
use Rattle.cms_fields.specs.Writing.{HasLength}
use Rattle.cms_canon.specs.Kinds.{MessageValue, whole_message, same_message}
use Rattle.cms_canon.specs.Messages.{IsDerOf}

--- `IsKept octets v n d`, in `Kept.antt`: the octets spell `v`, its DER has `n` octets
---   (`HasLength`), and if `d` is true the octets are its DER
pub record IsKept (octets : List ℕ) (v : MessageValue) (n : ℕ) (d : Bool) : Type 0 where
  pub spells : whole_message ber octets v
  pub length : HasLength (whole_message der) same_message v n
  pub is_der : d ≡ true → IsDerOf v octets
