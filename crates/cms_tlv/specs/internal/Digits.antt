-- Numbers in as few octets as they need.
use Rattle.std.specs.Prelude.{◌≡◌, ℕ, ◌*◌, ◌^◌, ◌≤◌, ◌⊎◌, List, [], length}
use Rattle.cms_tlv.specs.Headers.{AreOctets, big_endian}

-- the octets ds encode n, and do not begin with 0
pub record AreDigits (ds : List ℕ) (n : ℕ) : Type 0 where
  pub octets : AreOctets ds
  pub value : big_endian ds ≡ n
  pub fewest : (ds ≡ []) ⊎ (256 ^ length ds ≤ n * 256)
