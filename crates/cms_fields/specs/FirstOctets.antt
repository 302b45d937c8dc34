-- Tests of the octets with which fields begin.
use Rattle.std.specs.Prelude.{ℕ, zero, suc, ◌/◌, ◌%◌, Bool, true, not, nat_lt, ◌==◌, ◌&&◌}

--- `is_field_octet id`: `id` may be the identifier octet of a field [X.690, 8.1.2]
abbrev pub is_field_octet : ℕ → Bool
is_field_octet id = nat_lt id 0x100 && (not (id % 32 == 31) && not (id == 0))

--- `is_constructed id`: bit 6 of `id` is 1 [X.690, 8.1.2.5]
abbrev pub is_constructed : ℕ → Bool
is_constructed id = (id / 32) % 2 == 1

--- `is_primitive_octet id`: `is_field_octet id`, and it is primitive [X.690, 8.1.2.5]
abbrev pub is_primitive_octet : ℕ → Bool
is_primitive_octet id = is_field_octet id && not (is_constructed id)

--- `are_apart n p q`: no number below `n` passes both tests
abbrev pub are_apart : ℕ → (ℕ → Bool) → (ℕ → Bool) → Bool
are_apart zero p q = true
are_apart (suc n) p q = not (p n && q n) && are_apart n p q
