-- The element that octets begin with (X.690, 8.1).
use Rattle.std.specs.Prelude.{ℕ, ◌-◌, List, [], ◌∷◌, length, take, drop, Option, Some, None}
use Rattle.std.specs.Prelude.{option_map, nat_lt, nat_le, ◌==◌, ◌&&◌, if◌then◌else◌}
use Rattle.std.specs.Option.{option_and_then}
use Rattle.cms_tlv.specs.Headers.{big_endian}

--- `split n b`: the first `n` octets of `b`, and what follows them; none if there are fewer
abbrev pub split : ℕ → List ℕ → Option (List ℕ × List ℕ)
split n r = if nat_le n (length r) then Some (take n r, drop n r) else None

--- `contents_after l b`: the contents after the length octets `l` and those that `b` begins with,
---   and what follows; none if octets are missing [X.690, 8.1.3]
abbrev pub contents_after : ℕ → List ℕ → Option (List ℕ × List ℕ)
contents_after l r =
    if nat_lt l 0x80 then split l r
    else if nat_le 0x81 l
    && nat_le l 0x88 then option_and_then (λ p. split (big_endian p.0) p.1) (split (l - 0x80) r)
    else None

--- `first_element t b`: if `b` begins with a whole element of definite length with the identifier
---   octet `t`, its contents and what follows it; [X.690, 8.1.1]
--- | else none. The length has at most eight octets after the first [ours]
abbrev pub first_element : ℕ → List ℕ → Option (List ℕ × List ℕ)
first_element t [] = None
first_element t (i ∷ []) = None
first_element t (i ∷ l ∷ r) = if i == t then contents_after l r else None

--- `first_contents t b`: the contents alone
abbrev pub first_contents : ℕ → List ℕ → Option (List ℕ)
first_contents t octets = option_map (λ p. p.0) (first_element t octets)
