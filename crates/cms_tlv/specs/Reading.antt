-- Reading from left to right, with the first fault that is met.
use Rattle.std.specs.Prelude.{ℕ, zero, suc, ◌+◌, ◌-◌, ◌*◌, ◌/◌, ◌%◌, ◌^◌, ◌∷◌, [], List, take, Bool}
use Rattle.std.specs.Prelude.{true, false, not, Option, Some, None, Result, Ok, Err, nat_lt, nat_le}
use Rattle.std.specs.Prelude.{◌==◌, ◌&&◌, ◌||◌, if◌then◌else◌}
use Rattle.cms_tlv.specs.declared.fault.Reason.{Reason}
use Rattle.cms_tlv.specs.declared.fault.Reason.TheVariants.{Truncated, TooLarge, LengthReserved}
use Rattle.cms_tlv.specs.declared.fault.Reason.TheVariants.{LengthTooLong, IndefinitePrimitive}
use Rattle.cms_tlv.specs.declared.fault.Reason.TheVariants.{Overrun, UnexpectedElement}
use Rattle.cms_tlv.specs.declared.fault.Reason.TheVariants.{SignedAttrsNotDer, OpaqueNotDer}
use Rattle.cms_tlv.specs.declared.fault.Reason.TheVariants.{OpaqueTooDeep}
use Rattle.cms_tlv.specs.declared.bound.Bound.{Bound}
use Rattle.cms_tlv.specs.declared.bound.Header.{Header}
use Rattle.cms_tlv.specs.Order.{comes_after}

--- `Cursor`: a place in octets, with the limit and the octets to come
pub record Cursor : Type 0 where
  pub at : ℕ
  pub limit : ℕ
  pub rest : List ℕ

abbrev pub place : ℕ → ℕ → List ℕ → Cursor
place at limit rest = record { at = at; limit = limit; rest = rest }

-- why reading ends early, and how many octets were consumed by then
pub data Stop : Type 0 where
  stop : Reason → ℕ → Stop

--- `Reader A`: a function that gives, at a cursor, an `A` and the cursor after it, or a refusal
abbrev pub Reader : Type 0 → Type 0
Reader A = Cursor → Result (A × Cursor) Stop

abbrev pub then_read : {A B : Type 0} → Result (A × Cursor) Stop → (A → Reader B)
    → Result (B × Cursor) Stop
then_read (Ok p) f = f p.0 p.1
then_read (Err e) f = Err e

infixl 10 ◌>>=◌
unfoldable pub ◌>>=◌ : {A B : Type 0} → Reader A → (A → Reader B) → Reader B
f >>= g = λ c. then_read (f c) g

abbrev pub give : {A : Type 0} → A → Reader A
give x = λ c. Ok (x, c)

--- `refuse reason`: refuses here
abbrev pub refuse : {A : Type 0} → Reason → Reader A
refuse e = λ c. Err (stop e c.at)

-- Octets.

abbrev pub is_past : Option ℕ → ℕ → Bool
is_past None at = false
is_past (Some end) at = nat_le end at

abbrev pub first_octet : ℕ → ℕ → List ℕ → Result (ℕ × Cursor) Stop
first_octet at limit [] = Err (stop Truncated at)
first_octet at limit (b ∷ rest) =
    if nat_lt b 256 then Ok (b, place (at + 1) limit rest) else Err (stop UnexpectedElement at)

-- one octet before the end and the limit
unfoldable pub octet_of : Option ℕ → Reader ℕ
octet_of end = λ c. if is_past end c.at then Err (stop Overrun c.at)
    else if nat_le c.limit c.at then Err (stop TooLarge c.at) else first_octet c.at c.limit c.rest

-- what was read, without moving on: it is read again
abbrev pub again : {A : Type 0} → Cursor → Result (A × Cursor) Stop → Result (A × Cursor) Stop
again c (Ok p) = Ok (p.0, c)
again c (Err e) = Err e

unfoldable pub look_of : Option ℕ → Reader ℕ
look_of end = λ c. again c (octet_of end c)

--- `octets_of end n`, `opaque_of`, `close_of`: what the calls `contents`, `opaque` and `close` give
unfoldable pub octets_of : Option ℕ → ℕ → Reader (List ℕ)
octets_of end zero = give []
octets_of end (suc n) = do
  b ← octet_of end
  bs ← octets_of end n
  give (b ∷ bs)

-- Headers.

-- the octets of a high tag number after the first n of them
unfoldable pub tag_of : Option ℕ → ℕ → ℕ → Reader (Unit {0})
tag_of end zero n = refuse UnexpectedElement
tag_of end (suc left) n = octet_of end >>= λ b.
    if nat_lt b 128 then (if nat_lt (n * 128 + b) 31 then refuse UnexpectedElement else give tt)
    else if (b == 128) && (n == 0) then refuse UnexpectedElement
    else tag_of end left (n * 128 + (b - 128))

-- count octets more of a big-endian number
unfoldable pub number_of : Option ℕ → ℕ → ℕ → Reader ℕ
number_of end zero n = give n
number_of end (suc count) n = do
  b ← octet_of end
  number_of end count (256 * n + b)

-- n octets more do not fit
abbrev pub is_over : Option ℕ → ℕ → ℕ → Bool
is_over None at n = false
is_over (Some end) at n = nat_lt end (at + n)

unfoldable pub definite_length_of : Bound → ℕ → Bool → ℕ → Reader Header
definite_length_of bd ident shortest n =
    λ c. if is_over bd.end c.at n then Err (stop Overrun c.at)
    else if nat_lt c.limit (c.at + n) then Err (stop TooLarge c.at) else if bd.strict
    && not shortest then Err (stop SignedAttrsNotDer c.at)
    else Ok (
      record {
        ident = ident;
        len = Some n;
        inner = record { end = Some (c.at + n); indefinite = false; strict = bd.strict };
        shortest = shortest;
      },
      c,
    )

-- no fewer octets than count hold the length n
abbrev pub is_shortest : ℕ → ℕ → Bool
is_shortest count n = nat_le 128 n && nat_le (256 ^ (count - 1)) n

unfoldable pub long_of : Bound → ℕ → ℕ → Reader Header
long_of bd ident count =
    number_of bd.end count 0 >>= λ n. definite_length_of bd ident (is_shortest count n) n

unfoldable pub indefinite_length_of : Bound → ℕ → Reader Header
indefinite_length_of bd ident =
    if (ident / 32) % 2 == 0 then refuse IndefinitePrimitive
    else if bd.strict then refuse SignedAttrsNotDer
    else give (record {
      ident = ident;
      len = None;
      inner = record { end = bd.end; indefinite = true; strict = bd.strict };
      shortest = false;
    })

-- what is read after the first length octet
unfoldable pub after_first : Bound → ℕ → ℕ → Reader Header
after_first bd ident first =
    if nat_lt first 128 then definite_length_of bd ident true first
    else if first == 128 then indefinite_length_of bd ident
    else if first == 255 then refuse LengthReserved
    else if nat_lt 136 first then refuse LengthTooLong
    else long_of bd ident (first - 128)

unfoldable pub rest_of_tag : Option ℕ → ℕ → Reader (Unit {0})
rest_of_tag end ident = if ident % 32 == 31 then tag_of end 4 0 else give tt

-- the element's own end is here
abbrev pub is_at : Option ℕ → ℕ → Bool
is_at None at = false
is_at (Some end) at = at == end

--- `ends_here bd at`: the definite end of `bd` is at the place `at`
abbrev pub ends_here : Bound → ℕ → Bool
ends_here bd at = not bd.indefinite && is_at bd.end at

unfoldable pub header_of : Bound → Reader Header
header_of bd = do
  i ← octet_of bd.end
  u ← rest_of_tag bd.end i
  f ← octet_of bd.end
  after_first bd i f

-- a header, which is missing at the element's own end
unfoldable pub expected_of : Bound → Reader Header
expected_of bd =
    λ c. if ends_here bd c.at then Err (stop UnexpectedElement c.at) else header_of bd c

-- the next identifier octet, and none at the end
abbrev pub unless_end : Bool → Option ℕ → Option ℕ
unless_end indefinite None = None
unless_end indefinite (Some b) = if indefinite && (b == 0) then None else Some b

--- `peek_of`, `header_of`, `enter_of id`, `primitive_of id`: what the calls `peek`, `header`,
---   `enter` and `primitive` give
unfoldable pub peek_of : Bound → Reader (Option ℕ)
peek_of bd = λ c. if ends_here bd c.at then Ok (None, c)
    else (look_of bd.end >>= λ b. give (unless_end bd.indefinite (Some b))) c

abbrev pub is_empty : Option ℕ → Bool
is_empty None = false
is_empty (Some n) = n == 0

-- the octets `00 00`
abbrev pub is_zeros : Header → Bool
is_zeros h = (h.ident == 0) && (h.shortest && is_empty h.len)

unfoldable pub end_in : Bound → Reader (Unit {0})
end_in bd = expected_of bd >>= λ h. if bd.indefinite && is_zeros h then give tt
    else refuse UnexpectedElement

-- the end of an element
unfoldable pub close_of : Bound → Reader (Unit {0})
close_of bd = λ c. if ends_here bd c.at then Ok (tt, c) else end_in bd c

-- Elements.

-- the header of an element with this identifier octet
unfoldable pub enter_of : ℕ → Bound → Reader Bound
enter_of id bd =
    expected_of bd >>= λ h. if h.ident == id then give h.inner else refuse UnexpectedElement

-- after the header of an element that is entered
unfoldable pub enter_next : ℕ → Header → Reader Bound
enter_next id h = if h.ident == id then give h.inner else refuse UnexpectedElement

abbrev pub counted_of : Bound → Option ℕ → Reader (List ℕ)
counted_of inner None = refuse UnexpectedElement
counted_of inner (Some n) = octets_of inner.end n

-- the contents of a primitive element
unfoldable pub primitive_of : ℕ → Bound → Reader (List ℕ)
primitive_of id bd =
    expected_of bd >>= λ h. if h.ident == id then counted_of h.inner h.len
    else refuse UnexpectedElement

-- only what passes the test
unfoldable pub give_if : {A : Type 0} → (A → Bool) → Reason → A → Reader A
give_if test reason x = if test x then give x else refuse reason

--- `scalar_of id test reason`: the contents of a primitive element, or the refusal `reason` if they
---   do not pass the test
unfoldable pub scalar_of : ℕ → (List ℕ → Bool) → Reason → Bound → Reader (List ℕ)
scalar_of id test reason bd = primitive_of id bd >>= give_if test reason

--- `may_be p o`: there is an octet `o`, and it passes the test `p`
abbrev pub may_be : (ℕ → Bool) → Option ℕ → Bool
may_be p None = false
may_be p (Some b) = p b

--- `optional_of p f`: a field that may be absent: it is there if the next octet passes the test `p`
unfoldable pub optional_of : {A : Type 0} → (ℕ → Bool) → (Bound → Reader A) → Bound
    → Reader (Option A)
optional_of p f bd =
    peek_of bd >>= λ o. if may_be p o then (f bd >>= λ v. give (Some v)) else give None

--- `many_of`, `all_by step s`: elements to the end; each is read with what the reading of the one
---   before it left
unfoldable pub many_of : {S A : Type 0} → ℕ → (S → Bound → Reader (S × A)) → S → Bound
    → Reader (List A)
many_of zero step s bd = refuse TooLarge
many_of (suc count) step s bd =
    peek_of bd >>= λ o. if may_be (λ _. true) o
    then (step s bd >>= λ p. many_of count step p.0 bd >>= λ vs. give (p.1 ∷ vs))
    else (close_of bd >>= λ u. give [])

-- the count is never used up, since each takes an octet before the limit
unfoldable pub all_by : {S A : Type 0} → (S → Bound → Reader (S × A)) → S → Bound → Reader (List A)
all_by step s bd = λ c. many_of (suc (c.limit - c.at)) step s bd c

-- one that leaves nothing
unfoldable pub row_of : {A : Type 0} → (Bound → Reader A) → Unit {0} → Bound → Reader (Unit {0} × A)
row_of f u bd = f bd >>= λ v. give (tt, v)

--- `rows_of f`, `row_of f`: elements to the end, whose reading leaves nothing, and one of them
abbrev pub rows_of : {A : Type 0} → (Bound → Reader A) → Bound → Reader (List A)
rows_of f = all_by (row_of f) tt

-- what f reads, with the octets that it takes
abbrev pub and_octets : {A : Type 0} → Cursor → Result (A × Cursor) Stop
    → Result ((List ℕ × A) × Cursor) Stop
and_octets c (Ok p) = Ok ((take (p.1.at - c.at) c.rest, p.0), p.1)
and_octets c (Err e) = Err e

--- `taking f`, `and_octets`: what `f` reads, with the octets that it takes
unfoldable pub taking : {A : Type 0} → (Bound → Reader A) → Bound → Reader (List ℕ × A)
taking f bd = λ c. and_octets c (f bd c)

-- Sets.

--- `may_follow strict last b`: the bound is not strict, or `b` is the first member, or `last` does
---   not come after `b`
abbrev pub may_follow : Bool → Option (List ℕ) → List ℕ → Bool
may_follow strict None b = true
may_follow strict (Some last) b = not (strict && comes_after last b)

-- a member, after the octets of the one before it; its own are left
unfoldable pub member_of : {A : Type 0} → (Bound → Reader A) → Option (List ℕ) → Bound
    → Reader (Option (List ℕ) × A)
member_of f last bd =
    (taking f bd >>= give_if (λ p. may_follow bd.strict last p.0) SignedAttrsNotDer)
    >>= λ p. give (Some p.0, p.1)

--- `members_of f`, `member_of f last`: members to the end, and one of them; E15 after a member for
---   which `may_follow` is false
abbrev pub members_of : {A : Type 0} → (Bound → Reader A) → Bound → Reader (List A)
members_of f = all_by (member_of f) None

-- Opaque elements.

-- universal 1 to 6, 10, 12, 18 to 28 and 30
abbrev pub is_primitive_number : ℕ → Bool
is_primitive_number k =
    (nat_le 1 k && nat_le k 6)
    || ((k == 10) || ((k == 12) || ((nat_le 18 k && nat_le k 28) || (k == 30))))

-- a universal identifier has the form of its type
abbrev pub has_its_form : ℕ → Bool
has_its_form t =
    if (t / 32) % 2 == 1 then not (nat_lt t 64 && is_primitive_number (t % 32))
    else not ((t == 16) || (t == 17))

abbrev pub is_framed : Header → Bool
is_framed h = h.shortest && (not (h.ident == 0) && has_its_form h.ident)

-- an identifier 00 begins no element at a place where `00 00` may be
abbrev pub framing_fault : Bound → ℕ → Reason
framing_fault bd ident = if bd.indefinite && (ident == 0) then UnexpectedElement else OpaqueNotDer

-- the header of an opaque element
unfoldable pub framed_header_of : Bound → Reader Header
framed_header_of bd =
    expected_of bd >>= λ h. if is_framed h then give h else refuse (framing_fault bd h.ident)

-- elements up to a definite end; the count is never used up, since each takes an octet before the
-- limit
unfoldable pub all_of : ℕ → (Bound → Reader (Unit {0})) → Bound → Reader (Unit {0})
all_of zero f bd = refuse OpaqueNotDer
all_of (suc count) f bd =
    λ c. if ends_here bd c.at then Ok (tt, c) else (f bd >>= λ u. all_of count f bd) c

unfoldable pub to_end_of : (Bound → Reader (Unit {0})) → Bound → Reader (Unit {0})
to_end_of f bd = λ c. all_of (suc (c.limit - c.at)) f bd c

-- an opaque element, of at most so many levels
unfoldable pub framed_of : ℕ → Bound → Reader (Unit {0})
framed_of zero bd = framed_header_of bd >>= λ h. refuse OpaqueTooDeep
framed_of (suc left) bd = framed_header_of bd >>= λ h.
    if (h.ident / 32) % 2 == 1 then to_end_of (framed_of left) h.inner
    else (counted_of h.inner h.len >>= λ octets. give tt)

unfoldable pub opaque_of : Bound → Reader (List ℕ)
opaque_of bd = taking (framed_of 64) bd >>= λ p. give p.0
