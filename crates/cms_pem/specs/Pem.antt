-- PEM (RFC 7468, section 3): a block in a text, read as lax in white space, and written strictly.
use Rattle.std.specs.Prelude.{◌≡◌, ◌≢◌, ℕ, zero, suc, ◌+◌, ◌-◌, ◌/◌, ◌<◌, ◌≤◌, ◌==◌, ◌⊎◌}
use Rattle.std.specs.Prelude.{nat_le, Bool, true, not, ◌&&◌, ◌||◌, List, [], ◌∷◌, ◌++◌, length}
use Rattle.std.specs.Prelude.{take, drop, codes, min, slice_index, slice_range, filter, unwrap_or}
use Rattle.std.specs.List.{position, suffix_len}
use Rattle.base64.specs.Engines.{standard}
use Rattle.base64.specs.GeneralPurpose.{IsBytes, encode_of}
use Rattle.cms_pem.specs.declared.block.Block.{Block}
use Rattle.cms_pem.specs.declared.block.NoBlock.{NoBlock}
use Rattle.cms_pem.specs.declared.block.NoBlock.TheVariants.{NoBegin, NoEnd, Malformed, OutOfMemory}

--- `is_blank b`: white space: a space, a tab, LF, VT, FF or CR
abbrev pub is_blank : ℕ → Bool
is_blank b = (b == 32) || (nat_le 9 b && nat_le b 13)

--- `is_base64 b`: white space, a letter, a digit, `+`, `/` or `=`
abbrev pub is_base64 : ℕ → Bool
is_base64 b =
    is_blank b || (nat_le 65 b && nat_le b 90) || (nat_le 97 b && nat_le b 122)
    || (nat_le 48 b && nat_le b 57) || (b == 43) || (b == 47) || (b == 61)

--- `first_place p s`: the place of the first octet that passes the test, or the length if none does
abbrev pub first_place : (ℕ → Bool) → List ℕ → ℕ
first_place p s = unwrap_or (position p s) (length s)

--- `begins_line text at`: a line begins at this place: the text does, or there is an LF before it
abbrev pub begins_line : List ℕ → ℕ → Bool
begins_line text at = (at == 0) || (slice_index text (at - 1) == 10)

--- `line_at text at`, `after_line text at`: what is between this place and the next LF, or the end
---   of the text; and the place after that LF
abbrev pub line_at : List ℕ → ℕ → List ℕ
line_at text at = take (first_place (λ b. b == 10) (drop at text)) (drop at text)

abbrev pub after_line : List ℕ → ℕ → ℕ
after_line text at = min (at + length (line_at text at) + 1) (length text)

--- `trimmed line`: a line less the white space at its end
abbrev pub trimmed : List ℕ → List ℕ
trimmed line = take (length line - suffix_len is_blank line) line

abbrev pub dashes : List ℕ
dashes = codes "-----"

abbrev pub begin_word : List ℕ
begin_word = codes "-----BEGIN "

abbrev pub end_word : List ℕ
end_word = codes "-----END "

--- `IsEdge word label text at`: a line begins at this place, and is `-----BEGIN LABEL-----` for the
---   word `-----BEGIN `, and `-----END LABEL-----` for `-----END `, with white space after it or
---   none
abbrev pub IsEdge : List ℕ → List ℕ → List ℕ → ℕ → Type 0
IsEdge word label text at =
    (begins_line text at ≡ true) × (trimmed (line_at text at) ≡ word ++ label ++ dashes)

--- `HasNoEdge word text from to`: there is no such line from the place `from` on and before `to`
abbrev pub HasNoEdge : List ℕ → List ℕ → ℕ → ℕ → Type 0
HasNoEdge word text from to =
    (at : ℕ) (label : List ℕ) → from ≤ at → at < to → IsEdge word label text at → ⊥

--- `IsFirstEdge word label text from at`: the first such line from the place `from` on is at `at`
pub record IsFirstEdge (word label text : List ℕ) (from at : ℕ) : Type 0 where
  pub from_there : from ≤ at
  pub inside : at < length text
  pub is_edge : IsEdge word label text at
  pub first : HasNoEdge word text from at

--- `IsBase64Of octets s`: `s`, less its white space, is the base64 of these octets (RFC 4648,
---   section 4)
abbrev pub IsBase64Of : List ℕ → List ℕ → Type 0
IsBase64Of octets s =
    IsBytes octets × (filter (λ b. not (is_blank b)) s ≡ encode_of standard octets)

--- `IsNoBase64 s`: it is that of none
abbrev pub IsNoBase64 : List ℕ → Type 0
IsNoBase64 s = (octets : List ℕ) → IsBase64Of octets s → ⊥

--- `wrong_in s`: the place of the first that is neither a character of base64 nor white space, or
---   the length if there is none
abbrev pub wrong_in : List ℕ → ℕ
wrong_in s = first_place (λ b. not (is_base64 b)) s

--- `IsBlockBegun text from label body`: the first line that begins a block is there, has this
---   label, and what follows it begins at `body`
pub record IsBlockBegun (text : List ℕ) (from : ℕ) (label : List ℕ) (body : ℕ) : Type 0 where
  pub begin : ℕ
  pub begins : IsFirstEdge begin_word label text from begin
  pub follows : body ≡ after_line text begin

--- `IsEnclosed text from body end`: and the first line after it that ends one, at `end`, has the
---   same label
pub record IsEnclosed (text : List ℕ) (from body end : ℕ) : Type 0 where
  pub label : List ℕ
  pub begun : IsBlockBegun text from label body
  pub ends : IsFirstEdge end_word label text body end

--- `IsBlock text from block`: the first block from the place `from` on: `block` has the octets of
---   its base64, and the place after its last line
pub record IsBlock (text : List ℕ) (from : ℕ) (block : Block) : Type 0 where
  pub body : ℕ
  pub end : ℕ
  pub enclosed : IsEnclosed text from body end
  pub octets : IsBase64Of block.octets.items (slice_range text body end)
  pub after : block.after ≡ after_line text end

--- `IsUnended text from`: a block begins, and no line after that ends one, or the first has another
---   label
abbrev pub IsUnended : List ℕ → ℕ → Type 0
IsUnended text from =
    (label : List ℕ) × (body : ℕ) × IsBlockBegun text from label body
    × (HasNoEdge end_word text body (length text)
    ⊎ ((other : List ℕ) × (end : ℕ) × IsFirstEdge end_word other text body end × (other ≢ label)))

--- `IsMalformedBlock text from at`: what is between the lines is not the base64 of any octets; `at`
---   is the place of its first octet that is neither a character of base64 nor white space, or that
---   of the last line
abbrev pub IsMalformedBlock : List ℕ → ℕ → ℕ → Type 0
IsMalformedBlock text from at =
    (body : ℕ) × (end : ℕ) × IsEnclosed text from body end
    × IsNoBase64 (slice_range text body end) × (at ≡ body + wrong_in (slice_range text body end))

--- `IsNoBlock text from why`: why there is no block from the place `from` on
abbrev pub IsNoBlock : List ℕ → ℕ → NoBlock → Type 0
IsNoBlock text from NoBegin = HasNoEdge begin_word text from (length text)
IsNoBlock text from NoEnd = IsUnended text from
IsNoBlock text from (Malformed at) = IsMalformedBlock text from at
IsNoBlock text from OutOfMemory = Unit {0}

--- `first_lines n s`, `lines_of s`: `n` lines of 64 characters, each with an LF; and as many as `s`
---   fills, the last of which may be shorter
abbrev pub first_lines : ℕ → List ℕ → List ℕ
first_lines zero s = []
first_lines (suc n) s = take 64 s ++ 10 ∷ first_lines n (drop 64 s)

abbrev pub lines_of : List ℕ → List ℕ
lines_of s = first_lines ((length s + 63) / 64) s

--- `pem_of label octets`: a block as it is written: base64 (RFC 4648, section 4) in lines of 64
---   characters, each line with an LF
abbrev pub pem_of : List ℕ → List ℕ → List ℕ
pem_of label octets =
    begin_word ++ label ++ codes "-----\n" ++ lines_of (encode_of standard octets)
    ++ end_word ++ label ++ codes "-----\n"
