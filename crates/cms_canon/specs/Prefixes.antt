-- What becomes of an input that begins with octets that were written for some message.
use Rattle.std.specs.Prelude.{◌≡◌, ◌≢◌, ℕ, List, [], ◌++◌, length, Some}
use Rattle.cms_tlv.specs.declared.fault.Reason.{Reason}
use Rattle.cms_tlv.specs.declared.fault.Reason.TheVariants.{Trailing}
use Rattle.cms_canon.specs.declared.convert.Done.{Done}
use Rattle.cms_canon.specs.declared.message.Tail.{Tail}
use Rattle.cms_canon.specs.declared.message.Tail.TheVariants as tails
use Rattle.cms_canon.specs.Conversions.{IsCanonicalised}
use Rattle.cms_canon.specs.Messages.{IsRefused}
use Rattle.cms_canon.specs.Streams.{Reading, Writing, WritesAll}

--- `IsReadAgain limit o rest`: of the input `o` and then `rest`, only `o` is read, and `o` is
---   written
--- | the input is refused only by E18, if `rest` is not empty and nothing may follow
pub record IsReadAgain (limit : ℕ) (o rest : List ℕ) : Type 0 where
  pub done : (r : Reading) (w : Writing) (tail : Tail) (d : Done) → r.left_before ≡ Some (o ++ rest)
      → IsCanonicalised r w limit tail d → (r.left_after ≡ Some rest) × WritesAll w o
      × (d.read ≡ length o) × (d.written ≡ length o)
  pub refused : (r : Reading) (tail : Tail) (reason : Reason) (at : ℕ)
      → r.left_before ≡ Some (o ++ rest) → IsRefused r limit tail reason at → (reason ≡ Trailing)
      × (tail ≡ tails.Refuse) × (rest ≢ [])
