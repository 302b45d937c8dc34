-- Messages that calls are given.
use Rattle.std.proofs.Common.{◌≡◌, ℕ, List, Result, Ok, Err, IfOk, subst}
use Rattle.cms_canon.specs.Messages.{IsMessage, IsRead}
use Rattle.cms_canon.specs.Streams.{Reading}
use Rattle.cms_canon.specs.Whole.{Whole}
use Rattle.cms_canon.specs.declared.message.Tail.{Tail}
use Rattle.cms_c.specs.Calls.{IsAccepted}

--- A message that was read, and that is all of the input, is accepted.
pub accepted : {E : Type 0} (r : Reading) (tail : Tail) (input : List ℕ) (n limit : ℕ)
    (result : Result Whole E) → n ≡ limit → IfOk result (IsRead r n tail)
    → IfOk result (λ m. m.octets ≡ input) → IfOk result (λ m. IsAccepted input limit m.value)
accepted r tail input n limit (Ok m) e f o =
    subst (λ k. IsAccepted input k m.value) e
    (subst (λ b. IsMessage n b m.value) o f.message, f.writable)
accepted r tail input n limit (Err _) e f o = f
