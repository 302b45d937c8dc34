-- A vector whose end was filled and then cut to what was given.
use Rattle.std.proofs.Common.{◌≡◌, ℕ, ◌+◌, ◌≤◌, List, ◌++◌, Option, length, take, ap, subst, ◌∙◌, arith, append_assoc}
use Rattle.std.proofs.Math.Seq.{take-append-add}
use Rattle.std.proofs.lemmas.List.{take-append-le, take-take, length-take-le}
use Rattle.std.specs.Prelude.{Result, Ok, Err, IfOk}
use Rattle.std.specs.Result.{result_unwrap_or}
use Rattle.std.specs.Io.KnownBytes.{ReadConsumes}
use Rattle.cms_tlv.specs.Streams.{Fills}

-- what stood before stays, and n octets of those given follow
filled_behind : (before given post rest : List ℕ) (n m : ℕ) → n ≤ length given → length before + n ≤ m
    → take (length before + n) (take m ((before ++ (given ++ post)) ++ rest)) ≡ before ++ take n given
filled_behind before given post rest n m l k =
    take-take (length before + n) m ((before ++ (given ++ post)) ++ rest) k
    ∙ ap (take (length before + n)) (append_assoc before (given ++ post) rest)
    ∙ take-append-add before ((given ++ post) ++ rest) n
    ∙ ap (λ (t : List ℕ). before ++ take n t) (append_assoc given post rest)
    ∙ ap (λ (t : List ℕ). before ++ t) (take-append-le n given (post ++ rest) l)

pub filled : (xs given post rest : List ℕ) (start n m : ℕ) → start ≤ length xs → n ≤ length given → start + n ≤ m
    → take (start + n) (take m ((take start xs ++ (given ++ post)) ++ rest)) ≡ take start xs ++ take n given
filled xs given post rest start n m s l k =
    let e : length (take start xs) ≡ start = length-take-le start xs s in
    subst (λ i. take (i + n) (take m ((take start xs ++ (given ++ post)) ++ rest)) ≡ take start xs ++ take n given) e
    (filled_behind (take start xs) given post rest n m l (omega arith))

pub unwrap_most : (r : Result ℕ (Unit {0})) (k : ℕ) → IfOk r (λ n. n ≤ k) → result_unwrap_or r 0 ≤ k
unwrap_most (Ok n) k l = l
unwrap_most (Err e) k l = omega arith

-- what a call of the reader gave stands behind what was there
pub fills_ok : (a b : Option (List ℕ)) (before after : List ℕ) (r : Result ℕ (Unit {0})) (given : List ℕ) → IfOk r (λ n. n ≤ length given)
    → ReadConsumes a b r given → after ≡ before ++ take (result_unwrap_or r 0) given → IfOk r (Fills a b before after)
fills_ok a b before after (Ok n) given l q e = record { octets = take n given; appended = e; count = length-take-le n given l; consumed = q.0 }
fills_ok a b before after (Err x) given l q e = tt
