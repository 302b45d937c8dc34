use Rattle.std.proofs.Common.{◌≡◌, ◌≤◌, ◌-◌, ℕ, List, [], ◌∷◌, ◌++◌, ◌∙◌, sym, subst, length, take, drop, refl, arith}
use Rattle.std.proofs.lemmas.List.{length-append, length-take, length-take-le, take-append-le}
use Rattle.std.proofs.KnownBytes.{Consumes-trans}
use Rattle.cms_check.specs.Hashers.{AreDigesting}
use Rattle.cms_canon.proofs.digested.digest_to_end.Goals as goal

length-take-most : (n : ℕ) (xs : List ℕ) → length (take n xs) ≤ n
length-take-most n xs = subst (λ k. k ≤ n) (sym (length-take n xs)) (omega arith)

pub loop-count-preserved : goal.loop-count-preserved
loop-count-preserved g c =
    let octets = c.loop-count.invariant.0 in
    let v = c.loop-count.invariant.1 in
    let read = c.take.new.octets in
    let taken = take c.in-Ok.n read in
    let enough : c.in-Ok.n ≤ length read = c.in-Ok.ensures.count in
    let long : length taken ≡ c.in-Ok.n = length-take-le c.in-Ok.n read enough in
    let most : length read ≤ c.min-room.result =
    subst (λ n. n ≤ c.min-room.result) (sym c.take.auto.octets) (length-take-most c.min-room.result c.loop-count.piece) in
    let room : c.min-room.result ≤ c.args.limit - c.loop-count.count =
    subst (λ n. n ≤ c.args.limit - c.loop-count.count) (sym c.min-room.ensures) (omega arith) in (
      octets ++ taken,
      record {
        taken = Consumes-trans _ _ _ octets taken v.taken c.in-Ok.ensures.octets.0;
        counted = length-append octets taken ∙ omega (arith, v.counted, long);
        within = omega (arith, v.within, enough, most, room);
        failures = c.in-Ok.ensures.failures ∙ v.failures;
        digested =
            λ algorithms k. subst (λ xs. AreDigesting algorithms (octets ++ xs) c.add.new.self)
            (take-append-le c.in-Ok.n read (drop c.min-room.result c.loop-count.piece) enough)
            (c.add.ensures algorithms octets (v.digested algorithms k));
      },
    )

pub returns-then-branch-clause-faults : goal.returns-then-branch-clause-faults
returns-then-branch-clause-faults g c =
    let (next, taken) = c.in_ok-has_more.ensures.more c.if-branch.true in
    let octets = c.loop-count.invariant.0 in
    let v = c.loop-count.invariant.1 in (
      refl,
      refl,
      c.in_ok-has_more.ensures.failures ∙ v.failures,
      (
        octets ++ next ∷ [],
        Consumes-trans _ _ _ octets (next ∷ []) v.taken taken,
        omega (arith, length-append octets (next ∷ []), v.counted, v.within, c.loop-count-test.false),
      ),
    )
