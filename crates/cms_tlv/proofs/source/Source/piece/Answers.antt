use Rattle.std.proofs.Common.{◌≡◌, take, List, ℕ, arith, length, refl, ap, subst, ◌∙◌, ◌++◌}
use Rattle.std.proofs.lemmas.Grind.{common_steps}
use Rattle.cms_tlv.specs.Headers.{AreOctets}
use Rattle.cms_tlv.proofs.Steps.{Consumes-nothing}
use Rattle.cms_tlv.proofs.ContentsGives.{no_memory, reader_failed, ended_early, nothing_filled, octets_back, counted_rose}
use Rattle.cms_tlv.proofs.source.Source.piece.Goals as goal

pub returns-then-is_err-clause-clear : goal.returns-then-is_err-clause-clear
returns-then-is_err-clause-clear g c =
    let k = rw (← c.self.view_is) at c.requires.clear in
    rw c.fail.ensures.state k

pub returns-then-is_err-clause-err : goal.returns-then-is_err-clause-err
returns-then-is_err-clause-err g c =
    let k = rw (← c.self.view_is) at c.requires.clear in
    let d : c.resize.new.self.items ≡ c.self.inside.kept.items = grind (arith, common_steps) in
    rw (← c.self.view_is, c.fail.ensures.state, c.fail.ensures.same)
    (no_memory _ (rw (← c.self.view_is) at c.requires.sound) k k (record { is = refl; sticky = refl; done = d; left = Consumes-nothing _; limit = refl; failures = refl }))

pub returns-then-is_err-clause-early : goal.returns-then-is_err-clause-early
returns-then-is_err-clause-early g c = rw c.fail.ensures.same tt

pub returns-in-Err-clause-clear : goal.returns-in-Err-clause-clear
returns-in-Err-clause-clear g c =
    let k = rw (← c.self.view_is) at c.requires.clear in
    rw c.fail-in-Err.ensures.state k

pub returns-in-Err-clause-early : goal.returns-in-Err-clause-early
returns-in-Err-clause-early g c = rw (← c.self.view_is, c.fail-in-Err.ensures.state, c.fail-in-Err.ensures.same) (counted_rose _ _ c.in-Err.ensures.failures).0

pub returns-in-Ok-eq0-clause-clear : goal.returns-in-Ok-eq0-clause-clear
returns-in-Ok-eq0-clause-clear g c =
    let k = rw (← c.self.view_is) at c.requires.clear in
    rw c.refused.ensures.state k

pub returns-in-Ok-eq0-clause-early : goal.returns-in-Ok-eq0-clause-early
returns-in-Ok-eq0-clause-early g c =
    let back : take c.len-start.result c.resize.new.self.items ≡ c.self.inside.kept.items = grind (arith, common_steps) in
    let z = c.in-Ok-eq0.field-0-test in
    let n = nothing_filled _ _ _ _ (rw z at c.in-Ok-eq0.ensures.ok) in
    let d = ap length (n.0 ∙ back) in
    rw (← c.self.view_is, c.refused.ensures.state, c.refused.ensures.same)
    (refl, refl, omega (arith, d, c.requires.some), c.in-Ok-eq0.ensures.end z (grind (arith, common_steps)))

pub returns-in-Ok-clause-clear : goal.returns-in-Ok-clause-clear
returns-in-Ok-clause-clear g c = rw (← c.self.view_is) at c.requires.clear

pub returns-in-Err-clause-err : goal.returns-in-Err-clause-err
returns-in-Err-clause-err g c =
    let back : take c.len-start.result c.resize.new.self.items ≡ c.self.inside.kept.items = grind (arith, common_steps) in
    let n = nothing_filled _ _ _ _ c.in-Err.ensures.err in
    let d : c.fill.new.kept.items ≡ c.self.inside.kept.items = n.0 ∙ back in
    let r = counted_rose _ _ c.in-Err.ensures.failures in
    let k = rw (← c.self.view_is) at c.requires.clear in
    let sound = rw (← c.self.view_is) at c.requires.sound in
    rw (← c.self.view_is, c.fail-in-Err.ensures.state, c.fail-in-Err.ensures.same) (reader_failed c.args.due d k k n.1 r.0 r.1 refl refl sound)

pub returns-in-Ok-eq0-clause-err : goal.returns-in-Ok-eq0-clause-err
returns-in-Ok-eq0-clause-err g c =
    let back : take c.len-start.result c.resize.new.self.items ≡ c.self.inside.kept.items = grind (arith, common_steps) in
    let z = c.in-Ok-eq0.field-0-test in
    let n = nothing_filled _ _ _ _ (rw z at c.in-Ok-eq0.ensures.ok) in
    let d : c.fill.new.kept.items ≡ c.self.inside.kept.items = n.0 ∙ back in
    let k = rw (← c.self.view_is) at c.requires.clear in
    let f = c.in-Ok-eq0.ensures.failures in
    let room = rw (← c.self.view_is) at c.requires.room in
    rw (← c.self.view_is, c.refused.ensures.state, c.refused.ensures.same)
    (ended_early c.args.due _ c.requires.some d k k n.1 f refl refl
    (c.in-Ok-eq0.ensures.end z (grind (arith, common_steps))) refl (omega (arith, room, c.requires.some)) (rw (← c.self.view_is) at c.requires.sound))

pub returns-in-Ok-clause-ok : goal.returns-in-Ok-clause-ok
returns-in-Ok-clause-ok g c =
    let back : take c.len-start.result c.resize.new.self.items ≡ c.self.inside.kept.items = grind (arith, common_steps) in
    let h = c.in-Ok.ensures.ok in
    rw (← c.self.view_is) (record {
      octets = h.octets;
      are = octets_back _ h.octets (subst AreOctets h.appended c.in-Ok.ensures.octets);
      count = h.count;
      most = grind (arith, common_steps);
      adds = record {
        done = h.appended ∙ ap (λ (t : List ℕ). t ++ h.octets) back;
        left = h.consumed;
        limit = refl;
        failures = c.in-Ok.ensures.failures;
        sound = rw (← c.self.view_is) at c.requires.sound;
      };
    })
