use Rattle.std.proofs.Common.{None, refl}
use Rattle.cms_tlv.specs.State.{State}
use Rattle.cms_tlv.proofs.FoundGives.{takes_found}
use Rattle.cms_tlv.proofs.source.Source.take_found.Goals as goal

pub returns-in-Ok-clause-some : goal.returns-in-Ok-clause-some
returns-in-Ok-clause-some g c =
    let s = rw (← c.self.view_is) at c.requires.sound in
    let f = c.in-Some-find.found in
    let i = c.self.inside in
    let new : State =
    record {
      done = c.keep.new.kept.items;
      ahead = None;
      left = g.R.Input.left c.advance_behind.new.reader;
      failures = g.R.Input.failures c.advance_behind.new.reader;
      limit = i.limit;
      fault = i.fault;
    } in
    rw (← c.self.view_is) (takes_found (λ b. g.S.Seek.finds c.args.seek.now b f.ident f.len) _ new f.behind c.in-Some.first
    (g.R.Input.held i.reader) c.in-Some.held.now c.in-Some.ensures c.in-Some-find.ensures.finds c.in-Ok.ensures.kept refl
    c.advance_behind.ensures.octets refl c.advance_behind.ensures.failures s)
