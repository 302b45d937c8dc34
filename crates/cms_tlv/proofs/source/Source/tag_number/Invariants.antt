use Rattle.std.proofs.Common.{◌≡◌, ◌-◌, ◌^◌, ◌<◌, None}
use Rattle.cms_tlv.specs.Refines.{Simulates}
use Rattle.cms_tlv.specs.Reading.{tag_of}
use Rattle.cms_tlv.proofs.source.Source.tag_number.Given as goal

abbrev pub invariant-loop : goal.invariant-loop
invariant-loop g l = record {
  so_far : Simulates (tag_of l.end 4 0) l.fn.self (tag_of l.end (4 - l.counter) l.number) l.self;
  sound : l.self.fault ≡ None;
  still_clear : l.fn.self.ahead ≡ None → l.self.ahead ≡ None;
  small : l.number < 128 ^ l.counter;
}
