use Rattle.std.proofs.Common.{◌≡◌, ◌-◌, ◌^◌, ◌<◌, None}
use Rattle.cms_tlv.specs.Refines.{Simulates}
use Rattle.cms_tlv.specs.Reading.{number_of}
use Rattle.cms_tlv.proofs.source.Source.number.Given as goal

abbrev pub invariant-loop : goal.invariant-loop
invariant-loop g l = record {
  so_far : Simulates (number_of l.end l.count 0) l.fn.self (number_of l.end (l.count - l.counter) l.number) l.self;
  sound : l.self.fault ≡ None;
  clear : l.self.ahead ≡ None;
  small : l.number < 256 ^ l.counter;
}
