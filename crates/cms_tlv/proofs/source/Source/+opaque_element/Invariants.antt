use Rattle.std.proofs.Common.{◌≡◌, ◌+◌, ◌-◌, ◌*◌, None, length}
use Rattle.cms_tlv.specs.Reading.{framed_of}
use Rattle.cms_tlv.proofs.OpaqueGives.{HasPassed}
use Rattle.cms_tlv.proofs.source.Source.+opaque_element.Given as goal

abbrev pub decreases-opaque_elements : goal.decreases-opaque_elements
decreases-opaque_elements g l = 2 * l.levels + 1

abbrev pub decreases-opaque_element : goal.decreases-opaque_element
decreases-opaque_element g l = 2 * l.levels

abbrev pub invariant-opaque_elements-loop-self : goal.invariant-opaque_elements-loop-self
invariant-opaque_elements-loop-self g l = record {
  passed : HasPassed (framed_of l.levels) l.bound l.fn.self l.self;
  clear : l.self.ahead ≡ None;
}

abbrev pub decreases-opaque_elements-loop-self : goal.decreases-opaque_elements-loop-self
decreases-opaque_elements-loop-self g l = l.self.limit - length l.self.done
