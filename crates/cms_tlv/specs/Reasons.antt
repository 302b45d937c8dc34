-- The numbers and the names of the refusals.
use Rattle.std.specs.Prelude.{ℕ, List, codes}
use Rattle.cms_tlv.specs.declared.fault.Reason.{Reason}
use Rattle.cms_tlv.specs.declared.fault.Reason.TheVariants.{Truncated, TooLarge, LengthReserved}
use Rattle.cms_tlv.specs.declared.fault.Reason.TheVariants.{LengthTooLong, IndefinitePrimitive}
use Rattle.cms_tlv.specs.declared.fault.Reason.TheVariants.{Overrun, UnexpectedElement}
use Rattle.cms_tlv.specs.declared.fault.Reason.TheVariants.{IntegerMalformed, OidMalformed}
use Rattle.cms_tlv.specs.declared.fault.Reason.TheVariants.{BooleanMalformed, BitsMalformed}
use Rattle.cms_tlv.specs.declared.fault.Reason.TheVariants.{SegmentsTooDeep, OpaqueNotDer}
use Rattle.cms_tlv.specs.declared.fault.Reason.TheVariants.{OpaqueTooDeep, SignedAttrsNotDer}
use Rattle.cms_tlv.specs.declared.fault.Reason.TheVariants.{EmptyAttributes, NotSignedData}
use Rattle.cms_tlv.specs.declared.fault.Reason.TheVariants.{Trailing, CountersignTooDeep}

-- the number after the E, and the octets of the name
abbrev pub reason_row : Reason → ℕ × List ℕ
reason_row Truncated = (1, codes "Truncated")
reason_row TooLarge = (2, codes "TooLarge")
reason_row LengthReserved = (3, codes "LengthReserved")
reason_row LengthTooLong = (4, codes "LengthTooLong")
reason_row IndefinitePrimitive = (5, codes "IndefinitePrimitive")
reason_row Overrun = (6, codes "Overrun")
reason_row UnexpectedElement = (7, codes "UnexpectedElement")
reason_row IntegerMalformed = (8, codes "IntegerMalformed")
reason_row OidMalformed = (9, codes "OidMalformed")
reason_row BooleanMalformed = (10, codes "BooleanMalformed")
reason_row BitsMalformed = (11, codes "BitsMalformed")
reason_row SegmentsTooDeep = (12, codes "SegmentsTooDeep")
reason_row OpaqueNotDer = (13, codes "OpaqueNotDer")
reason_row OpaqueTooDeep = (14, codes "OpaqueTooDeep")
reason_row SignedAttrsNotDer = (15, codes "SignedAttrsNotDer")
reason_row EmptyAttributes = (16, codes "EmptyAttributes")
reason_row NotSignedData = (17, codes "NotSignedData")
reason_row Trailing = (18, codes "Trailing")
reason_row CountersignTooDeep = (19, codes "CountersignTooDeep")

-- the number after the E
abbrev pub reason_number : Reason → ℕ
reason_number reason = (reason_row reason).0

-- the octets of the name
abbrev pub reason_name : Reason → List ℕ
reason_name reason = (reason_row reason).1
