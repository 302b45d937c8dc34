-- The fields of a message, in the order of the definitions.
use Rattle.std.specs.Prelude.{List}
use mathlib.Core.Logic.{inl, inr}
use Rattle.cms_message.specs.ContentInfo.{content}
use Rattle.cms_rows.specs.Rows.{Entry}
use Rattle.cms_rows.specs.Fields.{of_signed_data, of_request, of_response}
use Rattle.cms_canon.specs.Kinds.{MessageValue}

--- `entries_of v`: the fields of the message, in the order of the definitions
abbrev pub entries_of : MessageValue → List Entry
entries_of (inl v) = of_signed_data 0 (content v)
entries_of (inr (inl v)) = of_request 0 v
entries_of (inr (inr v)) = of_response 0 v
