use Rattle.std.proofs.Common.{refl}
use Rattle.cms_tlv.specs.Spelling.{ber}
use Rattle.cms_canon.proofs.message.measured.Goals as goal

pub is_encoding-requires : goal.is_encoding-requires
is_encoding-requires c = c.spelled_values_are_values.ensures ber c.args.kept.now refl c.requires

pub encoded_len-requires : goal.encoded_len-requires
encoded_len-requires c = c.spelled_values_are_values.ensures ber c.args.kept.now refl c.requires
