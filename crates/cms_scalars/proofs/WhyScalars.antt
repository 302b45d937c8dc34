-- The octets before each refusal of a scalar or a string say why.
use Rattle.std.proofs.Common.{inl, inr, ℕ, Bool, zero, suc, List}
use Rattle.cms_tlv.specs.declared.fault.Reason.{Reason}
use Rattle.cms_tlv.specs.declared.fault.Reason.TheVariants.{BooleanMalformed, BitsMalformed, SegmentsTooDeep}
use Rattle.cms_tlv.specs.declared.bound.Bound.{Bound}
use Rattle.cms_tlv.specs.Reading.{Reader}
use Rattle.cms_tlv.specs.RefusalReasons.{Explained, either_says, says_inside, says_nothing}
use Rattle.cms_tlv.proofs.Inverse.{differ}
use Rattle.cms_tlv.proofs.Paths.{header_path, path_if}
use Rattle.cms_tlv.proofs.Why.{refuses_explained, made_explained, fewer, primitive_explained, scalar_explained, rows_explained, wider}
use Rattle.cms_fields.specs.Grammar.{Grammar}
use Rattle.cms_fields.proofs.WhyFields.{holding_told, choice_told, optional_then_told}
use Rattle.cms_scalars.specs.Bits.{named_bits_of, is_bit_string, bits_of_contents}
use Rattle.cms_scalars.specs.Booleans.{boolean_of, default_false_then_of, is_one_octet, is_true, with_default_false}
use Rattle.cms_scalars.specs.Octets.{one_part, of_either, in_turn}
use Rattle.cms_scalars.specs.Readers.{constructed, part_of, parts_of, segments_of, octet_string_parts_of, octet_string_of}
use Rattle.cms_tlv.specs.Spelling.{join}
use Rattle.cms_scalars.specs.Grammar.{named_bits_type, boolean_type, default_false_then}
use Rattle.cms_scalars.proofs.BitStrings as bits
use Rattle.cms_scalars.proofs.ConstructedOctets.{has_bit_6}
use Rattle.cms_scalars.proofs.Truth as truths

pub bits_told : {paths : Bool} (bd : Bound) → Explained paths named_bits_type.malformed 1 bd (named_bits_of bd)
unfolding named_bits_of
bits_told bd = made_explained _ bits_of_contents
    (scalar_explained 0x03 _ is_bit_string BitsMalformed (λ c n x. differ n (bits.told c x.0 x.1).0.1) bd)

pub boolean_told : {paths : Bool} (bd : Bound) → Explained paths boolean_type.malformed 1 bd (boolean_of bd)
unfolding boolean_of
boolean_told bd = made_explained _ is_true
    (scalar_explained 0x01 _ is_one_octet BooleanMalformed (λ c n x. differ n (truths.told c x.0 x.1).0.1) bd)

part_told : {paths : Bool} (id : ℕ) (bd : Bound) → Explained paths says_nothing 1 bd (part_of id bd)
unfolding part_of
part_told id bd = made_explained _ one_part (primitive_explained _ id bd)

-- of a primitive part, and of what is inside a constructed one, nothing is said
nothing_said : (id : ℕ) (reason : Reason) (b : List ℕ) → either_says says_nothing (says_inside id says_nothing) reason b → says_nothing reason b
nothing_said id reason b (inl x) = x
nothing_said id reason b (inr x) = x.4

parts_told : {paths : Bool} (id : ℕ) {g : Bound → Reader (List (List ℕ))} → ((bd : Bound) → Explained paths says_nothing 0 bd (g bd)) → (bd : Bound)
    → Explained paths says_nothing 1 bd (parts_of id g bd)
unfolding parts_of
parts_told id h bd = made_explained _ of_either
    (wider (nothing_said (constructed id)) (choice_told _ (part_told id) (holding_told (constructed id) (λ b i. path_if _ (header_path i (has_bit_6 id))) h) bd))

segments_told : {paths : Bool} (n : ℕ) (bd : Bound) → Explained paths says_nothing 0 bd (segments_of n bd)
unfolding segments_of
segments_told zero bd = fewer _ (refuses_explained _ SegmentsTooDeep (λ limit at. tt))
segments_told (suc n) bd = made_explained _ in_turn (wider (λ reason b x. x.4) (rows_explained _ (parts_told 0x04 (segments_told n)) bd))

pub string_parts_told : {paths : Bool} (id : ℕ) (bd : Bound) → Explained paths says_nothing 1 bd (octet_string_parts_of id bd)
unfolding octet_string_parts_of
string_parts_told id bd = parts_told id (segments_told 8) bd

pub string_told : {paths : Bool} (id : ℕ) (bd : Bound) → Explained paths says_nothing 1 bd (octet_string_of id bd)
unfolding octet_string_of
string_told id bd = made_explained _ join (string_parts_told id bd)

pub default_false_told : {W : Type 0} (h : Grammar W) → ((bd : Bound) → Explained h.has_paths h.malformed 0 bd (h.reader bd)) → (bd : Bound)
    → Explained h.has_paths (default_false_then h).malformed 0 bd (default_false_then_of h.reader bd)
unfolding default_false_then_of
default_false_told h k bd = made_explained _ with_default_false (optional_then_told _ boolean_told k bd)
