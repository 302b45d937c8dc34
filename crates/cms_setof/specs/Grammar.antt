-- Sets, as contents.
use Rattle.std.specs.Prelude.{◌≡◌, ◌≢◌, List, [], true, false}
use Rattle.std.specs.List.{All}
use Rattle.cms_tlv.specs.declared.fault.Reason.TheVariants.{EmptyAttributes}
use Rattle.cms_tlv.specs.Spelling.{members}
use Rattle.cms_tlv.specs.Reading.{members_of}
use Rattle.cms_tlv.specs.RefusalReasons.{says_later}
use Rattle.cms_fields.specs.Assembly.{each_in_order}
use Rattle.cms_fields.specs.Grammar.{Grammar, where_only}
use Rattle.cms_setof.specs.Readers.{has_member}
use Rattle.cms_setof.specs.Same.{same_members}

--- `set_of g`: the contents of a SET OF: fields `g` (in `cms_setof`) [`SetOf`]
abbrev pub set_of : {V : Type 0} → Grammar V → Grammar (List V)
set_of g = record {
  spelled = λ m. members m (g.spelled m);
  is_value = λ vs. (g.is_field ≡ true) × All g.is_value vs;
  same = same_members g.same;
  first = g.first;
  is_field = false;
  is_contents = g.is_field;
  reader = members_of g.reader;
  read_by = g.read_by;
  has_paths = g.has_paths;
  malformed = says_later g.has_paths g.malformed;
  assembled = each_in_order g.assembled;
}

--- `some_of g`: the contents of such a set of at least one field `g` [`NonEmptySetOf`]
abbrev pub some_of : {V : Type 0} → Grammar V → Grammar (List V)
some_of g = where_only (set_of g) (λ vs. vs ≢ []) has_member EmptyAttributes
