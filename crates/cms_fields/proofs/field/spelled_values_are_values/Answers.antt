use Rattle.cms_fields.proofs.field.spelled_values_are_values.Goals as goal

pub returns : goal.returns
returns g c m b u p = (c.law.ensures.field u).is_value m b _ p
