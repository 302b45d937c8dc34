use Rattle.std.proofs.Common.{◌≡◌, ◌==◌, ℕ, List, [], Bool, true, false, cond, Option, Some, None, option_map, append-nil, refl, ap, sym, ◌∙◌}
use Rattle.cms_tlv.specs.FirstElement.{first_contents}
use Rattle.cms_check.proofs.laws.contents_are_those_of_elements.Goals as goal

abbrev contents : Option (List ℕ × List ℕ) → Option (List ℕ)
contents found = option_map (λ (p : List ℕ × List ℕ). p.0) found

contents_if : (is_so : Bool) (c rest : List ℕ) → contents (cond is_so (Some (c, rest)) None) ≡ cond is_so (Some c) None
contents_if true c rest = refl
contents_if false c rest = refl

pub returns : goal.returns
returns c t i b d e =
    ap (first_contents t) (sym (append-nil b)) ∙ ap contents (c.first_elements_are_elements.ensures t i b d [] e) ∙ contents_if (i == t) d []
