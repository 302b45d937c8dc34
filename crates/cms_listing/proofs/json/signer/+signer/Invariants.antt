use Rattle.std.proofs.Common.{◌+◌, ◌*◌}
use denote.Text.{Utf8}
use denote.Shadow.{shadow}
use Rattle.cms_listing.proofs.json.signer.+signer.Given as goal

abbrev pub decreases-append_signer : goal.decreases-append_signer
decreases-append_signer l = 4 * l.levels + 3

abbrev pub decreases-append_attributes : goal.decreases-append_attributes
decreases-append_attributes l = 4 * l.levels + 2

abbrev pub decreases-append_attribute : goal.decreases-append_attribute
decreases-append_attribute l = 4 * l.levels + 1

abbrev pub decreases-append_countersignatures : goal.decreases-append_countersignatures
decreases-append_countersignatures l = 4 * l.levels

abbrev pub invariant-append_attributes-loop-attribute :
    goal.invariant-append_attributes-loop-attribute
invariant-append_attributes-loop-attribute l = shadow (Utf8 l.between)

abbrev pub invariant-append_countersignatures-loop-countersignature :
    goal.invariant-append_countersignatures-loop-countersignature
invariant-append_countersignatures-loop-countersignature l = shadow (Utf8 l.between)
