-- The octets of requests and responses that are written as they were received.
use Rattle.std.specs.Prelude.{ℕ, List, ◌++◌, option_to_list}
use Rattle.cms_fields.specs.Received.{in_option}
use Rattle.cms_message.specs.Received.{in_algorithm_identifier, in_content_info}
use Rattle.cms_tsp.specs.Requests.{TimeStampReq, hash_algorithm, imprint, extensions}
use Rattle.cms_tsp.specs.Responses.{TimeStampResp, status_info, status_string, token}

--- `in_time_stamp_req v`: what a request keeps as received: parameters, and extensions [ours]
abbrev pub in_time_stamp_req : TimeStampReq → List (List ℕ)
in_time_stamp_req v =
    in_algorithm_identifier (hash_algorithm (imprint v)) ++ option_to_list (extensions v)

--- `in_time_stamp_resp v`: what a response keeps as received: statusString, and what its token does
---   [ours]
abbrev pub in_time_stamp_resp : TimeStampResp → List (List ℕ)
in_time_stamp_resp v =
    option_to_list (status_string (status_info v)) ++ in_option in_content_info (token v)
