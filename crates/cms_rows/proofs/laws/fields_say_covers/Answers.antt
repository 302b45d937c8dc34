use Rattle.cms_rows.proofs.CoverLaws.{say_signed_data, say_request, say_response}
use Rattle.cms_rows.proofs.laws.fields_say_covers.Goals as goal

pub returns-clause-signed_data : goal.returns-clause-signed_data
returns-clause-signed_data c = say_signed_data

pub returns-clause-request : goal.returns-clause-request
returns-clause-request c = say_request

pub returns-clause-response : goal.returns-clause-response
returns-clause-response c = say_response
