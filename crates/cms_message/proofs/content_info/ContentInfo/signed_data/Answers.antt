use Rattle.std.proofs.Common.{ap, ◌∙◌}
use Rattle.cms_message.specs.ContentInfo.{ContentInfo, content}
use Rattle.cms_message.proofs.content_info.ContentInfo.signed_data.Goals as goal

pub returns : goal.returns
returns c = c.new.ensures ∙ ap (λ (v : ContentInfo). content v) c.self.view_is
