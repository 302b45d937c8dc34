use Rattle.std.proofs.Common.{ap, ◌∙◌}
use Rattle.cms_message.specs.ContentInfo.{ContentInfo, content_type}
use Rattle.cms_message.proofs.content_info.ContentInfo.content_type.Goals as goal

pub returns : goal.returns
returns c = c.new.ensures ∙ ap (λ (v : ContentInfo). content_type v) c.self.view_is
