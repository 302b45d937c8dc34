use Rattle.std.proofs.Common.{sym, ◌∙◌}
use mathlib.Core.Logic.{inl, inr}
use Rattle.std.proofs.lemmas.List.{append-nil}
use Rattle.cms_message.specs.ContentInfo.{content}
use Rattle.cms_message.specs.Cover.{covers}
use Rattle.cms_canon.proofs.laws.fields_say_covers.Goals as goal

pub returns : goal.returns
returns c (inl v) detached = c.fields_say_covers.ensures.signed_data 0 detached (content v) ∙ sym (append-nil (covers (content v) detached))
returns c (inr (inl v)) detached = c.fields_say_covers.ensures.request 0 detached v
returns c (inr (inr v)) detached = c.fields_say_covers.ensures.response 0 detached v
