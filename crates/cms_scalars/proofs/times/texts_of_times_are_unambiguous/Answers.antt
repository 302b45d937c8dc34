use Rattle.cms_scalars.proofs.TimeTexts.{one_form}
use Rattle.cms_scalars.proofs.times.texts_of_times_are_unambiguous.Goals as goal

pub returns : goal.returns
returns x c d e f g h k = one_form h k
