use Rattle.cms_scalars.proofs.scalars.Integer.new.Goals as goal

pub returns : goal.returns
returns g c = c.octets.ensures
