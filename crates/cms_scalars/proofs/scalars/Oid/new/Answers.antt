use Rattle.cms_scalars.proofs.scalars.Oid.new.Goals as goal

pub returns : goal.returns
returns g c = c.octets.ensures
