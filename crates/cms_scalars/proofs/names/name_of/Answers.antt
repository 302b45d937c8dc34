use Rattle.cms_scalars.proofs.names.name_of.Goals as goal

pub returns : goal.returns
returns c = c.name_among.ensures
