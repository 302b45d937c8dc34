use Rattle.cms_tsp.proofs.tst_info.TstInfo.octets.Goals as goal

pub returns : goal.returns
returns c = rw (c.deref.ensures.value, ← c.self.view_is) c.self.invariant.is
