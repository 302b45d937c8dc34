use Rattle.cms_setof.proofs.ascending.+sort_halves.Given as goal

abbrev pub decreases-sort_halves : goal.decreases-sort_halves
decreases-sort_halves l = l.count
