use Rattle.std.proofs.Common.{◌≡◌, ◌+◌, ◌<◌, ◌≤◌, ◌∷◌, ◌++◌, [], length, get_or, map, take, sym, ◌∙◌, ap, subst}
use Rattle.std.specs.List.{flat_map}
use Rattle.std.proofs.lemmas.List.{map_more, take_all}
use Rattle.cms_rows.specs.Rows.{AddsRows}
use Rattle.cms_rows.proofs.RowLaws.{adds_none, adds_member}
use Rattle.cms_rows.proofs.rows.SetOfRows.add_rows.Goals as goal

pub loop-member-init : goal.loop-member-init
loop-member-init g c = adds_none c.args.rows.now.items

pub loop-member-preserved : goal.loop-member-preserved
loop-member-preserved g c =
    let k = c.args.kept.now in
    let show = g.T.Rows.shown k in
    let f = g.T.Rows.entries c.args.kind c.args.level in
    let xs = c.args.self.now in
    let i = c.loop-member.member-index in
    let x = c.member-item.result in
    let within : i < length xs = subst (λ zs. i < length zs) c.members-member-items.ensures c.loop-member-test.true in
    let is : x ≡ get_or xs i x = subst (λ zs. x ≡ get_or zs i x) c.members-member-items.ensures c.member-item.is in
    let e : map show (take (i + 1) xs) ≡ map show (take i xs) ++ show x ∷ [] = map_more show xs i x within
    ∙ ap (λ y. map show (take i xs) ++ show y ∷ []) (sym is) in
    subst (λ vs. AddsRows k (flat_map f vs) c.args.rows.now.items c.add_rows.new.rows.items) (sym e)
    (adds_member k f (map show (take i xs)) (show x) c.loop-member.invariant c.in_ok-add_rows.ensures)

pub returns : goal.returns
returns g c =
    let k = c.args.kept.now in
    let show = g.T.Rows.shown k in
    let f = g.T.Rows.entries c.args.kind c.args.level in
    let xs = c.args.self.now in
    let i = c.loop-member.member-index in
    let e = take_all i xs (subst (λ zs. length zs ≤ i) c.members-member-items.ensures c.loop-member-test.false) in
    subst (λ vs. AddsRows k (flat_map f (map show vs)) c.args.rows.now.items c.loop-member.rows.items) e c.loop-member.invariant
