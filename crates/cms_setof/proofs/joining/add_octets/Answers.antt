use Rattle.std.proofs.Common.{◌∷◌, ◌++◌, [], sym, ◌∙◌, ap, subst, append_assoc}
use Rattle.std.specs.List.{All}
use Rattle.std.proofs.lemmas.List.Elements.{All-push}
use Rattle.cms_setof.specs.Pieces.{marked_piece, marked_pieces, HasOctets, AreJoined}
use Rattle.cms_setof.proofs.PieceLaws.{marked_more, joined_more, joined_changed, all_but_last, last_of_all}
use Rattle.cms_setof.proofs.joining.add_octets.Goals as goal

pub returns-in_ok-push-2-clause-octets : goal.returns-in_ok-push-2-clause-octets
returns-in_ok-push-2-clause-octets c =
    let k = c.args.kept.now in
    let before = c.pop.new.self.items in
    let last = c.in-Some.last in
    let old = c.in-Some.ensures.items in
    let has = last_of_all k before last (subst (All (HasOctets k)) old c.requires.have) in
    let on = c.goes_on.ensures.0 c.if-goes_on.true in
    let both = c.in_ok-join.ensures.octets k has c.requires.has on in
    let a = marked_pieces k before in
    ap (marked_pieces k) c.in_ok-push-2.ensures.items ∙ (marked_more k before c.in_ok-join.field-0 ∙ (ap (λ z. a ++ z) both
    ∙ (sym (append_assoc a (marked_piece k last) (marked_piece k c.args.piece))
    ∙ ap (λ z. z ++ marked_piece k c.args.piece) (sym (marked_more k before last) ∙ sym (ap (marked_pieces k) old)))))

pub returns-in_ok-push-2-clause-have : goal.returns-in_ok-push-2-clause-have
returns-in_ok-push-2-clause-have c =
    let k = c.args.kept.now in
    let before = c.pop.new.self.items in
    let last = c.in-Some.last in
    let have = subst (All (HasOctets k)) c.in-Some.ensures.items c.requires.have in
    let on = c.goes_on.ensures.0 c.if-goes_on.true in
    let new = c.in_ok-join.ensures.has k (last_of_all k before last have) c.requires.has on in
    subst (All (HasOctets k)) (sym c.in_ok-push-2.ensures.items) (All-push (HasOctets k) before c.in_ok-join.field-0 (all_but_last k before last have) new)

pub returns-in_ok-push-2-clause-joined : goal.returns-in_ok-push-2-clause-joined
returns-in_ok-push-2-clause-joined c =
    let old = subst AreJoined c.in-Some.ensures.items c.requires.joined in
    subst AreJoined (sym c.in_ok-push-2.ensures.items)
    (joined_changed c.pop.new.self.items c.in-Some.last c.in_ok-join.field-0 old c.in_ok-join.ensures.begins)

pub returns-in_ok-push-4-clause-joined : goal.returns-in_ok-push-4-clause-joined
returns-in_ok-push-4-clause-joined c =
    let old = subst AreJoined c.in-Some.ensures.items c.requires.joined in
    let items = c.in_ok-push-4.ensures.items ∙ ap (λ z. z ++ c.args.piece ∷ []) c.in_ok-push-3.ensures.items in
    subst AreJoined (sym items) (joined_more c.pop.new.self.items c.in-Some.last c.args.piece old
    (λ g. (let z = sym (c.goes_on.ensures.1 g) ∙ c.if-goes_on.false in cc)))
