use Rattle.std.proofs.Common.{◌≡◌, ◌≤◌, ◌+◌, ◌-◌, ◌++◌, ℕ, List, length, map, take, drop, sym, ap, ◌∙◌, arith, append_assoc}
use Rattle.std.proofs.lemmas.List.{take-append-drop, length-take-le}
use Rattle.std.proofs.lemmas.List.Sorted.{IsPermutation-refl}
use Rattle.std.proofs.Math.Seq.{drop-append_seam}
use Rattle.cms_fields.specs.Assembly.{unmarked, join_marked}
use Rattle.cms_fields.proofs.AssemblyLaws.{octets_joined, length_octets}
use Rattle.cms_setof.proofs.MergeLaws.{begins_with}
use Rattle.cms_setof.proofs.comparing.ComparingSink.sort.Goals as goal

-- the octets between two places, of which the later is the end of what was there before
between : (k b : List ℕ) (s at n : ℕ) → at ≤ length k → take s k ≡ take at k ++ b → n ≡ length b → take (at + n - at) (drop at k) ≡ b
between k b s at n l e m =
    let whole : k ≡ take at k ++ (b ++ drop s k) = sym (take-append-drop s k) ∙ (ap (λ z. z ++ drop s k) e ∙ append_assoc (take at k) b (drop s k)) in
    let here : at ≡ length (take at k) = sym (length-take-le at k l) in
    let rest : drop at k ≡ b ++ drop s k =
    ap (λ z. drop at z) whole ∙ (ap (λ i. drop i (take at k ++ (b ++ drop s k))) here ∙ drop-append_seam (take at k) (b ++ drop s k)) in
    begins_with (drop at k) b (drop s k) (at + n - at) rest (omega arith)

pub returns-then-frames_ascend-clause-ok : goal.returns-then-frames_ascend-clause-ok
returns-then-frames_ascend-clause-ok c = λ s frames e f p.
    let k = c.args.kept.now in
    let at = c.args.self.now.at in
    let bs = map unmarked frames in
    let octets = unmarked (join_marked frames) in
    let m = length_octets (join_marked frames) in
    let n : c.saturating_sub-n.result ≡ length octets = omega (arith, c.saturating_sub-n.ensures, e, p.1, m) in
    let cut = between k octets s.at at c.saturating_sub-n.result (omega (arith, c.if-self-kept.false)) p.0 n in
    record {
      sorted = frames;
      permutation = IsPermutation-refl frames;
      ascends = (c.frames_ascend.ensures bs f (cut ∙ octets_joined frames)).0 c.if-frames_ascend.true;
      put = p;
    }
