-- A message whose octets are its DER is one piece of them.
use Rattle.std.proofs.Common.{◌≡◌, ℕ, ◌<◌, List, [], ◌∷◌, ◌++◌, length, take, Bool, true, Result, Ok, Err, IfOk, refl, sym, ◌∙◌, ap, subst, arith}
use Rattle.std.proofs.lemmas.List.{append-nil}
use Rattle.std.proofs.lemmas.List.Elements.{All-cons, All-nil}
use Rattle.std.proofs.Math.Seq.{take-length}
use Rattle.std.specs.List.{All}
use Rattle.cms_tlv.specs.Law.{IsField}
use Rattle.cms_tlv.specs.Spelling.{Rules, ber, der}
use Rattle.cms_tlv.specs.Spans.{octets_in}
use Rattle.cms_tlv.proofs.SpanLaws.{kept_up_to}
use Rattle.cms_fields.specs.Assembly.{Marked, marked, copied, unmarked, IsAssembled}
use Rattle.cms_fields.specs.Canonical.{IsByDer}
use Rattle.cms_fields.proofs.AssemblyLaws.{octets_marked}
use Rattle.cms_fields.proofs.CanonicalLaws.{to_equal}
use Rattle.cms_setof.specs.declared.piece.Piece.{Piece}
use Rattle.cms_setof.specs.declared.piece.Piece.TheVariants as piece
use Rattle.cms_setof.specs.Pieces.{marked_pieces, HasOctets, AreJoined}
use Rattle.cms_setof.specs.Copies.{CopiesMore}
use Rattle.cms_setof.proofs.CopiesLaws.{copies_octets, copies_whole}
use Rattle.cms_canon.specs.Kinds.{message, whole_message, same_message}
use Rattle.cms_canon.specs.Messages.{IsDerOf}
use Rattle.cms_canon.specs.Pieces.{IsMadeUpOf}
use Rattle.cms_canon.specs.Whole.{Whole}
use Rattle.cms_canon.specs.internal.Steps.{AreAllOf}

-- DER of a message is one list of octets
der_once : IsByDer same_message whole_message → (m : Whole) (o q : List ℕ) → IsDerOf m.value o → IsDerOf m.value q → o ≡ q
der_once h m o q d e =
    let s = h.equivalence in
    to_equal h.canonical o q d.value e.value d.spells e.spells (s.congr d.value m.value e.value (s.symm d.value m.value ∙ d.same) ∙ e.same)

all_of_it : (k : List ℕ) → octets_in k 0 (length k) ≡ k
all_of_it k = sym (kept_up_to k 0 (length k) (omega arith) (omega arith)) ∙ take-length k

pub one_piece : {P : ℕ → Type 0} → IsField P (whole_message ber) → IsByDer same_message whole_message → (m : Whole) (ps qs : List Piece)
    → IsDerOf m.value m.octets → IsMadeUpOf m ps → AreAllOf m.octets qs → IsMadeUpOf m qs
one_piece f h m ps qs d are whole =
    let k = m.octets in
    let p = piece.Copied (record { start = 0; end = length k }) in
    let one : marked_pieces k qs ≡ marked copied k = ap (marked_pieces k) whole ∙ (append-nil (marked copied (octets_in k 0 (length k))) ∙ ap (marked copied) (all_of_it k)) in
    let octets : unmarked are.assembly ≡ k = copies_octets are.assembly (marked_pieces k ps) are.copies
    ∙ der_once h m (unmarked (marked_pieces k ps)) k are.der d in
    let begins = f.starts k d.value (h.within k d.value d.spells) in
    record {
      der = subst (IsDerOf m.value) (sym (ap unmarked one ∙ octets_marked copied k)) d;
      assembly = are.assembly;
      assembled = are.assembled;
      copies = subst (λ z. CopiesMore are.assembly z) (sym one) (copies_whole are.assembly k octets);
      have = subst (All (HasOctets k)) (sym whole) (All-cons (HasOctets k) p [] (omega (arith, ap length begins.2), omega arith) (All-nil (HasOctets k)));
      joined = subst AreJoined (sym whole) tt;
    }

-- the pieces that the grammar assembles, and others in which more is copied
pub made_up : {X E : Type 0} (items : X → List Piece) (w m : Whole) (ps : List Piece) (r : Result X E) → w ≡ m
    → IsDerOf w.value (unmarked (marked_pieces w.octets ps)) → IsAssembled message.assembled message.same w.value (marked_pieces w.octets ps)
    → IfOk r (λ v. CopiesMore (marked_pieces w.octets ps) (marked_pieces w.octets (items v))) → IfOk r (λ v. All (HasOctets w.octets) (items v))
    → IfOk r (λ v. AreJoined (items v)) → IfOk r (λ v. IsMadeUpOf m (items v))
made_up items w m ps (Ok x) e d a c h j =
    let ms = marked_pieces w.octets ps in
    let ns = marked_pieces w.octets (items x) in
    subst (λ n. IsMadeUpOf n (items x)) e (record {
      der = subst (IsDerOf w.value) (copies_octets ms ns c) d;
      assembly = ms;
      assembled = a;
      copies = c;
      have = h;
      joined = j;
    })
made_up items w m ps (Err x) e d a c h j = tt
