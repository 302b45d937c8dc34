-- Steps of octets that are held on their way to a writer.
use Rattle.std.proofs.Common.{◌≡◌, ℕ, suc, ◌+◌, ◌≤◌, List, [], ◌∷◌, ◌++◌, length, take, drop, Option, Result, Ok, Err, OnOk, sym, ap, ◌∙◌, subst, zero-add, append_assoc, arith}
use Rattle.std.proofs.lemmas.List.{append-nil, drop-drop, length-append, length-take-le, take-append-le}
use Rattle.std.specs.Io.KnownBytes.{Appends}
use Rattle.std.proofs.KnownBytes.{Appends-trans}
use Rattle.cms_tlv.specs.declared.fault.Fault.{Fault}
use Rattle.cms_tlv.specs.declared.fault.Fault.TheVariants as faults
use Rattle.cms_tlv.specs.Pouring.{StopsAfter}
use Rattle.cms_setof.specs.declared.pouring.Progress.{Progress}
use Rattle.cms_setof.specs.internal.Pouring.{Sends, StopsAmid, PutAfter}

-- two facts of one result
on_ok_both : {T E P Q S : Type 0} (r : Result T E) → (P → Q → S) → OnOk r P → OnOk r Q → OnOk r S
on_ok_both (Ok x) f p q = f p q
on_ok_both (Err x) f p q = tt

-- all of xs, and n of what follows
take_past : (xs ys : List ℕ) (n : ℕ) → take (length xs + n) (xs ++ ys) ≡ xs ++ take n ys
take_past [] ys n = ap (λ m. take m ys) (zero-add n)
take_past (x ∷ xs) ys n =
    let e : suc (length xs) + n ≡ suc (length xs + n) = omega arith in
    ap (λ m. take m (x ∷ (xs ++ ys))) e ∙ ap (λ l. x ∷ l) (take_past xs ys n)

-- the writer stopped amid xs, and so amid what begins with them
pub stops_within : (s : ℕ) (xs ys : List ℕ) (a b : Option (List ℕ)) (f : Fault) → StopsAmid s xs a b f → StopsAmid s (xs ++ ys) a b f
stops_within s xs ys a b (faults.Write w) (n, e, l, p) =
    let m : n ≤ length xs = omega arith in
    (n, e, omega (arith, length-append xs ys), subst (Appends a b) (sym (take-append-le n xs ys m)) p)
stops_within s xs ys a b (faults.Refused r at) h = h
stops_within s xs ys a b faults.Read h = h
stops_within s xs ys a b faults.OutOfMemory h = h

-- the writer took xs, and then stopped amid ys
pub stops_past : (s t : ℕ) (xs ys : List ℕ) (a b c : Option (List ℕ)) (f : Fault) → t ≡ s + length xs → Appends a b xs
    → StopsAmid t ys b c f → StopsAmid s (xs ++ ys) a c f
stops_past s t xs ys a b c (faults.Write w) e p (n, d, l, q) =
    (length xs + n, omega arith, omega (arith, length-append xs ys), subst (Appends a c) (sym (take_past xs ys n)) (Appends-trans a b c xs (take n ys) p q))
stops_past s t xs ys a b c (faults.Refused r at) e p h = h
stops_past s t xs ys a b c faults.Read e p h = h
stops_past s t xs ys a b c faults.OutOfMemory e p h = h

-- where nothing was sent before
pub stops_first : (xs : List ℕ) (a b : Option (List ℕ)) (f : Fault) → StopsAmid 0 xs a b f → StopsAfter xs a b f
stops_first xs a b (faults.Write w) (n, e, l, p) =
    let d : n ≡ w = omega arith in
    (omega arith, subst (λ (m : ℕ). Appends a b (take m xs)) d p)
stops_first xs a b (faults.Refused r at) h = h
stops_first xs a b faults.Read h = h
stops_first xs a b faults.OutOfMemory h = h

-- what a held was written, and the octets after it
pub writes_all : (octets : List ℕ) (p q : Progress) (a b : List ℕ) (t : ℕ) (o m n : Option (List ℕ)) (r : Result (Unit {0}) Fault)
    → p.held ≤ length a → q.held ≡ 0 → t ≡ p.sent + p.held → Appends o m (take p.held a) → OnOk r (Appends m n octets)
    → OnOk r (q.sent ≡ t + length octets) → OnOk r (Sends octets p q a b o n)
writes_all octets p q a b t o m n r l e d h = on_ok_both r (λ k s. record {
  taken = take p.held a ++ octets;
  parts = sym (ap (λ i. (take p.held a ++ octets) ++ take i b) e ∙ append-nil (take p.held a ++ octets));
  counted = omega (arith, length-append (take p.held a) octets, length-take-le p.held a l);
  appended = Appends-trans o m n (take p.held a) octets h k;
})

module _ {p q : Progress} {a b : List ℕ} {o m : Option (List ℕ)} {xs : List ℕ} where
  pub sends_count : Sends xs p q a b o m → p.held ≤ length a → q.held ≤ length b → q.sent + q.held ≡ p.sent + p.held + length xs
  sends_count h k l =
      let parts : length (take p.held a) + length xs ≡ length h.taken + length (take q.held b) = sym (length-append (take p.held a) xs)
      ∙ (ap length h.parts ∙ length-append h.taken (take q.held b)) in
      let front = length-take-le p.held a k in
      let back = length-take-le q.held b l in
      let counted = h.counted in
      omega arith

  pub sends_more : {r : Progress} {c : List ℕ} {n : Option (List ℕ)} {ys : List ℕ} → Sends xs p q a b o m → Sends ys q r b c m n → Sends (xs ++ ys) p r a c o n
  sends_more {r} {c} {n} {ys} g h = record {
    taken = g.taken ++ h.taken;
    parts =
        sym (append_assoc (take p.held a) xs ys) ∙ (ap (λ z. z ++ ys) g.parts
        ∙ (append_assoc g.taken (take q.held b) ys ∙ (ap (λ z. g.taken ++ z) h.parts ∙ sym (append_assoc g.taken h.taken (take r.held c)))));
    counted = (let d = g.counted in let e = h.counted in omega (arith, length-append g.taken h.taken));
    appended = Appends-trans o m n g.taken h.taken g.appended h.appended;
  }

  -- after xs the writer stopped amid what was held
  pub stops_held : (n : Option (List ℕ)) (f : Fault) → Sends xs p q a b o m → StopsAmid q.sent (take q.held b) m n f
      → StopsAmid p.sent (take p.held a ++ xs) o n f
  stops_held n f g h =
      subst (λ (z : List ℕ). StopsAmid p.sent z o n f) (sym g.parts)
      (stops_past p.sent q.sent g.taken (take q.held b) o m n f g.counted g.appended h)

  -- after xs the writer stopped amid what was held and ys
  pub stops_later : (ys : List ℕ) (n : Option (List ℕ)) (f : Fault) → Sends xs p q a b o m → StopsAmid q.sent (take q.held b ++ ys) m n f
      → StopsAmid p.sent (take p.held a ++ (xs ++ ys)) o n f
  stops_later ys n f g h =
      let rest = take q.held b in
      let same : g.taken ++ (rest ++ ys) ≡ take p.held a ++ (xs ++ ys) =
      sym (append_assoc g.taken rest ys) ∙ (ap (λ z. z ++ ys) (sym g.parts) ∙ append_assoc (take p.held a) xs ys) in
      subst (λ (z : List ℕ). StopsAmid p.sent z o n f) same (stops_past p.sent q.sent g.taken (rest ++ ys) o m n f g.counted g.appended h)

-- octets, and then more after them
module _ {xs ys a b c : List ℕ} {h i j : ℕ} where
  pub put_more : PutAfter xs h i a b → PutAfter ys i j b c → PutAfter (xs ++ ys) h j a c
  put_more p q = record {
    counted = (let d = p.counted in let e = q.counted in omega (arith, length-append xs ys));
    octets_are = q.octets_are ∙ (ap (λ z. z ++ ys) p.octets_are ∙ append_assoc (take h a) xs ys);
    rest =
        q.rest ∙ subst (λ n. drop n b ≡ drop n a) (sym q.counted)
        (sym (drop-drop (length ys) i b) ∙ (ap (λ z. drop (length ys) z) p.rest ∙ drop-drop (length ys) i a));
  }
