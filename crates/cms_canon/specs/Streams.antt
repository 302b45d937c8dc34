-- A reader and a writer, before and after a call.
use Rattle.std.specs.Prelude.{◌≡◌, ◌<◌, ◌≤◌, ℕ, List, take, length, Option}
use Rattle.std.specs.Io.KnownBytes.{Consumes, Appends, IsAtEnd}
use Rattle.cms_tlv.specs.Streams.{Rose}

--- `Reading`, `reading`: what a reader has left before and after, if that is known, and how often
---   it failed; made from what the trait says
pub record Reading : Type 0 where
  pub left_before : Option (List ℕ)
  pub left_after : Option (List ℕ)
  pub failures_before : ℕ
  pub failures_after : ℕ

abbrev pub reading : {R : Type 0} → (R → Option (List ℕ)) → (R → ℕ) → R → R → Reading
reading left failures before after =
    record {
      left_before = left before;
      left_after = left after;
      failures_before = failures before;
      failures_after = failures after;
    }

--- `between`, `since`: a reading, and a writing, made from what is known before and after
abbrev pub between : Option (List ℕ) → ℕ → Option (List ℕ) → ℕ → Reading
between left failures after fails =
    record {
      left_before = left;
      left_after = after;
      failures_before = failures;
      failures_after = fails;
    }

--- `Writing`, `writing`: what a writer took before and after, if that is known, and how often it
---   failed; made from what the trait says
pub record Writing : Type 0 where
  pub contents_before : Option (List ℕ)
  pub contents_after : Option (List ℕ)
  pub failures_before : ℕ
  pub failures_after : ℕ

abbrev pub writing : {W : Type 0} → (W → Option (List ℕ)) → (W → ℕ) → W → W → Writing
writing contents failures before after =
    record {
      contents_before = contents before;
      contents_after = contents after;
      failures_before = failures before;
      failures_after = failures after;
    }

-- a `Writing`, from what was taken before and how often it had failed
abbrev pub since : Option (List ℕ) → ℕ → Option (List ℕ) → ℕ → Writing
since contents failures after fails =
    record {
      contents_before = contents;
      contents_after = after;
      failures_before = failures;
      failures_after = fails;
    }

--- `Takes r octets`, `TakesAtMost r n`: these octets were taken from the reader; at most `n` octets
---   were
abbrev pub Takes : Reading → List ℕ → Type 0
Takes r octets = Consumes r.left_before r.left_after octets

-- octets were taken, at most n of them
abbrev pub TakesAtMost : Reading → ℕ → Type 0
TakesAtMost r n = (octets : List ℕ) × Takes r octets × (length octets ≤ n)

--- `DidNotFail r`: the reader's count of failures is what it was
abbrev pub DidNotFail : Reading → Type 0
DidNotFail r = r.failures_after ≡ r.failures_before

--- `TakesNone r`: nothing was taken, and the reader did not fail
abbrev pub TakesNone : Reading → Type 0
TakesNone r = (r.left_after ≡ r.left_before) × DidNotFail r

--- `HasEnded r`: the reader has ended
abbrev pub HasEnded : Reading → Type 0
HasEnded r = IsAtEnd r.left_after

--- `ReadFailed r`: its count of failures rose, or is the largest
abbrev pub ReadFailed : Reading → Type 0
ReadFailed r = Rose r.failures_before r.failures_after

--- `WritesAll w octets`: these octets were written, and the writer did not fail
abbrev pub WritesAll : Writing → List ℕ → Type 0
WritesAll w octets =
    Appends w.contents_before w.contents_after octets × (w.failures_after ≡ w.failures_before)

--- `WritesPart w octets n`: the first `n` of these octets were written, which are not all, and the
---   writer failed
abbrev pub WritesPart : Writing → List ℕ → ℕ → Type 0
WritesPart w octets n =
    (n < length octets) × Appends w.contents_before w.contents_after (take n octets)
    × Rose w.failures_before w.failures_after

--- `WritesNone w`: nothing was written, and the writer did not fail
abbrev pub WritesNone : Writing → Type 0
WritesNone w = (w.contents_after ≡ w.contents_before) × (w.failures_after ≡ w.failures_before)
