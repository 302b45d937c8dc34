-- What a reader or writer with a count of failures is made of.
use Rattle.std.specs.Prelude.{ℕ}
use Rattle.std.specs.Global.{Global}
use Rattle.std.specs.declared.io.buffered.BufReader.{BufReader}
use Rattle.cms_tlv.specs.declared.watched.Watched.{Watched}
use Rattle.cms_tlv.specs.declared.watched.Buffered.{Buffered}

--- `inner_of`, `failures_of`: the reader or writer that is watched; how often it failed
abbrev pub inner_of : {T : Type 0} → Watched T → T
inner_of w = w.inner

abbrev pub failures_of : {T : Type 0} → Watched T → ℕ
failures_of w = w.failures

--- `watched_of`: the watched reader that a buffer holds
abbrev pub watched_of : {R : Type 0} → Buffered R → Watched (BufReader R Global)
watched_of b = b.watched
