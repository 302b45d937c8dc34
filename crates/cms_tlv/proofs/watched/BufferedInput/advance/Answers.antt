use Rattle.std.proofs.Common.{eqb}
use Rattle.std.specs.Io.Buffered.{reader_buffer, reader_capacity, reader_inner}
use Rattle.cms_tlv.specs.Watching.{inner_of}
use Rattle.cms_tlv.proofs.StreamLemmas.{drops}
use Rattle.cms_tlv.proofs.watched.BufferedInput.advance.Goals as goal

pub returns-clause-octets : goal.returns-clause-octets
returns-clause-octets g c = let old = inner_of c.args.self.now.watched in
    rw (c.consume.ensures.buffer, c.consume.ensures.inner, c.consume.ensures.capacity)
    (drops (eqb (reader_capacity old) 0) (g.R.Read.remaining (reader_inner old)) (reader_buffer old) c.args.n)
