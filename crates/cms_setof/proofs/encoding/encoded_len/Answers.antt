use Rattle.std.proofs.Common.{arith}
use Rattle.cms_fields.specs.Assembly.{unmarked}
use Rattle.cms_setof.proofs.encoding.encoded_len.Goals as goal

pub returns-in-Ok : goal.returns-in-Ok
returns-in-Ok g c =
    let h = c.in-Ok.ensures.ok in record {
      each = λ o w. (let e = h.each o w in omega (arith, h.put, c.count.ensures, c.count.type_inv));
      one = λ small. (unmarked h.octets, h.written);
    }
