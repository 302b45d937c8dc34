use Rattle.std.proofs.lemmas.Slice.Eq.{bytes_eq-Decides}
use Rattle.cms_scalars.specs.ObjectIdentifiers.{id_signed_data}
use Rattle.cms_message.proofs.content_info.SignedDataTypeConstraintOidOctets.law.Goals as goal

pub returns-clause-known : goal.returns-clause-known
returns-clause-known c v k t = (bytes_eq-Decides v id_signed_data).0 t

pub returns-clause-tested : goal.returns-clause-tested
returns-clause-tested c v k e = (bytes_eq-Decides v id_signed_data).1 e

pub returns-clause-told : goal.returns-clause-told
returns-clause-told c e = absurd cc
