use Rattle.std.proofs.Common.{arith}
use Rattle.ti_jdwp.proofs.Found.{is_found}
use Rattle.ti_jdwp.proofs.Again.{is_read}
use Rattle.ti_jdwp.proofs.reading.read_request.Goals as goal

pub returns-clause-found : goal.returns-clause-found
returns-clause-found c = is_found c.args.set c.args.command c.args.bytes.now c.request_of.result (λ i. omega (arith, c.type_inv.bytes i)) c.request_of.ensures

pub returns-clause-only : goal.returns-clause-only
returns-clause-only c = is_read c.args.set c.args.command c.args.bytes.now c.request_of.result c.request_of.ensures
