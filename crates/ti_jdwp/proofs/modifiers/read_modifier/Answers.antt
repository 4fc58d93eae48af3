use Rattle.std.proofs.Common.{arith, ◌∙◌}
use Rattle.ti_jdwp.proofs.Patterned.{stands_if_ok}
use Rattle.ti_jdwp.proofs.Unpatterned.{reads_again}
use Rattle.ti_jdwp.proofs.modifiers.read_modifier.Goals as goal

pub returns-clause-found : goal.returns-clause-found
returns-clause-found c = stands_if_ok c.args.bytes.now c.args.at c.said_at.result (λ i. omega (arith, c.type_inv.bytes i)) c.said_at.ensures

pub returns-clause-only : goal.returns-clause-only
returns-clause-only c = λ m next h. c.said_at.ensures ∙ reads_again c.args.at c.args.bytes.now m next h
