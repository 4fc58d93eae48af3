use Rattle.std.proofs.Common.{◌∙◌, sym}
use Rattle.ti_jdwp.proofs.Heads.{is_one}
use Rattle.ti_jdwp.proofs.packet.read_head.Goals as goal

pub returns-clause-only : goal.returns-clause-only
returns-clause-only c = λ h k. sym (is_one c.args.input.now c.head_at.result c.head_at.ensures) ∙ is_one c.args.input.now h k
