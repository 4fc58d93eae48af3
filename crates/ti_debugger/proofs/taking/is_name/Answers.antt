use Rattle.std.proofs.Common.{rules, arith, sym}
use Rattle.ti_debugger.proofs.TakeLaws.{name_no, name_yes}
use Rattle.ti_debugger.proofs.taking.is_name.Goals as goal

pub returns-in-Ok : goal.returns-in-Ok
returns-in-Ok c = sym (name_yes c.args.count c.args.bytes.now (omega (arith, c.if-count-bytes.false)) (search rules))

pub returns-in-Err : goal.returns-in-Err
returns-in-Err c = sym (name_no c.args.count c.args.bytes.now (search rules))
