use Rattle.ti_service.specs.Classes.{classes_of}
use Rattle.ti_debugger.proofs.LineLaws.{lines_absent, lines_there}
use Rattle.ti_debugger.proofs.desk.Desk.lines_of.Goals as goal

pub returns-in-Ok-clause-told : goal.returns-in-Ok-clause-told
returns-in-Ok-clause-told c = lines_there (classes_of c.get_line_number_table.new.self) c.args.method c.in-Ok.lines c.in-Ok.ensures.told

pub returns-in-Err-AbsentInformation-clause-told : goal.returns-in-Err-AbsentInformation-clause-told
returns-in-Err-AbsentInformation-clause-told c =
    lines_absent (classes_of c.get_line_number_table.new.self) c.args.method c.in-Err-AbsentInformation.field-0 c.in-Err-AbsentInformation.ensures.refused c.in-Err-AbsentInformation.field-0-is
