use Rattle.ti_service.specs.Classes.{classes_of}
use Rattle.ti_debugger.proofs.ClassLaws.{prefix_on}
use Rattle.ti_debugger.proofs.LineLaws.{declares_still, lines_told}
use Rattle.ti_debugger.proofs.desk.Desk.line_table.Goals as goal

pub returns-clause-told : goal.returns-clause-told
returns-clause-told c =
    let first = classes_of c.method_in.new.self.agent in
    let named = classes_of c.get_method_name.new.self in
    let log = classes_of c.lines_of.new.self.agent in
    let method = c.in_ok-method.method in
    let grows = prefix_on first named log c.in_ok-first.ensures.rest.grows c.in_ok-lines.ensures.grows in
    let declared = declares_still first log c.args.class method grows c.in_ok-method.ensures.declared in
    let lines = lines_told named log method c.in_ok-first.field-0 c.in_ok-lines.lines _ c.in_ok-lines.ensures.grows c.in_ok-first.ensures.told c.in_ok-lines.ensures.told c.in_ok-table_of.ensures in
    (method, c.in_ok-method.ensures.found, declared, lines)
