use Rattle.std.proofs.Common.{◌++◌, codes}
use Rattle.ti_driver.specs.Faults.{fault_text}
use Rattle.ti_driver.proofs.StreamLaws.{front_after, front_of_more}
use Rattle.ti_driver.proofs.fault_line.put_fault.Goals as goal

pub returns-in_err-write_whole-clause-front : goal.returns-in_err-write_whole-clause-front
returns-in_err-write_whole-clause-front g c =
    front_of_more _ _ (codes "tiwalk: ") (fault_text c.args.fault.now ++ codes "\n") c.in_err-write_whole.ensures.front

pub returns-in_err-put_fault_text-clause-front : goal.returns-in_err-put_fault_text-clause-front
returns-in_err-put_fault_text-clause-front g c =
    front_after _ _ _ (codes "tiwalk: ") (fault_text c.args.fault.now ++ codes "\n") c.in_ok-write_whole.ensures.ok
    (front_of_more _ _ (fault_text c.args.fault.now) (codes "\n") c.in_err-put_fault_text.ensures.front)

pub returns-clause-front : goal.returns-clause-front
returns-clause-front g c =
    front_after _ _ _ (codes "tiwalk: ") (fault_text c.args.fault.now ++ codes "\n") c.in_ok-write_whole.ensures.ok
    (front_after _ _ _ (fault_text c.args.fault.now) (codes "\n") c.in_ok-put_fault_text.ensures.ok c.write_whole-2.ensures.front)
