use Rattle.std.proofs.Common.{◌++◌, codes, decimal, subst, sym}
use Rattle.ti_driver.specs.Runs.{verdict_text}
use Rattle.ti_driver.specs.Streams.{TakesFront}
use Rattle.ti_driver.proofs.StreamLaws.{front_after, front_of_more}
use Rattle.ti_driver.proofs.check_command.put_verdict.Goals as goal

pub returns-in_err-put_numbered-in-Some-clause-front : goal.returns-in_err-put_numbered-in-Some-clause-front
returns-in_err-put_numbered-in-Some-clause-front g c =
    subst (λ v. TakesFront (g.W.Write.contents c.args.writer.now) (g.W.Write.contents c.put_numbered.new.writer) (verdict_text v)) (sym c.in-Some.is)
    (front_of_more _ _ (codes "illegal " ++ decimal c.in-Some.at) (codes "\n") c.in_err-put_numbered-in-Some.ensures.front)

pub returns-in_ok-put_numbered-in-Some-clause-front : goal.returns-in_ok-put_numbered-in-Some-clause-front
returns-in_ok-put_numbered-in-Some-clause-front g c =
    subst (λ v. TakesFront (g.W.Write.contents c.args.writer.now) (g.W.Write.contents c.write_whole-in-Some.new.writer) (verdict_text v)) (sym c.in-Some.is)
    (front_after _ _ _ (codes "illegal " ++ decimal c.in-Some.at) (codes "\n") c.in_ok-put_numbered-in-Some.ensures.ok c.write_whole-in-Some.ensures.front)
