use Rattle.std.proofs.Common.{subst, sym}
use Rattle.ti_jdwp.specs.declared.session_error.SessionError.{SessionError}
use Rattle.ti_debugger.specs.declared.due.Due.{Due}
use Rattle.ti_debugger.specs.Serving.{Given}
use Rattle.ti_debugger.proofs.seat.Seat.give.Goals as goal

pub returns-in-Answer-clause-gave : goal.returns-in-Answer-clause-gave
returns-in-Answer-clause-gave c =
    subst (λ (x : Due). Given {E = SessionError} c.args.now x c.args.self.now.session c.args.desk.now c.give_answer.new.self.session c.give_answer.new.desk c.give_answer.result) (sym c.in-Answer.is)
    (c.give_answer.ensures.gave c.args.now)

pub returns-in-List-clause-gave : goal.returns-in-List-clause-gave
returns-in-List-clause-gave c =
    subst (λ (x : Due). Given {E = SessionError} c.args.now x c.args.self.now.session c.args.desk.now c.give_list.new.self.session c.args.desk.now c.give_list.result) (sym c.in-List.is) (c.give_list.ensures.gave c.args.now)

pub returns-in-Place-clause-gave : goal.returns-in-Place-clause-gave
returns-in-Place-clause-gave c =
    subst (λ (x : Due). Given {E = SessionError} c.args.now x c.args.self.now.session c.args.desk.now c.give_placed.new.self.session c.give_placed.new.desk c.give_placed.result) (sym c.in-Place.is)
    (c.give_placed.ensures.gave c.args.now)

pub returns-in-Locate-clause-gave : goal.returns-in-Locate-clause-gave
returns-in-Locate-clause-gave c =
    subst (λ (x : Due). Given {E = SessionError} c.args.now x c.args.self.now.session c.args.desk.now c.give_located.new.self.session c.give_located.new.desk c.give_located.result) (sym c.in-Locate.is)
    (c.give_located.ensures.gave c.args.now)
