use Rattle.std.proofs.Common.{◌≡◌, ◌/◌, ◌∙◌, ℕ, Some, ap, sym, true≢false}
use Rattle.ti_http.specs.Runs.{Told}
use Rattle.ti_http.specs.declared.connection.Action.{Action}
use Rattle.ti_monitor.specs.declared.door_desk.Due.TheVariants as due
use Rattle.ti_monitor.specs.Desks.{books_of, setting_of}
use Rattle.ti_monitor.specs.Serving.{due_after, rows_after}
use Rattle.ti_monitor.proofs.SeatLaws.{next_keeps, next_shuts, not_ask, runs_one, still_quiet}
use Rattle.ti_monitor.proofs.ServeLaws.{not_due, told_serves}
use Rattle.ti_monitor.proofs.door_seat.Seat.step.Goals as goal

pub returns-in-Ask-clause-run : goal.returns-in-Ask-clause-run
returns-in-Ask-clause-run c = runs_one _ _ (Told c.in_ok-action.action (c.args.now / 1000000)) c.in_ok-action.ensures.action

pub invariant_of-self-in_default : goal.invariant_of-self-in_default
invariant_of-self-in_default c =
    let old = c.args.self.now in
    let goes = c.in_ok-action.ensures.action in
    let now = c.args.now / 1000000 in
    record {
      paired = next_keeps old.connection c.next.new.self c.in_ok-action.action now old.quiet goes (not_ask c.in_ok-action.action c.in_default.not-Ask) ∙ old.paired;
      quiet = still_quiet old.connection c.next.new.self (Told c.in_ok-action.action now) old.quiet goes;
    }

pub returns-in_default-clause-run : goal.returns-in_default-clause-run
returns-in_default-clause-run c = runs_one c.args.self.now.connection c.next.new.self (Told c.in_ok-action.action (c.args.now / 1000000)) c.in_ok-action.ensures.action

pub returns-in_default-clause-asks : goal.returns-in_default-clause-asks
returns-in_default-clause-asks c is = absurd (true≢false (sym is ∙ not_ask c.in_ok-action.action c.in_default.not-Ask))

pub returns-in_default-clause-due : goal.returns-in_default-clause-due
returns-in_default-clause-due c = not_due c.in_ok-action.action c.args.self.now.due c.in_default.not-Ask

pub returns-in_default-clause-shut : goal.returns-in_default-clause-shut
returns-in_default-clause-shut c is =
    let old = c.args.self.now in
    next_shuts old.connection c.next.new.self c.in_ok-action.action (c.args.now / 1000000) old.quiet c.in_ok-action.ensures.action is

pub returns-in-Ask-clause-serves : goal.returns-in-Ask-clause-serves
returns-in-Ask-clause-serves c = λ n.
    let d = c.args.desk.now in
    let old = c.args.self.now in
    let rows : c.add_told.new.self.rows ≡ rows_after c.args.self.now.connection.answered c.next.new.self.answered c.next.new.self.output c.args.desk.now.tally.rows =
    c.add_told.ensures
    ∙ ap (λ k. rows_after k c.counts-after.result.1 c.output.result.now c.args.desk.now.tally.rows) (ap (λ (p : ℕ × ℕ). p.1) c.counts-before.ensures.counts)
    ∙ ap (λ k. rows_after c.args.self.now.connection.answered k c.output.result.now c.args.desk.now.tally.rows) (ap (λ (p : ℕ × ℕ). p.1) c.counts-after.ensures.counts)
    ∙ ap (λ o. rows_after c.args.self.now.connection.answered c.next.new.self.answered o c.args.desk.now.tally.rows) c.output.ensures in
    told_serves (setting_of d n) old.connection c.next.new.self (books_of d) (record (books_of d) { rows = c.add_told.new.self.rows }) old.due (Some (due.Later c.in-Ask.request 1))
    c.in_ok-action.action (c.args.now / 1000000) c.in_ok-action.ensures.action (sym (ap (λ (a : Action). due_after a old.due) c.in-Ask.is)) (ap (λ k. record (books_of d) { rows = k }) rows)

pub returns-in_default-clause-serves : goal.returns-in_default-clause-serves
returns-in_default-clause-serves c = λ n.
    let d = c.args.desk.now in
    let old = c.args.self.now in
    let rows : c.add_told.new.self.rows ≡ rows_after c.args.self.now.connection.answered c.next.new.self.answered c.next.new.self.output c.args.desk.now.tally.rows =
    c.add_told.ensures
    ∙ ap (λ k. rows_after k c.counts-after.result.1 c.output.result.now c.args.desk.now.tally.rows) (ap (λ (p : ℕ × ℕ). p.1) c.counts-before.ensures.counts)
    ∙ ap (λ k. rows_after c.args.self.now.connection.answered k c.output.result.now c.args.desk.now.tally.rows) (ap (λ (p : ℕ × ℕ). p.1) c.counts-after.ensures.counts)
    ∙ ap (λ o. rows_after c.args.self.now.connection.answered c.next.new.self.answered o c.args.desk.now.tally.rows) c.output.ensures in
    told_serves (setting_of d n) old.connection c.next.new.self (books_of d) (record (books_of d) { rows = c.add_told.new.self.rows }) old.due old.due
    c.in_ok-action.action (c.args.now / 1000000) c.in_ok-action.ensures.action (not_due c.in_ok-action.action old.due c.in_default.not-Ask) (ap (λ k. record (books_of d) { rows = k }) rows)
