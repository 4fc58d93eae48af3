use Rattle.std.proofs.Common.{◌≡◌, ◌/◌, ◌∙◌, ℕ, refl, ap, subst, sym}
use Rattle.ti_http.specs.Runs.{Ticked}
use Rattle.ti_http.specs.Talks.{Talk}
use Rattle.ti_monitor.specs.Desks.{at_seat, books_of, setting_of}
use Rattle.ti_monitor.specs.Serving.{Serves, rows_after, sitting}
use Rattle.ti_monitor.proofs.SeatLaws.{runs_more, runs_none, runs_one}
use Rattle.ti_monitor.proofs.ServeLaws.{at_first, serves_more, ticked_serves}
use Rattle.ti_monitor.proofs.door_seat.Seat.tick.Goals as goal

pub returns-in-Ok-clause-run : goal.returns-in-Ok-clause-run
returns-in-Ok-clause-run c =
    runs_more _ c.settle.new.self.connection c.tick.new.self c.settle.ensures.run (runs_one c.settle.new.self.connection c.tick.new.self (Ticked (c.args.now / 1000000)) c.in-Ok.ensures.ok)

pub returns-in-Err-clause-run : goal.returns-in-Err-clause-run
returns-in-Err-clause-run c =
    runs_more _ c.settle.new.self.connection c.tick.new.self c.settle.ensures.run (runs_none c.settle.new.self.connection c.tick.new.self c.in-Err.ensures.err)

pub returns-in-Ok-clause-serves : goal.returns-in-Ok-clause-serves
returns-in-Ok-clause-serves c = λ n.
    let d = c.args.desk.now in
    let d' = c.settle.new.desk in
    let s = c.settle.new.self in
    let rows : c.add_told.new.self.rows ≡ rows_after c.settle.new.self.connection.answered c.tick.new.self.answered c.tick.new.self.output c.settle.new.desk.tally.rows =
    c.add_told.ensures
    ∙ ap (λ k. rows_after k c.counts-after.result.1 c.output.result.now c.settle.new.desk.tally.rows) (ap (λ (p : ℕ × ℕ). p.1) c.counts-before.ensures.counts)
    ∙ ap (λ k. rows_after c.settle.new.self.connection.answered k c.output.result.now c.settle.new.desk.tally.rows) (ap (λ (p : ℕ × ℕ). p.1) c.counts-after.ensures.counts)
    ∙ ap (λ o. rows_after c.settle.new.self.connection.answered c.tick.new.self.answered o c.settle.new.desk.tally.rows) c.output.ensures in
    let b = record (books_of d') { rows = c.add_told.new.self.rows } in
    serves_more (setting_of d n) (at_seat c.args.self.now d) (at_seat s d') (sitting c.tick.new.self s.due b) (c.settle.ensures.serves n)
    (at_first d d' n (at_seat s d') (sitting c.tick.new.self s.due b) c.settle.ensures.desk
    (ticked_serves (setting_of d' n) s.connection c.tick.new.self (books_of d') b s.due s.due (c.args.now / 1000000) c.in-Ok.ensures.ok refl (ap (λ k. record (books_of d') { rows = k }) rows)))

pub returns-in-Err-clause-serves : goal.returns-in-Err-clause-serves
returns-in-Err-clause-serves c = λ n.
    let d = c.args.desk.now in
    let s = c.settle.new.self in
    subst (λ (t : Talk). Serves (setting_of d n) (at_seat c.args.self.now d) (sitting t s.due (books_of c.settle.new.desk))) (sym c.in-Err.ensures.err) (c.settle.ensures.serves n)
