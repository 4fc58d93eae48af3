use Rattle.std.proofs.Common.{◌≡◌, false, subst, sym, rules, ◌∙◌, true≢false}
use Rattle.std.specs.String.{string_bytes}
use Rattle.ti_monitor.specs.Desks.{at_seat, books_of, setting_of}
use Rattle.ti_monitor.specs.Monitors.{has_ended, reading_in}
use Rattle.ti_monitor.specs.Serving.{IsBodyOf, TakesOut}
use Rattle.ti_monitor.proofs.ServeLaws.{at_first, reading_answer, reading_leaves, reading_lost}
use Rattle.ti_monitor.proofs.door_seat.Seat.give_reading.Goals as goal

pub returns-in-Ok-Some-clause-serves : goal.returns-in-Ok-Some-clause-serves
returns-in-Ok-Some-clause-serves c = λ n.
    let d = c.args.desk.now in
    let d' = c.take.new.self in
    let s = c.args.self.now in
    let b = books_of d in
    let read : IsBodyOf (string_bytes d.monitor.program) b.readings c.args.reading c.args.request.target c.in-Ok-Some.body.items = search rules in
    let same : c.deref.result.now ≡ c.in-Ok-Some.body.items = search rules in
    let left : TakesOut c.args.reading b (books_of d') = search rules in
    at_first d d' n (at_seat s d) (at_seat c.give.new.self c.give.new.desk) c.take.ensures.keeps
    (c.give.ensures.serves n b
    (reading_answer d d' n b s.due c.args.request c.args.reading c.content_type.result c.deref.result.now c.requires.due c.content_type.ensures c.take.ensures.keeps
    (subst (λ bytes. IsBodyOf (string_bytes d.monitor.program) b.readings c.args.reading c.args.request.target bytes) (sym same) read))
    (reading_leaves b (books_of d') s.due c.args.request c.args.reading c.requires.due left))

pub returns-in-Ok-None-clause-serves : goal.returns-in-Ok-None-clause-serves
returns-in-Ok-None-clause-serves c =
    let none : has_ended (reading_in (books_of c.args.desk.now).readings c.args.reading) ≡ false = search rules in
    absurd (true≢false (sym c.requires.over ∙ none))

pub returns-in-Err-clause-serves : goal.returns-in-Err-clause-serves
returns-in-Err-clause-serves c = λ n.
    let d = c.args.desk.now in
    let s = c.args.self.now in
    reading_lost (setting_of d n) s.connection (books_of d) (books_of c.take.new.self) s.due c.args.request c.args.reading c.requires.due c.in-Err.ensures.lost
