use Rattle.std.proofs.Common.{◌≡◌, ◌∙◌, false, true≢false, sym, refl}
use Rattle.std.specs.Prelude.{is_some}
use Rattle.ti_monitor.proofs.running.Running.answer.Goals as goal

pub returns-clause-counts : goal.returns-clause-counts
returns-clause-counts c =
    let on : is_some c.args.self.now.ended ≡ false = sym c.has_ended.ensures ∙ c.if-has_ended.false in
    let counts = rw (c.label_at-label.ensures, c.labels.ensures) at c.answer.ensures.answers in
    (λ ended. absurd (true≢false (sym ended ∙ on)), λ _. (record { same = record { no = refl; order = refl; began = refl; unix = refl; over = refl }; ended = refl; schedule = refl }, counts))
