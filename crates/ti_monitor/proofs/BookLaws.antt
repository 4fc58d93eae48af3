-- What a call of the monitor leaves in the books.
use Rattle.std.proofs.Common.{◌≡◌, ℕ, ◌+◌, List, refl, ap, subst, ◌∙◌}
use Rattle.ti_http.specs.declared.head.Request.{Request}
use Rattle.ti_monitor.specs.declared.door_desk.Due.TheVariants as due
use Rattle.ti_monitor.specs.declared.metrics.Metrics.{Metrics}
use Rattle.ti_monitor.specs.declared.monitor.Monitor.{Monitor}
use Rattle.ti_monitor.specs.declared.monitor.ReadingNo.{ReadingNo}
use Rattle.ti_monitor.specs.declared.reading.Order.{Order}
use Rattle.ti_monitor.specs.declared.running.Running.{Running}
use Rattle.ti_monitor.specs.Desks.{books_with}
use Rattle.ti_monitor.specs.Door.{order_of}
use Rattle.ti_monitor.specs.Monitors.{Begins, begun_in}
use Rattle.ti_monitor.specs.Serving.{Books, Starts}

abbrev pub books : List Running → ℕ → Metrics → List (ℕ × ℕ) → Books
books readings begun metrics rows = record { readings = readings; begun = begun; metrics = metrics; rows = rows }

-- one was begun, or could not be
pub books_begun : (m m' : Monitor) (rows : List (ℕ × ℕ)) (request : Request) (number : ReadingNo) (order : Order) (now unix : ℕ) → order ≡ order_of request.target
    → Begins m.readings.running.items m'.readings.running.items number order now unix → number.0 ≡ m.begun → m'.begun ≡ number.0 + 1 → m'.metrics ≡ begun_in order m.metrics
    → Starts request (books_with m rows) (due.Reading request number) (books_with m' rows)
books_begun m m' rows request number order now unix is begins counts more metrics =
    let items = m'.readings.running.items in (
      refl,
      (now, unix, subst (λ (o : Order). Begins m.readings.running.items items number o now unix) is begins),
      counts,
      ap (λ n. books items n m'.metrics rows) (more ∙ ap (λ n. n + 1) counts)
          ∙ ap (λ (x : Metrics). books items (m.begun + 1) x rows) (metrics ∙ ap (λ (o : Order). begun_in o m.metrics) is),
    )
