use Rattle.std.proofs.Common.{◌≡◌, ◌∙◌, ◌&&◌, true, true≢false, get_or, Some, sym, arith}
use Rattle.std.specs.List.{list_any}
use Rattle.std.specs.Prelude.{slice_get}
use Rattle.std.proofs.lemmas.Option.{slice_get-get_or}
use Rattle.ti_monitor.specs.Asking.{TellsAtOnce}
use Rattle.ti_monitor.specs.Counted.{waits_for}
use Rattle.ti_monitor.specs.Sampling.{sampling}
use Rattle.ti_monitor.specs.Watching.{is_free}
use Rattle.ti_monitor.proofs.SamplingLaws.{tells_at}
use Rattle.ti_monitor.proofs.sampling.Readings.ask_at.Goals as goal

pub returns-clause-asks : goal.returns-clause-asks
returns-clause-asks c =
    let n = c.args.place in
    let ws = c.args.watched.now in
    let w = get_or ws n c.index-watched-place.result in
    let free : is_free ws n ≡ true = grind (arith, c.is_free.ensures.free, c.if-not-is_free.false) in
    let owed : list_any (waits_for n) c.args.self.now.running.items ≡ true = grind (arith, c.wait_for.ensures, c.if-not-wait_for.false) in
    let asked : (is_free ws n && list_any (waits_for n) c.args.self.now.running.items) ≡ true = grind (arith, free, owed) in
    let at : slice_get ws n ≡ Some w = slice_get-get_or ws n c.index-watched-place.result c.if-not-is_free.ensures.within in (
      λ no. absurd (true≢false (sym asked ∙ no)),
      λ _. tells_at TellsAtOnce n (sampling c.args.agent.now ws c.args.self.now) c.tell.new.agent c.tell.new.self c.ask-told.new.agent w c.ask-told.new.watched c.ask-told.result
          at c.ask-told.ensures.thread c.ask-told.ensures.tells c.tell.ensures.counts c.tell.ensures.grows c.tell.ensures.env,
    )
