use Rattle.std.proofs.Common.{◌≡◌, not, filter, rules}
use Rattle.std.proofs.lemmas.Fn.{filter_same}
use Rattle.ti_stops.specs.Lists.{is_mode_at, is_pop_at, waits_at}
use Rattle.ti_stops.proofs.stops.Stops.end_thread.Goals as goal

pub returns : goal.returns
returns c =
    let modes : c.retain.new.self.items ≡ filter (λ x. not (is_mode_at c.args.thread x)) c.self.inside.modes.items = filter_same _ _ _ (λ x b f' k. search rules) _ _ c.retain.ensures.filtered in
    let pops : c.retain-2.new.self.items ≡ filter (λ x. not (is_pop_at c.args.thread x)) c.self.inside.pops.items = filter_same _ _ _ (λ x b f' k. search rules) _ _ c.retain-2.ensures.filtered in
    let waiting : c.retain-3.new.self.items ≡ filter (λ x. not (waits_at c.args.thread x)) c.self.inside.waiting.items = filter_same _ _ _ (λ x b f' k. search rules) _ _ c.retain-3.ensures.filtered in
    search (rules, modes, pops, waiting)
