use Rattle.std.proofs.Common.{◌≡◌, ◌++◌, map, rules}
use Rattle.ti_types.specs.declared.event.Event.TheVariants.{Read}
use Rattle.ti_report.proofs.EventLaws.{looks_are}
use Rattle.ti_report.proofs.events.looks.Goals as goal

pub returns : goal.returns
returns c =
    let reads : c.push_reads.new.events.items ≡ c.push_stops.new.events.items ++ map (λ t. Read c.args.env t c.args.max_count) c.args.threads.now = search (rules, c.in_ok-push_reads.ensures) in
    looks_are c.args.limits c.args.env c.args.threads.now c.args.max_count c.in_ok-listed.listed.items c.deref.result.now c.deref-2.result.now
    c.in_ok-events.events.items c.push_stops.new.events.items c.push_reads.new.events.items c.push_gos.new.events.items
    c.in_ok-listed.ensures c.deref.ensures.value c.deref-2.ensures.value c.in_ok-events.ensures.items c.in_ok-push_stops.ensures reads c.in_ok-push_gos.ensures
