use Rattle.std.proofs.Common.{rules, ◌≡◌, None, sym, ap, ◌∙◌}
use Rattle.std.specs.Prelude.{replicate}
use Rattle.ti_roster.specs.Events.{Lives}
use Rattle.ti_roster.proofs.Lives.{events_none}
use Rattle.ti_roster.proofs.Rows.{rows_none}
use Rattle.ti_roster.specs.Stops.{stops_of}
use Rattle.ti_roster.proofs.roster.Roster.new.Goals as goal

pub invariant_of-result : goal.invariant_of-result
invariant_of-result c =
    let marks : c.in_ok-vec.field-0.items ≡ replicate c.args.limits.envs None = search rules in (
      search rules,
      search rules,
      search rules,
      rows_none c.new.result.items c.args.limits c.new-2.result c.in_ok-vec.field-0.items c.new.ensures c.new-2.ensures marks,
      events_none c.new.result.items c.in_ok-new.field-0.events c.new.ensures (ap (λ (l : Lives). l.events) c.in_ok-new.ensures.new),
      c.new-4.ensures ∙ sym (ap stops_of c.new.ensures),
    )
