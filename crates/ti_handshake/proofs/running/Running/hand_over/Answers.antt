use Rattle.std.proofs.Common.{rules, ap, subst, ◌∙◌, inl, inr}
use Rattle.ti_types.specs.declared.entry.Entry.TheVariants.{Hand}
use Rattle.ti_handshake.specs.Thread.{Runner}
use Rattle.ti_handshake.specs.Tries.{RunsOn}
use Rattle.ti_handshake.proofs.running.Running.hand_over.Goals as goal

pub returns-in-Err : goal.returns-in-Err
returns-in-Err g c =
    elim c.in-Err.ensures.refused [
      | inl e ↦ absurd (search rules)
      | inr r ↦ let k = subst (λ (m : Runner). RunsOn (Hand c.args.safe) m c.in-Err.refused c.in-Err.error) c.loop.invariant r in
          record { cell = c.in-Err.ensures.cell ∙ ap (λ (m : Runner). m.cell) c.loop.invariant; hold = k.hold; when = k.when; thread = k.thread }
    ]
