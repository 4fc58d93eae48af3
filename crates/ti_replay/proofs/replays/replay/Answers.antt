use Rattle.std.proofs.Common.{◌≡◌, ◌<◌, length, take, ◌∙◌, sym, ap, arith, true, false, [], Some}
use Rattle.ti_replay.specs.Legal.{first_illegal}
use Rattle.ti_replay.specs.PlacedState.{placed_state, may_enter, entered}
use Rattle.ti_replay.proofs.StepLaws.{entry_at, placed_state-take, first_illegal_on, first_illegal_here, none_at_end, legal_from_none, illegal_from_some}
use Rattle.ti_replay.proofs.replays.replay.Goals as goal

pub loop-at-preserved : goal.loop-at-preserved
loop-at-preserved c =
    let limits = c.args.limits in
    let es = c.args.entries.now in
    let i = c.loop-at.at in
    let within : i < length es = omega arith in
    let may : may_enter limits (placed_state limits (take i es)) (entry_at es i) ≡ true =
    ap (λ s. may_enter limits s (entry_at es i)) (sym c.loop-at.invariant.progress) ∙ sym c.in_ok-legal.ensures.may ∙ grind arith in
    record {
      progress = c.in_ok-legal.ensures.state (grind arith) ∙ ap (λ s. entered s (entry_at es i)) c.loop-at.invariant.progress ∙ sym (placed_state-take limits es i within);
      legal = first_illegal_on limits es i within may ∙ c.loop-at.invariant.legal;
    }

pub returns-then-not-legal-clause-fault : goal.returns-then-not-legal-clause-fault
returns-then-not-legal-clause-fault c =
    let limits = c.args.limits in
    let es = c.args.entries.now in
    let i = c.loop-at.at in
    let within : i < length es = omega arith in
    let may_not : may_enter limits (placed_state limits (take i es)) (entry_at es i) ≡ false =
    ap (λ s. may_enter limits s (entry_at es i)) (sym c.loop-at.invariant.progress) ∙ sym c.in_ok-legal.ensures.may ∙ grind arith in
    let first : first_illegal limits [] es ≡ Some i = sym c.loop-at.invariant.legal ∙ first_illegal_here limits es i within may_not in
    (illegal_from_some limits es i first, first)

pub returns-clause-legal : goal.returns-clause-legal
returns-clause-legal c = legal_from_none c.args.limits c.args.entries.now
    (sym c.loop-at.invariant.legal ∙ none_at_end c.args.limits (take c.loop-at.at c.args.entries.now) c.args.entries.now c.loop-at.at c.loop-at-test.false)
