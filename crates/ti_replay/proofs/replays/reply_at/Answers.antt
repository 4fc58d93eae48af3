use Rattle.std.proofs.Common.{◌≡◌, ◌<◌, length, take, ◌∙◌, sym, ap, ap₂, arith, true, false, [], Some}
use Rattle.std.specs.Option.{option_or}
use Rattle.ti_replay.specs.Replies.{reply_from}
use Rattle.ti_replay.specs.Legal.{first_illegal}
use Rattle.ti_replay.specs.PlacedState.{placed_state, may_enter, entered, settled_by}
use Rattle.ti_replay.proofs.StepLaws.{entry_at, placed_state-take, first_illegal_on, first_illegal_here, none_at_end, legal_from_none, illegal_from_some}
use Rattle.ti_replay.proofs.AskingLaws.{depth_kept, calls_kept, reply-take}
use Rattle.ti_replay.proofs.replays.reply_at.Goals as goal

pub loop-at-preserved : goal.loop-at-preserved
loop-at-preserved c =
    let limits = c.args.limits in
    let es = c.args.entries.now in
    let i = c.loop-at.at in
    let s = c.loop-at.progress in
    let x = entry_at es i in
    let within : i < length es = omega arith in
    let here : may_enter limits s x ≡ true = sym c.may_enter.ensures ∙ grind arith in
    let may : may_enter limits (placed_state limits (take i es)) x ≡ true = ap (λ t. may_enter limits t x) (sym c.loop-at.invariant.progress) ∙ here in
    record {
      progress = c.in_ok-given.ensures.state ∙ ap (λ t. entered t x) c.loop-at.invariant.progress ∙ sym (placed_state-take limits es i within);
      legal = first_illegal_on limits es i within may ∙ c.loop-at.invariant.legal;
      given = c.in_ok-given.ensures.reply
          ∙ ap₂ option_or c.loop-at.invariant.given (ap (λ t. reply_from t.view (settled_by t x) c.args.place) c.loop-at.invariant.progress)
          ∙ sym (reply-take limits es i c.args.place within);
      few = rw c.in_ok-given.ensures.state (depth_kept limits s x here c.loop-at.invariant.few c.loop-at.invariant.calls);
      calls = rw c.in_ok-given.ensures.state (calls_kept s x c.loop-at.invariant.calls);
    }

pub returns-then-not-may_enter-clause-fault : goal.returns-then-not-may_enter-clause-fault
returns-then-not-may_enter-clause-fault c =
    let limits = c.args.limits in
    let es = c.args.entries.now in
    let i = c.loop-at.at in
    let within : i < length es = omega arith in
    let may_not : may_enter limits (placed_state limits (take i es)) (entry_at es i) ≡ false =
    ap (λ s. may_enter limits s (entry_at es i)) (sym c.loop-at.invariant.progress) ∙ sym c.may_enter.ensures ∙ grind arith in
    let first : first_illegal limits [] es ≡ Some i = sym c.loop-at.invariant.legal ∙ first_illegal_here limits es i within may_not in
    (illegal_from_some limits es i first, first)

pub returns-clause-legal : goal.returns-clause-legal
returns-clause-legal c =
    legal_from_none c.args.limits c.args.entries.now
    (sym c.loop-at.invariant.legal ∙ none_at_end c.args.limits (take c.loop-at.at c.args.entries.now) c.args.entries.now c.loop-at.at c.loop-at-test.false)
