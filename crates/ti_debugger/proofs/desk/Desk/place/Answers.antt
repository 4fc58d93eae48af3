use Rattle.std.proofs.Common.{◌≡◌, inl, inr, rules}
use Rattle.ti_stops.specs.declared.error.StopError.TheVariants.{Duplicate}
use Rattle.ti_service.specs.Stops.{BreaksNot}
use Rattle.ti_service.proofs.Moves.{if_err}
use Rattle.ti_debugger.specs.declared.refusal.Refusal.{Refusal}
use Rattle.ti_debugger.specs.Placing.{IsNotSet, NotHeard, NotOfClass, NotSet, breakpoint_at, method_of}
use Rattle.ti_debugger.proofs.StopLaws.{refused_for}
use Rattle.ti_debugger.proofs.desk.Desk.place.Goals as goal

pub returns-in_err-check_class-clause-refused : goal.returns-in_err-check_class-clause-refused
returns-in_err-check_class-clause-refused c =
    if_err (λ (r : Refusal). IsNotSet c.args.spot c.args.self.now.agent c.check_class.new.self.agent r) c.from_residual.result c.in_err-check_class.field-0.0 (search rules)
    (NotOfClass c.in_err-check_class.ensures.refused)

pub returns-in_err-hear-clause-refused : goal.returns-in_err-hear-clause-refused
returns-in_err-hear-clause-refused c =
    if_err (λ (r : Refusal). IsNotSet c.args.spot c.args.self.now.agent c.hear.new.self.agent r) c.from_residual-in_err-hear.result c.in_err-hear.field-0.0 (search rules)
    (NotHeard c.check_class.new.self.agent c.in_ok-check_class.ensures.told c.in_err-hear.ensures.refused)

pub returns-in-Ok-clause-set : goal.returns-in-Ok-clause-set
returns-in-Ok-clause-set c = record {
  asked = c.check_class.new.self.agent;
  before = c.hear.new.self.agent;
  class = c.in_ok-check_class.ensures.told;
  hears = c.in_ok-hear.ensures.heard;
  set = inl c.in-Ok.ensures.done;
}

pub returns-then-eq-clause-set : goal.returns-then-eq-clause-set
returns-then-eq-clause-set c =
    let spot = c.args.spot in
    let again : c.in-Err.error ≡ Duplicate = search rules in
    let refused = BreaksNot c.hear.new.self.agent c.set_breakpoint_now.new.self (method_of spot) spot.index (breakpoint_at spot) in
    record {
      asked = c.check_class.new.self.agent;
      before = c.hear.new.self.agent;
      class = c.in_ok-check_class.ensures.told;
      hears = c.in_ok-hear.ensures.heard;
      set = inr (refused_for refused c.in-Err.error Duplicate again c.in-Err.ensures.refused);
    }

pub returns-else-eq-clause-refused : goal.returns-else-eq-clause-refused
returns-else-eq-clause-refused c =
    let other : c.in-Err.error ≡ Duplicate → ⊥ = λ again. search rules in
    NotSet c.check_class.new.self.agent c.hear.new.self.agent c.in-Err.error c.in_ok-check_class.ensures.told c.in_ok-hear.ensures.heard c.in-Err.ensures.refused other c.refusal_of_stop.ensures
