-- What is read of a front is read of the input.
use Rattle.std.proofs.Common.{◌≡◌, Option, None, Result, Ok, Err, subst}
use Rattle.std.specs.Prelude.{IfOk, if◌then◌else◌}
use Rattle.ti_jdwp.specs.declared.actions.Action.{Action}
use Rattle.ti_jdwp.specs.declared.front.First.{First}
use Rattle.ti_jdwp.specs.declared.front.Front.TheVariants as front
use Rattle.ti_jdwp.specs.declared.notice.Notice.{Notice}
use Rattle.ti_jdwp.specs.declared.session_error.SessionError.{SessionError}
use Rattle.ti_jdwp.specs.Talks.{Talk, IsFront}
use Rattle.ti_jdwp.specs.Queues.{may_tell, first}
use Rattle.ti_jdwp.specs.Steps.{Serves, Reads, GoesOnWith, GoesOn}

pub reads_request : (old new : Talk) (f : First) (r : Result Action SessionError) → IsFront old.bytes.input (front.Request f) → IfOk r (λ a. Serves (record old { first = f }) a new) → IfOk r (λ a. Reads old a new)
reads_request old new f (Ok a) is h = (front.Request f, is, h)
reads_request old new f (Err e) is h = tt

-- where no event may go out, a packet is read
pub read_on : (old mid new : Talk) (r : Result Action SessionError) → mid ≡ old → None ≡ (if may_tell old.queue then first old.queue.waiting else None) → IfOk r (λ a. Reads mid a new) → IfOk r (λ a. GoesOn old a new)
read_on old mid new (Ok a) is none h = subst (λ (o : Option Notice). GoesOnWith o old a new) none (subst (λ (t : Talk). Reads t a new) is h)
read_on old mid new (Err e) is none h = tt
