-- The reply to a ticket.
use Rattle.std.specs.Prelude.{Bool, false, ◌&&◌, ◌==◌, if◌then◌else◌, List, [], ◌∷◌, map, Option, None}
use Rattle.std.specs.Option.{option_or}
use Rattle.ti_types.specs.declared.limits.Limits.{Limits}
use Rattle.ti_types.specs.declared.event.Ticket.{Ticket}
use Rattle.ti_types.specs.declared.answer.Answer.{Answer}
use Rattle.ti_types.specs.declared.entry.Entry.{Entry}
use Rattle.ti_types.specs.declared.entry.Entry.TheVariants.{Asked}
use Rattle.ti_types.specs.declared.view.ThreadView.{ThreadView}
use Rattle.ti_replay.specs.Settling.{settled}
use Rattle.ti_replay.specs.View.{new_thread, after}
use Rattle.ti_replay.specs.Replies.{answer_to}

-- whether an entry is the call of a ticket
abbrev pub is_call_of : Ticket → Entry → Bool
is_call_of t (Asked env number call) = number == t.no && env.0 == t.env.0
is_call_of t _ = false

-- the reply to the first call of a ticket, when these entries take place one after another
abbrev pub reply_in : ThreadView → List Entry → Ticket → Option Answer
reply_in v [] t = None
reply_in v (x ∷ entries) t = option_or (if is_call_of t x then answer_to v x else None) (reply_in (after v x) entries t)

-- the reply to a ticket of a history. None if the call is not there, or is not answered yet
abbrev pub reply_to : Limits → List Entry → Ticket → Option Answer
reply_to limits history t = reply_in (new_thread limits) (map (λ p. p.1) (settled history)) t
