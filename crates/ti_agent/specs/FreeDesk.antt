-- A desk that no environment has.
use Rattle.std.specs.Prelude.{ℕ, ◌≡◌, ◌+◌, ◌-◌, ◌≤◌, ◌==◌, nat_lt, Bool, true, false, if◌then◌else◌, List, [], ◌∷◌, length}
use Rattle.std.specs.List.{fold}
use Rattle.ti_types.specs.declared.call.Call.TheVariants.{SetWord}
use Rattle.ti_types.specs.declared.entry.Entry.{Entry}
use Rattle.ti_types.specs.declared.entry.Entry.TheVariants.{Asked}
use Rattle.ti_types.specs.declared.event.Ticket.{Ticket}
use Rattle.ti_types.specs.declared.numbers.EnvNo.{EnvNo}
use Rattle.ti_handshake.specs.Call.{next_call}
use Rattle.ti_replay.specs.Legal.{calls_spent}
use Rattle.ti_replay.specs.Fronts.{stops_by}
use Rattle.ti_handshake.specs.Desk.{DeskState, is_out, with_cancelled}

-- the desk, and how many calls are spent there
pub record FreeState : Type 0 where
  pub desk : DeskState
  pub spent : ℕ

-- None of its environment's stops is in force. Its thread has room for as many calls as are left there. At most `window` of
-- its calls are out
pub record IsFree (f : FreeState) : Type 0 where
  pub free : stops_by f.desk.env f.desk.view.mine ≡ false
  pub paid : f.desk.view.subject.limits.calls - f.spent + calls_spent f.desk.env f.desk.view.mine ≤ f.desk.view.subject.limits.calls
  pub within : length f.desk.view.posted ≤ f.desk.view.subject.limits.window

-- the word that an environment asked last to set, after an entry
abbrev pub word_after : EnvNo → ℕ → Entry → ℕ
word_after env word (Asked other number (SetWord w)) = if other.0 == env.0 then w else word
word_after env word _ = word

-- the same after all of these; 0 if it asked for none
abbrev pub word_asked : EnvNo → List Entry → ℕ
word_asked env mine = fold (word_after env) 0 mine

-- the desk of an environment that has left
abbrev pub left : FreeState → FreeState
left f = record { desk = with_cancelled f.desk f.desk.cancelled (length f.desk.cancelled); spent = f.spent }

-- whether a call is left at a thread
abbrev pub has_left : FreeState → Bool
has_left f = nat_lt f.spent f.desk.view.subject.limits.calls

-- Nothing is left of what an environment did at the desk. All of its calls that are out are cancelled, and are those of an
-- environment that has left. The last word that was set is 0, if a call is left to read it
pub record IsClean (f : FreeState) : Type 0 where
  pub former : f.desk.former ≡ length f.desk.cancelled
  pub none_out : (k : Ticket) → is_out f.desk k ≡ false
  pub no_word : has_left f ≡ true → word_asked f.desk.env f.desk.view.mine ≡ 0

-- the call that sets the word to 0, if one is left
abbrev pub clearing : FreeState → List Entry
clearing f = if has_left f then next_call f.desk.view f.desk.env (SetWord 0) ∷ [] else []
