-- A desk that is about to leave its environment.
use Rattle.std.specs.Prelude.{◌≡◌, ◌+◌, ◌++◌, true, length, Some, slice_get, slice_set}
use Rattle.ti_types.specs.declared.numbers.ThreadNo.{ThreadNo}
use Rattle.ti_env.specs.Env.{spent_at, without_place}
use Rattle.ti_handshake.specs.Desk.{CancelsAll, DeskState}
use Rattle.ti_agent.specs.Env.{Environment, place_in, place_of}
use Rattle.ti_agent.specs.FreeDesk.{clearing, has_left, word_asked}

-- Nothing is left at a thread of what the environment did: the calls that are out there are cancelled, and the word is 0. To
-- set it was one call, if one was left. Nothing else changed
pub record IsEmptied (old new : Environment) (t : ThreadNo) : Type 0 where
  pub before : DeskState
  pub after : DeskState
  pub there : slice_get old.desks (place_in old.desks t) ≡ Some before
  pub cell : after.cell ≡ before.cell
  pub env : after.env ≡ old.env
  pub limits : after.view.subject.limits ≡ old.state.limits
  pub subject : after.view.subject ≡ before.view.subject
  pub mine : after.view.mine ≡ before.view.mine ++ clearing (record { desk = before; spent = spent_at old.state (place_of old.desks t) })
  pub cancelled : CancelsAll before after
  pub posted : after.view.posted ≡ before.view.posted
  pub spent : spent_at new.state (place_of old.desks t) ≡ spent_at old.state (place_of old.desks t) + length (clearing (record { desk = before; spent = spent_at old.state (place_of old.desks t) }))
  pub others : without_place new.state (place_of old.desks t) ≡ without_place old.state (place_of old.desks t)
  pub no_word : has_left (record { desk = after; spent = spent_at new.state (place_of old.desks t) }) ≡ true → word_asked after.env after.view.mine ≡ 0
  pub new_is : new ≡ record { env = old.env; state = new.state; desks = slice_set old.desks (place_in old.desks t) after }
