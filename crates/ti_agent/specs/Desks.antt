-- Desks that come and go while an environment is at work.
use Rattle.std.specs.Prelude.{◌≡◌, ◌+◌, ◌==◌, ◌&&◌, not, nat_le, nat_lt, Bool, true, if◌then◌else◌, [], ◌∷◌, ◌++◌, length, Option, Some, slice_get, remove}
use Rattle.std.specs.List.{list_all}
use Rattle.ti_types.specs.declared.error.TiError.{TiError}
use Rattle.ti_types.specs.declared.error.TiError.TheVariants.{InvalidEnvironment, IllegalArgument}
use Rattle.ti_types.specs.declared.limits.Limits.{Limits}
use Rattle.ti_types.specs.declared.numbers.ThreadNo.{ThreadNo}
use Rattle.ti_types.specs.Refusing.{or_else, unless}
use Rattle.ti_env.specs.Env.{spent_at, place_refusal, with_place, without_place, with_known}
use Rattle.ti_agent.specs.Env.{Environment, may_change, place_in, place_of}
use Rattle.ti_handshake.specs.Desk.{DeskState}
use Rattle.ti_agent.specs.FreeDesk.{FreeState, IsClean, clearing}
use Rattle.ti_agent.specs.Quiesced.{MayQuiesce}

-- whether a number was no thread's before: it is not below `known`, and above those of all desks
abbrev pub is_new : Environment → ThreadNo → Bool
is_new s t = nat_le s.state.known t.0 && list_all (λ p. nat_lt p.view.subject.thread.0 t.0) s.desks

-- whether two limits are the same, number by number
abbrev pub are_same : Limits → Limits → Bool
are_same a b =
    (a.threads == b.threads) && (a.envs == b.envs) && (a.depth == b.depth) && (a.own == b.own) && (a.calls == b.calls) && (a.window == b.window)
    && (if a.kept then b.kept else not b.kept)

-- why a desk is not added, lack of memory aside: it is another environment's, or under other limits, its thread's number is not
-- new, or there is no place for it
abbrev pub desk_refusal : Environment → FreeState → Option TiError
desk_refusal s f =
    or_else (unless (f.desk.env.0 == s.env.0 && are_same f.desk.view.subject.limits s.state.limits) InvalidEnvironment)
    (or_else (unless (is_new s f.desk.view.subject.thread) IllegalArgument)
    (place_refusal s.state))

-- one desk more, at a place of its own, with what is spent there
abbrev pub with_desk : Environment → FreeState → Environment
with_desk s f = record { env = s.env; state = with_place s.state f.spent; desks = s.desks ++ f.desk ∷ [] }

-- one desk less. The numbers up to its thread's were threads once
abbrev pub without_desk : Environment → ThreadNo → Environment
without_desk s t = record { env = s.env; state = with_known (without_place s.state (place_of s.desks t)) (t.0 + 1); desks = remove s.desks (place_in s.desks t) }

-- The desk at a thread left, with what is spent there. Nothing else changed, but that the number was a thread once. No desk
-- is at the thread any more
pub record IsTaken (old new : Environment) (t : ThreadNo) (f : FreeState) : Type 0 where
  pub there : slice_get old.desks (place_in old.desks t) ≡ Some f.desk
  pub about : f.desk.view.subject.thread ≡ t
  pub spent : f.spent ≡ spent_at old.state (place_of old.desks t)
  pub gone : place_in new.desks t ≡ length new.desks
  pub new_is : new ≡ without_desk old t

-- The desk at a thread left, and nothing is left there of what the environment did. If it could ever suspend threads or pop frames, none
-- of its calls is out: each took place. To set the word to 0 was its last call. Nothing else changed, but that the number was a
-- thread once
pub record IsCleared (old new : Environment) (t : ThreadNo) (f : FreeState) : Type 0 where
  pub before : DeskState
  pub there : slice_get old.desks (place_in old.desks t) ≡ Some before
  pub about : before.view.subject.thread ≡ t
  pub cell : f.desk.cell ≡ before.cell
  pub env : f.desk.env ≡ old.env
  pub limits : f.desk.view.subject.limits ≡ old.state.limits
  pub thread : f.desk.view.subject.thread ≡ t
  pub mine : f.desk.view.mine ≡ before.view.mine ++ clearing (record { desk = before; spent = spent_at old.state (place_of old.desks t) })
  pub spent : f.spent ≡ spent_at old.state (place_of old.desks t) + length (clearing (record { desk = before; spent = spent_at old.state (place_of old.desks t) }))
  pub clean : IsClean f
  pub quiet : may_change old.state.had ≡ true → f.desk.view.posted ≡ []
  pub gone : place_in new.desks t ≡ length new.desks
  pub new_is : new ≡ without_desk old t

-- First the environment's calls at a thread were answered, if it could change something there. Then the desk there left, and nothing
-- is left there of what the environment did
abbrev pub Retires : Environment → Environment → ThreadNo → FreeState → Type 0
Retires old new t f = (quiet : Environment) × MayQuiesce old quiet t × IsCleared quiet new t f
