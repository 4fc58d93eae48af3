-- A global operation at the threads of a list.
use Rattle.std.specs.Prelude.{ℕ, ℤ, ◌≡◌, ◌+◌, ◌-◌, ◌^◌, ◌≤◌, Bool, true, false, if◌then◌else◌, ◌==◌, nat_lt, List, [], ◌∷◌, ◌++◌, length, map, Option, Some, option_map, slice_get}
use Rattle.atomic_table.specs.Seated.{TableId}
use Rattle.std.specs.List.{fold, list_any, list_all}
use Rattle.ti_types.specs.declared.entry.Entry.{Entry}
use Rattle.ti_types.specs.declared.entry.Entry.TheVariants.{Read}
use Rattle.ti_types.specs.declared.limits.Limits.{Limits}
use Rattle.ti_types.specs.declared.numbers.EnvNo.{EnvNo}
use Rattle.ti_types.specs.declared.numbers.ThreadNo.{ThreadNo}
use Rattle.ti_env.specs.Env.{EnvValue, left_at, with_spent}
use Rattle.ti_replay.specs.Legal.{calls_spent}
use Rattle.ti_replay.specs.Makers.{StartsWith}
use Rattle.ti_replay.specs.Standing.{is_standing}
use Rattle.ti_handshake.specs.Call.{GoesOn, found}
use Rattle.ti_handshake.specs.Desk.{DeskState, IsSame}
use Rattle.ti_replay.specs.Fronts.{stops_by, TellsOf}
use Rattle.ti_types.specs.declared.answer.Answer.{Answer}
use Rattle.ti_types.specs.Frames as buffer
use Rattle.ti_slot.specs.Waiting.{HasRoomFor}
use Rattle.ti_replay.specs.Answers.{or_zero}
use Rattle.ti_replay.specs.Replies.{reply}

-- threads, each with a number of reads to come
abbrev pub Listed : Type 0
Listed = List (ThreadNo × ℕ)

abbrev pub is_listed : ℕ → Listed → Bool
is_listed i threads = list_any (λ x. x.0.0 == i) threads

abbrev pub AreDistinct : Listed → Type 0
AreDistinct [] = Unit {0}
AreDistinct (x ∷ threads) = (is_listed x.0.0 threads ≡ false) × AreDistinct threads

-- each listed thread is there
abbrev pub AreThere : ℕ → Listed → Type 0
AreThere count threads = list_all (λ x. nat_lt x.0.0 count) threads ≡ true

-- whether each listed thread has a call left for its stop and each read
abbrev pub are_paid : EnvValue → Listed → Bool
are_paid state threads = list_all (λ x. nat_lt x.1 (left_at state x.0)) threads

-- at a desk there is no stop of its environment, and at least as many calls are left as the environment says
pub record MayStop (limits : Limits) (state : EnvValue) (p : DeskState) (thread : ThreadNo) : Type 0 where
  pub free : stops_by p.env p.view.mine ≡ false
  pub paid : left_at state thread + calls_spent p.env p.view.mine ≤ limits.calls

abbrev pub spend_all : EnvValue → Listed → EnvValue
spend_all state threads = fold (λ s x. with_spent s x.0) state threads

-- a desk, after it added these entries. Its tickets are as they were
pub record HasAdded (old new : DeskState) (more : List Entry) : Type 0 where
  pub same : IsSame old new
  pub goes : GoesOn old.view new.view
  pub mine : new.view.mine ≡ old.view.mine ++ more
  pub posted : new.view.posted ≡ old.view.posted

-- a desk that the operation was at, or was not at yet
abbrev pub AtDesk : Bool → DeskState → DeskState → List Entry → Type 0
AtDesk true old new more = HasAdded old new more
AtDesk false old new more = new ≡ old

-- each listed desk has added these, and no other changed
abbrev pub AtEach : Listed → List DeskState → List DeskState → (EnvNo → List Entry) → Type 0
AtEach threads old new more =
    (length new ≡ length old)
    × ((i : ℕ) (p q : DeskState) → slice_get old i ≡ Some p → slice_get new i ≡ Some q → AtDesk (is_listed i threads) p q (more p.env))

-- each listed desk has seen its thread standing for its environment
abbrev pub AllStand : Listed → List DeskState → Type 0
AllStand threads desks =
    (i : ℕ) (p : DeskState) → slice_get desks i ≡ Some p → is_listed i threads ≡ true → is_standing p.view.subject.limits p.view.seen p.env ≡ true

-- the cell of the desk at a place, if there is one
abbrev pub cell_at : List DeskState → ℕ → Option TableId
cell_at desks i = option_map (λ p. p.cell) (slice_get desks i)

-- the cells of the listed desks, in the order of the list
abbrev pub cells_of : Listed → List DeskState → List (Option TableId)
cells_of threads desks = map (λ x. cell_at desks x.0.0) threads

-- threads that are standing for an environment, the cells at which they were stopped, and how many reads were made of them
pub record Stood : Type 0 where
  pub env : EnvNo
  pub threads : Listed
  pub cells : List (Option TableId)
  pub reads : ℕ

-- one read more, as far as 64 bits count
abbrev pub one_read_more : ℕ → ℕ
one_read_more reads = if nat_lt reads (2 ^ 64 - 1) then reads + 1 else reads

abbrev pub with_reads : Stood → ℕ → Stood
with_reads s reads = record { env = s.env; threads = s.threads; cells = s.cells; reads = reads }

-- the desks are this environment's
abbrev pub AreOneEnvironments : EnvNo → List DeskState → Type 0
AreOneEnvironments env desks = (i : ℕ) (p : DeskState) → slice_get desks i ≡ Some p → p.env ≡ env

-- a desk at which a read may be made
pub record MayRead (env : EnvNo) (state : EnvValue) (p : DeskState) (thread : ThreadNo) (max_count : ℤ) (buf : buffer.Trace) : Type 0 where
  pub env_is : p.env ≡ env
  pub stands : is_standing p.view.subject.limits p.view.seen p.env ≡ true
  pub paid : left_at state thread + calls_spent p.env p.view.mine ≤ p.view.subject.limits.calls
  pub room : HasRoomFor p.view.subject.limits (or_zero max_count) buf

-- What a read shows. It is the reply at its place: the mode and the frames that the desk had seen, after the pops that
-- others added since. The thread is still standing
pub record IsRead (old new : DeskState) (max_count : ℤ) (a : Answer) : Type 0 where
  pub last : new.view.seen ≡ found old.view new.view ++ Read old.env max_count ∷ []
  pub replied : reply old.view.subject.limits new.view.seen (length (found old.view new.view)) ≡ Some a
  pub here : StartsWith (found old.view new.view) old.view.seen
  pub tells : TellsOf old.view.subject.limits old.view.seen here.0 max_count a
  pub stands : is_standing old.view.subject.limits new.view.seen old.env ≡ true
