-- Stack traces of several threads at once. A list of threads is one of their places, if nothing else is said.
use Rattle.std.specs.Prelude.{ℕ, ℤ, zero, suc, ◌≡◌, ◌+◌, ◌-◌, ◌≤◌, Bool, true, false, ◌==◌, bit_and, nat_lt, nat_eq, if◌then◌else◌, List, [], ◌∷◌, ◌++◌, length, map, Option, Some, None, slice_get}
use Rattle.std.specs.List.{filter, list_all}
use Rattle.std.specs.Map.{lookup}
use Rattle.ti_types.specs.declared.answer.Answer.{Answer}
use Rattle.ti_types.specs.declared.answer.Answer.TheVariants as answer
use Rattle.ti_types.specs.declared.error.TiError.{TiError}
use Rattle.ti_types.specs.declared.error.TiError.TheVariants.{InvalidThread, IllegalArgument, CallsSpent, OutOfMemory}
use Rattle.ti_types.specs.declared.entry.Entry.TheVariants.{Stop, Read, Go}
use Rattle.ti_types.specs.declared.numbers.ThreadNo.{ThreadNo}
use Rattle.ti_types.specs.declared.place.Frame.{Frame}
use Rattle.ti_types.specs.Numbers.{is_not_negative}
use Rattle.ti_types.specs.Refusing.{or_else, unless}
use Rattle.ti_env.specs.Env.{EnvValue, spent_at, left_at, with_spent}
use Rattle.ti_replay.specs.Legal.{calls_spent}
use Rattle.ti_replay.specs.Standing.{is_standing}
use Rattle.ti_handshake.specs.Desk.{DeskState}
use Rattle.ti_replay.specs.Fronts.{stops_by}
use Rattle.ti_vmop.specs.Turns.{Listed, is_listed, are_paid, spend_all, AtEach, AllStand, IsRead}
use Rattle.ti_vmop.specs.declared.global_stops.Round.{Round}
use Rattle.ti_agent.specs.Env.{Environment, AreInOrder, thread_at, threads_of}
use Rattle.ti_types.specs.declared.stack.StackInfo.{StackInfo}

-- this many threads, in the order of their places
abbrev pub each_thread : ℕ → List ThreadNo
each_thread zero = []
each_thread (suc n) = each_thread n ++ (record { 0 = n }) ∷ []

-- the same threads, each with one read to come
abbrev pub all_once : ℕ → Listed
all_once zero = []
all_once (suc n) = all_once n ++ (record { 0 = n }, 1) ∷ []

-- how often a thread is in a list
abbrev pub times : ℕ → List ThreadNo → ℕ
times i [] = 0
times i (x ∷ threads) = if x.0 == i then suc (times i threads) else times i threads

-- a thread with this many reads to come; nothing if there are none
abbrev pub where_some : ℕ → ℕ → Listed
where_some i reads = if reads == 0 then [] else (record { 0 = i }, reads) ∷ []

-- the threads of a list whose places are below this one, each once, in the order of their places. Each has as many reads
-- to come as it has elements in the list
abbrev pub each_once : ℕ → List ThreadNo → Listed
each_once zero threads = []
each_once (suc n) threads = each_once n threads ++ where_some n (times n threads)

-- whether all threads of a list exist, when there are this many threads
abbrev pub are_there : ℕ → List ThreadNo → Bool
are_there count threads = list_all (λ x. nat_lt x.0 count) threads

-- why no thread is traced, lack of memory for the result aside
abbrev pub refusal_of_all : EnvValue → ℤ → Option TiError
refusal_of_all state max_count =
    or_else (unless (is_not_negative max_count) IllegalArgument)
    (unless (are_paid state (all_once (length state.spent))) CallsSpent)

-- why the threads of a list are not traced, before each thread's elements are counted
abbrev pub refusal_of_list : EnvValue → List ThreadNo → ℤ → Option TiError
refusal_of_list state threads max_count =
    or_else (unless (are_there (length state.spent) threads) InvalidThread)
    (unless (is_not_negative max_count) IllegalArgument)

-- why they are not traced, once they were counted
abbrev pub refusal_of_counted : EnvValue → List ThreadNo → Option TiError
refusal_of_counted state threads = unless (are_paid state (each_once (length state.spent) threads)) CallsSpent

-- A list was refused. A lack of memory is reported if no other refusal comes first. The refusal for too few calls left comes
-- only if there was memory to count
pub record IsListRefused (state : EnvValue) (threads : List ThreadNo) (max_count : ℤ) (e : TiError) : Type 0 where
  pub counted : Bool
  pub first : Some e ≡ or_else (refusal_of_list state threads max_count) (or_else (if counted then refusal_of_counted state threads else None) (Some OutOfMemory))

-- whether the bits of a thread say that it is alive
abbrev pub is_alive : ℕ → Bool
is_alive bits = bit_and bits 1 == 1

-- the answer to a read, and the place and the number of the thread that was read
pub record Telling : Type 0 where
  pub place : ThreadNo
  pub thread : ThreadNo
  pub answer : Answer

-- a thread's number, its state and its frames, the newest first
pub record Told : Type 0 where
  pub thread : ThreadNo
  pub state : ℕ
  pub frames : List Frame

abbrev pub told_info : StackInfo → Told
told_info info = record { thread = info.thread; state = info.state; frames = info.frames.frames }

abbrev pub told_stack : ThreadNo → Answer → List Told
told_stack thread (answer.Stack bits b) = record { thread = thread; state = bits; frames = b.frames } ∷ []
told_stack thread _ = []

-- whether an answer has a thread's stack
abbrev pub is_stack : Answer → Bool
is_stack (answer.Stack bits b) = true
is_stack _ = false

-- the stacks of all these answers, one after another
abbrev pub told_each : List Telling → List Told
told_each [] = []
told_each (x ∷ more) = told_stack x.thread x.answer ++ told_each more

-- one call is spent at the thread, and its desk read it by one hold. Nothing else changed
pub record ReadsOne (old new : Environment) (max_count : ℤ) (x : Telling) : Type 0 where
  pub env_is : new.env ≡ old.env
  pub about : x.thread ≡ thread_at old.desks x.place.0
  pub state_is : new.state ≡ with_spent old.state x.place
  pub desks : AtEach ((x.place, 0) ∷ []) old.desks new.desks (λ e. Read e max_count ∷ [])
  pub answer_is : (p q : DeskState) → slice_get old.desks x.place.0 ≡ Some p → slice_get new.desks x.place.0 ≡ Some q → IsRead p q max_count x.answer

-- one thread is read after another
abbrev pub ReadsEach : Environment → Environment → ℤ → List Telling → Type 0
ReadsEach old new max_count [] = new ≡ old
ReadsEach old new max_count (x ∷ more) = (next : Environment) × ReadsOne old next max_count x × ReadsEach next new max_count more

-- the threads at the places of a list were read, one after another, each as often as it is in the list; these are their
-- numbers, and the results
pub record HasRead (old new : Environment) (max_count : ℤ) (places threads : List ThreadNo) (infos : List StackInfo) : Type 0 where
  pub tellings : List Telling
  pub reads : ReadsEach old new max_count tellings
  pub at_each : map (λ x. x.place) tellings ≡ places
  pub of_each : map (λ x. x.thread) tellings ≡ threads
  pub told : map told_info infos ≡ told_each tellings
  pub each : map (λ x. x.thread) infos ≡ threads

-- the threads of a list are stopped, and all of them are standing
pub record Stops (old new : Environment) (threads : Listed) : Type 0 where
  pub env_is : new.env ≡ old.env
  pub state_is : new.state ≡ spend_all old.state threads
  pub desks : AtEach threads old.desks new.desks (λ e. Stop e ∷ [])
  pub stand : AllStand threads new.desks

-- they are let go, which costs nothing
pub record LetsGo (old new : Environment) (threads : Listed) : Type 0 where
  pub env_is : new.env ≡ old.env
  pub state_is : new.state ≡ old.state
  pub desks : AtEach threads old.desks new.desks (λ e. Go e ∷ [])

-- Each thread of a list is stopped once. Then each is read as often as it is in the list, in the list's order. Then all are
-- let go. The round is the environment's, over all of them. The list is of places, and the threads have these numbers
pub record IsTraced (old new : Environment) (max_count : ℤ) (stopping : Listed) (places threads : List ThreadNo) (infos : List StackInfo) (round : Round) : Type 0 where
  pub stopped : Environment
  pub seen : Environment
  pub stops : Stops old stopped stopping
  pub reads : HasRead stopped seen max_count places threads infos
  pub goes : LetsGo seen new stopping
  pub env_is : round.env ≡ old.env
  pub threads_are : round.threads ≡ length stopping
  pub reads_are : round.reads ≡ length threads

-- all threads were traced, and these are those that are alive
pub record TracesAlive (old new : Environment) (max_count : ℤ) (infos : List StackInfo) (round : Round) : Type 0 where
  pub all : List StackInfo
  pub traced : IsTraced old new max_count (all_once (length old.desks)) (each_thread (length old.desks)) (threads_of old.desks) all round
  pub alive : infos ≡ filter (λ x. is_alive x.state) all

-- The environment's desk at place i, between the stops and the gos. A thread of the list is standing
pub record IsStopped (s : Environment) (threads : Listed) (i : ℕ) (p : DeskState) : Type 0 where
  pub env_is : p.env ≡ s.env
  pub about : p.view.subject.limits ≡ s.state.limits
  pub stands : is_listed i threads ≡ true → is_standing p.view.subject.limits p.view.seen p.env ≡ true
  pub free : is_listed i threads ≡ false → stops_by p.env p.view.mine ≡ false
  pub paid : s.state.limits.calls - spent_at s.state (record { 0 = i }) + calls_spent p.env p.view.mine ≤ s.state.limits.calls
  pub within : length p.view.posted ≤ s.state.limits.window

-- an environment between the stops and the gos
pub record AreStopped (s : Environment) (threads : Listed) : Type 0 where
  pub count : length s.state.spent ≡ length s.desks
  pub in_order : AreInOrder s.desks
  pub desks : (i : ℕ) (p : DeskState) → slice_get s.desks i ≡ Some p → IsStopped s threads i p

-- each thread has a call left for each time that it is in a list
abbrev pub AreLeft : EnvValue → List ThreadNo → Type 0
AreLeft state threads = (i : ℕ) → times i threads ≤ left_at state (record { 0 = i })

-- the threads of a list are all among those that are stopped
abbrev pub AreListed : Listed → List ThreadNo → Type 0
AreListed stopping threads = list_all (λ x. is_listed x.0 stopping) threads ≡ true

-- The threads of a list were not counted. There was no memory to count them, or a thread has fewer calls left than its stop
-- and its reads cost
pub record IsNotCounted (state : EnvValue) (threads : List ThreadNo) (e : TiError) : Type 0 where
  pub counted : Bool
  pub is : Some e ≡ (if counted then refusal_of_counted state threads else Some OutOfMemory)

-- how often a thread is in a list, if it is there at all
abbrev pub counted : ℕ → List ThreadNo → Option ℕ
counted i threads = if times i threads == 0 then None else Some (times i threads)

-- for each place, how often its thread is in a list
abbrev pub AreCounts : List ThreadNo → List (ℕ × ℕ) → Type 0
AreCounts threads counts = (i : ℕ) → lookup (nat_eq i) counts ≡ counted i threads

-- counts, in their order, as threads with their reads to come
abbrev pub listed_of : List (ℕ × ℕ) → Listed
listed_of counts = map (λ e. (record { 0 = e.0 }, e.1)) counts
