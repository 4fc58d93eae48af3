-- The live script that a document says, and the first fault of a document that says none.
use Rattle.std.specs.Prelude.{◌≡◌, ◌+◌, ◌==◌, ◌&&◌, ◌||◌, ℕ, Bool, List, [], ◌∷◌, ◌++◌, length, codes, nat_le, is_some, true, if◌then◌else◌, Option, None, Some, Result, Ok, Err}
use Rattle.std.specs.Option.{ok_or}
use Rattle.std.specs.Result.{result_err}
use Rattle.std.specs.List.{list_all, sum_by}
use Rattle.std.specs.Str.{bytes_eq}
use Rattle.std.specs.Map.{lookup}
use Rattle.serde_json.specs.Data.{Data}
use Rattle.serde_json.specs.Find.{as_str}
use Rattle.ti_types.specs.declared.event.Event.{Event}
use Rattle.ti_types.specs.declared.event.Event.TheVariants as event
use Rattle.ti_types.specs.declared.numbers.ThreadNo.{ThreadNo}
use Rattle.ti_types.specs.declared.numbers.EnvNo.{EnvNo}
use Rattle.ti_live.specs.declared.call.AgentCall.{AgentCall}
use Rattle.ti_live.specs.declared.call.AgentCall.TheVariants.{Ask, AddCaps, Relinquish, GetCaps, SetEnvWord, GetEnvWord, SuspendList, ResumeList, AllStacks, ListStacks}
use Rattle.ti_script.specs.declared.fault.LimitName.TheVariants.{Walks, CallsList}
use Rattle.ti_script.specs.declared.located.MemberName.{MemberName}
use Rattle.ti_script.specs.declared.located.MemberName.TheVariants as member
use Rattle.ti_script.specs.declared.located.LocatedFault.{LocatedFault}
use Rattle.ti_script.specs.declared.item.Item.{Item}
use Rattle.ti_script.specs.declared.item.Spot.{Spot}
use Rattle.ti_script.specs.declared.located.LocatedFault.TheVariants.{Limit}
use Rattle.ti_script.specs.declared.names.Cast.{Cast}
use Rattle.ti_script.specs.declared.live.Live.{Live}
use Rattle.ti_script.specs.Tree.{at, array_in, elements}
use Rattle.ti_script.specs.Faults.{unless, first_of, member_shape}
use Rattle.ti_script.specs.Head.{is_within, is_text, members_fault, limits_fault, bounds_of, cast_fault, texts}
use Rattle.ti_script.specs.Events.{◌>>=◌, Row, thread, signed, given, u32_in, ask_table, env_table, thread_table, word_event}
use Rattle.ti_script.specs.Spots.{listed_item, behind_word, shape_of, shape_at}
use Rattle.ti_script.specs.Walks.{cast_of}

-- ---- the head

abbrev pub live_members : List MemberName
live_members = member.Limits ∷ member.Threads ∷ member.Agents ∷ member.Methods ∷ member.Walks ∷ member.Calls ∷ []

-- an array of this many arrays
abbrev pub are_lists : ℕ → Data → Bool
are_lists count d = is_some (array_in d) && (length (elements d) == count && list_all (λ x. is_some (array_in x)) (elements d))

-- how many elements the arrays of an array have in all
abbrev pub count_in_all : List Data → ℕ
count_in_all ds = sum_by (λ x. length (elements x)) ds

-- the tests of the two arrays of lists: one list for each thread, one for each agent, and then the two counts
abbrev pub lists_fault : Cast → Data → Option LocatedFault
lists_fault cast d = first_of
    (unless (are_lists (length cast.threads) (at (codes "walks") d)) (member_shape member.Walks)
    ∷ unless (are_lists (length cast.agents) (at (codes "calls") d)) (member_shape member.Calls)
    ∷ unless (is_within 0 65536 (count_in_all (elements (at (codes "walks") d)))) (Limit Walks)
    ∷ unless (is_within 0 65536 (count_in_all (elements (at (codes "calls") d)))) (Limit CallsList)
    ∷ [])

-- ---- the items

-- the words of an agent that also make an event of a walk, without stops, reads and gos
abbrev pub one_table : EnvNo → List (List ℕ × Row)
one_table e = ask_table e ++ env_table e

-- the call of an event of these tables
abbrev pub as_call : Event → AgentCall
as_call (event.Ask e t c) = Ask t c
as_call (event.AddCaps e c) = AddCaps c
as_call (event.Relinquish e c) = Relinquish c
as_call (event.SetEnvWord e n) = SetEnvWord n
as_call (event.GetEnvWord e) = GetEnvWord
as_call _ = GetCaps

-- a thread's name or number
abbrev pub is_thread_element : Data → Bool
is_thread_element d = is_text d || is_some (u32_in d)

module _ (cast : Cast) (spot : Spot) where
  abbrev pub threads_given : List Data → Result (List ThreadNo) LocatedFault
  threads_given [] = Ok []
  threads_given (d ∷ ds) = given cast spot thread d >>= λ t. threads_given ds >>= λ ts. Ok (t ∷ ts)

  -- a list of threads: its length, the forms of its elements, and then its names
  abbrev pub threads_in : Data → Result (List ThreadNo) LocatedFault
  threads_in d = ok_or (array_in d) (shape_at spot) >>= λ ds. if nat_le (length ds) 1024 && list_all is_thread_element ds then threads_given ds else Err (shape_at spot)

module _ (cast : Cast) (item : Item) where
  abbrev pub of_threads : (List ThreadNo → AgentCall) → List Data → Result AgentCall LocatedFault
  of_threads make (d ∷ []) = threads_in cast (behind_word item 1) d >>= λ ts. Ok (make ts)
  of_threads make _ = Err (shape_of item)

  abbrev pub of_count : List Data → Result AgentCall LocatedFault
  of_count (d ∷ []) = given cast (behind_word item 1) signed d >>= λ n. Ok (AllStacks n)
  of_count _ = Err (shape_of item)

  abbrev pub of_both : List Data → Result AgentCall LocatedFault
  of_both (d ∷ f ∷ []) = threads_in cast (behind_word item 1) d >>= λ ts. given cast (behind_word item 2) signed f >>= λ n. Ok (ListStacks ts n)
  of_both _ = Err (shape_of item)

  -- the words of a live run alone
  abbrev pub list_table : List (List ℕ × (List Data → Result AgentCall LocatedFault))
  list_table =
      (codes "suspend_list", of_threads SuspendList)
      ∷ (codes "resume_list", of_threads ResumeList)
      ∷ (codes "all", of_count)
      ∷ (codes "list", of_both)
      ∷ []

  abbrev pub listed_or : Option (List Data → Result AgentCall LocatedFault) → List Data → Result AgentCall LocatedFault → Result AgentCall LocatedFault
  listed_or (Some read) ds other = read ds
  listed_or None ds other = other

  abbrev pub word_call : EnvNo → List ℕ → List Data → Result AgentCall LocatedFault
  word_call e text ds = listed_or (lookup (bytes_eq text) list_table) ds (word_event cast item (one_table e) text ds >>= λ x. Ok (as_call x))

  -- a word, and what comes after it
  abbrev pub worded : {A : Type 0} → (List ℕ → List Data → Result A LocatedFault) → List Data → Result A LocatedFault
  worded read [] = Err (shape_of item)
  worded read (b ∷ ds) = ok_or (as_str b) (shape_at (behind_word item 0)) >>= λ text. read text ds

-- the operation and the call in the item of this number
abbrev pub operation_in : Cast → ℕ → ThreadNo → Data → Result Event LocatedFault
operation_in cast number t d = ok_or (array_in d) (shape_of (listed_item number)) >>= worded cast (listed_item number) (word_event cast (listed_item number) (thread_table t))

abbrev pub call_in : Cast → ℕ → EnvNo → Data → Result AgentCall LocatedFault
call_in cast number e d = ok_or (array_in d) (shape_of (listed_item number)) >>= worded cast (listed_item number) (word_call cast (listed_item number) e)

-- the operations of one thread, as items that are numbered from this one on, or the first fault
abbrev pub operations_in : Cast → ThreadNo → ℕ → List Data → Result (List Event) LocatedFault
operations_in cast t item [] = Ok []
operations_in cast t item (d ∷ ds) = operation_in cast item t d >>= λ x. operations_in cast t (item + 1) ds >>= λ xs. Ok (x ∷ xs)

-- The walks of threads that are numbered from this one on. Their items are numbered on, over all threads
abbrev pub walks_in : Cast → (number : ℕ) → (item : ℕ) → List Data → Result (List (List Event)) LocatedFault
walks_in cast number item [] = Ok []
walks_in cast number item (d ∷ ds) =
    operations_in cast (record { 0 = number }) item (elements d) >>= λ w. walks_in cast (number + 1) (item + length (elements d)) ds >>= λ ws. Ok (w ∷ ws)

abbrev pub calls_of_one : Cast → EnvNo → ℕ → List Data → Result (List AgentCall) LocatedFault
calls_of_one cast e item [] = Ok []
calls_of_one cast e item (d ∷ ds) = call_in cast item e d >>= λ x. calls_of_one cast e (item + 1) ds >>= λ xs. Ok (x ∷ xs)

abbrev pub calls_in : Cast → (agent : ℕ) → (item : ℕ) → List Data → Result (List (List AgentCall)) LocatedFault
calls_in cast agent item [] = Ok []
calls_in cast agent item (d ∷ ds) =
    calls_of_one cast (record { 0 = agent }) item (elements d) >>= λ c. calls_in cast (agent + 1) (item + length (elements d)) ds >>= λ cs. Ok (c ∷ cs)

-- The walks, and then the calls. The items of the calls are numbered on after those of the walks
abbrev pub items_in : Cast → (walks calls : List Data) → Result (List (List Event) × List (List AgentCall)) LocatedFault
items_in cast walks calls = walks_in cast 0 1 walks >>= λ ws. calls_in cast 0 (1 + count_in_all walks) calls >>= λ cs. Ok (ws, cs)

abbrev pub items_of : Cast → Data → Result (List (List Event) × List (List AgentCall)) LocatedFault
items_of cast d = items_in cast (elements (at (codes "walks") d)) (elements (at (codes "calls") d))

-- the tests after those of the names: first of the two arrays of lists, and then of the items
abbrev pub body_fault : Cast → Data → Option LocatedFault
body_fault cast d = first_of (lists_fault cast d ∷ result_err (items_of cast d) ∷ [])

-- the first fault, in the order of the tests
abbrev pub live_fault : Data → Option LocatedFault
live_fault d = first_of
    (members_fault live_members d
    ∷ limits_fault (at (codes "limits") d)
    ∷ cast_fault d
    ∷ body_fault (cast_of d) d
    ∷ [])

-- the script is what the document says
pub record IsLive (d : Data) (l : Live) : Type 0 where
  pub bounds : (l.limits.depth, l.limits.own, l.limits.calls) ≡ bounds_of (at (codes "limits") d)
  pub threads : l.threads ≡ texts (at (codes "threads") d)
  pub agents : l.agents ≡ texts (at (codes "agents") d)
  pub methods : l.methods ≡ texts (at (codes "methods") d)
  pub items : items_of (cast_of d) d ≡ Ok (l.walks, l.calls)
  pub thread_count : l.limits.threads ≡ length l.threads
  pub agent_count : l.limits.envs ≡ length l.agents
  pub kept : l.limits.kept ≡ true
