-- The events of a walk: a table of words for each subject, and what the further elements are.
use Rattle.std.specs.Prelude.{ℕ, ◌++◌, ◌+◌, ◌^◌, ◌==◌, ℤ, List, [], ◌∷◌, length, codes, Option, None, Some, Result, Ok, Err, option_and_then, map, nat_lt, int_le, negsuc, pos, ◌&&◌, if◌then◌else◌}
use Rattle.std.specs.Option.{option_map, option_map_or, ok_or}
use Rattle.std.specs.Str.{bytes_eq}
use Rattle.std.specs.List.{list_all}
use Rattle.std.specs.Map.{lookup}
use Rattle.serde_json.specs.Data.{Data}
use Rattle.serde_json.specs.Find.{as_str, as_number, as_i64}
use Rattle.ti_types.specs.declared.event.Event.{Event}
use Rattle.ti_types.specs.declared.event.Event.TheVariants.{Start, Own, Poll, ToNative, ToBlocked, Back, End, Ask, Stop, Read, Go, AddCaps, Relinquish, GetCaps, SetEnvWord, GetEnvWord}
use Rattle.ti_types.specs.declared.step.Step.TheVariants.{Enter, EnterNative, At, Leave}
use Rattle.ti_types.specs.declared.call.Call.TheVariants.{State, FrameCount, Trace, Location, Suspend, Resume, GetWord, SetWord, Pop}
use Rattle.ti_types.specs.declared.state.Kind.{Kind}
use Rattle.ti_types.specs.declared.state.Kind.TheVariants.{MonitorEnter, ObjectWait, TimedWait, Sleep, Park, TimedPark}
use Rattle.ti_types.specs.declared.caps.Caps.{Caps}
use Rattle.ti_types.specs.Caps.{no_caps, caps_with}
use Rattle.ti_types.specs.declared.numbers.ThreadNo.{ThreadNo}
use Rattle.ti_types.specs.declared.numbers.EnvNo.{EnvNo}
use Rattle.ti_types.specs.declared.numbers.MethodNo.{MethodNo}
use Rattle.ti_script.specs.declared.located.LocatedFault.{LocatedFault}
use Rattle.ti_script.specs.declared.item.Item.{Item}
use Rattle.ti_script.specs.declared.item.Spot.{Spot}
use Rattle.ti_script.specs.declared.names.Cast.{Cast}
use Rattle.ti_script.specs.Names.{number_in}
use Rattle.ti_script.specs.Tree.{array_in, whole_in}
use Rattle.ti_script.specs.Head.{is_text, text_in}
use Rattle.ti_script.specs.Spots.{walk_item, subject_of, behind_word, shape_of, shape_at, name_at}

-- the first fault ends the reading
infixl 10 ◌>>=◌
abbrev pub ◌>>=◌ : {A B : Type 0} → Result A LocatedFault → (A → Result B LocatedFault) → Result B LocatedFault
(Ok x) >>= f = f x
(Err e) >>= f = Err e

-- ---- the further elements of an event

pub data Element : Type 0 where
  thread : Element
  method : Element
  kind : Element
  number : Element
  signed : Element
  word : Element
  caps : Element

abbrev pub Given : Element → Type 0
Given thread = ThreadNo
Given method = MethodNo
Given kind = Kind
Given number = ℕ
Given signed = ℤ
Given word = ℕ
Given caps = Caps

-- a function that makes an event of its further elements
abbrev pub Maker : List Element → Type 0
Maker [] = Event
Maker (e ∷ es) = Given e → Maker es

pub record Row : Type 0 where
  pub elements : List Element
  pub event : Maker elements

abbrev pub row : (elements : List Element) → Maker elements → Row
row elements event = record { elements = elements; event = event }

-- the words of a thread
abbrev pub thread_table : ThreadNo → List (List ℕ × Row)
thread_table t =
    (codes "start", row [] (Start t))
    ∷ (codes "enter", row (method ∷ []) (λ m. Own t (Enter m)))
    ∷ (codes "enter_native", row (method ∷ []) (λ m. Own t (EnterNative m)))
    ∷ (codes "at", row (number ∷ []) (λ p. Own t (At p)))
    ∷ (codes "leave", row [] (Own t Leave))
    ∷ (codes "poll", row [] (Poll t))
    ∷ (codes "native", row [] (ToNative t))
    ∷ (codes "block", row (kind ∷ []) (λ k. ToBlocked t k))
    ∷ (codes "back", row [] (Back t))
    ∷ (codes "end", row [] (End t))
    ∷ []

-- the words by which an agent asks a thread
abbrev pub ask_table : EnvNo → List (List ℕ × Row)
ask_table e =
    (codes "state", row (thread ∷ []) (λ t. Ask e t State))
    ∷ (codes "count", row (thread ∷ []) (λ t. Ask e t FrameCount))
    ∷ (codes "trace", row (thread ∷ signed ∷ signed ∷ []) (λ t s n. Ask e t (Trace s n)))
    ∷ (codes "location", row (thread ∷ signed ∷ []) (λ t d. Ask e t (Location d)))
    ∷ (codes "suspend", row (thread ∷ []) (λ t. Ask e t Suspend))
    ∷ (codes "resume", row (thread ∷ []) (λ t. Ask e t Resume))
    ∷ (codes "get", row (thread ∷ []) (λ t. Ask e t GetWord))
    ∷ (codes "set", row (thread ∷ word ∷ []) (λ t w. Ask e t (SetWord w)))
    ∷ (codes "pop", row (thread ∷ []) (λ t. Ask e t Pop))
    ∷ []

-- the words about an environment alone
abbrev pub env_table : EnvNo → List (List ℕ × Row)
env_table e =
    (codes "add", row (caps ∷ []) (λ c. AddCaps e c))
    ∷ (codes "relinquish", row (caps ∷ []) (λ c. Relinquish e c))
    ∷ (codes "caps", row [] (GetCaps e))
    ∷ (codes "setenv", row (word ∷ []) (λ w. SetEnvWord e w))
    ∷ (codes "getenv", row [] (GetEnvWord e))
    ∷ []

-- the words of an agent for stops, capabilities and its environment's own word
abbrev pub service_table : EnvNo → List (List ℕ × Row)
service_table e =
    (codes "stop", row (thread ∷ []) (λ t. Stop e t))
    ∷ (codes "read", row (thread ∷ signed ∷ []) (λ t n. Read e t n))
    ∷ (codes "go", row (thread ∷ []) (λ t. Go e t))
    ∷ env_table e

-- the words of an agent
abbrev pub agent_table : EnvNo → List (List ℕ × Row)
agent_table e = ask_table e ++ service_table e

-- the words of the subject of that name
abbrev pub subject_table : Cast → List ℕ → Option (List (List ℕ × Row))
subject_table cast name = option_map_or (λ t. Some (thread_table (record { 0 = t }))) (number_in cast.threads name)
    (option_map (λ e. agent_table (record { 0 = e })) (number_in cast.agents name))

-- the words for the kinds of block
abbrev pub kind_named : List ℕ → Option Kind
kind_named text =
    if bytes_eq text (codes "monitor") then Some MonitorEnter
    else (if bytes_eq text (codes "wait") then Some ObjectWait
    else (if bytes_eq text (codes "timed_wait") then Some TimedWait
    else (if bytes_eq text (codes "sleep") then Some Sleep
    else (if bytes_eq text (codes "park") then Some Park
    else (if bytes_eq text (codes "timed_park") then Some TimedPark
    else None)))))

-- the words for capabilities
abbrev pub cap_named : List ℕ → Option Caps
cap_named text =
    if bytes_eq text (codes "can_suspend") then Some (record { bits = 1 })
    else (if bytes_eq text (codes "can_pop_frame") then Some (record { bits = 2 })
    else (if bytes_eq text (codes "can_tag_objects") then Some (record { bits = 4 })
    else None))

abbrev pub u32_in : Data → Option ℕ
u32_in d = option_and_then (λ n. if nat_lt n (2 ^ 32) then Some n else None) (whole_in d)

abbrev pub i32_in : Data → Option ℤ
i32_in d = option_and_then (λ z. if int_le (negsuc 2147483647) z && int_le z (pos 2147483647) then Some z else None) (option_and_then as_i64 (as_number d))

-- the capabilities of these names, added to these
abbrev pub caps_named : Caps → List (List ℕ) → Option Caps
caps_named held [] = Some held
caps_named held (text ∷ more) = option_and_then (λ cap. caps_named (caps_with held cap) more) (cap_named text)

module _ (cast : Cast) (spot : Spot) where
  -- a text that names something, or the fault if it does not
  abbrev pub named : {A : Type 0} → (List ℕ → Option A) → LocatedFault → Data → Result A LocatedFault
  named meaning fault d = ok_or (as_str d) (shape_at spot) >>= λ text. ok_or (meaning text) fault

  abbrev pub thread_named : List ℕ → Option ThreadNo
  thread_named text = option_map (λ n. record { 0 = n }) (number_in cast.threads text)

  abbrev pub method_named : List ℕ → Option MethodNo
  method_named text = option_map (λ n. record { 0 = n }) (number_in cast.methods text)

  abbrev pub caps_in : List Data → Result Caps LocatedFault
  caps_in ds = if list_all is_text ds then ok_or (caps_named no_caps (map text_in ds)) (name_at spot) else Err (shape_at spot)

  -- what an element gives
  abbrev pub given : (element : Element) → Data → Result (Given element) LocatedFault
  given thread d = if is_text d then named thread_named (name_at spot) d else ok_or (option_map (λ n. record { 0 = n }) (u32_in d)) (shape_at spot)
  given method d = named method_named (name_at spot) d
  given kind d = named kind_named (shape_at spot) d
  given number d = ok_or (u32_in d) (shape_at spot)
  given signed d = ok_or (i32_in d) (shape_at spot)
  given word d = ok_or (whole_in d) (shape_at spot)
  given caps d = ok_or (array_in d) (shape_at spot) >>= caps_in

module _ (cast : Cast) (item : Item) where
  -- the event, once each element has given its value, from left to right; the first is this many places after the word
  abbrev pub filled : (places : ℕ) → (elements : List Element) → Maker elements → List Data → Result Event LocatedFault
  filled places [] event ds = Ok event
  filled places (e ∷ es) event [] = Err (shape_of item)
  filled places (e ∷ es) event (d ∷ ds) = given cast (behind_word item places) e d >>= λ x. filled (places + 1) es (event x) ds

  abbrev pub row_event : List Data → Row → Result Event LocatedFault
  row_event ds r = if length ds == length r.elements then filled 1 r.elements r.event ds else Err (shape_of item)

  abbrev pub word_event : List (List ℕ × Row) → List ℕ → List Data → Result Event LocatedFault
  word_event table text ds = ok_or (lookup (bytes_eq text) table) (shape_at (behind_word item 0)) >>= row_event ds

  abbrev pub subject_event : List ℕ → List ℕ → List Data → Result Event LocatedFault
  subject_event subject text ds =
      ok_or (subject_table cast subject) (name_at (subject_of item)) >>= λ table. word_event table text ds

  -- an event: a subject, a word, and the elements of the word's row
  abbrev pub list_event : List Data → Result Event LocatedFault
  list_event (a ∷ b ∷ ds) = ok_or (as_str a) (shape_at (subject_of item)) >>= λ subject. ok_or (as_str b) (shape_at (behind_word item 0)) >>= λ text. subject_event subject text ds
  list_event ds = Err (shape_of item)

-- the event in the item of this number
abbrev pub event_in : Cast → ℕ → Data → Result Event LocatedFault
event_in cast n d = ok_or (array_in d) (shape_of (walk_item n)) >>= list_event cast (walk_item n)
