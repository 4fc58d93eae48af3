-- The entries of a history: a table of words, and what comes after each word.
use Rattle.std.specs.Prelude.{ℕ, List, [], ◌∷◌, ◌+◌, ◌==◌, codes, Option, None, Some, Result, Ok, Err, unwrap_or, option_and_then, if◌then◌else◌}
use Rattle.std.specs.Option.{option_map, option_or, ok_or}
use Rattle.std.specs.Str.{bytes_eq}
use Rattle.std.specs.Map.{lookup}
use Rattle.serde_json.specs.Data.{Data}
use Rattle.serde_json.specs.Find.{as_str}
use Rattle.ti_types.specs.declared.numbers.EnvNo.{EnvNo}
use Rattle.ti_types.specs.declared.numbers.MethodNo.{MethodNo}
use Rattle.ti_types.specs.declared.state.Safe.{Safe}
use Rattle.ti_types.specs.declared.state.Safe.TheVariants.{Native, Blocked, AtPoll}
use Rattle.ti_types.specs.declared.step.Step.TheVariants.{Enter, EnterNative, At, Leave}
use Rattle.ti_types.specs.declared.call.Call.{Call}
use Rattle.ti_types.specs.declared.call.Call.TheVariants.{State, FrameCount, Trace, Location, Suspend, Resume, GetWord, SetWord, Pop}
use Rattle.ti_types.specs.declared.entry.Entry.{Entry}
use Rattle.ti_types.specs.declared.entry.Entry.TheVariants.{Start, Own, Hand, Back, End, Asked, Stop, Read, Go}
use Rattle.ti_script.specs.declared.located.LocatedFault.{LocatedFault}
use Rattle.ti_script.specs.declared.item.Item.{Item}
use Rattle.ti_script.specs.Spots.{listed_item, behind_word, shape_of, shape_at}
use Rattle.ti_script.specs.Tree.{array_in, whole_in}
use Rattle.ti_script.specs.Events.{◌>>=◌, u32_in, i32_in, kind_named}

-- what is made of the elements after a word
abbrev pub Behind : Type 0 → Type 0
Behind A = List Data → Result A LocatedFault

-- what a table makes of a word and the elements after it
abbrev pub by_table : {A : Type 0} → List (List ℕ × Behind A) → List ℕ → List Data → Option (Result A LocatedFault)
by_table table text ds = option_map (λ behind. behind ds) (lookup (bytes_eq text) table)

abbrev pub env_in : Data → Option EnvNo
env_in d = option_map (λ n. record { 0 = n }) (u32_in d)

abbrev pub number_of_method : Data → Option MethodNo
number_of_method d = option_map (λ n. record { 0 = n }) (u32_in d)

-- the words for the ways of being safe: `native`, `poll` and the kinds of block
abbrev pub safe_named : List ℕ → Option Safe
safe_named text =
    if bytes_eq text (codes "native") then Some Native
    else (if bytes_eq text (codes "poll") then Some AtPoll
    else option_map Blocked (kind_named text))

abbrev pub safe_in : Data → Option Safe
safe_in d = option_and_then safe_named (as_str d)

module _ (item : Item) where
  -- what the element this many places after the word gives
  abbrev pub element : {X : Type 0} → (places : ℕ) → (Data → Option X) → Data → Result X LocatedFault
  element places meaning d = ok_or (meaning d) (shape_at (behind_word item places))

  -- no element, one or two, from this place after the word on, read from left to right
  abbrev pub none : {A : Type 0} → A → Behind A
  none x [] = Ok x
  none x (d ∷ ds) = Err (shape_of item)

  abbrev pub one : {A X : Type 0} → (places : ℕ) → (Data → Option X) → (X → A) → Behind A
  one places first make [] = Err (shape_of item)
  one places first make (d ∷ []) = element places first d >>= λ x. Ok (make x)
  one places first make (d ∷ e ∷ ds) = Err (shape_of item)

  abbrev pub two : {A X Y : Type 0} → (places : ℕ) → (Data → Option X) → (Data → Option Y) → (X → Y → A) → Behind A
  two places first second make [] = Err (shape_of item)
  two places first second make (d ∷ []) = Err (shape_of item)
  two places first second make (d ∷ e ∷ []) = element places first d >>= λ x. element (places + 1) second e >>= λ y. Ok (make x y)
  two places first second make (d ∷ e ∷ f ∷ ds) = Err (shape_of item)

  -- the entries of a thread itself
  abbrev pub own_table : List (List ℕ × Behind Entry)
  own_table =
      (codes "start", none Start)
      ∷ (codes "back", none Back)
      ∷ (codes "end", none End)
      ∷ (codes "enter", one 1 number_of_method (λ m. Own (Enter m)))
      ∷ (codes "enter_native", one 1 number_of_method (λ m. Own (EnterNative m)))
      ∷ (codes "at", one 1 u32_in (λ p. Own (At p)))
      ∷ (codes "leave", none (Own Leave))
      ∷ (codes "hand", one 1 safe_in Hand)
      ∷ []

  -- the calls of both formats; their elements come after the environment, the number and the call's word
  abbrev pub call_table : List (List ℕ × Behind Call)
  call_table =
      (codes "state", none State)
      ∷ (codes "count", none FrameCount)
      ∷ (codes "trace", two 4 i32_in i32_in Trace)
      ∷ (codes "location", one 4 i32_in Location)
      ∷ (codes "suspend", none Suspend)
      ∷ (codes "resume", none Resume)
      ∷ (codes "get", none GetWord)
      ∷ (codes "set", one 4 whole_in SetWord)
      ∷ []

  -- the calls of format 2 alone
  abbrev pub later_call_table : List (List ℕ × Behind Call)
  later_call_table = (codes "pop", none Pop) ∷ []

  abbrev pub call_in : (format : ℕ) → List ℕ → Behind Call
  call_in format text ds =
      unwrap_or (option_or (by_table call_table text ds) (if format == 2 then by_table later_call_table text ds else None)) (Err (shape_at (behind_word item 3)))

  -- an environment, the number of its call, and the call
  abbrev pub asked : (format : ℕ) → Behind Entry
  asked format (e ∷ k ∷ w ∷ ds) =
      element 1 env_in e >>= λ env. element 2 u32_in k >>= λ number. element 3 as_str w >>= λ text. call_in format text ds >>= λ call. Ok (Asked env number call)
  asked format _ = Err (shape_of item)

  -- the entries of an environment
  abbrev pub environment_table : (format : ℕ) → List (List ℕ × Behind Entry)
  environment_table format =
      (codes "asked", asked format)
      ∷ (codes "stop", one 1 env_in Stop)
      ∷ (codes "read", two 1 env_in i32_in Read)
      ∷ (codes "go", one 1 env_in Go)
      ∷ []

  -- an entry: a word and what comes after it
  abbrev pub listed_entry : (format : ℕ) → List Data → Result Entry LocatedFault
  listed_entry format [] = Err (shape_of item)
  listed_entry format (d ∷ ds) =
      element 0 as_str d >>= λ text. unwrap_or (option_or (by_table own_table text ds) (by_table (environment_table format) text ds)) (Err (shape_at (behind_word item 0)))

-- the entry in the item of this number
abbrev pub entry_in : (format n : ℕ) → Data → Result Entry LocatedFault
entry_in format n d = ok_or (array_in d) (shape_of (listed_item n)) >>= listed_entry (listed_item n) format

-- the entries of items that are numbered from this one on, or the first fault
abbrev pub entries_in : (format n : ℕ) → List Data → Result (List Entry) LocatedFault
entries_in format n [] = Ok []
entries_in format n (d ∷ ds) = entry_in format n d >>= λ x. entries_in format (n + 1) ds >>= λ xs. Ok (x ∷ xs)
