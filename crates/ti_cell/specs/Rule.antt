-- The rule of a cell, and what each step shows.
use Rattle.std.specs.Prelude.{ℕ, suc, ◌≡◌, ◌≢◌, ◌≤◌, ◌+◌, ◌⊎◌, if◌then◌else◌, Bool, true, false, List, [], ◌∷◌, length, Option, Some, None}
use mathlib.Core.Option.{some, none}
use mathlib.Core.Option as maybe
use lib.ListN.{get_elem?}
use Rattle.atomic_table.specs.Table.{State, Me, Step}
use Rattle.ti_types.specs.declared.entry.Entry.{Entry}
use Rattle.ti_types.specs.declared.event.Ticket.{Ticket}
use Rattle.ti_types.specs.declared.limits.Limits.{Limits}
use Rattle.ti_replay.specs.Legal.{is_legal}
use Rattle.ti_slot.specs.Thread.{Thread}
use Rattle.ti_cell.specs.declared.view.Subject.{Subject}
use Rattle.ti_cell.specs.declared.view.User.{User}
use Rattle.ti_cell.specs.declared.view.View.{View}
use Rattle.ti_replay.specs.Makers.{made_by, StartsWith}
use Rattle.ti_cell.specs.View.{IsAbout, tickets_of, tickets_but, holding, stored, glanced, made_from, posted_from}
use Rattle.ti_cell.specs.Word.{word_of, look_of, IsLook}

abbrev pub Each : {A : Type 0} → (A → Type 0) → List A → Type 0
Each P [] = Unit {0}
Each P (x ∷ xs) = P x × Each P xs

-- what the seat j knows of the history, when `count` seats were made
pub record Knows (subject : Subject) (history : List Entry) (tickets : List Ticket) (count j : ℕ) (v : View) : Type 0 where
  pub numbered : v.number ≡ j
  pub made : j ≡ 0 → v.made ≡ count
  pub about : v.subject ≡ subject
  pub begins : StartsWith history v.seen
  pub all_mine : v.mine ≡ made_by j history
  pub posted : v.posted ≡ tickets_of j tickets
  pub looks : Each (IsLook subject.limits history) v.looked

-- A seat holds only if it is the holder and the lock bit is set. Then it has seen the whole history and all tickets, and has
-- not come back
abbrev pub Holds : List Entry → List Ticket → Bool → ℕ → ℕ → View → Type 0
Holds history tickets locked holder j v = v.holds ≡ true → (locked ≡ true) × (j ≡ holder) × (v.seen ≡ history) × (v.found ≡ tickets) × (v.gone ≡ false)

-- What a user knows is true of this history and these tickets. The history begins with all that the user had seen. Its
-- entries with the user's number are exactly those that the user made
pub record IsSo (limits : Limits) (history : List Entry) (tickets : List Ticket) (u : User) : Type 0 where
  pub begins : StartsWith history u.seen
  pub all_mine : u.mine ≡ made_by u.number history
  pub posted : u.posted ≡ tickets_of u.number tickets
  pub looks : Each (IsLook limits history) u.looked

-- the seat j came back to the owner's
abbrev pub IsGone : List View → ℕ → Type 0
IsGone views j = (v : View) × (get_elem? views j ≡ some v) × (v.gone ≡ true)

-- a user with the number j is among these
abbrev pub IsAmong : ℕ → List User → Type 0
IsAmong j [] = ⊥
IsAmong j (u ∷ us) = (u.number ≡ j) ⊎ IsAmong j us

-- how many seats have not come back
abbrev pub left_out : List View → ℕ
left_out [] = 0
left_out (v ∷ vs) = if v.gone then left_out vs else suc (left_out vs)

-- `back` is what the owner keeps of the seats that are gone, and only of them
pub record Returned (subject : Subject) (history : List Entry) (tickets : List Ticket) (views : List View) (back : List User) : Type 0 where
  pub so : Each (λ u. IsSo subject.limits history tickets u × IsGone views u.number) back
  pub listed : (j : ℕ) (v : View) → get_elem? views j ≡ some v → v.gone ≡ true → IsAmong j back
  pub owned : (j : ℕ) (v : View) → get_elem? views j ≡ some v → (j ≡ 0 → v.back ≡ back) × (j ≢ 0 → v.back ≡ [])
  pub count : length views ≡ length back + left_out views

-- one of these users has seen this history
abbrev pub WasSeen : List Entry → List User → Type 0
WasSeen history [] = ⊥
WasSeen history (u ∷ us) = (u.seen ≡ history) ⊎ WasSeen history us

-- a seat that is there has seen this history
abbrev pub IsSeen : List Entry → List View → Type 0
IsSeen history views = (j : ℕ) × (v : View) × (get_elem? views j ≡ some v) × (v.gone ≡ false) × (v.seen ≡ history)

-- If the lock bit is clear, the slot with this history is at its place. If it is set, the place is the holder's
abbrev pub Placed : Subject → List Entry → List Ticket → Bool → List (maybe.Option (Option Thread)) → Type 0
Placed subject history tickets false homes = (t : Thread) × (homes ≡ some (Some t) ∷ []) × (t.history ≡ history) × (t.uncollected ≡ tickets) × IsAbout subject t
Placed subject history tickets true homes = homes ≡ none ∷ []

-- if the lock bit is set, the holder's seat holds the cell
abbrev pub Held : Bool → ℕ → List View → Type 0
Held false holder views = Unit {0}
Held true holder views = (v : View) × (get_elem? views holder ≡ some v) × (v.holds ≡ true)

-- There is one legal history, and the word has its length and bits. Seats are numbered as they were made. A number that no
-- seat has yet has no entry and no ticket
pub record CellInvariant (subject : Subject) (s : State (Option Thread) View) : Type 0 where
  pub history : List Entry
  pub tickets : List Ticket
  pub locked : Bool
  pub holder : ℕ
  pub legal : is_legal subject.limits history ≡ true
  pub word : s.words ≡ word_of subject.limits locked history ∷ []
  pub placed : Placed subject history tickets locked s.homes
  pub held : Held locked holder s.views
  pub back : List User
  pub returned : Returned subject history tickets s.views back
  pub last : IsSeen history s.views ⊎ WasSeen history back
  pub knows : (j : ℕ) (v : View) → get_elem? s.views j ≡ some v → v.gone ≡ false → Knows subject history tickets (length s.views) j v
  pub holds : (j : ℕ) (v : View) → get_elem? s.views j ≡ some v → Holds history tickets locked holder j v
  pub unmade : (n : ℕ) → length s.views ≤ n → made_by n history ≡ []
  pub unasked : (n : ℕ) → length s.views ≤ n → tickets_of n tickets ≡ []

-- the tickets of all other seats are those that were found
abbrev pub Keeps : ℕ → List Ticket → List Ticket → Type 0
Keeps n found tickets = tickets_but n tickets ≡ tickets_but n found

abbrev Mine : Type 0
Mine = Me (Option Thread) View

-- The slot that is taken. Its history is legal, and begins with what was seen. Its entries with the seat's number are
-- exactly those made from the seat. At the length of each look, it had the bits that the look showed
pub record IsTaken (v : View) (t : Thread) : Type 0 where
  pub legal : is_legal v.subject.limits t.history ≡ true
  pub begins : StartsWith t.history v.seen
  pub all_mine : v.mine ≡ made_by v.number t.history
  pub posted : v.posted ≡ tickets_of v.number t.uncollected
  pub about : IsAbout v.subject t
  pub looks : Each (IsLook v.subject.limits t.history) v.looked

-- this step set the lock bit, and the slot is out; or nothing changed
abbrev pub locks : Step (Option Thread) → Mine → ℕ → Mine → Type 0
locks st m found m' = (found ≡ st.first → (t : Thread) × (m' ≡ (holding m.0 t.history t.uncollected, (0, Some t) ∷ m.1)) × IsTaken m.0 t) × (found ≢ st.first → m' ≡ m)

-- the slot is back, and its history was seen
abbrev pub frees : Step (Option Thread) → Mine → ℕ → Mine → Type 0
frees st m found m' = (t : Thread) → m.1 ≡ (0, Some t) ∷ [] → (m' ≡ (stored m.0 t.history t.uncollected, [])) × ((stored m.0 t.history t.uncollected).mine ≡ made_by m.0.number t.history)

-- the word was read, and counts at least as many entries as were seen
abbrev pub glances : Step (Option Thread) → Mine → ℕ → Mine → Type 0
glances st m found m' = (m' ≡ (glanced m.0 (look_of found), m.1)) × (length m.0.seen ≤ (look_of found).count)

-- the slot with the history, or none if the lock bit is set
abbrev pub Left : Subject → List Entry → List Ticket → Bool → Option Thread → Type 0
Left subject history tickets false slot = (t : Thread) × (slot ≡ Some t) × (t.history ≡ history) × (t.uncollected ≡ tickets) × IsAbout subject t
Left subject history tickets true slot = slot ≡ None

-- How a cell ends for a seat with this view. Some state keeps the rule, and the seat sits there. The slot is given exactly
-- if that state's lock bit is clear. The state is the table's last one. By `CellInvariant` it has what each seat that came back knew.
-- Nothing here ties it to seats that did not
pub record Ends (v : View) (slot : Option Thread) : Type 0 where
  pub state : State (Option Thread) View
  pub kept : CellInvariant v.subject state
  pub sits : get_elem? state.views v.number ≡ some v
  pub left : Left v.subject kept.history kept.tickets kept.locked slot

-- The whole slot. It is there. Its entries with each number are exactly those that a user of this number made, and its
-- tickets those of that user's calls. A number with no such user has none
abbrev pub IsWhole : List User → Option Thread → Type 0
IsWhole us slot = (t : Thread) × (slot ≡ Some t) × ((n : ℕ) → (made_by n t.history ≡ made_from n us) × (tickets_of n t.uncollected ≡ posted_from n us))
