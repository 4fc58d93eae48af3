-- What a seat knows, and how each step changes it.
use Rattle.std.specs.Prelude.{ℕ, suc, ◌≡◌, ◌==◌, not, ◌+◌, if◌then◌else◌, true, false, List, [], ◌∷◌, ◌++◌, length, drop}
use Rattle.std.specs.List.{filter}
use Rattle.ti_types.specs.Least.{least}
use Rattle.ti_types.specs.declared.event.Ticket.{Ticket}
use Rattle.ti_types.specs.declared.entry.Entry.{Entry}
use Rattle.ti_types.specs.declared.limits.Limits.{Limits}
use Rattle.ti_types.specs.declared.numbers.ThreadNo.{ThreadNo}
use Rattle.ti_slot.specs.Thread.{Thread}
use Rattle.ti_cell.specs.declared.look.Look.{Look}
use Rattle.ti_cell.specs.declared.view.Subject.{Subject}
use Rattle.ti_cell.specs.declared.view.User.{User}
use Rattle.ti_cell.specs.declared.view.View.{View}

abbrev pub subject_of : Limits → ThreadNo → Subject
subject_of limits number = record { limits = limits; thread = number }

-- a slot of the thread and the limits that a cell is about
abbrev pub IsAbout : Subject → Thread → Type 0
IsAbout subject t = (t.limits ≡ subject.limits) × (t.number ≡ subject.thread)

-- the tickets of the calls that are asked from the seat n, and those of all others
abbrev pub tickets_of : ℕ → List Ticket → List Ticket
tickets_of n tickets = filter (λ t. suc t.env.0 == n) tickets

abbrev pub tickets_but : ℕ → List Ticket → List Ticket
tickets_but n tickets = filter (λ t. not (suc t.env.0 == n)) tickets

-- the view of a new seat
abbrev pub newcomer : Subject → ℕ → ℕ → View
newcomer subject number made = record { number = number; seen = []; mine = []; looked = []; posted = []; found = []; taken = 0; holds = false; made = made; back = []; gone = false; subject = subject }

-- the owner's view, with one more seat made
abbrev pub splitter : View → View
splitter v = record { number = v.number; seen = v.seen; mine = v.mine; looked = v.looked; posted = v.posted; found = v.found; taken = v.taken; holds = v.holds; made = v.made + 1; back = v.back; gone = v.gone; subject = v.subject }

abbrev pub split_off : View → View
split_off v = newcomer v.subject v.made 0

-- the view of a seat that holds the cell, and has seen this history whole
abbrev pub holding : View → List Entry → List Ticket → View
holding v history tickets = record { number = v.number; seen = history; mine = v.mine; looked = v.looked; posted = v.posted; found = tickets; taken = v.taken + 1; holds = true; made = v.made; back = v.back; gone = v.gone; subject = v.subject }

-- the view after a store: this history was seen, and its further entries are the seat's own
abbrev pub stored : View → List Entry → List Ticket → View
stored v history tickets = record { number = v.number; seen = history; mine = v.mine ++ drop (length v.seen) history; looked = v.looked; posted = tickets_of v.number tickets; found = []; taken = v.taken; holds = false; made = v.made; back = v.back; gone = v.gone; subject = v.subject }

-- the view with one more look
abbrev pub glanced : View → Look → View
glanced v look = record { number = v.number; seen = v.seen; mine = v.mine; looked = v.looked ++ look ∷ []; posted = v.posted; found = v.found; taken = v.taken; holds = v.holds; made = v.made; back = v.back; gone = v.gone; subject = v.subject }

-- what a seat knows, as one user of the slot
abbrev pub as_user : View → User
as_user v = record { number = v.number; seen = v.seen; mine = v.mine; looked = v.looked; posted = v.posted }

-- the owner's view, to which the seat with the view w came back
abbrev pub rejoined : View → View → View
rejoined v w = record { number = v.number; seen = v.seen; mine = v.mine; looked = v.looked; posted = v.posted; found = v.found; taken = v.taken; holds = v.holds; made = v.made; back = v.back ++ as_user w ∷ []; gone = v.gone; subject = v.subject }

-- some subject, for a view that has none
abbrev nothing : Subject
nothing = record { limits = least; thread = record { 0 = 0 } }

-- the view of a seat that came back
abbrev pub nobody : View
nobody = record { number = 0; seen = []; mine = []; looked = []; posted = []; found = []; taken = 0; holds = false; made = 0; back = []; gone = true; subject = nothing }

-- the users of the slot that a seat knows: itself, and those that came back to it
abbrev pub users : View → List User
users v = as_user v ∷ v.back

-- all seats that were made have come back to the owner's
abbrev pub IsAlone : View → Type 0
IsAlone v = (v.number ≡ 0) × (v.made ≡ length v.back + 1)

-- what the user with the number n made, if it is among these
abbrev pub made_from : ℕ → List User → List Entry
made_from n [] = []
made_from n (u ∷ us) = if u.number == n then u.mine else made_from n us

-- its tickets
abbrev pub posted_from : ℕ → List User → List Ticket
posted_from n [] = []
posted_from n (u ∷ us) = if u.number == n then u.posted else posted_from n us
