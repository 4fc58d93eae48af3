-- What a history gives its agents. For each agent, it is a table of the entries that the agent left and what these got, and
-- how much the agent has spent.
use Rattle.std.specs.Prelude.{ℕ, ◌≡◌, ◌<◌, ◌==◌, Bool, false, List, [], ◌∷◌, ◌++◌, map, if◌then◌else◌, Option, Some, None, slice_get, slice_index, slice_index_or}
use Rattle.std.specs.Option.{option_map_or}
use Rattle.std.specs.List.{filter}
use Rattle.ti_types.specs.declared.limits.Limits.{Limits}
use Rattle.ti_types.specs.declared.numbers.EnvNo.{EnvNo}
use Rattle.ti_types.specs.declared.numbers.ThreadNo.{ThreadNo}
use Rattle.ti_types.specs.declared.entry.Entry.{Entry}
use Rattle.ti_types.specs.declared.answer.Answer.{Answer}
use Rattle.ti_types.specs.declared.place.Frame.{Frame}
use Rattle.ti_replay.specs.Legal.{calls_spent}
use Rattle.ti_replay.specs.Replies.{reply}
use Rattle.ti_replay.specs.Settling.{placed}
use Rattle.ti_report.specs.Told.{got, granted, is_left_by, history_at}
use Rattle.ti_report.specs.declared.book.Book.{Book}
use Rattle.ti_report.specs.declared.book.Note.{Note}
use Rattle.ti_report.specs.Gots.{told_in}
use Rattle.ti_report.specs.Lefts.{left_in}

abbrev pub Row : Type 0
Row = Entry × Option Answer

-- what a row of an agent says; the entries are those of the history, and the frames those of the book
abbrev pub said_row : EnvNo → List Entry → List Frame → Note → Row
said_row e entries frames r = (left_in e entries r.left, told_in frames r.got)

-- what an agent left in a prefix of a whole history, and got for it
abbrev pub rows_of : Limits → List Entry → EnvNo → List Entry → List Row
rows_of limits whole e front = map (λ p. (p.1, granted p.1 (reply limits whole p.0))) (filter (λ p. is_left_by e p.1) (placed front))

-- the rows of one agent in a table, with this history and these frames
abbrev pub rows_at : List Entry → List Frame → List (List Note) → EnvNo → List Row
rows_at entries frames rows e = map (said_row e entries frames) (slice_index_or rows e.0 [])

-- a table with one more row at a place
abbrev pub with_row : List (List Note) → ℕ → Note → ℕ → List Note
with_row rows index row k = if index == k then slice_index_or rows k [] ++ row ∷ [] else slice_index_or rows k []

abbrev pub is_number : Option ℕ → ℕ → Bool
is_number number e = option_map_or (λ n. n == e) number false

-- the book says what this history does
pub record IsBook (limits : Limits) (history : List Entry) (b : Book) : Type 0 where
  pub rows : (e : EnvNo) → e.0 < limits.envs → rows_at b.entries.now b.frames.items b.rows.items e ≡ got limits e history
  pub spent : (e : EnvNo) → e.0 < limits.envs → slice_index b.spent.items e.0 ≡ calls_spent e history

-- the rows of an agent in the book of a thread; none if there is no such thread
abbrev pub rows_in : Option Book → EnvNo → List Row
rows_in (Some b) e = rows_at b.entries.now b.frames.items b.rows.items e
rows_in None e = []

abbrev pub spent_in : Option Book → EnvNo → ℕ
spent_in (Some b) e = slice_index b.spent.items e.0
spent_in None e = 0

-- the rows of an agent, and what it has spent
abbrev pub page_in : Option Book → EnvNo → List Row × ℕ
page_in b e = (rows_in b e, spent_in b e)

-- the books of all threads say what their histories do
abbrev pub AreBooks : Limits → List (List Entry) → List Book → Type 0
AreBooks limits histories books = (t : ThreadNo) → t.0 < limits.threads → (b : Book) × (slice_get books t.0 ≡ Some b) × IsBook limits (history_at histories t) b
