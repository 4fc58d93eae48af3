-- The samples that were counted.
use Rattle.std.specs.Prelude.{ℕ, ◌≡◌, ◌<◌, ◌≤◌, ◌+◌, ◌⊎◌, List, [], ◌∷◌, ◌++◌, Some, get_or, length, slice_get, slice_set}
use Rattle.ti_pprof.specs.declared.stacks.Frame.{Frame}
use Rattle.ti_pprof.specs.declared.stacks.Node.{Node}
use Rattle.ti_pprof.specs.declared.stacks.Trie.{Trie}
use Rattle.ti_pprof.specs.declared.table.Row.{Row}
use Rattle.ti_pprof.specs.declared.table.Table.{Table}
use Rattle.ti_pprof.specs.Stacks.{stack_at, stacks_of, HasStack}

-- a stack of a thread in a state, its newest frame first, and how often it was seen
pub record Sample : Type 0 where
  pub frames : List Frame
  pub thread : ℕ
  pub state : ℕ
  pub count : ℕ

abbrev pub sample : List Frame → ℕ → ℕ → ℕ → Sample
sample frames thread state count = record { frames = frames; thread = thread; state = state; count = count }

-- the sample of a row and its count
abbrev pub sample_of : List (List Frame) → Row → ℕ → Sample
sample_of stacks row count = sample (stack_at stacks row.stack) row.thread row.state count

-- the samples of rows and their counts, in the order of the rows
abbrev pub samples_in : List (List Frame) → List Row → List ℕ → List Sample
samples_in stacks [] counts = []
samples_in stacks (row ∷ rows) [] = []
samples_in stacks (row ∷ rows) (count ∷ counts) = sample_of stacks row count ∷ samples_in stacks rows counts

-- the samples of a table whose stacks are in this trie
abbrev pub samples_of : Trie → Table → List Sample
samples_of trie table = samples_in (stacks_of trie.nodes.keys) table.rows.keys table.counts.items

-- each row has the number of a stack, of which 0 to `most` are there
abbrev pub AreNumbered : List Row → ℕ → Type 0
AreNumbered rows most = (i : ℕ) (d : Row) → i < length rows → (get_or rows i d).stack ≤ most

-- there is a sample of this stack, thread and state
abbrev pub IsThere : List Sample → List Frame → ℕ → ℕ → Type 0
IsThere samples frames thread state = (i : ℕ) × (n : ℕ) × (slice_get samples i ≡ Some (sample frames thread state n))

-- a stack was counted so many times: where there was no sample of it, it is a new one behind the others, and else its sample
-- has a count that is so much higher; every other sample is as it was
abbrev pub IsCounted : List Sample → List Sample → List Frame → ℕ → ℕ → ℕ → Type 0
IsCounted old new frames thread state times =
    ((new ≡ old ++ sample frames thread state times ∷ []) × ¬ (IsThere old frames thread state))
    ⊎ ((i : ℕ) × (n : ℕ) × (slice_get old i ≡ Some (sample frames thread state n)) × (new ≡ slice_set old i (sample frames thread state (n + times))))

-- there are as many nodes, or as many rows, as there may be
abbrev pub IsFull : Trie → Table → Type 0
IsFull trie table = (length trie.nodes.keys ≡ trie.most) ⊎ (length table.rows.keys ≡ table.most)

-- there are as many nodes as there may be, and none of them had the stack; or there are as many rows
abbrev pub HasNoRoom : List Node → List Frame → Trie → Table → Type 0
HasNoRoom old frames trie table = ((length trie.nodes.keys ≡ trie.most) × ¬ (HasStack old frames)) ⊎ (length table.rows.keys ≡ table.most)

-- as many nodes and as many rows may be there as before
abbrev pub SameBounds : Trie → Table → Trie → Table → Type 0
SameBounds trie table trie' table' = (trie'.most ≡ trie.most) × (table'.most ≡ table.most)
