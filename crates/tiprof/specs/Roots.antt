-- Stacks, kept apart by what their threads did and by owner.
use Rattle.std.specs.Prelude.{ℕ, zero, suc, ◌≡◌, ◌≢◌, ◌+◌, ◌==◌, Bool, bit_and, if◌then◌else◌, nat_lt, codes, List, [], Some, map, slice_get, slice_set}
use Rattle.ti_types.specs.declared.answer.Answer.{Answer}
use Rattle.ti_types.specs.declared.answer.Answer.TheVariants.{Trace}
use Rattle.ti_types.specs.declared.numbers.MethodNo.{MethodNo}
use Rattle.ti_types.specs.declared.place.Frame.{Frame}
use Rattle.tiprof.specs.declared.fold.Fold.{Fold}
use Rattle.tiprof.specs.declared.fold.Folded.{Folded}
use Rattle.tiprof.specs.declared.roots.Doing.{Doing}
use Rattle.tiprof.specs.declared.roots.Doing.TheVariants.{Running, Away}
use Rattle.tiprof.specs.declared.roots.Owner.{Owner}
use Rattle.tiprof.specs.declared.roots.Owner.TheVariants.{Workers, Worker, NewThreads}
use Rattle.tiprof.specs.declared.roots.Part.{Part}
use Rattle.tiprof.specs.Folds.{seen}

-- a thread runs if it is runnable, 0x4, and not in native code, 0x400000
abbrev pub doing_of : ℕ → Doing
doing_of bits = if bit_and bits 0x400004 == 0x4 then Running else Away

-- the word at the root of the stacks of such threads
abbrev pub word_of : Doing → List ℕ
word_of Running = codes "running"
word_of Away = codes "native_or_blocked"

abbrev pub fold_in : Part → Doing → Fold
fold_in p Running = p.running
fold_in p Away = p.away

-- the fold of the threads that did the other thing
abbrev pub other_in : Part → Doing → Fold
other_in p Running = p.away
other_in p Away = p.running

-- how many stacks a part has
abbrev pub folded_in : Part → ℕ
folded_in p = p.running.total + p.away.total

-- its stacks, by what the threads did
abbrev pub stacks_in : Part → List Folded × List Folded
stacks_in p = (p.running.stacks.items, p.away.stacks.items)

pub record IsEmpty (p : Part) : Type 0 where
  pub running : p.running.stacks.items ≡ []
  pub away : p.away.stacks.items ≡ []

-- there is one more stack of these methods, of a thread that did this; all others are as they were
pub record IsAddedTo (old new : Part) (doing : Doing) (methods : List MethodNo) : Type 0 where
  pub apart : other_in new doing ≡ other_in old doing
  pub more : (fold_in new doing).total ≡ (fold_in old doing).total + 1
  pub given : seen methods (fold_in new doing).stacks.items ≡ seen methods (fold_in old doing).stacks.items + 1
  pub others : (ns : List MethodNo) → ns ≢ methods → seen ns (fold_in new doing).stacks.items ≡ seen ns (fold_in old doing).stacks.items

-- how many parts the workers have
abbrev pub parts_of_workers : Bool → ℕ → ℕ
parts_of_workers by_thread workers = if by_thread then workers else 1

-- the place of a thread's part; the threads of the numbers below `workers` are the workers
abbrev pub place_of : Bool → ℕ → ℕ → ℕ
place_of by_thread workers thread = if nat_lt thread workers then (if by_thread then thread else 0) else parts_of_workers by_thread workers

-- whose stacks the part at a place has
abbrev pub owner_at : Bool → ℕ → ℕ → Owner
owner_at by_thread workers place = if nat_lt place (parts_of_workers by_thread workers) then (if by_thread then Worker place else Workers) else NewThreads

-- there is one more stack of these methods, in the part at this place; the other parts are as they were
pub record IsAddedAt (old new : List Part) (place : ℕ) (doing : Doing) (methods : List MethodNo) : Type 0 where
  pub before : Part
  pub after : Part
  pub there : slice_get old place ≡ Some before
  pub parts : new ≡ slice_set old place after
  pub added : IsAddedTo before after doing methods

-- the same stack was added so many times
abbrev pub AreAddedAt : ℕ → List Part → List Part → ℕ → Doing → List MethodNo → Type 0
AreAddedAt zero old new place doing methods = new ≡ old
AreAddedAt (suc n) old new place doing methods = (mid : List Part) × AreAddedAt n old mid place doing methods × IsAddedAt mid new place doing methods

-- the frames of an answer to a stack trace were added so many times; any other answer adds nothing
abbrev pub AddsAnswer : Answer → ℕ → List Part → List Part → ℕ → Doing → Type 0
AddsAnswer (Trace buf) n old new place doing = AreAddedAt n old new place doing (map (λ (f : Frame). f.method) buf.frames)
AddsAnswer _ n old new place doing = new ≡ old
