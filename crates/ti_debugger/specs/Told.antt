-- What a session is told without a request.
use Rattle.std.specs.Prelude.{◌≡◌, ◌≤◌, ◌+◌, ℕ, Bool, List, [], ◌∷◌, Option, Some, None, if◌then◌else◌}
use Rattle.ti_jdwp.specs.SessionRuns.{Call, Runs, Happened, StoppedAt}
use Rattle.ti_jdwp.specs.Talks.{Talk}
use Rattle.ti_jdwp.specs.declared.event_text.Occurrence.{Occurrence}
use Rattle.ti_jdwp.specs.declared.event_text.Occurrence.TheVariants as occurrence
use Rattle.ti_methods.specs.Classes.{IsSignature}
use Rattle.ti_methods.specs.declared.info.ClassInfo.{ClassInfo}

-- The class that is told is the next one, with its signature. One that is lost is told again.
abbrev pub Follows : List ClassInfo → ℕ → Occurrence → Bool → ℕ → Type 0
Follows log n (occurrence.ThreadStart t) is_noted m = m ≡ n
Follows log n (occurrence.ThreadDeath t) is_noted m = m ≡ n
Follows log n (occurrence.ClassPrepare t c s) is_noted m = (c ≡ n) × IsSignature log (record { 0 = c }) s.now × (m ≡ (if is_noted then n + 1 else n))
Follows log n (occurrence.SingleStep t c k i) is_noted m = ⊥
Follows log n (occurrence.Breakpoint t c k i) is_noted m = ⊥
Follows log n (occurrence.ClassUnload s) is_noted m = ⊥
Follows log n (occurrence.VmStart t) is_noted m = ⊥
Follows log n occurrence.VmDeath is_noted m = ⊥

-- the session is told of an event or of a stop, and asked for nothing
abbrev pub TellsBy : List ClassInfo → ℕ → Call → ℕ → Type 0
TellsBy log n (Happened e o is_noted) m = Follows log n o is_noted m
TellsBy log n (StoppedAt x verdict) m = m ≡ n
TellsBy log n _ m = ⊥

-- Each call tells of an event. The classes from n on, up to m, are told in the order of their numbers, each once.
abbrev pub TellsFrom : List ClassInfo → ℕ → List Call → ℕ → Type 0
TellsFrom log n [] m = m ≡ n
TellsFrom log n (c ∷ calls) m = (k : ℕ) × TellsBy log n c k × TellsFrom log k calls m

abbrev pub Tells : List ClassInfo → ℕ → ℕ → Talk → Talk → Type 0
Tells log n m old new = (calls : List Call) × TellsFrom log n calls m × Runs old calls [] new

-- A session goes on by what it is told. Without one nobody is told, and classes are passed over.
abbrev pub ToldBy : List ClassInfo → ℕ → ℕ → Option Talk → Option Talk → Type 0
ToldBy log n m None new = (new ≡ None) × (n ≤ m)
ToldBy log n m (Some s) new = (s' : Talk) × (new ≡ Some s') × Tells log n m s s'

-- no class is told
abbrev pub TellsLives : Talk → Talk → Type 0
TellsLives old new = (log : List ClassInfo) (n : ℕ) → Tells log n n old new

abbrev pub ToldOfLives : Option Talk → Option Talk → Type 0
ToldOfLives old new = (log : List ClassInfo) (n : ℕ) → ToldBy log n n old new

-- a class is told, or lost
abbrev pub TellsClass : ℕ → List ℕ → Talk → Bool → Talk → Type 0
TellsClass class signature old is_noted new = (log : List ClassInfo) → IsSignature log (record { 0 = class }) signature → Tells log class (if is_noted then class + 1 else class) old new
