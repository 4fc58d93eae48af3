-- What a stack that was counted stands for.
use Rattle.std.specs.Prelude.{ℕ, List, [], ◌∷◌, codes}
use Rattle.ti_pprof.specs.declared.names.Unit.{Unit}
use Rattle.ti_pprof.specs.declared.names.Unit.TheVariants.{Threads, Wall}

-- the value that is shown first, in which unit it is, and how much of it one stack stands for
abbrev pub unit_name : Unit → List ℕ
unit_name (Wall period) = codes "wall"
unit_name Threads = codes "threads"

abbrev pub unit_measure : Unit → List ℕ
unit_measure (Wall period) = codes "nanoseconds"
unit_measure Threads = codes "count"

abbrev pub unit_period : Unit → ℕ
unit_period (Wall period) = period
unit_period Threads = 1

-- the words of a profile with this unit that others do not have
abbrev pub unit_words : Unit → List (List ℕ)
unit_words (Wall period) = []
unit_words Threads = codes "threads" ∷ []
