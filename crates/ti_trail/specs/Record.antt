-- A list that is counted, and kept only if that was asked.
use Rattle.std.specs.Prelude.{ℕ, Bool, true, false, ◌&&◌, List}
use Rattle.ti_trail.specs.declared.record.Recording.{Recording}
use Rattle.ti_trail.specs.declared.record.Recording.TheVariants.{Kept, Counted}

-- what happened, the earliest first, how much of it there may be, and whether the items can be read again
pub record Recorded (T : Type 0) : Type 0 where
  pub items : List T
  pub room : ℕ
  pub kept : Bool

-- the same with other items
abbrev pub with_items : {T : Type 0} → Recorded T → List T → Recorded T
with_items r items = record { items = items; room = r.room; kept = r.kept }

-- the same, but its items are no longer kept
abbrev pub forgotten : {T : Type 0} → Recorded T → Recorded T
forgotten r = record { items = r.items; room = r.room; kept = false }

-- the same with other items, which are kept if both are
abbrev pub joined : {T : Type 0} → Recorded T → Bool → List T → Recorded T
joined r kept items = record { items = items; room = r.room; kept = r.kept && kept }

abbrev pub is_kept : Recording → Bool
is_kept Kept = true
is_kept Counted = false
