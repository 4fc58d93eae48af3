-- What a reply does to the texts and tables that are kept.
use Rattle.std.specs.Prelude.{ℕ, zero, suc, ℤ, negsuc, ◌≡◌, ◌≢◌, ◌+◌, ◌/◌, ◌^◌, ◌-◌, Ok, true, false, min, List, [], ◌∷◌, ◌++◌, length, map, Option, Some, None}
use Rattle.std.specs.Int.{w32, cast_signed, cast_unsigned}
use Rattle.std.specs.List.{fold}
use Rattle.ti_jdwp.specs.Disposed.{disposed_at}
use Rattle.ti_jdwp.specs.Fields.{bytes_at}
use Rattle.ti_jdwp.specs.Ids.{number_from, first_table, first_text}
use Rattle.ti_jdwp.specs.Slots.{AreSlots}
use Rattle.ti_jdwp.specs.declared.request.Request.{Request}
use Rattle.ti_jdwp.specs.declared.request.Request.TheVariants as request
use Rattle.ti_jdwp.specs.declared.variables.Value.{Value}
use Rattle.ti_jdwp.specs.declared.variables.Value.TheVariants as value
use Rattle.ti_debugger.specs.declared.asked.Asked.{Asked}
use Rattle.ti_debugger.specs.declared.asked.Asked.TheVariants as asked
use Rattle.ti_debugger.specs.declared.asked.Row.{Row}
use Rattle.ti_debugger.specs.declared.desk.Desk.{Desk}
use Rattle.ti_debugger.specs.declared.effects.Effect.{Effect}
use Rattle.ti_debugger.specs.declared.effects.Effect.TheVariants as effect
use Rattle.ti_debugger.specs.declared.objects.Disposal.{Disposal}
use Rattle.ti_debugger.specs.declared.objects.Kept.{Kept}
use Rattle.ti_debugger.specs.declared.stacks.Part.{Part}
use Rattle.ti_debugger.specs.Kept.{all_disposed, told_once}
use Rattle.ti_debugger.specs.Stacks.{IsPart}
use Rattle.ti_debugger.specs.VariableReplies.{IsTable, picked}

-- a text or a table with its number, and how often the debugger was told it; other ids are passed over
abbrev pub one_disposed : Option ℕ → Option ℕ → ℕ → Option Disposal
one_disposed (Some n) table count = Some (record { is_text = true; number = n; count = count })
one_disposed None (Some n) count = Some (record { is_text = false; number = n; count = count })
one_disposed None None count = None

abbrev pub as_disposal : Option (ℕ × ℕ) → Option Disposal
as_disposal None = None
as_disposal (Some d) = one_disposed (number_from first_text d.0) (number_from first_table d.0) d.1

abbrev pub disposal_at : List ℕ → ℕ → Option Disposal
disposal_at bytes place = as_disposal (disposed_at bytes place)

abbrev pub if_one : Option Disposal → List Disposal
if_one None = []
if_one (Some d) = d ∷ []

-- the first of those that a debugger does not need any more
unfoldable pub disposals : ℕ → List ℕ → List Disposal
disposals zero bytes = []
disposals (suc n) bytes = disposals n bytes ++ if_one (disposal_at bytes n)

-- the values at the slots that stand in the data
abbrev pub ArePicked : List Row → List ℕ → List Value → Type 0
ArePicked rows bytes values = (slots : List ℕ) × AreSlots slots bytes × (picked rows slots ≡ Some values)

abbrev pub AreValues : Effect → List Value → Type 0
AreValues (effect.Values vs) values = vs.items ≡ values
AreValues _ values = ⊥

-- the values that were told of a frame are told on, as far as they are asked for
abbrev pub TellsPicked : Asked → List ℕ → Effect → Type 0
TellsPicked (asked.Values thread depth rows) bytes e = (values : List Value) × ArePicked rows.items bytes values × AreValues e values
TellsPicked _ bytes e = e ≡ effect.Nothing

-- the texts that are a part of a table stand behind it
abbrev pub entries_told : ℕ → Option Part → Effect
entries_told table None = effect.Nothing
entries_told table (Some p) = effect.Entries (min (min (table + 1) (2 ^ 32 - 1) + cast_unsigned w32 p.start) (2 ^ 32 - 1)) (cast_unsigned w32 p.count)

abbrev pub TellsPart : List Kept → ℕ → ℤ → ℤ → Effect → Type 0
TellsPart objects id start len e =
    (n count : ℕ) × (wanted : ℤ) × (p : Option Part) × IsTable objects id n count × (len ≢ negsuc 0 → wanted ≡ len) × IsPart (cast_signed w32 count) start wanted (Ok p) × (e ≡ entries_told n p)

abbrev pub Disposes : Effect → List Disposal → Type 0
Disposes (effect.Disposed list) which = list.items ≡ which
Disposes _ which = ⊥

-- The values of a frame are told, or entries of a table, or the debugger names what it does not need any more. No other reply does
-- anything to them.
abbrev pub IsEffectOf : Request → List ℕ → Desk → Effect → Type 0
IsEffectOf (request.DisposeObjects range) bytes desk e = Disposes e (disposals (length (bytes_at range bytes) / 12) (bytes_at range bytes))
IsEffectOf (request.FrameValues id frame slots) bytes desk e = TellsPicked desk.asked (bytes_at slots bytes) e
IsEffectOf (request.TableEntries id start len) bytes desk e = TellsPart desk.objects.list.items id start len e
IsEffectOf _ bytes desk e = e ≡ effect.Nothing

-- a text or a table that is told counts as told once more
abbrev pub told_value : List Kept → Value → List Kept
told_value list value.Nil = list
told_value list (value.Boolean is) = list
told_value list (value.Integer number) = list
told_value list (value.Number bits) = list
told_value list (value.Text n) = map (told_once n 1) list
told_value list (value.Table n) = map (told_once n 1) list

abbrev pub left_by : Effect → List Kept → List Kept
left_by effect.Nothing list = list
left_by (effect.Values values) list = fold told_value list values.items
left_by (effect.Entries first count) list = map (told_once first count) list
left_by (effect.Disposed which) list = all_disposed which.items list

-- The reply is written: what it tells is counted, what the debugger does not need any more is freed, and nothing else changes.
pub record Takes (e : Effect) (old new : Desk) : Type 0 where
  pub rest : new ≡ record old { objects = record old.objects { list = new.objects.list } }
  pub left : new.objects.list.items ≡ left_by e old.objects.list.items
