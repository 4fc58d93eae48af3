-- An entry that an agent left, without the agent's number.
use Rattle.std.specs.Prelude.{List, get_or}
use Rattle.ti_types.specs.declared.numbers.EnvNo.{EnvNo}
use Rattle.ti_types.specs.declared.call.Call.TheVariants as call
use Rattle.ti_types.specs.declared.entry.Entry.{Entry}
use Rattle.ti_types.specs.declared.entry.Entry.TheVariants as entry
use Rattle.ti_report.specs.declared.packed_entry.Left.{Left}
use Rattle.ti_report.specs.declared.packed_entry.Left.TheVariants.{State, FrameCount, Suspend, Resume, GetWord, Pop, Stop, Read, Go, At}

-- the entry, for this agent; these are all entries of the history
abbrev pub left_in : EnvNo → List Entry → Left → Entry
left_in e entries (State number) = entry.Asked e number call.State
left_in e entries (FrameCount number) = entry.Asked e number call.FrameCount
left_in e entries (Suspend number) = entry.Asked e number call.Suspend
left_in e entries (Resume number) = entry.Asked e number call.Resume
left_in e entries (GetWord number) = entry.Asked e number call.GetWord
left_in e entries (Pop number) = entry.Asked e number call.Pop
left_in e entries Stop = entry.Stop e
left_in e entries (Read max_count) = entry.Read e max_count
left_in e entries Go = entry.Go e
left_in e entries (At place) = get_or entries place entry.Start
