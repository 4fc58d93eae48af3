-- The name of a limit in a document and in a fault line.
use Rattle.std.specs.Prelude.{ℕ, List, codes}
use Rattle.ti_script.specs.declared.fault.LimitName.{LimitName}
use Rattle.ti_script.specs.declared.fault.LimitName.TheVariants as limit

abbrev pub limit_text : LimitName → List ℕ
limit_text limit.Input = codes "input"
limit_text limit.Depth = codes "depth"
limit_text limit.Own = codes "own"
limit_text limit.Calls = codes "calls"
limit_text limit.Threads = codes "threads"
limit_text limit.Agents = codes "agents"
limit_text limit.Methods = codes "methods"
limit_text limit.Events = codes "events"
limit_text limit.Walks = codes "walks"
limit_text limit.CallsList = codes "calls_list"
limit_text limit.Entries = codes "entries"
limit_text limit.Format = codes "format"
