-- The members of a document's head: the name of each in its object, and the path to it from the document.
use Rattle.std.specs.Prelude.{ℕ, List, codes}
use Rattle.ti_script.specs.declared.located.MemberName.{MemberName}
use Rattle.ti_script.specs.declared.located.MemberName.TheVariants as member

abbrev pub key_of : MemberName → List ℕ
key_of member.Format = codes "format"
key_of member.Limits = codes "limits"
key_of member.Depth = codes "depth"
key_of member.Own = codes "own"
key_of member.CallLimit = codes "calls"
key_of member.Threads = codes "threads"
key_of member.Agents = codes "agents"
key_of member.Methods = codes "methods"
key_of member.Events = codes "events"
key_of member.Walks = codes "walks"
key_of member.Calls = codes "calls"
key_of member.Entries = codes "entries"

abbrev pub member_text : MemberName → List ℕ
member_text member.Depth = codes "limits.depth"
member_text member.Own = codes "limits.own"
member_text member.CallLimit = codes "limits.calls"
member_text other = key_of other
