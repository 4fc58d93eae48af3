-- The history that a document says, and the first fault of a document that says none.
use Rattle.std.specs.Prelude.{◌≡◌, ℕ, List, [], ◌∷◌, codes, Bool, false, ◌||◌, ◌==◌, if◌then◌else◌, Option, is_some, unwrap_or, option_and_then, Result, Ok}
use Rattle.std.specs.Option.{option_map_or}
use Rattle.std.specs.Result.{result_err}
use Rattle.serde_json.specs.Data.{Data}
use Rattle.serde_json.specs.Find.{as_number, as_i64}
use Rattle.ti_types.specs.declared.entry.Entry.{Entry}
use Rattle.ti_script.specs.declared.fault.LimitName.TheVariants.{Agents, Entries, Format}
use Rattle.ti_script.specs.declared.located.MemberName.{MemberName}
use Rattle.ti_script.specs.declared.located.MemberName.TheVariants as member
use Rattle.ti_script.specs.declared.located.LocatedFault.{LocatedFault}
use Rattle.ti_script.specs.declared.located.LocatedFault.TheVariants.{Limit}
use Rattle.ti_script.specs.declared.history.History.{History}
use Rattle.ti_script.specs.Tree.{at, elements, whole_in}
use Rattle.ti_script.specs.Faults.{unless, first_of, member_shape}
use Rattle.ti_script.specs.Head.{is_within, members_fault, limits_fault, bounds_of, items_fault}
use Rattle.ti_script.specs.Entries.{entries_in}

abbrev pub history_members : List MemberName
history_members = member.Format ∷ member.Limits ∷ member.Agents ∷ member.Entries ∷ []

-- a whole number, also one below 0
abbrev pub is_whole : Data → Bool
is_whole d = is_some (whole_in d) || is_some (option_and_then as_i64 (as_number d))

-- the number of the format: 1, or 2, which has more agents and one more call
abbrev pub format_of : Data → ℕ
format_of d = unwrap_or (whole_in d) 0

abbrev pub format_fault : Data → Option LocatedFault
format_fault d = first_of
    (unless (is_whole d) (member_shape member.Format)
    ∷ unless (option_map_or (λ n. n == 1 || n == 2) (whole_in d) false) (Limit Format)
    ∷ [])

-- how many agents there may be
abbrev pub most_agents : (format : ℕ) → ℕ
most_agents format = if format == 2 then 32 else 8

abbrev pub agents_fault : (format : ℕ) → Data → Option LocatedFault
agents_fault format d = first_of
    (unless (is_some (whole_in d)) (member_shape member.Agents)
    ∷ unless (is_within 1 (most_agents format) (unwrap_or (whole_in d) 0)) (Limit Agents)
    ∷ [])

abbrev pub history_head_fault : Data → Option LocatedFault
history_head_fault d = first_of
    (members_fault history_members d
    ∷ format_fault (at (codes "format") d)
    ∷ limits_fault (at (codes "limits") d)
    ∷ agents_fault (format_of (at (codes "format") d)) (at (codes "agents") d)
    ∷ items_fault member.Entries Entries 262144 (at (codes "entries") d)
    ∷ [])

abbrev pub entries_of : Data → Result (List Entry) LocatedFault
entries_of d = entries_in (format_of (at (codes "format") d)) 1 (elements (at (codes "entries") d))

-- the first fault, in the order of the tests
abbrev pub history_fault : Data → Option LocatedFault
history_fault d = first_of (history_head_fault d ∷ result_err (entries_of d) ∷ [])

-- the history is what the document says
pub record IsHistory (d : Data) (h : History) : Type 0 where
  pub bounds : (h.limits.depth, h.limits.own, h.limits.calls) ≡ bounds_of (at (codes "limits") d)
  pub threads : h.limits.threads ≡ 1
  pub agents : h.limits.envs ≡ unwrap_or (whole_in (at (codes "agents") d)) 0
  pub entries : entries_of d ≡ Ok h.entries
