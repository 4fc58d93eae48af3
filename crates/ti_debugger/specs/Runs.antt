-- What an agent does with its session between the socket's calls.
use Rattle.std.specs.Prelude.{◌≡◌, Bool, true, false, List, []}
use Rattle.std.specs.List.{list_all}
use Rattle.ti_jdwp.specs.SessionRuns.{Call, Runs, Fed, PeerEnded, Shut, Went, Failed, Replied, Listed, PostedAs, Settled, Written, Happened, Began, Died, PlacedAs, LocatedAs, StoppedAt}
use Rattle.ti_jdwp.specs.Talks.{Talk}

-- a call that an agent makes by itself
abbrev pub is_agents : Call → Bool
is_agents (Fed bytes) = false
is_agents PeerEnded = false
is_agents Shut = false
is_agents (Went act) = true
is_agents Failed = true
is_agents (Replied a) = true
is_agents (Listed threads) = true
is_agents (PostedAs posted) = true
is_agents Settled = true
is_agents (Written count) = false
is_agents (Happened event occurrence is_told) = false
is_agents (Began thread is_told) = false
is_agents (Died is_told) = false
is_agents (PlacedAs placed) = true
is_agents (LocatedAs standing) = true
is_agents (StoppedAt x verdict) = false

-- A session went on by such calls. `requests_are_answered` of `ti_jdwp` says what whole runs of calls send.
abbrev pub RunsTo : Talk → Talk → Type 0
RunsTo old new = (calls : List Call) × (list_all is_agents calls ≡ true) × Runs old calls [] new
