-- The result of a command, by what the reader had, and what the writer had before and after.
use Rattle.std.specs.Prelude.{◌≡◌, ℕ, Bool, true, List, [], Option}
use Rattle.std.specs.Io.KnownBytes.{Appends}
use Rattle.ti_replay.specs.Admission.{Happening}
use Rattle.ti_replay.specs.Legal.{first_illegal, is_legal}
use Rattle.ti_live.specs.declared.report.LiveReport.{LiveReport}
use Rattle.ti_script.specs.declared.walk.Walk.{Walk}
use Rattle.ti_script.specs.Walks.{walk_fault}
use Rattle.ti_script.specs.declared.live.Live.{Live}
use Rattle.ti_script.specs.declared.history.History.{History}
use Rattle.ti_script.specs.Histories.{history_fault}
use Rattle.ti_driver.specs.declared.arguments.Command.{Command}
use Rattle.ti_driver.specs.declared.arguments.Command.TheVariants as asked
use Rattle.ti_driver.specs.declared.fault.Fault.{Fault}
use Rattle.ti_driver.specs.Streams.{TakesFront}
use Rattle.ti_driver.specs.Runs.{IsGiven, IsRun, text_of, IsGivenHistory, verdict_text, IsEarlyFault}
use Rattle.ti_driver.specs.Reports.{IsGivenLive, IsReportOf, script_of, report_text, IsLiveFault}

-- it was done; the result is true, unless a history is illegal
abbrev pub IsDone : Command → (known old new : Option (List ℕ)) → Bool → Type 0
IsDone asked.Walk known old new legal =
    (legal ≡ true) × (w : Walk) × (hs : List Happening) × IsGiven known w × IsRun w hs × Appends old new (text_of w hs)
IsDone asked.Live known old new legal =
    (legal ≡ true) × (l : Live) × (report : LiveReport) × IsGivenLive known l × IsReportOf (script_of l) report × Appends old new (report_text l report)
IsDone asked.Check known old new legal =
    (h : History) × IsGivenHistory known h × (legal ≡ is_legal h.limits h.entries) × Appends old new (verdict_text (first_illegal h.limits [] h.entries))

-- the writer cut it short, and took a prefix of the text
abbrev pub IsCutShort : Command → (known old new : Option (List ℕ)) → Type 0
IsCutShort asked.Walk known old new =
    (w : Walk) × (hs : List Happening) × IsGiven known w × IsRun w hs × TakesFront old new (text_of w hs)
IsCutShort asked.Live known old new =
    (l : Live) × (report : LiveReport) × IsGivenLive known l × IsReportOf (script_of l) report × TakesFront old new (report_text l report)
IsCutShort asked.Check known old new =
    (h : History) × IsGivenHistory known h × TakesFront old new (verdict_text (first_illegal h.limits [] h.entries))

-- why it ended before it wrote
abbrev pub IsFaultBefore : Command → Option (List ℕ) → Fault → Type 0
IsFaultBefore asked.Walk known e = IsEarlyFault walk_fault known e
IsFaultBefore asked.Live known e = IsLiveFault known e
IsFaultBefore asked.Check known e = IsEarlyFault history_fault known e
