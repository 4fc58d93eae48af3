-- A live run, and the text that is written for it.
use Rattle.std.specs.Prelude.{◌≡◌, ◌⊎◌, ◌+◌, ◌<◌, ℕ, false, true, ◌++◌, List, [], ◌∷◌, Option, None}
use Rattle.serde_json.specs.Data.{Data}
use Rattle.ti_types.specs.declared.limits.Limits.{Limits}
use Rattle.ti_types.specs.declared.numbers.ThreadNo.{ThreadNo}
use Rattle.ti_types.specs.declared.entry.Entry.{Entry}
use Rattle.ti_replay.specs.Legal.{first_illegal, is_legal}
use Rattle.ti_live.specs.declared.report.LiveReport.{LiveReport}
use Rattle.ti_live.specs.declared.report.Refusal.{Refusal}
use Rattle.ti_live.specs.declared.report.Script.{Script}
use Rattle.ti_report.specs.Fits.{Fits}
use Rattle.ti_report.specs.Told.{history_at}
use Rattle.ti_runner.specs.declared.fault.RunFault.{RunFault}
use Rattle.ti_runner.specs.declared.fault.RunFault.TheVariants as run
use Rattle.ti_script.specs.declared.names.Cast.{Cast}
use Rattle.ti_script.specs.declared.live.Live.{Live}
use Rattle.ti_script.specs.Walks.{IsDocument}
use Rattle.ti_script.specs.Lives.{live_fault, IsLive}
use Rattle.ti_script.specs.LiveTexts.{name_text, agents_text, thread_text}
use Rattle.ti_driver.specs.declared.fault.Fault.{Fault}
use Rattle.ti_driver.specs.declared.fault.Fault.TheVariants.{Memory, Cell}
use Rattle.ti_driver.specs.Runs.{IsEarlyFault}
use Rattle.ti_driver.specs.Streams.{IsAllOf}

-- the reader gave a document that says this live script
pub record IsGivenLive (known : Option (List ℕ)) (l : Live) : Type 0 where
  pub input : List ℕ
  pub all : IsAllOf known input
  pub tree : Data
  pub document : IsDocument input tree
  pub faultless : live_fault tree ≡ None
  pub says : IsLive tree l

-- what is run of a live script: everything but the names
abbrev pub script_of : Live → Script
script_of l = record { limits = l.limits; walks = l.walks; calls = l.calls }

-- The report of a run of the script in which no list ended early: each call has a reply. Every history in it is legal.
pub record IsReportOf (script : Script) (report : LiveReport) : Type 0 where
  pub fits : Fits script report
  pub whole : report.spent ≡ false
  pub legal : (t : ThreadNo) → t.0 < script.limits.threads → is_legal script.limits (history_at report.histories t) ≡ true

-- ---- the text

-- the place of the first illegal entry in the history of the thread of this number
abbrev pub verdict_at : Limits → List (List Entry) → ℕ → Option ℕ
verdict_at limits histories number = first_illegal limits [] (history_at histories (record { 0 = number }))

-- the threads that are numbered from this one on: the refused operations of each, and the verdict on its history
abbrev pub threads_text : (verdict : ℕ → Option ℕ) → (threads : List (List ℕ)) → ℕ → List (List Refusal) → List ℕ
threads_text verdict threads number [] = []
threads_text verdict threads number (rs ∷ more) = thread_text (name_text threads number) rs (verdict number) ++ threads_text verdict threads (number + 1) more

-- the text of a report whose histories are all legal
abbrev pub sound_text : Cast → LiveReport → List ℕ
sound_text names report =
    agents_text names.threads names.agents names.methods 0 report.replies ++ threads_text (λ _. None) names.threads 0 report.refused

-- what is written for a live run: the replies of each agent, and then the threads
abbrev pub report_text : Live → LiveReport → List ℕ
report_text l report =
    agents_text l.threads l.agents l.methods 0 report.replies ++ threads_text (verdict_at l.limits report.histories) l.threads 0 report.refused

-- ---- the faults

-- the fault of a run that gave no report
abbrev pub fault_of_run : RunFault → Fault
fault_of_run run.Memory = Memory
fault_of_run run.Cell = Cell

-- Why there is no report. Memory ran out or a thread could not be started. Or a cell was in use or the report does not fit
abbrev pub IsRunFault : Fault → Type 0
IsRunFault e = (e ≡ Memory) ⊎ (e ≡ Cell)

-- why a live run ended before it wrote: as for every document, or for a cell, once there is a script
abbrev pub IsLiveFault : Option (List ℕ) → Fault → Type 0
IsLiveFault known e = IsEarlyFault live_fault known e ⊎ ((e ≡ Cell) × (l : Live) × IsGivenLive known l)
