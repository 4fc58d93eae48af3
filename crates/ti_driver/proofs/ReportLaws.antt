-- The text of a report whose histories are legal, and how many lists it has.
use Rattle.std.proofs.Common.{◌≡◌, ℕ, ◌+◌, ◌<◌, List, [], ◌∷◌, ◌++◌, length, Option, None, refl, ap, sym, subst, inl, inr, arith}
use Rattle.ti_live.specs.declared.report.LiveReport.{LiveReport}
use Rattle.ti_live.specs.declared.report.Refusal.{Refusal}
use Rattle.ti_live.specs.declared.report.Script.{Script}
use Rattle.ti_report.specs.Told.{history_at}
use Rattle.ti_script.specs.declared.live.Live.{Live}
use Rattle.ti_script.specs.Lives.{live_fault}
use Rattle.ti_script.specs.LiveTexts.{agents_text}
use Rattle.ti_driver.specs.declared.fault.Fault.{Fault}
use Rattle.ti_driver.specs.Runs.{IsEarlyFault}
use Rattle.ti_driver.specs.Reports.{IsGivenLive, IsRunFault, IsLiveFault, IsReportOf, script_of, verdict_at, threads_text, report_text, sound_text}
use Rattle.ti_driver.proofs.VerdictLaws.{legal_has_none}

-- where no history has an illegal entry each thread's line says that it is legal
pub threads_sound : (verdict : ℕ → Option ℕ) (threads : List (List ℕ)) (number : ℕ) (refused : List (List Refusal))
    → ((k : ℕ) → k < number + length refused → verdict k ≡ None) → threads_text verdict threads number refused ≡ threads_text (λ _. None) threads number refused
threads_sound verdict threads number [] none = refl
threads_sound verdict threads number (rs ∷ more) none =
    let here : verdict number ≡ None = none number (omega arith) in
    let behind = threads_sound verdict threads (number + 1) more (λ k within. none k (omega (arith, within))) in
    rw (here, behind) refl

-- no history of a report has an illegal entry
pub none_of : (script : Script) (report : LiveReport) → IsReportOf script report → (k : ℕ) → k < 0 + length report.refused → verdict_at script.limits report.histories k ≡ None
none_of script report r k within = legal_has_none script.limits (history_at report.histories (record { 0 = k })) (r.legal (record { 0 = k }) (omega (arith, within, r.fits.shape.refused)))

-- so its text is that of legal histories
pub report_sound : (l : Live) (report : LiveReport) → IsReportOf (script_of l) report → report_text l report ≡ sound_text (record { threads = l.threads; agents = l.agents; methods = l.methods }) report
report_sound l report r =
    ap (λ text. agents_text l.threads l.agents l.methods 0 report.replies ++ text)
    (threads_sound (verdict_at l.limits report.histories) l.threads 0 report.refused (none_of (script_of l) report r))

-- the fault of a run is one of the program's
pub live_fault_of : (known : Option (List ℕ)) (l : Live) (e : Fault) → IsGivenLive known l → IsRunFault e → IsLiveFault known e
live_fault_of known l e given (inl memory) = inl (subst (IsEarlyFault live_fault known) (sym memory) tt)
live_fault_of known l e given (inr cell) = inr (cell, l, given)
