-- Runs of calls of an account.
use Rattle.std.specs.Prelude.{sum}
use Rattle.std.proofs.Common.{◌≡◌, ◌+◌, List, [], ◌∷◌, ap, arith}
use Rattle.ti_pprof.specs.Stacks.{stacks_of}
use Rattle.ti_pprof.proofs.SampleLaws.{sum_by-samples_in}
use Rattle.ti_monitor.specs.declared.account.Account.{Account}
use Rattle.ti_monitor.specs.Runs.{Act, Widened, Ticked, Answered, Lost, TakenBack, Step, RunsBy, taken_by, taken_in, ticks_by, ticks_in, samples_in, SamplesAreTicks}

-- a call counts the ticks at places, and takes some back
step_ticks : (old new : Account) (act : Act) → Step old act new → new.thread_ticks + taken_by act ≡ ticks_by act + old.thread_ticks
step_ticks old new Widened h = omega (arith, h.1)
step_ticks old new (Ticked place) h = omega (arith, h.1)
step_ticks old new (Answered place frames late l) h = omega (arith, h.1.1)
step_ticks old new (Lost place f l) h = omega (arith, h.1.1)
step_ticks old new (TakenBack place count) h = omega (arith, h.0.1, h.1)

run_ticks : (old new : Account) (acts : List Act) → RunsBy old acts new → new.thread_ticks + taken_in acts ≡ ticks_in acts + old.thread_ticks
run_ticks old new [] h = omega (arith, ap (λ (a : Account). a.thread_ticks) h)
run_ticks old new (act ∷ acts) h = omega (arith, step_ticks old h.0 act h.1, run_ticks h.0 new acts h.2)

-- the samples that were counted are as many as the account says
samples_are : (a : Account) → samples_in a + sum a.owed.items ≡ a.thread_ticks
samples_are a =
    omega (arith, a.balance, a.counts.sums, sum_by-samples_in (stacks_of a.counts.trie.nodes.keys) a.counts.table.rows.keys a.counts.table.counts.items a.counts.table.counted)

pub samples_are_ticks : SamplesAreTicks
samples_are_ticks old new acts none run = omega (arith, none, samples_are new, run_ticks old new acts run)
