-- Frames that are gone.
use Rattle.std.specs.Prelude.{ℕ, zero, suc, ⊤}
use Rattle.ti_types.specs.declared.answer.Answer.TheVariants as answer
use Rattle.ti_types.specs.declared.call.Call.TheVariants as call
use Rattle.ti_types.specs.declared.numbers.ThreadNo.{ThreadNo}
use Rattle.ti_slot.specs.declared.asked.Asked.TheVariants.{Answered}
use Rattle.ti_agent.specs.Env.{Environment}
use Rattle.ti_agent.specs.Posts.{Posts}

-- the thread answered so many pops by 0, each of them posted by the agent's environment as it was then
abbrev pub AreGone : ThreadNo → ℕ → Type 0
AreGone thread zero = ⊤
AreGone thread (suc n) = AreGone thread n × (old : Environment) × (new : Environment) × Posts old new thread call.Pop (Answered answer.Done)
