use Rattle.ti_types.specs.declared.call.Call.TheVariants.{Suspend, Resume}
use Rattle.ti_types.specs.Answer.{said}
use Rattle.ti_agent.proofs.Cells.{called_cells, went_cells, traced_cells, alive_cells, either_way, or_unchanged}
use Rattle.ti_agent.proofs.AtHome.{same_env, same_on_err}
use Rattle.ti_runner.proofs.agent_calls.make.Goals as goal

pub returns-in-Ask : goal.returns-in-Ask
returns-in-Ask g c = called_cells c.args.env.now.env c.call.new.self.env c.in-Ask.thread c.in-Ask.call (said c.call.result) c.call.ensures.called

pub returns-in-SuspendList : goal.returns-in-SuspendList
returns-in-SuspendList g c =
    let k = c.suspend_thread_list in
    either_way k.result _ _ c.args.env.now.env k.new.self.env k.ensures.each k.ensures.refused (λ codes went. went_cells c.args.env.now.env k.new.self.env Suspend _ codes.items went) (λ e kept. same_env kept.1)

pub returns-in-ResumeList : goal.returns-in-ResumeList
returns-in-ResumeList g c =
    let k = c.resume_thread_list in
    either_way k.result _ _ c.args.env.now.env k.new.self.env k.ensures.each k.ensures.refused (λ codes went. went_cells c.args.env.now.env k.new.self.env Resume _ codes.items went) (λ e kept. same_env kept.1)

pub returns-in-AllStacks : goal.returns-in-AllStacks
returns-in-AllStacks g c =
    let k = c.get_all_stack_traces in
    or_unchanged k.result _ c.args.env.now.env k.new.self.env k.ensures.traced (same_on_err _ _ k.result k.ensures.unchanged) (λ r told. alive_cells c.args.env.now.env k.new.self.env _ r.0.items r.1 told)

pub returns-in-ListStacks : goal.returns-in-ListStacks
returns-in-ListStacks g c =
    let k = c.get_thread_list_stack_traces in
    or_unchanged k.result _ c.args.env.now.env k.new.self.env k.ensures.traced (same_on_err _ _ k.result k.ensures.unchanged) (λ r told. traced_cells c.args.env.now.env k.new.self.env _ _ _ _ r.0.items r.1 told)
