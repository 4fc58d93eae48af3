use Rattle.std.proofs.Common.{ap, ◌≡◌, ◌&&◌, false, sym, subst, None}
use Rattle.std.specs.Option.{option_map}
use Rattle.ti_types.specs.Answer.{said}
use Rattle.ti_env.specs.Env.{call_refusal}
use Rattle.ti_replay.specs.Settling.{waits}
use Rattle.ti_agent.specs.Buffers.{IsJustBufferOf}
use Rattle.ti_agent.specs.Env.{Environment, is_full}
use Rattle.ti_agent.specs.Deadlines.{ComesTo}
use Rattle.ti_agent.proofs.Whole.{desk_at, reaches, found_in, may_call, has_room, has_buffer, after_call}
use Rattle.ti_agent.proofs.InTime.{in_time_whole, in_time_comes, in_time_kind, unwrapped}
use Rattle.ti_agent.proofs.AtHome.{home_set, in_time_cell, same_env}
use Rattle.ti_agent.proofs.env.Env.ask_one_within.Goals as goal

pub call_within-requires-clause-calls : goal.call_within-requires-clause-calls
call_within-requires-clause-calls g c =
    let s : Environment = record { env = c.self.inside.env; state = c.self.inside.state; desks = c.self.inside.desks } in
    let free : call_refusal s.state c.args.place c.args.call ≡ None = reaches c.args.self.now.env s c.args.thread c.args.place c.args.call (same_env c.self.view_is) c.requires.place c.requires.admitted in
    may_call s c.args.place c.args.call c.index_mut.result.now c.self.invariant.0 free c.index_mut.ensures.value

pub call_within-requires-clause-room : goal.call_within-requires-clause-room
call_within-requires-clause-room g c = λ _.
    let s : Environment = record { env = c.self.inside.env; state = c.self.inside.state; desks = c.self.inside.desks } in
    let free : call_refusal s.state c.args.place c.args.call ≡ None = reaches c.args.self.now.env s c.args.thread c.args.place c.args.call (same_env c.self.view_is) c.requires.place c.requires.admitted in
    has_room s c.args.place c.args.call c.index_mut.result.now c.self.invariant.0 free c.index_mut.ensures.value

pub call_within-requires-clause-buf : goal.call_within-requires-clause-buf
call_within-requires-clause-buf g c =
    let s : Environment = record { env = c.self.inside.env; state = c.self.inside.state; desks = c.self.inside.desks } in
    let free : call_refusal s.state c.args.place c.args.call ≡ None = reaches c.args.self.now.env s c.args.thread c.args.place c.args.call (same_env c.self.view_is) c.requires.place c.requires.admitted in
    let has : IsJustBufferOf s.state.limits c.args.call c.args.buf = subst (λ (x : Environment). IsJustBufferOf x.state.limits c.args.call c.args.buf) (sym (same_env c.self.view_is)) c.requires.buf in
    has_buffer s c.args.place c.args.call c.index_mut.result.now c.args.buf c.self.invariant.0 free c.index_mut.ensures.value has

pub invariant_of-self-2 : goal.invariant_of-self-2
invariant_of-self-2 g c =
    let s : Environment = record { env = c.self.inside.env; state = c.self.inside.state; desks = c.self.inside.desks } in
    let free : call_refusal s.state c.args.place c.args.call ≡ None = reaches c.args.self.now.env s c.args.thread c.args.place c.args.call (same_env c.self.view_is) c.requires.place c.requires.admitted in
    let room : (waits c.args.call && is_full s c.args.thread) ≡ false = subst (λ (x : Environment). (waits c.args.call && is_full x c.args.thread) ≡ false) (sym (same_env c.self.view_is)) c.requires.room in
    let e = c.in-Ok.ensures in (
      in_time_whole s c.args.thread c.args.place c.args.call c.index_mut.result.now c.call_within.new.self (option_map said c.in-Ok.answer) c.spend.new.self c.self.invariant.0 free c.index_mut.ensures.value (found_in c.args.self.now.env s c.args.thread c.args.place (same_env c.self.view_is) c.requires.place) c.spend.ensures room e.goes e.mine e.in_time,
      home_set g.H.Home.about g.H.Home.holds c.self.inside.home s c.spend.new.self c.args.place.0 c.index_mut.result.now c.call_within.new.self (desk_at s c.args.place c.args.call c.index_mut.result.now c.self.invariant.0 free c.index_mut.ensures.value) (in_time_cell c.args.call c.index_mut.result.now c.call_within.new.self (option_map said c.in-Ok.answer) e.in_time) e.goes.subject (ap (λ x. x.limits) c.spend.ensures) c.self.invariant.1,
    )

pub returns-clause-comes : goal.returns-clause-comes
returns-clause-comes g c =
    let s : Environment = record { env = c.self.inside.env; state = c.self.inside.state; desks = c.self.inside.desks } in
    let free : call_refusal s.state c.args.place c.args.call ≡ None = reaches c.args.self.now.env s c.args.thread c.args.place c.args.call (same_env c.self.view_is) c.requires.place c.requires.admitted in
    let e = c.in-Ok.ensures in
    subst (λ (x : Environment). ComesTo x (after_call s c.args.place c.spend.new.self c.call_within.new.self) c.args.thread c.args.call (said c.unwrap_or.result)) (same_env c.self.view_is)
    (in_time_comes s c.args.thread c.args.place c.args.call c.index_mut.result.now c.call_within.new.self (option_map said c.in-Ok.answer) (said c.unwrap_or.result) c.spend.new.self c.self.invariant.0 free c.index_mut.ensures.value (found_in c.args.self.now.env s c.args.thread c.args.place (same_env c.self.view_is) c.requires.place) c.spend.ensures e.goes e.mine e.in_time
    (unwrapped c.in-Ok.answer c.unwrap_or.result c.unwrap_or.ensures))

pub returns-clause-kind : goal.returns-clause-kind
returns-clause-kind g c =
    in_time_kind c.args.call c.index_mut.result.now c.call_within.new.self (option_map said c.in-Ok.answer) (said c.unwrap_or.result) c.in-Ok.ensures.in_time (unwrapped c.in-Ok.answer c.unwrap_or.result c.unwrap_or.ensures)
