use Rattle.std.proofs.Common.{is_some, sym, ◌∙◌}
use Rattle.ti_agent.specs.Deadlines.{DiscardsAt}
use Rattle.ti_agent.proofs.InTime.{comes_within, comes_with_room, comes_without, discards_place, discards_there, discards_free}
use Rattle.ti_agent.proofs.env.Env.ask_within.Given.{Over}
use Rattle.ti_agent.proofs.env.Env.ask_within.Goals.{After-discard_at}
use Rattle.ti_agent.proofs.env.Env.ask_within.Goals as goal

-- what was discarded
discarded : (g : Over) (c : After-discard_at g) → DiscardsAt c.args.self.now.env c.discard_at.new.self.env c.args.thread (is_some c.discard_at.result)
discarded g c = c.discard_at.ensures.discards

pub room_for-requires-clause-place : goal.room_for-requires-clause-place
room_for-requires-clause-place g c =
    let d = discarded g (goal.at.room_for-requires-clause-place g c).After-discard_at in
    c.in-Ok.ensures.place ∙ (λ j. record { 0 = sym (discards_place c.args.self.now.env c.discard_at.new.self.env c.args.thread c.args.thread (is_some c.discard_at.result) d) j })

pub room_for-requires-clause-there : goal.room_for-requires-clause-there
room_for-requires-clause-there g c =
    let d = discarded g (goal.at.room_for-requires-clause-there g c).After-discard_at in
    discards_there c.args.self.now.env c.discard_at.new.self.env c.args.thread c.args.thread (is_some c.discard_at.result) d c.in-Ok.ensures.there

pub room_for-requires-clause-admitted : goal.room_for-requires-clause-admitted
room_for-requires-clause-admitted g c =
    let d = discarded g (goal.at.room_for-requires-clause-admitted g c).After-discard_at in
    discards_free c.args.self.now.env c.discard_at.new.self.env c.args.thread c.args.thread c.args.call (is_some c.discard_at.result) d c.in-Ok.ensures.admitted

pub ask_one_within-requires-clause-place : goal.ask_one_within-requires-clause-place
ask_one_within-requires-clause-place g c =
    let d = discarded g (goal.at.ask_one_within-requires-clause-place g c).After-discard_at in
    c.in-Ok.ensures.place ∙ (λ j. record { 0 = sym (discards_place c.args.self.now.env c.discard_at.new.self.env c.args.thread c.args.thread (is_some c.discard_at.result) d) j })

pub ask_one_within-requires-clause-admitted : goal.ask_one_within-requires-clause-admitted
ask_one_within-requires-clause-admitted g c =
    let d = discarded g (goal.at.ask_one_within-requires-clause-admitted g c).After-discard_at in
    discards_free c.args.self.now.env c.discard_at.new.self.env c.args.thread c.args.thread c.args.call (is_some c.discard_at.result) d c.in-Ok.ensures.admitted

pub returns-in-Ok-room_for-clause-called : goal.returns-in-Ok-room_for-clause-called
returns-in-Ok-room_for-clause-called g c =
    let d = discarded g (goal.at.returns-in-Ok-room_for-clause-called g c).After-discard_at in
    comes_within c.args.self.now.env c.discard_at.new.self.env c.ask_one_within.new.self.env c.args.thread c.args.call _ (is_some c.discard_at.result) c.in-Ok.ensures.admitted d
    (comes_with_room c.discard_at.new.self.env c.ask_one_within.new.self.env c.args.thread c.args.call _ c.in-Ok-room_for.ensures.room c.ask_one_within.ensures.comes)

pub returns-in-Err-room_for-clause-called : goal.returns-in-Err-room_for-clause-called
returns-in-Err-room_for-clause-called g c =
    let d = discarded g (goal.at.returns-in-Err-room_for-clause-called g c).After-discard_at in
    comes_within c.args.self.now.env c.discard_at.new.self.env c.discard_at.new.self.env c.args.thread c.args.call _ (is_some c.discard_at.result) c.in-Ok.ensures.admitted d
    (comes_without c.discard_at.new.self.env c.args.thread c.args.call c.in-Err-room_for.error c.in-Err-room_for.ensures.refused)
