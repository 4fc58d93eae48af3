use Rattle.std.proofs.Common.{refl, rules, ◌≡◌, ◌<◌, ℕ, length, ap, sym, ◌∙◌, subst}
use Rattle.std.specs.Prelude.{slice_get}
use Rattle.ti_types.specs.Answer.{said}
use Rattle.ti_types.specs.declared.numbers.ThreadNo.{ThreadNo}
use Rattle.ti_agent.specs.Env.{Environment, place_in}
use Rattle.ti_agent.specs.Home.{Housed}
use Rattle.ti_agent.specs.Posts.{Collects, IsOut}
use Rattle.ti_agent.proofs.Places.{about_at}
use Rattle.ti_agent.proofs.Whole.{found_in, fewer, whole_seen, seen_call}
use Rattle.ti_agent.proofs.Posting.{in_range_of, out_at}
use Rattle.ti_agent.proofs.AtHome.{home_set, same_env}
use Rattle.ti_agent.proofs.env.Env.collect.Given.{Over}
use Rattle.ti_agent.proofs.env.Env.collect.Goals.{After-place_of-at}
use Rattle.ti_agent.proofs.env.Env.collect.Goals as goal

-- the place where it looks
is_place : (g : Over) (c : After-place_of-at g) → c.place_of-at.result.0 ≡ place_in c.self.inside.desks c.args.ticket.thread
is_place g c =
    let s : Environment = record { env = c.self.inside.env; state = c.self.inside.state; desks = c.self.inside.desks } in
    ap (λ (x : ThreadNo). x.0) (found_in c.args.self.now.env s c.args.ticket.thread c.place_of-at.result (same_env c.self.view_is) c.place_of-at.ensures)

is_out_there : (g : Over) (c : After-place_of-at g) → IsOut (record { env = c.self.inside.env; state = c.self.inside.state; desks = c.self.inside.desks }) c.args.ticket
is_out_there g c = subst (λ (x : Environment). IsOut x c.args.ticket) (sym (same_env c.self.view_is)) c.requires.out

pub index_mut-requires : goal.index_mut-requires
index_mut-requires g c =
    let s : Environment = record { env = c.self.inside.env; state = c.self.inside.state; desks = c.self.inside.desks } in
    let here = (goal.at.index_mut-requires g c).After-place_of-at in
    let h : c.place_of-at.result.0 < length s.desks = subst (λ (n : ℕ). n < length s.desks) (sym (is_place g here)) (in_range_of s c.args.ticket (is_out_there g here)) in
    search rules

pub collect-requires : goal.collect-requires
collect-requires g c =
    let s : Environment = record { env = c.self.inside.env; state = c.self.inside.state; desks = c.self.inside.desks } in
    let here = (goal.at.collect-requires g c).After-place_of-at in
    record { out = (out_at s c.args.ticket c.place_of-at.result.0 c.index_mut.result.now (is_place g here) (is_out_there g here) c.index_mut.ensures.value).1 }

pub invariant_of-self : goal.invariant_of-self
invariant_of-self g c =
    let s : Environment = record { env = c.self.inside.env; state = c.self.inside.state; desks = c.self.inside.desks } in
    let here = (goal.at.invariant_of-self g c).After-place_of-at in
    let at = (out_at s c.args.ticket c.place_of-at.result.0 c.index_mut.result.now (is_place g here) (is_out_there g here) c.index_mut.ensures.value).0 in (
      whole_seen s c.place_of-at.result.0 c.index_mut.result.now c.collect.new.self _ c.self.invariant.0 at c.collect.ensures.same.env c.collect.ensures.hold (fewer c.args.ticket c.index_mut.result.now.view.posted),
      home_set g.H.Home.about g.H.Home.holds c.self.inside.home s s.state c.place_of-at.result.0 c.index_mut.result.now c.collect.new.self at c.collect.ensures.same.cell c.collect.ensures.hold.goes.subject refl c.self.invariant.1,
    )

pub returns : goal.returns
returns g c =
    let s : Environment = record { env = c.self.inside.env; state = c.self.inside.state; desks = c.self.inside.desks } in
    let here = (goal.at.returns g c).After-place_of-at in
    let is = is_place g here in
    let at = ap (slice_get s.desks) (sym is) ∙ (out_at s c.args.ticket c.place_of-at.result.0 c.index_mut.result.now is (is_out_there g here) c.index_mut.ensures.value).0 in
    let e = c.collect.ensures in
    let new = seen_call s c.place_of-at.result.0 c.collect.new.self in
    let k : Collects s new c.args.ticket (said c.collect.result) = record {
      before = c.index_mut.result.now;
      after = c.collect.new.self;
      there = at;
      about = about_at s.desks c.args.ticket.thread c.index_mut.result.now at;
      same = e.same;
      hold = e.hold;
      once = e.once;
      answer = e.answer;
      place = e.place;
      new_is = ap (λ (n : ℕ). seen_call s n c.collect.new.self) is;
    } in
    record {
      collects = subst (λ (x : Environment). Collects x new c.args.ticket (said c.collect.result)) (same_env c.self.view_is) k;
      home = ap (λ (x : Housed _). x.home) c.self.view_is;
    }
