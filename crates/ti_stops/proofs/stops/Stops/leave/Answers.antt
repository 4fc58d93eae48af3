use Rattle.std.proofs.Common.{◌≡◌, not, filter, rules}
use Rattle.std.proofs.lemmas.Fn.{filter_same}
use Rattle.ti_stops.specs.Lists.{is_env, is_mode_of, is_breakpoint_of, is_pop_of, waits_for}
use Rattle.ti_stops.proofs.stops.Stops.leave.Goals as goal

pub returns : goal.returns
returns c =
    let envs : c.retain.new.self.items ≡ filter (λ x. not (is_env c.args.env x)) c.self.inside.envs.items = filter_same _ _ _ (λ x b f' k. search rules) _ _ c.retain.ensures.filtered in
    let modes : c.retain-2.new.self.items ≡ filter (λ x. not (is_mode_of c.args.env x)) c.self.inside.modes.items = filter_same _ _ _ (λ x b f' k. search rules) _ _ c.retain-2.ensures.filtered in
    let breakpoints : c.retain-3.new.self.items ≡ filter (λ x. not (is_breakpoint_of c.args.env x)) c.self.inside.breakpoints.items = filter_same _ _ _ (λ x b f' k. search rules) _ _ c.retain-3.ensures.filtered in
    let pops : c.retain-4.new.self.items ≡ filter (λ x. not (is_pop_of c.args.env x)) c.self.inside.pops.items = filter_same _ _ _ (λ x b f' k. search rules) _ _ c.retain-4.ensures.filtered in
    let waiting : c.retain-5.new.self.items ≡ filter (λ x. not (waits_for c.args.env x)) c.self.inside.waiting.items = filter_same _ _ _ (λ x b f' k. search rules) _ _ c.retain-5.ensures.filtered in
    search (rules, envs, modes, breakpoints, pops, waiting)
