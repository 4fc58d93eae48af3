use Rattle.std.proofs.Common.{rules, ◌≡◌, Bool, ap, sym, ◌∙◌}
use Rattle.std.specs.List.{filter}
use Rattle.std.specs.Prelude.{if◌then◌else◌}
use Rattle.std.proofs.lemmas.Fn.{filter_same}
use Rattle.ti_types.specs.declared.stack.StackInfo.{StackInfo}
use Rattle.ti_agent.specs.Traces.{is_alive}
use Rattle.ti_agent.proofs.gathering.told.Goals as goal

pub returns-then-is_alive_only : goal.returns-then-is_alive_only
returns-then-is_alive_only c =
    let kept : c.retain.new.self.items ≡ filter (λ (x : StackInfo). is_alive x.state) c.args.infos.items = filter_same _ _ _ (λ x b f' k. search rules) _ _ c.retain.ensures.filtered in
    kept ∙ sym (ap (λ (b : Bool). if b then filter (λ (x : StackInfo). is_alive x.state) c.args.infos.items else c.args.infos.items) c.if-is_alive_only.true)
