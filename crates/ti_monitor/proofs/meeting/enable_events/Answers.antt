use Rattle.std.proofs.Common.{inl, refl}
use Rattle.ti_service.specs.declared.event.EventKind.TheVariants.{ThreadAttached, ThreadDetached}
use Rattle.ti_service.specs.Memberships.{state_of}
use Rattle.ti_monitor.proofs.EnableLaws.{may_enable}
use Rattle.ti_monitor.proofs.meeting.enable_events.Goals as goal

pub returns-in_err-set_event_notification_mode_now : goal.returns-in_err-set_event_notification_mode_now
returns-in_err-set_event_notification_mode_now c =
    let f = c.set_event_notification_mode_now in
    record { agent = (state_of f.new.self, may_enable ThreadAttached f.result c.args.agent.now f.new.self f.ensures.stays f.ensures.enables f.ensures.busy, inl refl) }

pub returns : goal.returns
returns c =
    let f = c.set_event_notification_mode_now in
    let s = c.set_event_notification_mode_now-2 in record {
      agent = (
        state_of f.new.self,
        may_enable ThreadAttached f.result c.args.agent.now f.new.self f.ensures.stays f.ensures.enables f.ensures.busy,
        may_enable ThreadDetached s.result f.new.self s.new.self s.ensures.stays s.ensures.enables s.ensures.busy,
      );
    }
