use Rattle.std.proofs.Common.{codes, decimal, ◌++◌}
use Rattle.ti_monitor.specs.Exposition.{counter, single}
use Rattle.ti_monitor.proofs.TextLaws.{join}
use Rattle.ti_monitor.proofs.prometheus.push_profiles.Goals as goal

pub returns : goal.returns
returns c =
    let m = c.args.metrics.now in
    let one = single (codes "profiles_total") counter (codes "Profiles that were begun.") (decimal m.profiles) in
    let two = single (codes "profile_ticks_total") counter (codes "Ticks of all profiles.") (decimal m.ticks) in
    let three = single (codes "profile_ticks_missed_total") counter (codes "Ticks that came too late to be taken.") (decimal m.missed) in
    let four = single (codes "profile_samples_no_room_total") counter (codes "Samples for which a profile had no room.") (decimal m.no_room) in
    join _ _ _ _ one (two ++ (three ++ four)) c.in_ok-push_single.ensures
    (join _ _ _ _ two (three ++ four) c.in_ok-push_single-2.ensures (join _ _ _ _ three four c.in_ok-push_single-3.ensures c.push_single-4.ensures))
