use Rattle.std.proofs.Common.{◌++◌}
use Rattle.ti_monitor.specs.Exposition.{answer_lines, build_lines, call_lines, door_lines, life_lines, profile_lines, sample_lines, thread_lines, time_lines}
use Rattle.ti_monitor.proofs.TextLaws.{join}
use Rattle.ti_monitor.proofs.prometheus.metrics_text.Goals as goal

pub returns : goal.returns
returns c =
    let m = c.args.metrics.now in
    let door = door_lines c.args.requests.now c.args.connections in
    let samples = sample_lines m ++ door in
    let profiles = profile_lines m ++ samples in
    let calls = call_lines m ++ profiles in
    let answers = answer_lines m.answers ++ calls in
    let times = time_lines m ++ answers in
    let lives = life_lines m ++ times in
    join _ _ _ _ (build_lines c.args.version.now) (thread_lines m ++ lives) c.in_ok-push_build.ensures
    (join _ _ _ _ (thread_lines m) lives c.in_ok-push_threads.ensures
    (join _ _ _ _ (life_lines m) times c.in_ok-push_lives.ensures
    (join _ _ _ _ (time_lines m) answers c.in_ok-push_times.ensures
    (join _ _ _ _ (answer_lines m.answers) calls c.in_ok-push_answers.ensures
    (join _ _ _ _ (call_lines m) profiles c.in_ok-push_calls.ensures
    (join _ _ _ _ (profile_lines m) samples c.in_ok-push_profiles.ensures
    (join _ _ _ _ (sample_lines m) door c.in_ok-push_samples.ensures c.push_door.ensures)))))))
