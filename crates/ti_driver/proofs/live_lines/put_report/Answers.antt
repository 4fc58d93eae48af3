use Rattle.std.proofs.Common.{◌++◌, [], string_bytes, None}
use Rattle.ti_script.specs.LiveTexts.{agents_text}
use Rattle.ti_driver.specs.Reports.{threads_text}
use Rattle.ti_driver.proofs.PutLaws.{sends_both, front_of_second, front_of_rest}
use Rattle.ti_driver.proofs.live_lines.put_report.Goals as goal

pub returns-in_err-put_threads-clause-front : goal.returns-in_err-put_threads-clause-front
returns-in_err-put_threads-clause-front g c =
    let names = c.args.names.now in
    let agents = agents_text names.threads names.agents names.methods 0 c.args.report.now.replies in
    let threads = threads_text (λ _. None) names.threads 0 c.args.report.now.refused in
    front_of_second _ _ _ [] agents threads (string_bytes c.put_agents.new.text)
    (rw (c.requires.empty, c.as_slice.ensures) at c.in_ok-put_agents.ensures.ok) (rw c.as_slice-2.ensures at c.in_err-put_threads.ensures.front)

pub returns-clause-front : goal.returns-clause-front
returns-clause-front g c =
    let names = c.args.names.now in
    let agents = agents_text names.threads names.agents names.methods 0 c.args.report.now.replies in
    let threads = threads_text (λ _. None) names.threads 0 c.args.report.now.refused in
    let sent = sends_both _ _ _ [] agents threads (string_bytes c.put_agents.new.text) (string_bytes c.put_threads.new.text)
    (rw (c.requires.empty, c.as_slice.ensures) at c.in_ok-put_agents.ensures.ok) (rw c.as_slice-2.ensures at c.in_ok-put_threads.ensures.ok) in
    front_of_rest _ _ _ (agents ++ threads) (string_bytes c.put_threads.new.text) sent (rw c.as_bytes.ensures.value at c.write_whole.ensures.front)
