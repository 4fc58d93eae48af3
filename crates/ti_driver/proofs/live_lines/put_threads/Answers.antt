use Rattle.std.proofs.Common.{rules, ◌+◌, ◌++◌, drop, string_bytes, arith, None}
use Rattle.ti_script.specs.LiveTexts.{name_text, thread_text}
use Rattle.ti_driver.specs.Reports.{threads_text}
use Rattle.ti_driver.proofs.PutLaws.{puts_more, puts_front}
use Rattle.ti_driver.proofs.TextLaws.{drop_next}
use Rattle.ti_driver.proofs.live_lines.put_threads.Goals as goal

pub returns-in_err-put_thread : goal.returns-in_err-put_thread
returns-in_err-put_thread g c =
    let names = c.args.names.now.threads in
    let threads = c.args.threads.now in
    let i = c.loop-number.number in
    let rs = c.index-threads-number.result in
    let next = drop_next threads i rs c.loop-number-test.true c.index-threads-number.is in
    record {
      ok = search rules;
      short = search rules;
      room = omega (arith, c.loop-number.invariant.kept, c.put_thread.ensures.room);
      err = search rules;
      front = puts_front _ _ _ (string_bytes c.args.text.now ++ threads_text (λ _. None) names 0 threads) (string_bytes c.loop-number.text)
          (thread_text (name_text names i) rs None) (threads_text (λ _. None) names (i + 1) (drop (i + 1) threads))
          (rw next at c.loop-number.invariant.sent) (rw (c.thread_name-thread.ensures, c.as_slice.ensures) at c.in_err-put_thread.ensures.front);
    }

pub loop-number-preserved : goal.loop-number-preserved
loop-number-preserved g c =
    let names = c.args.names.now.threads in
    let threads = c.args.threads.now in
    let i = c.loop-number.number in
    let rs = c.index-threads-number.result in
    let next = drop_next threads i rs c.loop-number-test.true c.index-threads-number.is in
    record {
      sent = puts_more _ _ _ (string_bytes c.args.text.now ++ threads_text (λ _. None) names 0 threads) (string_bytes c.loop-number.text)
          (thread_text (name_text names i) rs None) (threads_text (λ _. None) names (i + 1) (drop (i + 1) threads)) (string_bytes c.put_thread.new.text)
          (rw next at c.loop-number.invariant.sent) (rw (c.thread_name-thread.ensures, c.as_slice.ensures) at c.in_ok-put_thread.ensures.ok);
      short = c.in_ok-put_thread.ensures.short;
      kept = omega (arith, c.loop-number.invariant.kept, c.put_thread.ensures.room);
    }
