use Rattle.std.proofs.Common.{rules, ◌≡◌, ◌+◌, ◌++◌, get_or, drop, string_bytes, arith}
use Rattle.std.proofs.lemmas.List.{at_drop_more}
use Rattle.ti_live.specs.declared.report.Refusal.{Refusal}
use Rattle.ti_script.specs.LiveTexts.{refusal_line, refusals_text}
use Rattle.ti_driver.proofs.PutLaws.{puts_more, puts_front}
use Rattle.ti_driver.proofs.live_lines.put_refusals.Goals as goal

abbrev none : Refusal
none = record { operation = 0; error = 0 }

pub returns-in_err-send_chunk : goal.returns-in_err-send_chunk
returns-in_err-send_chunk g c =
    let thread = c.args.thread.now in
    let refused = c.args.refused.now in
    let i = c.loop-index.index in
    let r = get_or refused i none in
    let rest = refusals_text thread (drop (i + 1) refused) in
    let next : refusals_text thread (drop i refused) ≡ refusal_line thread r ++ rest = at_drop_more (refusals_text thread) refused i none c.loop-index-test.true in
    record {
      ok = search rules;
      short = search rules;
      room = omega (arith, c.loop-index.invariant.kept, c.add_refusal.ensures.room, c.send_chunk.ensures.room);
      err = search rules;
      front = puts_front _ _ _ (string_bytes c.args.text.now ++ refusals_text thread refused) (string_bytes c.loop-index.text) (refusal_line thread r) rest
          (rw next at c.loop-index.invariant.sent) (rw c.add_refusal.ensures.bytes at c.in_err-send_chunk.ensures.front);
    }

pub loop-index-preserved : goal.loop-index-preserved
loop-index-preserved g c =
    let thread = c.args.thread.now in
    let refused = c.args.refused.now in
    let i = c.loop-index.index in
    let r = get_or refused i none in
    let rest = refusals_text thread (drop (i + 1) refused) in
    let next : refusals_text thread (drop i refused) ≡ refusal_line thread r ++ rest = at_drop_more (refusals_text thread) refused i none c.loop-index-test.true in
    record {
      sent = puts_more _ _ _ (string_bytes c.args.text.now ++ refusals_text thread refused) (string_bytes c.loop-index.text) (refusal_line thread r) rest (string_bytes c.send_chunk.new.text)
          (rw next at c.loop-index.invariant.sent) (rw c.add_refusal.ensures.bytes at c.in_ok-send_chunk.ensures.ok);
      short = c.in_ok-send_chunk.ensures.short;
      kept = omega (arith, c.loop-index.invariant.kept, c.add_refusal.ensures.room, c.send_chunk.ensures.room);
    }
