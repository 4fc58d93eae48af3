use Rattle.std.proofs.Common.{rules, ◌+◌, ◌++◌, drop, string_bytes, arith}
use Rattle.ti_script.specs.LiveTexts.{reply_line, replies_text}
use Rattle.ti_driver.proofs.PutLaws.{puts_more, puts_front}
use Rattle.ti_driver.proofs.TextLaws.{drop_next}
use Rattle.ti_driver.proofs.live_lines.put_replies.Goals as goal

pub returns-in_err-send_chunk : goal.returns-in_err-send_chunk
returns-in_err-send_chunk g c =
    let names = c.args.names.now in
    let agent = c.args.agent.now in
    let replies = c.args.replies.now in
    let i = c.loop-number.number in
    let r = c.index-replies-number.result in
    let next = drop_next replies i r c.loop-number-test.true c.index-replies-number.is in
    let sent = rw next at c.loop-number.invariant.sent in
    record {
      ok = search rules;
      short = search rules;
      room = omega (arith, c.loop-number.invariant.kept, c.add_reply.ensures.room, c.send_chunk.ensures.room);
      err = search rules;
      front = puts_front _ _ _ (string_bytes c.args.text.now ++ replies_text names.threads names.methods agent 0 replies) (string_bytes c.loop-number.text)
          (reply_line names.threads names.methods agent i r) (replies_text names.threads names.methods agent (i + 1) (drop (i + 1) replies))
          sent (rw c.add_reply.ensures.bytes at c.in_err-send_chunk.ensures.front);
    }

pub loop-number-preserved : goal.loop-number-preserved
loop-number-preserved g c =
    let names = c.args.names.now in
    let agent = c.args.agent.now in
    let replies = c.args.replies.now in
    let i = c.loop-number.number in
    let r = c.index-replies-number.result in
    let next = drop_next replies i r c.loop-number-test.true c.index-replies-number.is in
    let sent = rw next at c.loop-number.invariant.sent in
    let room = rw next at c.loop-number.invariant.room in
    record {
      sent = puts_more _ _ _ (string_bytes c.args.text.now ++ replies_text names.threads names.methods agent 0 replies) (string_bytes c.loop-number.text)
          (reply_line names.threads names.methods agent i r) (replies_text names.threads names.methods agent (i + 1) (drop (i + 1) replies)) (string_bytes c.send_chunk.new.text)
          sent (rw c.add_reply.ensures.bytes at c.in_ok-send_chunk.ensures.ok);
      short = c.in_ok-send_chunk.ensures.short;
      room = (room.0, room.1.1, omega (arith, room.2, c.add_reply.ensures.room, c.send_chunk.ensures.room));
      kept = omega (arith, c.loop-number.invariant.kept, c.add_reply.ensures.room, c.send_chunk.ensures.room);
    }
