use Rattle.std.proofs.Common.{◌+◌, drop, arith, string_bytes}
use Rattle.ti_script.specs.Texts.{line_text, lines_text}
use Rattle.ti_driver.proofs.StreamLaws.{sends_more, sends_front, sends_line}
use Rattle.ti_driver.proofs.TextLaws.{drop_next}
use Rattle.ti_driver.proofs.lines.put_lines.Goals as goal

pub returns-in_err-send_chunk-clause-front : goal.returns-in_err-send_chunk-clause-front
returns-in_err-send_chunk-clause-front g c =
    let methods = c.args.methods.now in
    let i = c.loop-index.index in
    let os = c.args.outcomes.now in
    let o = c.index-outcomes-index.result in
    let next = drop_next os i o c.loop-index-test.true c.index-outcomes-index.is in
    let rest = lines_text methods (i + 1) (drop (i + 1) os) in
    let sent = rw next at c.loop-index.invariant.sent in
    sends_front _ _ _ (lines_text methods 0 os) (string_bytes c.add_line.new.text) rest
    (sends_line _ _ (lines_text methods 0 os) (string_bytes c.loop-index.text) (line_text methods i o) rest (string_bytes c.add_line.new.text) c.add_line.ensures.bytes sent)
    c.in_err-send_chunk.ensures.front

pub loop-index-preserved : goal.loop-index-preserved
loop-index-preserved g c =
    let methods = c.args.methods.now in
    let i = c.loop-index.index in
    let os = c.args.outcomes.now in
    let o = c.index-outcomes-index.result in
    let next = drop_next os i o c.loop-index-test.true c.index-outcomes-index.is in
    let rest = lines_text methods (i + 1) (drop (i + 1) os) in
    let sent = rw next at c.loop-index.invariant.sent in
    let room = rw next at c.loop-index.invariant.room in
    record {
      sent = sends_more _ _ _ (lines_text methods 0 os) (string_bytes c.add_line.new.text) (string_bytes c.send_chunk.new.text) rest
          (sends_line _ _ (lines_text methods 0 os) (string_bytes c.loop-index.text) (line_text methods i o) rest (string_bytes c.add_line.new.text) c.add_line.ensures.bytes sent)
          c.in_ok-send_chunk.ensures.ok;
      short = c.in_ok-send_chunk.ensures.short;
      room = (room.0, room.1.1, omega (arith, room.2, c.add_line.ensures.room, c.send_chunk.ensures.room));
    }

pub returns-clause-front : goal.returns-clause-front
returns-clause-front g c =
    let methods = c.args.methods.now in
    let i = c.loop-index.index in
    let os = c.args.outcomes.now in
    sends_front _ _ _ (lines_text methods 0 os) (string_bytes c.loop-index.text) (lines_text methods i (drop i os))
    c.loop-index.invariant.sent (rw c.as_bytes.ensures.value at c.write_whole.ensures.front)
