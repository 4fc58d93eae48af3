use Rattle.std.proofs.Common.{rules, ◌+◌, ◌++◌, drop, string_bytes, arith}
use Rattle.ti_script.specs.LiveTexts.{name_text, replies_text, agents_text}
use Rattle.ti_driver.proofs.PutLaws.{puts_more, puts_front}
use Rattle.ti_driver.proofs.TextLaws.{drop_next}
use Rattle.ti_driver.proofs.live_lines.put_agents.Goals as goal

pub returns-in_err-put_replies : goal.returns-in_err-put_replies
returns-in_err-put_replies g c =
    let names = c.args.names.now in
    let agents = c.args.agents.now in
    let i = c.loop-number.number in
    let rs = c.index-agents-number.result in
    let next = drop_next agents i rs c.loop-number-test.true c.index-agents-number.is in
    record {
      ok = search rules;
      short = search rules;
      room = omega (arith, c.loop-number.invariant.kept, c.put_replies.ensures.room);
      err = search rules;
      front = puts_front _ _ _ (string_bytes c.args.text.now ++ agents_text names.threads names.agents names.methods 0 agents) (string_bytes c.loop-number.text)
          (replies_text names.threads names.methods (name_text names.agents i) 0 rs) (agents_text names.threads names.agents names.methods (i + 1) (drop (i + 1) agents))
          (rw next at c.loop-number.invariant.sent) (rw (c.agent_name-agent.ensures, c.as_slice.ensures) at c.in_err-put_replies.ensures.front);
    }

pub loop-number-preserved : goal.loop-number-preserved
loop-number-preserved g c =
    let names = c.args.names.now in
    let agents = c.args.agents.now in
    let i = c.loop-number.number in
    let rs = c.index-agents-number.result in
    let next = drop_next agents i rs c.loop-number-test.true c.index-agents-number.is in
    let room = rw next at c.loop-number.invariant.room in
    record {
      sent = puts_more _ _ _ (string_bytes c.args.text.now ++ agents_text names.threads names.agents names.methods 0 agents) (string_bytes c.loop-number.text)
          (replies_text names.threads names.methods (name_text names.agents i) 0 rs) (agents_text names.threads names.agents names.methods (i + 1) (drop (i + 1) agents)) (string_bytes c.put_replies.new.text)
          (rw next at c.loop-number.invariant.sent) (rw (c.agent_name-agent.ensures, c.as_slice.ensures) at c.in_ok-put_replies.ensures.ok);
      short = c.in_ok-put_replies.ensures.short;
      room = (room.0, room.1.1, omega (arith, room.2, c.put_replies.ensures.room));
      kept = omega (arith, c.loop-number.invariant.kept, c.put_replies.ensures.room);
    }
