use Rattle.std.proofs.Common.{rules, arith, string_bytes, None}
use Rattle.std.proofs.lemmas.Result.{on_ok_weaker}
use Rattle.ti_script.specs.LiveTexts.{refusals_text, verdict_line}
use Rattle.ti_driver.proofs.PutLaws.{front_of_first, front_of_second, sends_both}
use Rattle.ti_driver.proofs.live_lines.put_thread.Goals as goal

pub returns-in_err-put_refusals : goal.returns-in_err-put_refusals
returns-in_err-put_refusals g c = record {
  ok = search rules;
  short = search rules;
  room = c.put_refusals.ensures.room;
  err = search rules;
  front = front_of_first _ _ (string_bytes c.args.text.now) (refusals_text c.args.thread.now c.args.refused.now) (verdict_line c.args.thread.now None) c.in_err-put_refusals.ensures.front;
}

pub returns : goal.returns
returns g c = record {
  ok = on_ok_weaker c.put_legal.result
      (λ sent. sends_both _ _ _ (string_bytes c.args.text.now) (refusals_text c.args.thread.now c.args.refused.now) (verdict_line c.args.thread.now None) (string_bytes c.put_refusals.new.text) (string_bytes c.put_legal.new.text)
      c.in_ok-put_refusals.ensures.ok sent)
      c.put_legal.ensures.ok;
  short = c.put_legal.ensures.short;
  room = omega (arith, c.put_refusals.ensures.room, c.put_legal.ensures.room);
  err = c.put_legal.ensures.err;
  front = front_of_second _ _ _ (string_bytes c.args.text.now) (refusals_text c.args.thread.now c.args.refused.now) (verdict_line c.args.thread.now None) (string_bytes c.put_refusals.new.text)
      c.in_ok-put_refusals.ensures.ok c.put_legal.ensures.front;
}
