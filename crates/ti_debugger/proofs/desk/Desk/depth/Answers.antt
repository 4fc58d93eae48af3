use Rattle.std.proofs.Common.{rules, ◌∙◌, sym}
use Rattle.ti_debugger.proofs.desk.Desk.depth.Goals as goal

pub returns-in-Some-count_in-clause-told : goal.returns-in-Some-count_in-clause-told
returns-in-Some-count_in-clause-told c = record {
  told = c.state_bits.new.self;
  bits = c.in-Some.bits;
  answer = c.in_ok-answer.answer;
  frames = c.in-Some-count_in.count;
  state = search rules;
  suspended = search rules;
  asked = c.in_ok-answer.ensures.told;
  has = sym c.count_in.ensures ∙ c.in-Some-count_in.is;
  counted = search rules;
}
