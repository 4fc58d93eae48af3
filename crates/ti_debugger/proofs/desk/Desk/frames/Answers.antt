use Rattle.std.proofs.Common.{rules, None}
use Rattle.ti_debugger.proofs.StackLaws.{part_told}
use Rattle.ti_debugger.proofs.desk.Desk.frames.Goals as goal

pub returns-in_ok-frames_body-in-None-clause-told : goal.returns-in_ok-frames_body-in-None-clause-told
returns-in_ok-frames_body-in-None-clause-told c = record {
  counted = c.depth.new.self;
  count = c.in_ok-count.count;
  wanted = c.wanted_of-wanted.result;
  part = None;
  depth = c.in_ok-count.ensures.told;
  is_wanted = search rules;
  is_part = search rules;
  tells = c.in_ok-frames_body-in-None.ensures.ok;
}

pub returns-in-Some-clause-told : goal.returns-in-Some-clause-told
returns-in-Some-clause-told c =
    part_told c.trace.result c.args.self.now c.depth.new.self c.trace.new.self c.args.thread c.cast_unsigned.result c.args.start c.args.length c.in_ok-count.count c.wanted_of-wanted.result
    c.in-Some.part c.trace_of.result c.in_ok-count.ensures.told (search rules) (search rules) c.trace_of.ensures (search rules) c.trace.ensures.told
