use Rattle.std.proofs.Common.{drop, string_bytes}
use Rattle.std.specs.String.{string_len, string_capacity}
use Rattle.ti_script.specs.LiveTexts.{agents_text}
use Rattle.ti_script.proofs.LiveTextLaws.{Goes}
use Rattle.ti_script.proofs.live_text.agents_text.Given as goal

abbrev pub invariant-loop-i : goal.invariant-loop-i
invariant-loop-i l = Goes (record { bytes = string_bytes l.fn.out; len = string_len l.fn.out; room = string_capacity l.fn.out }) (record { bytes = string_bytes l.out; len = string_len l.out; room = string_capacity l.out }) (agents_text l.threads l.agents l.methods l.i (drop l.i l.replies)) (agents_text l.threads l.agents l.methods 0 l.replies)
