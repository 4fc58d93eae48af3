use Rattle.std.proofs.Common.{◌≡◌, ◌+◌, ◌++◌, [], refl, drop, arith, rules, string_bytes}
use Rattle.std.specs.String.{string_len, string_capacity}
use Rattle.ti_script.specs.LiveTexts.{replies_text, reply_line}
use Rattle.ti_script.specs.Texts.{Written}
use Rattle.ti_script.proofs.LiveTextLaws.{goes_first, goes_more, no_room, front_of_part, next_text, done_text, done_len, done_front, none_left}
use Rattle.ti_script.proofs.live_text.replies_text.Goals as goal

pub loop-i-init : goal.loop-i-init
loop-i-init c = goes_first (record { bytes = string_bytes c.args.out.now; len = string_len c.args.out.now; room = string_capacity c.args.out.now }) (replies_text c.args.threads.now c.args.methods.now c.args.agent.now 0 c.args.replies.now)

pub loop-i-preserved : goal.loop-i-preserved
loop-i-preserved c =
    let old : Written = record { bytes = string_bytes c.args.out.now; len = string_len c.args.out.now; room = string_capacity c.args.out.now } in
    let now : Written = record { bytes = string_bytes c.loop-i.out; len = string_len c.loop-i.out; room = string_capacity c.loop-i.out } in
    let new : Written = record { bytes = string_bytes c.reply_line.new.out; len = string_len c.reply_line.new.out; room = string_capacity c.reply_line.new.out } in
    let i = c.loop-i.i in
    let e : replies_text c.args.threads.now c.args.methods.now c.args.agent.now i (drop i c.args.replies.now) ≡ (reply_line c.args.threads.now c.args.methods.now c.args.agent.now i c.index-replies-i.result) ++ replies_text c.args.threads.now c.args.methods.now c.args.agent.now (i + 1) (drop (i + 1) c.args.replies.now) = next_text (replies_text c.args.threads.now c.args.methods.now c.args.agent.now i) c.args.replies.now i c.index-replies-i.result c.loop-i-test.true c.index-replies-i.is in
    goes_more old now new (reply_line c.args.threads.now c.args.methods.now c.args.agent.now i c.index-replies-i.result) (replies_text c.args.threads.now c.args.methods.now c.args.agent.now (i + 1) (drop (i + 1) c.args.replies.now)) (replies_text c.args.threads.now c.args.methods.now c.args.agent.now i (drop i c.args.replies.now)) (replies_text c.args.threads.now c.args.methods.now c.args.agent.now 0 c.args.replies.now) c.loop-i.invariant e c.in_ok-reply_line.ensures.ok c.in_ok-reply_line.ensures.len c.in_ok-reply_line.ensures.room

pub returns-in_err-reply_line-clause-room : goal.returns-in_err-reply_line-clause-room
returns-in_err-reply_line-clause-room c = omega (arith, c.loop-i.invariant.room, c.in_err-reply_line.ensures.room)

pub returns-in_err-reply_line-clause-full : goal.returns-in_err-reply_line-clause-full
returns-in_err-reply_line-clause-full c =
    let old : Written = record { bytes = string_bytes c.args.out.now; len = string_len c.args.out.now; room = string_capacity c.args.out.now } in
    let now : Written = record { bytes = string_bytes c.loop-i.out; len = string_len c.loop-i.out; room = string_capacity c.loop-i.out } in
    let i = c.loop-i.i in
    let e : replies_text c.args.threads.now c.args.methods.now c.args.agent.now i (drop i c.args.replies.now) ≡ (reply_line c.args.threads.now c.args.methods.now c.args.agent.now i c.index-replies-i.result) ++ replies_text c.args.threads.now c.args.methods.now c.args.agent.now (i + 1) (drop (i + 1) c.args.replies.now) = next_text (replies_text c.args.threads.now c.args.methods.now c.args.agent.now i) c.args.replies.now i c.index-replies-i.result c.loop-i-test.true c.index-replies-i.is in
    let f = no_room old now (reply_line c.args.threads.now c.args.methods.now c.args.agent.now i c.index-replies-i.result) (replies_text c.args.threads.now c.args.methods.now c.args.agent.now (i + 1) (drop (i + 1) c.args.replies.now)) (replies_text c.args.threads.now c.args.methods.now c.args.agent.now i (drop i c.args.replies.now)) (replies_text c.args.threads.now c.args.methods.now c.args.agent.now 0 c.args.replies.now) c.loop-i.invariant e c.in_err-reply_line.ensures.full in
    search (rules, f)

pub returns-in_err-reply_line-clause-front : goal.returns-in_err-reply_line-clause-front
returns-in_err-reply_line-clause-front c =
    let old : Written = record { bytes = string_bytes c.args.out.now; len = string_len c.args.out.now; room = string_capacity c.args.out.now } in
    let now : Written = record { bytes = string_bytes c.loop-i.out; len = string_len c.loop-i.out; room = string_capacity c.loop-i.out } in
    let new : Written = record { bytes = string_bytes c.reply_line.new.out; len = string_len c.reply_line.new.out; room = string_capacity c.reply_line.new.out } in
    let i = c.loop-i.i in
    let e : replies_text c.args.threads.now c.args.methods.now c.args.agent.now i (drop i c.args.replies.now) ≡ (reply_line c.args.threads.now c.args.methods.now c.args.agent.now i c.index-replies-i.result) ++ replies_text c.args.threads.now c.args.methods.now c.args.agent.now (i + 1) (drop (i + 1) c.args.replies.now) = next_text (replies_text c.args.threads.now c.args.methods.now c.args.agent.now i) c.args.replies.now i c.index-replies-i.result c.loop-i-test.true c.index-replies-i.is in
    front_of_part old now new (reply_line c.args.threads.now c.args.methods.now c.args.agent.now i c.index-replies-i.result) (replies_text c.args.threads.now c.args.methods.now c.args.agent.now (i + 1) (drop (i + 1) c.args.replies.now)) (replies_text c.args.threads.now c.args.methods.now c.args.agent.now i (drop i c.args.replies.now)) (replies_text c.args.threads.now c.args.methods.now c.args.agent.now 0 c.args.replies.now) c.loop-i.invariant e c.in_err-reply_line.ensures.front

pub returns-clause-ok : goal.returns-clause-ok
returns-clause-ok c =
    let old : Written = record { bytes = string_bytes c.args.out.now; len = string_len c.args.out.now; room = string_capacity c.args.out.now } in
    let new : Written = record { bytes = string_bytes c.loop-i.out; len = string_len c.loop-i.out; room = string_capacity c.loop-i.out } in
    let i = c.loop-i.i in
    let e : replies_text c.args.threads.now c.args.methods.now c.args.agent.now i (drop i c.args.replies.now) ≡ [] = none_left (replies_text c.args.threads.now c.args.methods.now c.args.agent.now i) c.args.replies.now i c.loop-i-test.false refl in
    done_text old new (replies_text c.args.threads.now c.args.methods.now c.args.agent.now i (drop i c.args.replies.now)) (replies_text c.args.threads.now c.args.methods.now c.args.agent.now 0 c.args.replies.now) c.loop-i.invariant e

pub returns-clause-len : goal.returns-clause-len
returns-clause-len c =
    let old : Written = record { bytes = string_bytes c.args.out.now; len = string_len c.args.out.now; room = string_capacity c.args.out.now } in
    let new : Written = record { bytes = string_bytes c.loop-i.out; len = string_len c.loop-i.out; room = string_capacity c.loop-i.out } in
    let i = c.loop-i.i in
    let e : replies_text c.args.threads.now c.args.methods.now c.args.agent.now i (drop i c.args.replies.now) ≡ [] = none_left (replies_text c.args.threads.now c.args.methods.now c.args.agent.now i) c.args.replies.now i c.loop-i-test.false refl in
    done_len old new (replies_text c.args.threads.now c.args.methods.now c.args.agent.now i (drop i c.args.replies.now)) (replies_text c.args.threads.now c.args.methods.now c.args.agent.now 0 c.args.replies.now) c.loop-i.invariant e

pub returns-clause-front : goal.returns-clause-front
returns-clause-front c =
    let old : Written = record { bytes = string_bytes c.args.out.now; len = string_len c.args.out.now; room = string_capacity c.args.out.now } in
    let new : Written = record { bytes = string_bytes c.loop-i.out; len = string_len c.loop-i.out; room = string_capacity c.loop-i.out } in
    let i = c.loop-i.i in
    let e : replies_text c.args.threads.now c.args.methods.now c.args.agent.now i (drop i c.args.replies.now) ≡ [] = none_left (replies_text c.args.threads.now c.args.methods.now c.args.agent.now i) c.args.replies.now i c.loop-i-test.false refl in
    done_front old new (replies_text c.args.threads.now c.args.methods.now c.args.agent.now i (drop i c.args.replies.now)) (replies_text c.args.threads.now c.args.methods.now c.args.agent.now 0 c.args.replies.now) c.loop-i.invariant e

pub returns-clause-room : goal.returns-clause-room
returns-clause-room c = c.loop-i.invariant.room
