use Rattle.std.proofs.Common.{◌≡◌, ◌+◌, ◌*◌, ap, ap₂, ◌∙◌, rules}
use Rattle.ti_script.specs.LiveBounds.{frames_replied, parts_replied}
use Rattle.ti_script.proofs.LiveBoundLaws.{line_of_reply, some_is}
use Rattle.ti_script.proofs.live_bound.reply_bound.Goals as goal

pub returns : goal.returns
returns c =
    let name = c.args.longest_name in
    let method = c.args.longest_method in
    let reply = c.args.reply.now in
    let frame : c.in_ok-frame.frame ≡ method + 66 = search (rules, c.in_ok-frame.ensures) in
    let part : c.in_ok-part.part ≡ name + 128 = search (rules, c.in_ok-part.ensures) in
    let parts : c.in_ok-parts.parts ≡ parts_replied reply + 1 = search (rules, c.in_ok-parts.ensures, c.parts_replied.ensures) in
    let more = c.in_ok-more.ensures ∙ ap₂ (λ p q. p * q + 128) parts part in
    some_is c.sum_of-2.result c.sum_of-2.ensures (λ n is.
    line_of_reply name method reply n (is ∙ ap₂ (λ f g. f * g + c.in_ok-more.more) c.in_ok-frames.ensures frame ∙ ap (λ m. frames_replied reply * (method + 66) + m) more))
