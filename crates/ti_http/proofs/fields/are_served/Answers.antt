use Rattle.std.proofs.Common.{take_all, sym, ap, ◌∙◌, arith}
use Rattle.std.specs.List.{list_all}
use Rattle.std.proofs.lemmas.List.Folds.{list_all-map}
use Rattle.httparse.specs.declared.spans.HeaderSpan.{HeaderSpan}
use Rattle.httparse.specs.Spans.{header_bytes}
use Rattle.ti_http.specs.Hosts.{may_pass}
use Rattle.ti_http.proofs.fields.are_served.Goals as goal

pub returns : goal.returns
returns c =
    let test = λ (span : HeaderSpan). may_pass c.args.hosts (header_bytes c.args.input.now span) in
    c.loop-span.invariant
    ∙ ap (list_all test) (take_all c.loop-span.span-index c.args.spans.now (omega (arith, c.loop-span-test.false)))
    ∙ sym (list_all-map (may_pass c.args.hosts) (header_bytes c.args.input.now) c.args.spans.now)
