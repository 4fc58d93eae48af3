use Rattle.std.proofs.Common.{take_all, sym, ap, ◌∙◌, arith}
use Rattle.std.specs.List.{list_any}
use Rattle.httparse.specs.declared.spans.HeaderSpan.{HeaderSpan}
use Rattle.httparse.specs.Spans.{header_bytes}
use Rattle.ti_http.specs.Hosts.{is_foreign}
use Rattle.ti_http.proofs.Texts.{list_any-map}
use Rattle.ti_http.proofs.fields.crosses_sites.Goals as goal

pub returns : goal.returns
returns c =
    let test = λ (span : HeaderSpan). is_foreign (header_bytes c.args.input.now span) in
    c.loop-span.invariant
    ∙ ap (list_any test) (take_all c.loop-span.span-index c.args.spans.now (omega (arith, c.loop-span-test.false)))
    ∙ sym (list_any-map is_foreign (header_bytes c.args.input.now) c.args.spans.now)
