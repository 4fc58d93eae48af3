use Rattle.std.proofs.Common.{◌≡◌, ℕ, ◌++◌, ◌∷◌, [], List, sym, ap, subst, ◌∙◌, arith}
use Rattle.std.specs.Prelude.{OnOk, codes}
use Rattle.http1.specs.Head.{pairs, response_text}
use Rattle.ti_http.specs.declared.status.Status.{Status}
use Rattle.ti_http.specs.Answers.{code_of, reason_of, own_fields}
use Rattle.ti_http.proofs.Texts.{retry_stands}
use Rattle.ti_http.proofs.answers.put_retry.Goals as goal

pub put-requires : goal.put-requires
put-requires c =
    record { fields = c.requires.fields; own = retry_stands _ c.args.seconds (omega (arith, c.ranges.seconds.fits)) (c.as_bytes.ensures.value ∙ c.format.ensures.text) }

pub returns-clause-ok : goal.returns-clause-ok
returns-clause-ok c =
    let digits = c.as_bytes.ensures.value ∙ c.format.ensures.text in
    let text = λ (t : List ℕ). response_text 1 (code_of c.args.status) (reason_of c.args.status) (pairs c.args.fields.now ++ (codes "X-Go-Pprof", codes "1") ∷ (codes "Retry-After", t) ∷ []) in
    let whole = λ (s : Status). response_text 1 (code_of c.args.status) (reason_of c.args.status) (pairs c.args.fields.now ++ own_fields s) in
    subst (λ (t : List ℕ). OnOk c.put.result (c.put.new.out.items ≡ c.args.out.now.items ++ t))
    (ap text digits ∙ ap whole (sym c.requires.status))
    c.put.ensures.ok
