use Rattle.std.proofs.Common.{◌≡◌, ◌++◌, ◌+◌, ◌-◌, ◌/◌, ◌%◌, [], ◌∷◌, arith, sym, ap, ◌∙◌, refl}
use Rattle.std.proofs.lemmas.List.{append_assoc}
use Rattle.ti_pprof.specs.Wire.{varint, varint_within}
use Rattle.ti_pprof.proofs.Digits.{one_more, last, last_by_count, shorter}
use Rattle.ti_pprof.proofs.wire.push_varint.Goals as goal
use Rattle.ti_pprof.proofs.wire.push_varint.Goals.{then-next-test+else-rest-ge128, else-next-test}

pub next-init : goal.next-init
unfolding varint
next-init c = (omega arith, omega arith, refl)

pub next-preserved : goal.next-preserved
next-preserved c =
    let told : c.push.new.self.items ≡ c.next.out.items ++ (128 + c.next.rest % 128) ∷ [] = c.in_ok-push.ensures.items in
    let tail = varint_within (c.next.more - 1) (c.next.rest / 128) in (
      omega arith,
      shorter c.next.rest c.next.more (omega arith) c.next.invariant.1,
      ap (λ xs. xs ++ tail) told ∙ append_assoc c.next.out.items ((128 + c.next.rest % 128) ∷ []) tail
          ∙ ap (λ xs. c.next.out.items ++ xs) (sym (one_more c.next.more c.next.rest (omega arith) (omega arith)))
          ∙ c.next.invariant.2,
    )

pub returns : goal.returns
returns c =
    let told : c.push-2.new.self.items ≡ c.next.out.items ++ c.next.rest ∷ [] = c.in_ok-push-2.ensures.items in
    let end : varint_within c.next.more c.next.rest ≡ c.next.rest ∷ [] =
    elim c.next-test.branch [
      | then-next-test+else-rest-ge128 w ↦ last c.next.more c.next.rest (omega arith)
      | else-next-test w ↦ last_by_count c.next.more c.next.rest (omega arith)
    ]
    in told ∙ ap (λ xs. c.next.out.items ++ xs) (sym end) ∙ c.next.invariant.2
