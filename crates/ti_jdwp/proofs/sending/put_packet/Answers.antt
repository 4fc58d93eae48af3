use Rattle.std.proofs.Common.{◌≡◌, ℕ, ◌+◌, List, ◌++◌, length, ap, ◌∙◌, append_assoc}
use Rattle.ti_jdwp.specs.Fields.{int}
use Rattle.ti_jdwp.specs.Sent.{kind_bytes}
use Rattle.ti_jdwp.proofs.sending.put_packet.Goals as goal

joined : (before head body with_head whole : List ℕ) → with_head ≡ before ++ head → whole ≡ with_head ++ body → whole ≡ before ++ (head ++ body)
joined before head body with_head whole first second = second ∙ ap (λ (t : List ℕ). t ++ body) first ∙ append_assoc before head body

pub returns-in-Ok-clause-written : goal.returns-in-Ok-clause-written
returns-in-Ok-clause-written c =
    joined c.args.out.now.items (int (11 + length c.args.body.now) ++ int c.args.id ++ kind_bytes c.args.kind) c.args.body.now c.extend_from_slice.new.self.items c.extend_from_slice-2.new.self.items
    (c.in_ok-extend_from_slice.ensures.items ∙ ap (λ (t : List ℕ). c.args.out.now.items ++ t) c.head.ensures)
    c.in-Ok.ensures.items
