use Rattle.std.proofs.Common.{ℕ, arith, refl, inr}
use Rattle.ti_jdwp.proofs.Bytes.{int_at, length_first, head_first}
use Rattle.ti_jdwp.proofs.packet.head_at.Goals as goal

pub returns-then-length : goal.returns-then-length
returns-then-length c = (c.from_be_bytes-length.result, length_first c.args.input.now _ c.if-input-lt4.false (λ i. omega (arith, c.type_inv.input i)) c.from_be_bytes-length.ensures, c.if-length.true)

pub returns-then-length-gt-MAX_PACKET : goal.returns-then-length-gt-MAX_PACKET
returns-then-length-gt-MAX_PACKET c = (c.from_be_bytes-length.result, length_first c.args.input.now _ c.if-input-lt4.false (λ i. omega (arith, c.type_inv.input i)) c.from_be_bytes-length.ensures, c.if-length-gt-MAX_PACKET.true, c.from_be_bytes-length.type_inv)

pub returns-then-input-lt-HEAD_LEN : goal.returns-then-input-lt-HEAD_LEN
returns-then-input-lt-HEAD_LEN c = inr (c.if-input-lt-HEAD_LEN.true, (c.from_be_bytes-length.result, length_first c.args.input.now _ c.if-input-lt4.false (λ i. omega (arith, c.type_inv.input i)) c.from_be_bytes-length.ensures, (c.if-length.false, c.if-length-gt-MAX_PACKET.false)))

pub returns-then-input-ge128 : goal.returns-then-input-ge128
returns-then-input-ge128 c =
    let id : ℕ = int_at 4 c.args.input.now in
    (id, _, _, _, head_first c.args.input.now _ id c.if-input-lt-HEAD_LEN.false (λ i. omega (arith, c.type_inv.input i)) c.from_be_bytes-length.ensures refl, (c.if-length.false, c.if-length-gt-MAX_PACKET.false), c.if-input-ge128.true, omega (arith, c.type_inv.input 8))

pub returns : goal.returns
returns c = (_, head_first c.args.input.now _ _ c.if-input-lt-HEAD_LEN.false (λ i. omega (arith, c.type_inv.input i)) c.from_be_bytes-length.ensures c.from_be_bytes.ensures, c.from_be_bytes.type_inv, (c.if-length.false, c.if-length-gt-MAX_PACKET.false), c.if-input-ge128.false)
