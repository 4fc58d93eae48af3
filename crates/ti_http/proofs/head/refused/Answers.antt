use Rattle.std.proofs.Common.{inl}
use Rattle.http1.specs.declared.error.ReadError.TheVariants as read
use Rattle.ti_http.proofs.head.refused.Goals as goal

pub returns-in-Err : goal.returns-in-Err
returns-in-Err c h =
    let is = c.in-Err.ensures in
    (read.Parse c.in-Err.parser, ((is.no_room, is.invalid), λ p. inl (is.too_many (cc p))), c.of-in-Err.ensures)
