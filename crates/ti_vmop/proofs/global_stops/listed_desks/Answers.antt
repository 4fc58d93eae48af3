use Rattle.std.proofs.Common.{arith, ap, ◌∙◌, List, [], ◌∷◌, ◌++◌, Some}
use Rattle.std.specs.Prelude.{map}
use Rattle.ti_handshake.specs.Desk.{DeskState}
use Rattle.ti_vmop.proofs.Each.{cells_more, cells_all}
use Rattle.ti_vmop.proofs.global_stops.listed_desks.Goals as goal

pub loop-i-preserved : goal.loop-i-preserved
loop-i-preserved c =
    ap (λ (l : List DeskState). map (λ p. Some p.cell) l) c.and-listed.ensures
    ∙ (ap (λ (p : DeskState). map (λ q. Some q.cell) (c.loop-i.listed.items ++ p ∷ [])) c.index-desks-thread.is
    ∙ cells_more c.args.threads.now c.loop-i.i _ c.args.desks.now c.loop-i.listed.items (record { 0 = 0 }, 0) c.index-desks-thread.result c.requires.there c.loop-i-test.true (omega arith) c.loop-i.invariant)

pub returns : goal.returns
returns c = record { cells = cells_all c.args.threads.now c.loop-i.i c.args.desks.now c.loop-i.listed.items (omega (arith, c.loop-i-test.false)) c.loop-i.invariant }
