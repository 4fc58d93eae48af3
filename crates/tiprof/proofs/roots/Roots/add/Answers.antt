use Rattle.std.proofs.Common.{◌≡◌, ◌<◌, ◌∙◌, Some, ap, arith, length, map, refl, subst, sym}
use Rattle.std.specs.Prelude.{slice_get, slice_set}
use Rattle.ti_vmop.proofs.Each.{at_index}
use Rattle.tiprof.specs.Roots.{IsAddedAt}
use Rattle.tiprof.proofs.RootsLaws.{place_there}
use Rattle.tiprof.proofs.roots.Roots.add.Goals as goal

pub returns-clause-added : goal.returns-clause-added
returns-clause-added c =
    let roots = c.args.self.now in
    let parts = roots.parts.items in
    let at = c.place-at.result in
    let before = c.index_mut.result.now in
    let h : at < length parts = omega (arith, roots.count, c.place-at.ensures, place_there roots.by_thread roots.workers c.args.thread.0) in
    let there : slice_get parts at ≡ Some before = at_index parts at before h ∙ ap (λ p. Some p) (sym c.index_mut.ensures.value) in
    let ms = map (λ x. x.method) c.args.frames.now in
    subst (λ n. IsAddedAt parts (slice_set parts at c.add.new.self) n c.args.doing ms) c.place-at.ensures
    (record { before = before; after = c.add.new.self; there = there; parts = refl; added = c.in_ok-add.ensures.added })
