use Rattle.std.proofs.Common.{arith, ◌≡◌, ◌+◌, ◌*◌, ◌∙◌, ap, sym, length}
use Rattle.ti_methods.specs.Rules.{word_of}
use Rattle.ti_methods.proofs.Adding.{adds_moves}
use Rattle.ti_methods.proofs.classes.Shared.add.Goals as goal

pub compare_exchange-found-requires : goal.compare_exchange-found-requires
compare_exchange-found-requires c =
    let h = c.self.invariant.0 in
    let offer = c.plain-offer.ensures in
    let pen = c.no_pen-pen.ensures in
    let book = c.requires.book ∙ sym c.self.view_is in
    let old = c.args.classes * 4294967296 + c.args.methods in
    let word : word_of c.args.seen.now.log ≡ old = omega (arith, c.requires.classes, c.requires.methods) in
    let next : old + 4294967296 + c.len.result ≡ old + 4294967296 + length c.args.class.now.methods.items = omega (arith, c.len.ensures) in (
      ap (λ w. w.tracked) h,
      book,
      pen.0 ∙ book,
      offer.0,
      rw (ap (λ w. w.key) h, pen.1, offer.1, offer.3) (adds_moves c.args.seen.now.log c.args.class.now old (old + 4294967296 + c.len.result) word next c.requires.room),
    )
