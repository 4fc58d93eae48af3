use Rattle.std.proofs.Common.{rules, ◌≡◌, ℕ, ◌<◌, ◌^◌, List, false, [], ◌∷◌, Option, Some, sym, ap, ◌∙◌, subst}
use Rattle.atomic_table.specs.Table.{Me, rest}
use Rattle.ti_slot.specs.Thread.{Thread}
use Rattle.ti_cell.specs.declared.view.View.{View}
use Rattle.ti_replay.specs.Makers.{Adds}
use Rattle.ti_cell.specs.View.{IsAbout}
use Rattle.ti_cell.specs.Rule.{Keeps}
use Rattle.ti_cell.specs.Word.{word_at, word_of}
use Rattle.ti_cell.proofs.Entries.{short}
use Rattle.ti_cell.proofs.Steps.{frees_keep}
use Rattle.ti_cell.proofs.cell.ThreadCell.give.Goals as goal

pub free-word-requires : goal.free-word-requires
free-word-requires c = record { count = subst (λ n. n < 2 ^ 61) (sym c.len.ensures.len) (short c.args.slot.limits c.args.slot.history c.len.ensures.legal) }

pub store-requires : goal.store-requires
store-requires c =
    let m = c.exchange.ensures.3 in
    let v : c.exchange.new.seat.me.0 ≡ c.args.seat.now.me.0 = ap (λ (x : Me (Option Thread) View). x.0) m in
    let out : c.exchange.new.seat.me.1 ≡ (0, Some c.args.slot) ∷ [] =
    ap (λ (x : Me (Option Thread) View). x.1) m ∙ ap (λ (x : List (ℕ × Option Thread)). (0, Some c.args.slot) ∷ rest x) c.requires.seat.1 in
    let now : c.free-word.result.bits ≡ word_of c.args.slot.limits false c.args.slot.history = c.free-word.ensures.bits ∙ λ i. word_at (c.len.ensures.len i) (c.barred.ensures i) (c.armed-armed.ensures i) false in (
      search rules,
      search rules,
      frees_keep _ _ _ _ _ c.args.slot (ap (λ (x : View). x.gone) v ∙ c.requires.seat.3) (ap (λ (x : View). x.holds) v ∙ c.requires.seat.2) out
          (subst (λ (x : View). Adds x.number x.seen c.args.slot.history) (sym v) c.requires.adds) (subst (λ (x : View). Keeps x.number x.found c.args.slot.uncollected) (sym v) c.requires.keeps) c.len.ensures.legal (subst (λ (x : View). IsAbout x.subject c.args.slot) (sym v) c.requires.about) now,
    )
