use Rattle.std.proofs.Common.{◌≡◌, ◌∷◌, [], ◌++◌, ap, sym, ◌∙◌, refl, w32, to_z, of_z}
use Rattle.std.proofs.lemmas.Int.{to_z-of_z}
use Rattle.ti_types.specs.declared.entry.Entry.TheVariants.{Read}
use Rattle.ti_types.specs.declared.event.Event.TheVariants as event
use Rattle.ti_replay.specs.Answers.{stack_of}
use Rattle.ti_slot.specs.Condition.{view_of}
use Rattle.ti_slot.proofs.AskLaws.{Reads, reads_here, was_read, read_told}
use Rattle.ti_slot.proofs.WholeLaws.{plain_after, held_thread}
use Rattle.ti_slot.proofs.slot.Slot.read.Goals.{In-Some, After-push}
use Rattle.ti_slot.proofs.HandOverLaws.{count_stays}
use Rattle.ti_slot.proofs.slot.Slot.read.Goals as goal

reads : (c : In-Some) → Reads c.self.inside c.args.env c.args.max_count
reads c = reads_here c.self.inside _ c.args.env c.args.max_count c.in-Some.frames c.self.invariant.0 c.self.view_is c.requires.env c.requires.calls c.requires.count (sym c.is_stopper.ensures ∙ c.if-not-is_stopper.false) c.in-Some.is

-- the count is a signed number, and the entry has it as it was passed
same : (c : In-Some) → to_z w32 (of_z w32 c.args.max_count) ≡ c.args.max_count
same c = to_z-of_z w32 c.args.max_count c.ranges.max_count

pushed : (c : After-push) → c.push.new.history.items ≡ c.self.inside.history.items ++ Read c.args.env c.args.max_count ∷ []
pushed c = c.push.ensures.items ∙ ap (λ m. c.self.inside.history.items ++ Read c.args.env m ∷ []) (same (goal.at.After-push c).In-Some)

pub push-requires : goal.push-requires
push-requires c = (reads (goal.at.push-requires c).In-Some).comes.room

pub invariant_of-self : goal.invariant_of-self
invariant_of-self c =
    let i = c.self.inside in
    let p = (goal.at.invariant_of-self c).In-Some in (
      was_read i c.args.env c.args.max_count c.push.new.history c.self.invariant.0 (reads p).comes.may (pushed c) c.push.ensures.shelf,
      plain_after i (Read c.args.env c.args.max_count) c.push.new.history.items c.self.invariant refl (pushed c),
      count_stays i (Read c.args.env c.args.max_count) c.push.new.history.items c.self.invariant refl (pushed c),
    )

pub returns-clause-answer : goal.returns-clause-answer
returns-clause-answer c =
    let i = c.self.inside in
    let p = (goal.at.returns-clause-answer c).In-Some in
    read_told i _ c.args.env c.args.max_count c.push.new.history.items c.in-Some.frames c.stack-told.result c.self.invariant.0 c.self.view_is (reads p) c.in-Some.is (pushed c)
    (c.stack-told.ensures ∙ ap (λ m. stack_of (view_of i.condition c.in-Some.frames.frames) m) (same p))

pub returns-clause-legal : goal.returns-clause-legal
returns-clause-legal c = (invariant_of-self c).0.legal

pub returns-clause-thread : goal.returns-clause-thread
returns-clause-thread c =
    let x = Read c.args.env c.args.max_count in
    held_thread c.self.inside _ (λ t. event.Read c.args.env t c.args.max_count) x c.push.new.history.items c.self.view_is refl (pushed c) (reads (goal.at.returns-clause-thread c).In-Some).free
