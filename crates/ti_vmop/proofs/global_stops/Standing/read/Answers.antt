use Rattle.std.proofs.Common.{◌≡◌, ◌<◌, [], ◌∷◌, refl, sym, ◌∙◌, arith, w32, to_z, of_z}
use Rattle.std.proofs.lemmas.Int.{to_z-of_z}
use Rattle.std.specs.Prelude.{slice_index_or}
use Rattle.ti_types.specs.Answer.{said}
use Rattle.ti_types.specs.declared.entry.Entry.TheVariants.{Read}
use Rattle.ti_env.specs.Env.{left_at}
use Rattle.ti_env.proofs.LeftLaws.{left_is}
use Rattle.ti_vmop.proofs.Each.{at_index, set_here, each_none, each_step, read_adds, read_room, is_read}
use Rattle.ti_vmop.proofs.global_stops.Standing.read.Goals as goal

pub read_one-requires-clause-calls : goal.read_one-requires-clause-calls
read_one-requires-clause-calls g c =
    let may = c.requires.desk _ (at_index c.args.desks.now c.args.thread.0 c.index-desks-thread.result c.requires.there.0) in
    let is = left_is c.args.state.now c.args.thread (omega (arith, c.requires.there.0, c.requires.there.1)) in
    let left : 0 < left_at c.args.state.now c.args.thread = omega (arith, is, c.requires.left) in
    omega (arith, may.paid, left)

pub read_one-requires-clause-buf : goal.read_one-requires-clause-buf
read_one-requires-clause-buf g c =
    let may = c.requires.desk _ (at_index c.args.desks.now c.args.thread.0 c.index-desks-thread.result c.requires.there.0) in
    read_room (slice_index_or c.args.desks.now c.args.thread.0 c.index-desks-thread.result) c.args.max_count _ c.args.buf (sym (to_z-of_z w32 c.args.max_count c.ranges.max_count)) may.room

pub read_one-requires-clause-stands : goal.read_one-requires-clause-stands
read_one-requires-clause-stands g c =
    (c.requires.desk _ (at_index c.args.desks.now c.args.thread.0 c.index-desks-thread.result c.requires.there.0)).stands

pub returns-clause-desks : goal.returns-clause-desks
returns-clause-desks g c =
    let z : to_z w32 (of_z w32 c.args.max_count) ≡ c.args.max_count = to_z-of_z w32 c.args.max_count c.ranges.max_count in
    let one = read_adds _ _ _ c.args.max_count z c.read_one.ensures.same c.read_one.ensures.hold.waits in
    each_step [] c.args.desks.now c.args.desks.now (λ e. Read e c.args.max_count ∷ []) (c.args.thread, 0) c.index-desks-thread.result c.read_one.new.desk (each_none c.args.desks.now (λ e. Read e c.args.max_count ∷ [])) refl c.requires.there.0 one

pub returns-clause-answer : goal.returns-clause-answer
returns-clause-answer g c p q e f =
    let was = at_index c.args.desks.now c.args.thread.0 c.index-desks-thread.result c.requires.there.0 in
    let r = c.read_one.ensures in
    is_read _ _ p q _ c.args.max_count (said c.read_one.result) (to_z-of_z w32 c.args.max_count c.ranges.max_count) (sym was ∙ e) (set_here c.args.desks.now c.args.thread.0 c.read_one.new.desk q f) r.hold.waits r.reply r.answer r.stands
