use Rattle.std.proofs.Common.{◌≡◌, ◌<◌, ◌+◌, ◌++◌, ◌∷◌, [], map, drop, set, length, refl, ap, subst, sym, ◌∙◌, arith}
use Rattle.std.specs.VecDeque.{deque_capacity}
use Rattle.std.proofs.lemmas.List.{drop-append-le, map-append}
use Rattle.ti_ops.specs.declared.outbox_entry.Count.{Count}
use Rattle.ti_ops.specs.declared.outbox_entry.OutboxEntry.{OutboxEntry}
use Rattle.ti_ops.specs.declared.outbox_entry.Stage.TheVariants.{Posted}
use Rattle.ti_ops.specs.declared.pending.Pending.{Pending}
use Rattle.ti_ops.specs.Ops.{Ops, with_posted}
use Rattle.ti_ops.specs.OutboxEntry.{count_of, pending_in, lists_of, ops_in, IsKept}
use Rattle.ti_ops.proofs.StepLaws.{lists_posted, kept_posted, room_left}
use Rattle.ti_ops.proofs.ViewLaws.{env_here, asked_here, held_here, read_here}
use Rattle.ti_ops.proofs.pending.PendingOps.post.Goals.{After-index_mut-count}
use Rattle.ti_ops.proofs.pending.PendingOps.post.Goals as goal

pub index_mut-count-requires : goal.index_mut-count-requires
index_mut-count-requires c = let i = c.self.inside in omega (arith, env_here _ i.window i.taken _ i.counts.items i.kept.items c.args.ticket.env c.self.view_is c.self.invariant c.requires.env)

-- the environment's count, and that there is room
record Has (c : After-index_mut-count) : Type 0 where
  here : c.args.ticket.env.0 < length c.self.inside.counts.items
  count : c.index_mut-count.result.now ≡ count_of c.self.inside.counts.items c.args.ticket.env.0
  next : c.args.ticket.no ≡ (count_of c.self.inside.counts.items c.args.ticket.env.0).asked
  room : (count_of c.self.inside.counts.items c.args.ticket.env.0).held < c.self.inside.window

has : (c : After-index_mut-count) → Has c
has c =
    let i = c.self.inside in
    let env = c.args.ticket.env in
    record {
      here = env_here _ i.window i.taken _ i.counts.items i.kept.items env c.self.view_is c.self.invariant c.requires.env;
      count = read_here _ i.window i.taken _ i.counts.items i.kept.items env c.self.view_is c.self.invariant c.requires.env _ c.index_mut-count.ensures.value;
      next = c.requires.next ∙ sym (asked_here _ i.window i.taken _ i.counts.items i.kept.items env c.self.view_is c.self.invariant c.requires.env);
      room = omega (arith, c.requires.room, held_here _ i.window i.taken _ i.counts.items i.kept.items env c.self.view_is c.self.invariant c.requires.env, ap (λ (o : Ops). o.window) c.self.view_is);
    }

pub overflow_add-count : goal.overflow_add-count
overflow_add-count c =
    let k = has (goal.at.overflow_add-count c).After-index_mut-count in
    omega (arith, ap (λ (d : Count). d.asked) k.count, k.next, c.requires.fits)

pub overflow_add-count-2 : goal.overflow_add-count-2
overflow_add-count-2 c =
    let k = has (goal.at.overflow_add-count-2 c).After-index_mut-count in
    omega (arith, ap (λ (d : Count). d.held) k.count, k.room, c.self.ranges)

pub push_back_reserved-requires : goal.push_back_reserved-requires
push_back_reserved-requires c =
    let i = c.self.inside in
    let k = has (goal.at.push_back_reserved-requires c).After-index_mut-count in
    omega (arith, room_left i.window i.taken _ i.counts.items i.kept.items c.args.ticket.env.0 c.self.invariant k.here k.room)

pub invariant_of-self : goal.invariant_of-self
invariant_of-self c =
    let i = c.self.inside in
    let k = has (goal.at.invariant_of-self c).After-index_mut-count in
    let j : OutboxEntry = record { ticket = c.args.ticket; stage = Posted c.args.call c.args.buf } in
    let n : Count = record { asked = c.index_mut-count.result.now.asked + 1; held = c.index_mut-count.result.now.held + 1 } in
    subst (λ items. IsKept i.window i.taken (deque_capacity c.push_back_reserved.new.self) (set i.counts.items c.args.ticket.env.0 n) items) (sym c.push_back_reserved.ensures.items)
    (kept_posted i.window i.taken _ i.counts.items i.kept.items j n c.self.invariant k.here k.next (ap (λ (d : Count). d.asked + 1) k.count) refl
    _ c.push_back_reserved.ensures.capacity (ap (λ (d : Count). d.held + 1) k.count) k.room)

pub returns : goal.returns
returns c =
    let i = c.self.inside in
    let k = has (goal.at.returns c).After-index_mut-count in
    let j : OutboxEntry = record { ticket = c.args.ticket; stage = Posted c.args.call c.args.buf } in
    let p : Pending = record { ticket = c.args.ticket; call = c.args.call; buf = c.args.buf } in
    let n : Count = record { asked = c.index_mut-count.result.now.asked + 1; held = c.index_mut-count.result.now.held + 1 } in
    let counts = set i.counts.items c.args.ticket.env.0 n in
    let waiting : map pending_in (drop i.taken (i.kept.items ++ j ∷ [])) ≡ map pending_in (drop i.taken i.kept.items) ++ p ∷ [] =
    ap (map pending_in) (drop-append-le i.taken i.kept.items (j ∷ []) c.self.invariant.taken) ∙ map-append pending_in (drop i.taken i.kept.items) (j ∷ []) in
    ap (ops_in i.window i.taken counts) c.push_back_reserved.ensures.items
    ∙ ap (λ w. record { waiting = w; statuses = lists_of counts (i.kept.items ++ j ∷ []); window = i.window }) waiting
    ∙ ap (λ statuses. record { waiting = map pending_in (drop i.taken i.kept.items) ++ p ∷ []; statuses = statuses; window = i.window })
    (lists_posted i.window i.taken _ i.counts.items i.kept.items j n c.self.invariant k.here k.next (ap (λ (d : Count). d.asked + 1) k.count) refl)
    ∙ ap (λ (o : Ops). with_posted o p) c.self.view_is
