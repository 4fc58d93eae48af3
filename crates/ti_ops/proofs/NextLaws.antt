-- The first call of an environment, from a number on, of which something is left.
use Rattle.std.proofs.Common.{◌≡◌, ℕ, Bool, true, List, [], ◌∷◌, refl, arith, ap, sym, ◌∙◌, Option, Some, None}
use Rattle.ti_types.specs.declared.event.Ticket.{Ticket}
use Rattle.ti_ops.specs.declared.outbox_entry.Count.{Count}
use Rattle.ti_ops.specs.declared.outbox_entry.OutboxEntry.{OutboxEntry}
use Rattle.ti_ops.specs.declared.outbox_entry.Stage.{Stage}
use Rattle.ti_ops.specs.declared.outbox_entry.Stage.TheVariants.{Posted, Taken, Answered}
use Rattle.ti_ops.specs.Statuses.{IsFirstFrom, is_open, status_of}
use Rattle.ti_ops.specs.OutboxEntry.{status_in, status_among, has, lists_of, IsKept}
use Rattle.ti_ops.proofs.TableLaws.{status_is}

-- the first of these numbers is that of others that are the same
pub first_same : (p q : ℕ → Bool) (from : ℕ) (r : Option ℕ) → ((n : ℕ) → p n ≡ q n) → IsFirstFrom p from r → IsFirstFrom q from r
first_same p q from None same f = λ n h. sym (same n) ∙ f n h
first_same p q from (Some k) same f = (f.0, sym (same k) ∙ f.1, λ m h b. sym (same m) ∙ f.2 m h b)

is_left : (t : Ticket) (kept : List OutboxEntry) → is_open (status_among t kept) ≡ has t kept
is_left t [] = refl
is_left t (k ∷ kept) = let z = is_left t kept in let o = opened k.stage in grind (arith, z, o)
  where
    opened : (s : Stage) → is_open (status_in s) ≡ true
    opened (Posted c b) = refl
    opened Taken = refl
    opened (Answered a) = refl

-- something is left of just the calls that are kept
pub left_is : (window first cap : ℕ) (counts : List Count) (kept : List OutboxEntry) (t : Ticket) → IsKept window first cap counts kept → has t kept ≡ is_open (status_of t (lists_of counts kept))
left_is window first cap counts kept t s = sym (ap is_open (status_is counts kept t s.asked) ∙ is_left t kept)
