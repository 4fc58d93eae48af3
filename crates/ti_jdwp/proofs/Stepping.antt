-- The modifiers of a request that are read one after another.
use Rattle.std.proofs.Common.{◌≡◌, ℕ, suc, ◌-◌, ◌+◌, ◌≤◌, ◌<◌, List, Result, Ok, Err, sym, ap, ◌∙◌, arith}
use Rattle.ti_jdwp.specs.declared.error.JdwpError.{JdwpError}
use Rattle.ti_jdwp.specs.declared.request.EventKind.{EventKind}
use Rattle.ti_jdwp.specs.declared.stops.Standing.{Standing}
use Rattle.ti_jdwp.specs.Asking.{Reading, one_step, steps}
use Rattle.ti_jdwp.specs.Fields.{◌>>=◌}

module _ (k : EventKind) (from : Standing) (bytes : List ℕ) (count i at : ℕ) (r : Reading) where
  one_more : i < count → steps (count - i) k from bytes at r ≡ (one_step k from bytes at r >>= λ s. steps (count - (i + 1)) k from bytes s.1 s.0)
  unfolding steps
  one_more lt =
      let left : count - i ≡ suc (count - (i + 1)) = omega arith in
      ap (λ (n : ℕ). steps n k from bytes at r) left

  pub goes_on : (s : Reading × ℕ) (total : Result Reading JdwpError) → i < count → one_step k from bytes at r ≡ Ok s → steps (count - i) k from bytes at r ≡ total → steps (count - (i + 1)) k from bytes s.1 s.0 ≡ total
  goes_on s total lt is so_far =
      ap (λ (q : Result (Reading × ℕ) JdwpError). q >>= λ t. steps (count - (i + 1)) k from bytes t.1 t.0) (sym is) ∙ sym (one_more lt) ∙ so_far

  pub ends : (e : JdwpError) (total : Result Reading JdwpError) → i < count → one_step k from bytes at r ≡ Err e → steps (count - i) k from bytes at r ≡ total → total ≡ Err e
  ends e total lt is so_far =
      sym so_far ∙ one_more lt ∙ ap (λ (q : Result (Reading × ℕ) JdwpError). q >>= λ t. steps (count - (i + 1)) k from bytes t.1 t.0) is

  pub is_done : (total : Result Reading JdwpError) → count ≤ i → steps (count - i) k from bytes at r ≡ total → total ≡ Ok r
  unfolding steps
  is_done total le so_far =
      let none : count - i ≡ 0 = omega arith in
      sym so_far ∙ ap (λ (n : ℕ). steps n k from bytes at r) none
