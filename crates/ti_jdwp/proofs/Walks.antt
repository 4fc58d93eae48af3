-- Modifiers that are read one after another.
use Rattle.std.proofs.Common.{◌≡◌, ℕ, suc, ◌-◌, ◌+◌, ◌≤◌, ◌<◌, List, Result, Ok, Err, sym, ap, ◌∙◌, arith}
use Rattle.ti_jdwp.specs.declared.error.JdwpError.{JdwpError}
use Rattle.ti_jdwp.specs.declared.modifiers.Modifier.{Modifier}
use Rattle.ti_jdwp.specs.Fields.{◌>>=◌}
use Rattle.ti_jdwp.specs.Modifiers.{modifier_at, modifiers_end}

one_more : (bytes : List ℕ) (count i at : ℕ) → i < count → modifiers_end (count - i) at bytes ≡ (modifier_at at bytes >>= λ m. modifiers_end (count - (i + 1)) m.1 bytes)
unfolding modifiers_end
one_more bytes count i at lt =
    let k : count - i ≡ suc (count - (i + 1)) = omega arith in
    ap (λ (n : ℕ). modifiers_end n at bytes) k

pub goes_on : (bytes : List ℕ) (count i at next : ℕ) (m : Modifier) (total : Result ℕ JdwpError) → i < count → Ok (m, next) ≡ modifier_at at bytes → modifiers_end (count - i) at bytes ≡ total → modifiers_end (count - (i + 1)) next bytes ≡ total
goes_on bytes count i at next m total lt is so_far =
    ap (λ (r : Result (Modifier × ℕ) JdwpError). r >>= λ m. modifiers_end (count - (i + 1)) m.1 bytes) is ∙ sym (one_more bytes count i at lt) ∙ so_far

pub ends : (bytes : List ℕ) (count i at : ℕ) (e : JdwpError) (total : Result ℕ JdwpError) → i < count → Err e ≡ modifier_at at bytes → modifiers_end (count - i) at bytes ≡ total → Err e ≡ total
ends bytes count i at e total lt is so_far =
    ap (λ (r : Result (Modifier × ℕ) JdwpError). r >>= λ m. modifiers_end (count - (i + 1)) m.1 bytes) is ∙ sym (one_more bytes count i at lt) ∙ so_far

pub is_done : (bytes : List ℕ) (count i at : ℕ) (total : Result ℕ JdwpError) → count ≤ i → modifiers_end (count - i) at bytes ≡ total → Ok at ≡ total
unfolding modifiers_end
is_done bytes count i at total le so_far =
    let k : count - i ≡ 0 = omega arith in
    sym (ap (λ (n : ℕ). modifiers_end n at bytes) k) ∙ so_far
