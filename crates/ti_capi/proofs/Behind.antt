-- What lies behind a handle that is full.
use Rattle.std.proofs.Common.{◌≡◌, Option, Some, None, sym, ap}
use Rattle.std.proofs.lemmas.Option.{none-some, same_Some}
use Rattle.ti_capi.specs.declared.held.Held.{Held}
use Rattle.ti_capi.specs.declared.held.Held.TheVariants as held
use Rattle.ti_capi.specs.declared.held.HeldEnv.{HeldEnv}
use Rattle.ti_capi.specs.Handles.{Handle, env_in, env_of, with_held_env}

env_is : (o : Option Held) (e : HeldEnv) → env_of o ≡ Some e → Some (held.Env e) ≡ o
env_is (Some (held.Service m)) e is = absurd (none-some e is)
env_is (Some (held.Thread t)) e is = absurd (none-some e is)
env_is (Some (held.Door d)) e is = absurd (none-some e is)
env_is (Some (held.Watch w)) e is = absurd (none-some e is)
env_is (Some (held.Env f)) e is = ap (λ (x : HeldEnv). Some (held.Env x)) (sym (same_Some f e is))
env_is None e is = absurd (none-some e is)

-- a handle with what it has is that handle
pub same_env : (h : Handle) (e : HeldEnv) → env_in h ≡ Some e → with_held_env h e ≡ h
same_env h e is = λ i. record { kind = h.kind; place = record { at = h.place.at; alloc = h.place.alloc; held = env_is h.place.held e is i } }
