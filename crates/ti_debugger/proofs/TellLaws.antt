-- What a session is told, one event after another.
use Rattle.std.proofs.Common.{◌≡◌, ℕ, zero, suc, Bool, List, [], ◌∷◌, ◌++◌, Option, Some, None, slice_get, refl, sym, ap, subst, arith}
use Rattle.std.specs.Prelude.{IsSomeAnd, string_bytes}
use mathlib.Core.List.{IsPrefix}
use Rattle.ti_jdwp.specs.SessionRuns.{Call, Step, taken, Fed, PeerEnded, Shut, Went, Failed, Replied, Listed, PostedAs, Settled, Written, Happened, Began, Died, PlacedAs, LocatedAs, StoppedAt}
use Rattle.ti_jdwp.specs.Talks.{Talk}
use Rattle.ti_jdwp.specs.declared.event_text.Occurrence.{Occurrence}
use Rattle.ti_methods.specs.Classes.{IsSignature}
use Rattle.ti_methods.specs.declared.info.ClassInfo.{ClassInfo}
use Rattle.ti_methods.specs.declared.info.ClassNo.{ClassNo}
use Rattle.ti_jdwp.specs.declared.event_text.Occurrence.TheVariants as occurrence
use Rattle.ti_debugger.specs.Told.{Follows, TellsBy, TellsFrom, Tells, ToldBy}
use Rattle.ti_debugger.proofs.RunLaws.{runs_on}

from_on : (log : List ClassInfo) (n k m : ℕ) (first more : List Call) → TellsFrom log n first k → TellsFrom log k more m → TellsFrom log n (first ++ more) m
from_on log n k m [] more a b = subst (λ (x : ℕ). TellsFrom log x more m) a b
from_on log n k m (c ∷ first) more a b = (a.0, a.1, from_on log a.0 k m first more a.2 b)

tells_on : (log : List ClassInfo) (n k m : ℕ) (s t u : Talk) → Tells log n k s t → Tells log k m t u → Tells log n m s u
tells_on log n k m s t u a b = (a.0 ++ b.0, from_on log n k m a.0 b.0 a.1 b.1, runs_on s t u a.0 b.0 [] [] a.2 b.2)

-- one part after another
pub told_on : (log : List ClassInfo) (n k m : ℕ) (s t u : Option Talk) → ToldBy log n k s t → ToldBy log k m t u → ToldBy log n m s u
told_on log n k m None t u a b = let rest = subst (λ (x : Option Talk). ToldBy log k m x u) a.0 b in (rest.0, omega (arith, a.1, rest.1))
told_on log n k m (Some s) t u a b =
    let rest = subst (λ (x : Option Talk). ToldBy log k m x u) a.1 b in
    (rest.0, rest.1, tells_on log n k m s a.0 rest.0 a.2 rest.2)

-- the same, where more classes are known
stays : (P : ClassInfo → Type 0) (log more : List ClassInfo) (n : ℕ) → IsPrefix log more → IsSomeAnd (slice_get log n) P → IsSomeAnd (slice_get more n) P
stays P [] more n pre is = absurd is
stays P (x ∷ log) [] n pre is = absurd (cc (pre.1))
stays P (x ∷ log) (y ∷ more) zero pre is = subst P (cc (pre.1)) is
stays P (x ∷ log) (y ∷ more) (suc n) pre is = stays P log more n (pre.0, cc (pre.1)) is

signature_stays : (log more : List ClassInfo) (c : ClassNo) (text : List ℕ) → IsPrefix log more → IsSignature log c text → IsSignature more c text
signature_stays log more c text pre is = stays (λ (i : ClassInfo). text ≡ string_bytes i.signature) log more c.0 pre is

follows_more : (log more : List ClassInfo) (n m : ℕ) (o : Occurrence) (is_noted : Bool) → IsPrefix log more → Follows log n o is_noted m → Follows more n o is_noted m
follows_more log more n m (occurrence.ThreadStart t) is_noted pre is = is
follows_more log more n m (occurrence.ThreadDeath t) is_noted pre is = is
follows_more log more n m (occurrence.ClassPrepare t c s) is_noted pre is = (is.0, signature_stays log more _ s.now pre is.1, is.2)
follows_more log more n m (occurrence.SingleStep t c k i) is_noted pre is = absurd is
follows_more log more n m (occurrence.Breakpoint t c k i) is_noted pre is = absurd is
follows_more log more n m (occurrence.ClassUnload s) is_noted pre is = absurd is
follows_more log more n m (occurrence.VmStart t) is_noted pre is = absurd is
follows_more log more n m occurrence.VmDeath is_noted pre is = absurd is

by_more : (log more : List ClassInfo) (n m : ℕ) (c : Call) → IsPrefix log more → TellsBy log n c m → TellsBy more n c m
by_more log more n m (Happened e o is_noted) pre is = follows_more log more n m o is_noted pre is
by_more log more n m (Began t is_noted) pre is = absurd is
by_more log more n m (Died is_noted) pre is = absurd is
by_more log more n m (Fed bytes) pre is = absurd is
by_more log more n m PeerEnded pre is = absurd is
by_more log more n m Shut pre is = absurd is
by_more log more n m (Went act) pre is = absurd is
by_more log more n m Failed pre is = absurd is
by_more log more n m (Replied a) pre is = absurd is
by_more log more n m (Listed threads) pre is = absurd is
by_more log more n m (PostedAs posted) pre is = absurd is
by_more log more n m Settled pre is = absurd is
by_more log more n m (Written count) pre is = absurd is
by_more log more n m (PlacedAs placed) pre is = absurd is
by_more log more n m (LocatedAs standing) pre is = absurd is
by_more log more n m (StoppedAt x verdict) pre is = is

from_more : (log more : List ClassInfo) (n m : ℕ) (calls : List Call) → IsPrefix log more → TellsFrom log n calls m → TellsFrom more n calls m
from_more log more n m [] pre is = is
from_more log more n m (c ∷ calls) pre is = (is.0, by_more log more n is.0 c pre is.1, from_more log more is.0 m calls pre is.2)

pub told_more : (log more : List ClassInfo) (n m : ℕ) (s t : Option Talk) → IsPrefix log more → ToldBy log n m s t → ToldBy more n m s t
told_more log more n m None t pre is = is
told_more log more n m (Some s) t pre is = (is.0, is.1, (is.2.0, from_more log more n m is.2.0 pre is.2.1, is.2.2))

-- the same, by other names
pub told_at : (log log' : List ClassInfo) (n n' m m' : ℕ) (s s' t : Option Talk) → log' ≡ log → n ≡ n' → m' ≡ m → s ≡ s' → ToldBy log n m s t → ToldBy log' n' m' s' t
told_at log log' n n' m m' s s' t known from up_to was is =
    subst (λ (x : List ClassInfo). ToldBy x n' m' s' t) (sym known)
    (subst (λ (x : ℕ). ToldBy log x m' s' t) from (subst (λ (x : ℕ). ToldBy log n x s' t) (sym up_to) (subst (λ (x : Option Talk). ToldBy log n m x t) was is)))

-- one event
pub tells_one : (log : List ClassInfo) (n m : ℕ) (c : Call) (s t : Talk) → TellsBy log n c m → Step s c t → taken s c ≡ [] → Tells log n m s t
tells_one log n m c s t tells step quiet = (c ∷ [], (m, tells, refl), (t, [], step, sym (ap (λ (x : List ℕ). x ++ []) quiet), (refl, refl)))
