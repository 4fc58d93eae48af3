-- The result of a call at each thread of a list. It is posted at one thread after another. Then each call that waits is
-- collected, in the same order.
use Rattle.std.specs.Prelude.{ℕ, ◌≡◌, false, List, [], ◌∷◌, Option, Some, None}
use Rattle.ti_types.specs.Answer.{said}
use Rattle.ti_types.specs.declared.answer.Answer.{Answer}
use Rattle.ti_types.specs.declared.answer.Answer.TheVariants as answer
use Rattle.ti_types.specs.declared.call.Call.{Call}
use Rattle.ti_types.specs.declared.error.TiError.{TiError}
use Rattle.ti_types.specs.declared.event.Ticket.{Ticket}
use Rattle.ti_types.specs.declared.numbers.ThreadNo.{ThreadNo}
use Rattle.ti_types.specs.TiError.{number_of}
use Rattle.ti_slot.specs.declared.asked.Asked.TheVariants.{Answered, Waiting}
use Rattle.ti_slot.specs.Tickets.{same}
use Rattle.ti_agent.specs.Env.{Environment}
use Rattle.ti_agent.specs.Posts.{posting_refusal, Posts, Collects, IsOut}
use Rattle.ti_agent.specs.declared.lists.Posted.{Posted}
use Rattle.ti_agent.specs.declared.lists.Posted.TheVariants.{Code, Waits}

-- the code of an answer: 0, or the number of its error
abbrev pub code_of : Answer → ℕ
code_of (answer.Refused e) = number_of e
code_of _ = 0

-- a call at one thread: refused by the environment itself, and then nothing changed; or posted, and answered or waiting
abbrev pub IsPostedBy : Option TiError → Environment → Environment → Call → ThreadNo → Posted → Type 0
IsPostedBy (Some e) old new c t (Code n) = (new ≡ old) × (n ≡ number_of e)
IsPostedBy (Some e) old new c t (Waits k) = ⊥
IsPostedBy None old new c t (Code n) = (a : Answer) × Posts old new t c (Answered a) × (n ≡ code_of (said a))
IsPostedBy None old new c t (Waits k) = Posts old new t c (Waiting k)

abbrev pub IsPosted : Environment → Environment → Call → ThreadNo → Posted → Type 0
IsPosted old new c t x = IsPostedBy (posting_refusal old t c) old new c t x

-- a call is posted at one thread after another
abbrev pub PostsEach : Environment → Environment → Call → List ThreadNo → List Posted → Type 0
PostsEach old new c [] [] = new ≡ old
PostsEach old new c (t ∷ ts) (x ∷ xs) = (next : Environment) × IsPosted old next c t x × PostsEach next new c ts xs
PostsEach old new c _ _ = ⊥

-- a posted call has a code already, or is collected
abbrev pub IsCollected : Environment → Environment → Posted → ℕ → Type 0
IsCollected old new (Code n) code = (new ≡ old) × (code ≡ n)
IsCollected old new (Waits k) code = (a : Answer) × Collects old new k a × (code ≡ code_of a)

-- one call is collected after another
abbrev pub CollectsEach : Environment → Environment → List Posted → List ℕ → Type 0
CollectsEach old new [] [] = new ≡ old
CollectsEach old new (x ∷ xs) (code ∷ codes) = (next : Environment) × IsCollected old next x code × CollectsEach next new xs codes
CollectsEach old new _ _ = ⊥

-- a call at each thread of a list: all are posted before one is collected
pub record WentEach (old new : Environment) (c : Call) (threads : List ThreadNo) (codes : List ℕ) : Type 0 where
  pub between : Environment
  pub posted : List Posted
  pub posts : PostsEach old between c threads posted
  pub collects : CollectsEach between new posted codes

abbrev pub IsOpen : Environment → Posted → Type 0
IsOpen s (Code n) = Unit {0}
IsOpen s (Waits k) = IsOut s k

-- none of these has this ticket
abbrev pub AreOthers : Ticket → List Posted → Type 0
AreOthers k [] = Unit {0}
AreOthers k (Code n ∷ xs) = AreOthers k xs
AreOthers k (Waits j ∷ xs) = (same j k ≡ false) × AreOthers k xs

abbrev pub NoneTwice : Posted → List Posted → Type 0
NoneTwice (Code n) xs = Unit {0}
NoneTwice (Waits k) xs = AreOthers k xs

-- all tickets that wait are out, each once
abbrev pub AreOpen : Environment → List Posted → Type 0
AreOpen s [] = Unit {0}
AreOpen s (x ∷ xs) = IsOpen s x × NoneTwice x xs × AreOpen s xs
