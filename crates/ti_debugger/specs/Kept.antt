-- The texts and tables that are kept, each with the thread that it was told of.
use Rattle.std.specs.Prelude.{ℕ, suc, ◌≡◌, ◌+◌, ◌-◌, ◌^◌, ◌<◌, ◌==◌, ◌&&◌, ◌||◌, Bool, true, false, not, nat_le, nat_lt, min, List, [], ◌∷◌, length, map, filter, slice_get, Some, if◌then◌else◌}
use Rattle.std.specs.List.{fold, sum_by}
use Rattle.ti_debugger.specs.declared.objects.Disposal.{Disposal}
use Rattle.ti_debugger.specs.declared.objects.Kept.{Kept}
use Rattle.ti_debugger.specs.declared.objects.Object.{Object}
use Rattle.ti_debugger.specs.declared.objects.Object.TheVariants as object

-- the text or the table of this number is kept
pub record IsKept (list : List Kept) (n : ℕ) (o : Object) : Type 0 where
  pub place : ℕ
  pub kept : Kept
  pub at : slice_get list place ≡ Some kept
  pub number : kept.number ≡ n
  pub has : kept.object ≡ o

abbrev pub is_text : Object → Bool
is_text (object.Text text) = true
is_text (object.Table count) = false

-- how many bytes one has, and how many all of them have
abbrev pub size_of : Object → ℕ
size_of (object.Text text) = length text
size_of (object.Table count) = 0

abbrev pub bytes_of : List Kept → ℕ
bytes_of list = sum_by (λ (k : Kept). size_of k.object) list

-- what was told of a thread, and all else
abbrev pub of_thread : ℕ → List Kept → List Kept
of_thread thread list = filter (λ (k : Kept). k.thread == thread) list

abbrev pub without : ℕ → List Kept → List Kept
without thread list = filter (λ (k : Kept). not (k.thread == thread)) list

-- what is kept of an answer for a thread: its texts and tables have the numbers from n on, and the debugger was not told them yet
abbrev pub numbered : ℕ → ℕ → List Object → List Kept
numbered thread n [] = []
numbered thread n (o ∷ more) = record { thread = thread; number = n; told = 0; object = o } ∷ numbered thread (suc n) more

-- one of so many from a number on is told once more
abbrev pub told_once : ℕ → ℕ → Kept → Kept
told_once first count k = if nat_le first k.number && nat_lt (k.number - first) count then record k { told = min (k.told + 1) (2 ^ 32 - 1) } else k

-- both are texts, or both tables
abbrev pub is_of_kind : Disposal → Kept → Bool
is_of_kind which k = if which.is_text then is_text k.object else not (is_text k.object)

-- it is the one that the debugger does not need any more
abbrev pub is_which : Disposal → Kept → Bool
is_which which k = (k.number == which.number) && is_of_kind which k

-- It stays if it is another one, or if the debugger was told it more often. Then it counts as told less often.
abbrev pub stays : Disposal → Kept → Bool
stays which k = not (is_which which k) || nat_lt which.count k.told

abbrev pub lessened : Disposal → Kept → Kept
lessened which k = if is_which which k then record k { told = k.told - which.count } else k

abbrev pub disposed : Disposal → List Kept → List Kept
disposed which list = map (lessened which) (filter (stays which) list)

-- one after the other
abbrev pub all_disposed : List Disposal → List Kept → List Kept
all_disposed which list = fold (λ (l : List Kept) (w : Disposal). disposed w l) list which

-- No number names another text or table than before.
abbrev pub Names : List Kept → List Kept → Type 0
Names old new = (n : ℕ) (o : Object) → IsKept new n o → IsKept old n o

-- No number that was given names another one than before.
abbrev pub NamesBelow : ℕ → List Kept → List Kept → Type 0
NamesBelow numbers old new = (n : ℕ) (o : Object) → n < numbers → IsKept new n o → IsKept old n o
