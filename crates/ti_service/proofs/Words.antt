-- A word that was cleared reads as 0.
use Rattle.std.proofs.Common.{◌≡◌, ◌≢◌, ◌⊎◌, ℕ, ◌+◌, ◌==◌, Bool, true, false, if◌then◌else◌, inl, inr, List, [], ◌∷◌, refl, ap, sym, ◌∙◌, arith}
use Rattle.std.specs.List.{fold}
use Rattle.std.proofs.lemmas.Bool.{cases_eq}
use Rattle.std.proofs.lemmas.Bool.Decides.{nat_tests}
use Rattle.ti_types.specs.declared.call.Call.TheVariants as call
use Rattle.ti_types.specs.declared.entry.Entry.{Entry}
use Rattle.ti_types.specs.declared.entry.Entry.TheVariants.{Start, Own, Hand, Back, End, Asked, Stop, Read, Go}
use Rattle.ti_types.specs.declared.numbers.EnvNo.{EnvNo}
use Rattle.ti_replay.specs.Makers.{made_by, maker}
use Rattle.ti_replay.specs.Word.{lives_after, word_after as set_after, word_from}
use Rattle.ti_replay.proofs.StorageLaws.{view_word}
use Rattle.ti_agent.specs.FreeDesk.{word_after}
use Rattle.ti_service.specs.Leaving.{ClearedReadsZero, has_ended, is_end}

-- an entry of another seat asks for no word of the environment
skips : (env : EnvNo) (z : ℕ) (x : Entry) → (maker x == env.0 + 1) ≡ false → word_after env z x ≡ z
skips env z Start off = refl
skips env z (Own step) off = refl
skips env z (Hand safe) off = refl
skips env z Back off = refl
skips env z End off = refl
skips env z (Asked other n (call.SetWord w)) off = grind (arith, nat_tests, off)
skips env z (Asked other n call.State) off = refl
skips env z (Asked other n call.FrameCount) off = refl
skips env z (Asked other n (call.Trace s m)) off = refl
skips env z (Asked other n (call.Location d)) off = refl
skips env z (Asked other n call.Suspend) off = refl
skips env z (Asked other n call.Resume) off = refl
skips env z (Asked other n call.GetWord) off = refl
skips env z (Asked other n call.Pop) off = refl
skips env z (Stop other) off = refl
skips env z (Read other m) off = refl
skips env z (Go other) off = refl

-- so the word that was asked for last is read off the whole history
own_is_all : (env : EnvNo) (z : ℕ) (h : List Entry) → fold (word_after env) z (made_by (env.0 + 1) h) ≡ fold (word_after env) z h
own_is_all env z [] = refl
own_is_all env z (x ∷ h) =
    elim (cases_eq (maker x) (env.0 + 1)) [
      | inl mine ↦
          let on : (maker x == env.0 + 1) ≡ true = grind (arith, nat_tests, mine) in
          let k : made_by (env.0 + 1) (x ∷ h) ≡ x ∷ made_by (env.0 + 1) h = grind (arith, on) in
          ap (λ (l : List Entry). fold (word_after env) z l) k ∙ own_is_all env (word_after env z x) h
      | inr other ↦
          let off : (maker x == env.0 + 1) ≡ false = grind (arith, nat_tests, other) in
          let k : made_by (env.0 + 1) (x ∷ h) ≡ made_by (env.0 + 1) h = grind (arith, off) in
          ap (λ (l : List Entry). fold (word_after env) z l) k ∙ (own_is_all env z h ∙ ap (λ (y : ℕ). fold (word_after env) y h) (sym (skips env z x off)))
    ]

-- While a thread has not ended: before it lives its word is 0, and if the last word that was asked for is 0, so is the word
record Agrees (alive : Bool) (word asked : ℕ) : Type 0 where
  before : alive ≡ false → word ≡ 0
  zero_is : asked ≡ 0 → word ≡ 0

one : (alive : Bool) (word asked : ℕ) (env : EnvNo) (x : Entry) → is_end x ≡ false → Agrees alive word asked → Agrees (lives_after alive x) (set_after alive word env x) (word_after env asked x)
one alive word asked env Start no_end a = record { before = λ h. absurd (never h); zero_is = a.zero_is }
  where
    never : true ≡ false → ⊥
    never h = cc
one alive word asked env (Own step) no_end a = a
one alive word asked env (Hand safe) no_end a = a
one alive word asked env Back no_end a = a
one alive word asked env End no_end a = cc
one true word asked env (Asked other n (call.SetWord w)) no_end a = record { before = λ h. absurd (never h); zero_is = same other w (cases_eq other.0 env.0) }
  where
    never : true ≡ false → ⊥
    never h = cc

    same : (other : EnvNo) (w : ℕ) → (other.0 ≡ env.0) ⊎ (other.0 ≢ env.0) → (if other.0 == env.0 then w else asked) ≡ 0 → (if other.0 == env.0 then w else word) ≡ 0
    same other w (inl is) h = grind (arith, nat_tests, is, h)
    same other w (inr not_is) h = let off : (other.0 == env.0) ≡ false = grind (arith, nat_tests, not_is) in
        let was : asked ≡ 0 = grind (arith, off, h) in let z = a.zero_is was in grind (arith, off, z)
one false word asked env (Asked other n (call.SetWord w)) no_end a = record { before = a.before; zero_is = λ h. a.before refl }
one alive word asked env (Asked other n call.State) no_end a = a
one alive word asked env (Asked other n call.FrameCount) no_end a = a
one alive word asked env (Asked other n (call.Trace s m)) no_end a = a
one alive word asked env (Asked other n (call.Location d)) no_end a = a
one alive word asked env (Asked other n call.Suspend) no_end a = a
one alive word asked env (Asked other n call.Resume) no_end a = a
one alive word asked env (Asked other n call.GetWord) no_end a = a
one alive word asked env (Asked other n call.Pop) no_end a = a
one alive word asked env (Stop other) no_end a = a
one alive word asked env (Read other m) no_end a = a
one alive word asked env (Go other) no_end a = a

all : (alive : Bool) (word asked : ℕ) (env : EnvNo) (h : List Entry) → has_ended h ≡ false → Agrees alive word asked → fold (word_after env) asked h ≡ 0 → word_from alive word env h ≡ 0
all alive word asked env [] no_end a zero = a.zero_is zero
all alive word asked env (x ∷ h) no_end a zero =
    let here : is_end x ≡ false = grind (arith, no_end) in
    let rest : has_ended h ≡ false = grind (arith, no_end) in
    all (lives_after alive x) (set_after alive word env x) (word_after env asked x) env h rest (one alive word asked env x here a) zero

pub cleared_reads_zero : ClearedReadsZero
cleared_reads_zero limits h env legal there no_end asked = view_word limits h env legal there ∙ all false 0 0 env h no_end (record { before = λ e. refl; zero_is = λ e. refl }) (sym (own_is_all env 0 h) ∙ asked)
