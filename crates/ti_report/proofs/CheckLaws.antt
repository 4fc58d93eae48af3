-- What is told, one after another.
use Rattle.std.proofs.Common.{◌≡◌, slice_get, nat_lt, is_none, if◌then◌else◌, ℤ, nat_le, inl, inr, ◌↔◌, ℕ, zero, suc, ◌+◌, ◌<◌, ◌≤◌, Bool, true, false, List, [], ◌∷◌, ◌++◌, length, map, drop, get_or, refl, ap, ap₂, sym, ◌∙◌, arith, Option, Some, None, subst, append_assoc, append-nil, drop-cons, add-one, drop_of_length-le, not}
use Rattle.std.specs.List.{list_all}
use Rattle.ti_types.specs.declared.limits.Limits.{Limits}
use Rattle.ti_types.specs.declared.numbers.EnvNo.{EnvNo}
use Rattle.ti_types.specs.declared.numbers.ThreadNo.{ThreadNo}
use Rattle.ti_types.specs.declared.entry.Entry.{Entry}
use Rattle.ti_types.specs.declared.event.Event.{Event}
use Rattle.ti_types.specs.declared.event.Event.TheVariants.{Start, Own, Poll, ToNative, ToBlocked, Back, End, Ask, Stop, Read, Go, AddCaps, Relinquish, GetCaps, SetEnvWord, GetEnvWord}
use Rattle.ti_types.specs.declared.call.Call.TheVariants.{Suspend, Resume}
use Rattle.ti_types.specs.declared.answer.Answer.{Answer}
use Rattle.ti_types.specs.declared.answer.Answer.TheVariants.{Done, State, Count, Trace, Location, Word, Caps, Stack, Refused}
use Rattle.std.proofs.lemmas.Bool.Decides.{nat_tests}
use Rattle.std.proofs.lemmas.Bool.{cases_Bool}
use Rattle.ti_live.specs.declared.call.AgentCall.{AgentCall}
use Rattle.ti_live.specs.declared.call.AgentCall.TheVariants as call
use Rattle.ti_live.specs.declared.reply.Reply.{Reply}
use Rattle.ti_live.specs.declared.reply.Reply.TheVariants.{Plain, Codes, Stacks}
use Rattle.ti_types.specs.declared.error.TiError.{TiError}
use Rattle.ti_types.specs.declared.error.TiError.TheVariants.{MustPossessCapability, InvalidThread, IllegalArgument, CallsSpent, OutOfMemory}
use Rattle.ti_types.specs.Caps.{has_all}
use Rattle.ti_types.specs.Call.{needed_by}
use Rattle.ti_types.specs.Numbers.{is_not_negative}
use Rattle.ti_types.specs.Refusing.{or_else, unless}
use Rattle.ti_report.proofs.EventLaws.{all_from, all_alike}
use Rattle.ti_report.specs.Doings.{events_of, wants, refused_whole, can_pay, times, once, looks, every_thread, done_by, all_done}
use Rattle.ti_report.specs.Told.{used, got, history_at}
use Rattle.ti_replay.specs.Admission.{Happening}
use Rattle.ti_types.specs.declared.stack.StackInfo.{StackInfo}
use Rattle.std.proofs.lemmas.List.{get_or-replicate, length-replicate}
use Rattle.ti_report.specs.declared.book.Book.{Book}
use Rattle.ti_report.specs.Books.{Row, page_in, rows_in, spent_in, AreBooks}
use Rattle.ti_report.specs.Fits.{code_of, stack_of, no_stack_of, stack_told, codes_from, stacks_from, Sort, sort_of, single, coded, live_stacks, stacks, told_of, IsReply, RefusedOr, CallFits, CallsFit}
use Rattle.ti_report.specs.Accounts.{AccountValue, Accounts, ArePages, accounted, accounted_all, told_now, codes_now, stacks_now, marked, kept, said_infos, told_one, whole_now, IsReplyNow, RefusedNow, CallNow, called_now, CallsNow, all_called, can_pay_now, new_account, UsedUp}
use Rattle.ti_report.proofs.AccountLaws.{IsBy, told_is, accounts_go}

abbrev pub AllBy : EnvNo → List Event → Type 0
AllBy e [] = Unit {0}
AllBy e (x ∷ xs) = IsBy e x × AllBy e xs

-- codes, by the account and by all that was done
pub codes_are : (limits : Limits) (histories : List (List Entry)) (e : EnvNo) (pages : ℕ → List Row × ℕ) (done : List Happening) (a : AccountValue) (w : Bool) (xs : List Event)
    → e.0 < limits.envs → AllBy e xs → ArePages limits histories e pages → Accounts limits e done a
    → codes_now limits pages a w xs ≡ codes_from limits histories e done (marked w xs)
codes_are limits histories e pages done a w [] there by are k = refl
codes_are limits histories e pages done a w (x ∷ xs) there by are k =
    ap₂ (λ (c : Option ℕ) (l : List (Option ℕ)). c ∷ l) (ap code_of (told_is limits histories e pages done a w x there by.0 are k))
    (codes_are limits histories e pages (done ++ record { event = x; wanting = w } ∷ []) (accounted limits a w x) w xs there by.1 are (accounts_go limits e done a w x by.0 k))

-- stacks
pub stacks_are : (limits : Limits) (histories : List (List Entry)) (e : EnvNo) (pages : ℕ → List Row × ℕ) (done : List Happening) (a : AccountValue) (w : Bool) (xs : List Event)
    → e.0 < limits.envs → AllBy e xs → ArePages limits histories e pages → Accounts limits e done a
    → stacks_now limits pages a w xs ≡ stacks_from limits histories e done (marked w xs)
stacks_are limits histories e pages done a w [] there by are k = refl
stacks_are limits histories e pages done a w (x ∷ xs) there by are k =
    ap₂ (λ (c : List (Option StackInfo)) (l : List (Option StackInfo)). c ++ l) (ap (stack_told x) (told_is limits histories e pages done a w x there by.0 are k))
    (stacks_are limits histories e pages (done ++ record { event = x; wanting = w } ∷ []) (accounted limits a w x) w xs there by.1 are (accounts_go limits e done a w x by.0 k))

-- the account goes on with all of them
pub accounts_all : (limits : Limits) (e : EnvNo) (done : List Happening) (a : AccountValue) (w : Bool) (xs : List Event)
    → AllBy e xs → Accounts limits e done a → Accounts limits e (done ++ marked w xs) (accounted_all limits a w xs)
accounts_all limits e done a w [] by k = rw append-nil k
accounts_all limits e done a w (x ∷ xs) by k =
    let h : Happening = record { event = x; wanting = w } in
    subst (λ d. Accounts limits e d (accounted_all limits (accounted limits a w x) w xs)) (append_assoc done (h ∷ []) (marked w xs))
    (accounts_all limits e (done ++ h ∷ []) (accounted limits a w x) w xs by.1 (accounts_go limits e done a w x by.0 k))

-- ---- one step of a loop over codes

pub codes_long : (limits : Limits) (pages : ℕ → List Row × ℕ) (a : AccountValue) (w : Bool) (xs : List Event) → length (codes_now limits pages a w xs) ≡ length xs
codes_long limits pages a w [] = refl
codes_long limits pages a w (x ∷ xs) = ap suc (codes_long limits pages (accounted limits a w x) w xs)

pub long_some : (codes : List ℕ) → length (map Some codes) ≡ length codes
long_some [] = refl
long_some (c ∷ codes) = ap suc (long_some codes)

-- codes of another number are others
pub other_codes : (limits : Limits) (pages : ℕ → List Row × ℕ) (a : AccountValue) (w : Bool) (xs : List Event) (codes : List ℕ)
    → map Some codes ≡ codes_now limits pages a w xs → length codes ≡ length xs
other_codes limits pages a w xs codes h = sym (long_some codes) ∙ ap length h ∙ codes_long limits pages a w xs

-- the codes from a place on
pub codes_step : (limits : Limits) (pages : ℕ → List Row × ℕ) (a : AccountValue) (w : Bool) (xs : List Event) (codes : List ℕ) (i : ℕ) (d : Event) → i < length xs → i < length codes
    → (map Some (drop i codes) ≡ codes_now limits pages a w (drop i xs))
    ↔ ((Some (get_or codes i 0) ≡ code_of (told_now limits pages a w (get_or xs i d)))
    × (map Some (drop (i + 1) codes) ≡ codes_now limits pages (accounted limits a w (get_or xs i d)) w (drop (i + 1) xs)))
codes_step limits pages a w xs codes i d h k =
    let x : drop i xs ≡ get_or xs i d ∷ drop (i + 1) xs = rw add-one (drop-cons xs i d h) in
    let c : drop i codes ≡ get_or codes i 0 ∷ drop (i + 1) codes = rw add-one (drop-cons codes i 0 k) in
    rw (x, c) (λ e. (cc e, cc e), λ p. ap₂ (λ (y : Option ℕ) (l : List (Option ℕ)). y ∷ l) p.0 p.1)

pub account_step : (limits : Limits) (a : AccountValue) (w : Bool) (xs : List Event) (i : ℕ) (d : Event) → i < length xs
    → accounted_all limits a w (drop i xs) ≡ accounted_all limits (accounted limits a w (get_or xs i d)) w (drop (i + 1) xs)
account_step limits a w xs i d h =
    let x : drop i xs ≡ get_or xs i d ∷ drop (i + 1) xs = rw add-one (drop-cons xs i d h) in
    ap (accounted_all limits a w) x

-- ---- one step of a loop over stacks

-- a read that is told no stack
pub no_stack : (live : Bool) (infos : List StackInfo) (rest : List (Option StackInfo)) → said_infos infos ≡ kept live (None ∷ rest) → ⊥
no_stack true [] rest h = cc
no_stack true (i ∷ infos) rest h = cc
no_stack false [] rest h = cc
no_stack false (i ∷ infos) rest h = cc

-- what a read is told
pub read_told : (x : Event) (told : Option Answer) (f : EnvNo) (t : ThreadNo) (n : ℤ) (s : Option StackInfo) → x ≡ Read f t n → stack_of t told ≡ s → stack_told x told ≡ s ∷ []
read_told x told f t n s e h = ap (λ y. stack_told y told) e ∙ ap (λ s. s ∷ []) h

-- an event that is no read
abbrev pub NoRead : Event → Type 0
NoRead x = (e : EnvNo) (t : ThreadNo) (n : ℤ) → x ≡ Read e t n → ⊥

no_done : (told : Option Answer) → (told ≡ Some Done → ⊥) → no_stack_of told ≡ None ∷ []
no_done None h = refl
no_done (Some Done) h = absurd (h refl)
no_done (Some (State bits)) h = refl
no_done (Some (Count n)) h = refl
no_done (Some (Trace b)) h = refl
no_done (Some (Location f)) h = refl
no_done (Some (Word w)) h = refl
no_done (Some (Caps c)) h = refl
no_done (Some (Stack bits b)) h = refl
no_done (Some (Refused e)) h = refl

-- one that is not done is told what nothing fits
pub undone_stack : (x : Event) (told : Option Answer) → NoRead x → (told ≡ Some Done → ⊥) → stack_told x told ≡ None ∷ []
undone_stack (Read e t n) told h k = absurd (h e t n refl)
undone_stack (Start t) told h k = no_done told k
undone_stack (Own t step) told h k = no_done told k
undone_stack (Poll t) told h k = no_done told k
undone_stack (ToNative t) told h k = no_done told k
undone_stack (ToBlocked t kind) told h k = no_done told k
undone_stack (Back t) told h k = no_done told k
undone_stack (End t) told h k = no_done told k
undone_stack (Ask e t call) told h k = no_done told k
undone_stack (Stop e t) told h k = no_done told k
undone_stack (Go e t) told h k = no_done told k
undone_stack (AddCaps e caps) told h k = no_done told k
undone_stack (Relinquish e caps) told h k = no_done told k
undone_stack (GetCaps e) told h k = no_done told k
undone_stack (SetEnvWord e word) told h k = no_done told k
undone_stack (GetEnvWord e) told h k = no_done told k

pub stacks_step : (limits : Limits) (pages : ℕ → List Row × ℕ) (a : AccountValue) (w : Bool) (xs : List Event) (i : ℕ) (d : Event) → i < length xs
    → stacks_now limits pages a w (drop i xs) ≡ stack_told (get_or xs i d) (told_now limits pages a w (get_or xs i d)) ++ stacks_now limits pages (accounted limits a w (get_or xs i d)) w (drop (i + 1) xs)
stacks_step limits pages a w xs i d h =
    let x : drop i xs ≡ get_or xs i d ∷ drop (i + 1) xs = rw add-one (drop-cons xs i d h) in
    ap (stacks_now limits pages a w) x

left_over : (infos : List StackInfo) (next : ℕ) → next < length infos → said_infos (drop next infos) ≡ [] → ⊥
left_over [] next h e = absurd (omega (arith, h))
left_over (i ∷ infos) zero h e = cc
left_over (i ∷ infos) (suc next) h e = left_over infos next (omega (arith, h)) e

-- at the end no stack is left
pub none_left : (infos : List StackInfo) (next : ℕ) (b : Bool) → b ≡ nat_le (length infos) next → (b ≡ true) ↔ (said_infos (drop next infos) ≡ [])
none_left infos next b is =
    elim (cases_Bool (nat_le (length infos) next)) [
      | inl yes' ↦ let l : length infos ≤ next = grind (arith, nat_tests, yes') in (λ _. ap said_infos (drop_of_length-le infos l), λ _. is ∙ yes')
      | inr no' ↦
          let l : next < length infos = grind (arith, nat_tests, no') in
          (λ h. cc (sym h ∙ is ∙ no'), λ h. absurd (left_over infos next l h))
    ]

pub kept_none : (live : Bool) → kept live [] ≡ []
kept_none true = refl
kept_none false = refl

-- a call that is not refused as a whole
pub call_none : (limits : Limits) (pages : ℕ → List Row × ℕ) (a : AccountValue) (call : AgentCall) (reply : Reply) (w : Bool) (xs : List Event) (b : Bool)
    → w ≡ wants reply → whole_now limits a w call ≡ None → xs ≡ events_of limits a.env call → ((b ≡ true) ↔ IsReplyNow limits pages a w (sort_of call) xs reply)
    → (b ≡ true) ↔ CallNow limits pages a call reply
call_none limits pages a call reply w xs b h n e k =
    let z : whole_now limits a (wants reply) call ≡ None = ap (λ w. whole_now limits a w call) (sym h) ∙ n in
    let x = subst (λ ys. (b ≡ true) ↔ IsReplyNow limits pages a w (sort_of call) ys reply) e k in
    let y = subst (λ v. (b ≡ true) ↔ IsReplyNow limits pages a v (sort_of call) (events_of limits a.env call) reply) h x in
    subst (λ o. (b ≡ true) ↔ RefusedNow o reply (IsReplyNow limits pages a (wants reply) (sort_of call) (events_of limits a.env call) reply)) (sym z) y

-- ---- the calls of an agent, by the account and by all that was done

module _ (limits : Limits) (histories : List (List Entry)) (e : EnvNo) (pages : ℕ → List Row × ℕ) (there : e.0 < limits.envs) (are : ArePages limits histories e pages) where
  told_alike : (done : List Happening) (a : AccountValue) (w : Bool) (xs : List Event) → AllBy e xs → Accounts limits e done a
      → told_one limits pages a w xs ≡ told_of limits histories e done (marked w xs)
  told_alike done a w [] by k = refl
  told_alike done a w (x ∷ []) by k = told_is limits histories e pages done a w x there by.0 are k
  told_alike done a w (x ∷ y ∷ xs) by k = refl

  reply_alike : (done : List Happening) (a : AccountValue) (w : Bool) (sort : Sort) (xs : List Event) (reply : Reply) → AllBy e xs → Accounts limits e done a
      → IsReplyNow limits pages a w sort xs reply ↔ IsReply limits histories e done sort (marked w xs) reply
  reply_alike done a w single xs (Plain answer) by k = let q = told_alike done a w xs by k in (λ h. sym q ∙ h, λ h. q ∙ h)
  reply_alike done a w coded xs (Codes cs) by k = let q = codes_are limits histories e pages done a w xs there by are k in (λ h. h ∙ q, λ h. h ∙ sym q)
  reply_alike done a w live_stacks xs (Stacks infos) by k = let q = ap (kept true) (stacks_are limits histories e pages done a w xs there by are k) in (λ h. h ∙ q, λ h. h ∙ sym q)
  reply_alike done a w stacks xs (Stacks infos) by k = let q = stacks_are limits histories e pages done a w xs there by are k in (λ h. h ∙ q, λ h. h ∙ sym q)
  reply_alike done a w single xs (Codes cs) by k = (λ h. h, λ h. h)
  reply_alike done a w single xs (Stacks infos) by k = (λ h. h, λ h. h)
  reply_alike done a w coded xs (Plain answer) by k = (λ h. h, λ h. h)
  reply_alike done a w coded xs (Stacks infos) by k = (λ h. h, λ h. h)
  reply_alike done a w live_stacks xs (Plain answer) by k = (λ h. h, λ h. h)
  reply_alike done a w live_stacks xs (Codes cs) by k = (λ h. h, λ h. h)
  reply_alike done a w stacks xs (Plain answer) by k = (λ h. h, λ h. h)
  reply_alike done a w stacks xs (Codes cs) by k = (λ h. h, λ h. h)

-- ---- why a call is refused as a whole

pub whole_is : (limits : Limits) (e : EnvNo) (done : List Happening) (a : AccountValue) (w : Bool) (call : AgentCall) → Accounts limits e done a
    → whole_now limits a w call ≡ refused_whole limits e done w call
whole_is limits e done a w (call.SuspendList ts) k = ap (λ c. or_else (unless (has_all c (needed_by Suspend)) MustPossessCapability) (unless (not w) OutOfMemory)) (k.caps (record { 0 = 0 }))
whole_is limits e done a w (call.ResumeList ts) k = ap (λ c. or_else (unless (has_all c (needed_by Suspend)) MustPossessCapability) (unless (not w) OutOfMemory)) (k.caps (record { 0 = 0 }))
whole_is limits e done a w (call.AllStacks n) k =
    let q = all_from (λ t. can_pay_now limits a t 1) (λ t. can_pay limits e done t 1) 0 limits.threads limits.threads (omega arith) (λ t l. ap (λ s. nat_le (s + (1 + 1)) limits.calls) (k.spent t l)) in
    ap (λ b. or_else (unless (is_not_negative n) IllegalArgument) (or_else (unless b CallsSpent) (unless (not w) OutOfMemory))) q
whole_is limits e done a w (call.ListStacks ts n) k =
    elim (cases_Bool (list_all (λ t. nat_lt t.0 limits.threads) ts)) [
      | inl all ↦
          let q = all_alike (λ t. can_pay_now limits a t (times t ts)) (λ t. can_pay limits e done t (times t ts)) limits.threads ts (λ t l. ap (λ s. nat_le (s + (1 + times t ts)) limits.calls) (k.spent t l)) all in
          ap (λ b. or_else (unless (list_all (λ t. nat_lt t.0 limits.threads) ts) InvalidThread)
          (or_else (unless (is_not_negative n) IllegalArgument) (or_else (unless (not w) OutOfMemory) (unless b CallsSpent)))) q
      | inr none ↦
          ap (λ b. or_else (unless b InvalidThread)
          (or_else (unless (is_not_negative n) IllegalArgument) (or_else (unless (not w) OutOfMemory) (unless (list_all (λ t. can_pay_now limits a t (times t ts)) ts) CallsSpent)))) none
          ∙ sym (ap (λ b. or_else (unless b InvalidThread)
          (or_else (unless (is_not_negative n) IllegalArgument) (or_else (unless (not w) OutOfMemory) (unless (list_all (λ t. can_pay limits e done t (times t ts)) ts) CallsSpent)))) none)
    ]
whole_is limits e done a w (call.Ask t c) k = refl
whole_is limits e done a w (call.AddCaps c) k = refl
whole_is limits e done a w (call.Relinquish c) k = refl
whole_is limits e done a w call.GetCaps k = refl
whole_is limits e done a w (call.SetEnvWord n) k = refl
whole_is limits e done a w call.GetEnvWord k = refl

-- ---- the events of a call are its agent's

by_map : (e : EnvNo) (make : ThreadNo → Event) (ts : List ThreadNo) → ((t : ThreadNo) → IsBy e (make t)) → AllBy e (map make ts)
by_map e make [] h = tt
by_map e make (t ∷ ts) h = (h t, by_map e make ts h)

by_append : (e : EnvNo) (xs ys : List Event) → AllBy e xs → AllBy e ys → AllBy e (xs ++ ys)
by_append e [] ys h k = k
by_append e (x ∷ xs) ys h k = (h.0, by_append e xs ys h.1 k)

looks_by : (limits : Limits) (e : EnvNo) (ts : List ThreadNo) (n : ℤ) → AllBy e (looks limits e ts n)
looks_by limits e ts n =
    by_append e (map (λ t. Stop e t) (once limits ts)) (map (λ t. Read e t n) ts ++ map (λ t. Go e t) (once limits ts)) (by_map e (λ t. Stop e t) (once limits ts) (λ t. refl))
    (by_append e (map (λ t. Read e t n) ts) (map (λ t. Go e t) (once limits ts)) (by_map e (λ t. Read e t n) ts (λ t. refl)) (by_map e (λ t. Go e t) (once limits ts) (λ t. refl)))

pub events_by : (limits : Limits) (e : EnvNo) (call : AgentCall) → AllBy e (events_of limits e call)
events_by limits e (call.SuspendList ts) = by_map e (λ t. Ask e t Suspend) ts (λ t. refl)
events_by limits e (call.ResumeList ts) = by_map e (λ t. Ask e t Resume) ts (λ t. refl)
events_by limits e (call.AllStacks n) = looks_by limits e (every_thread limits) n
events_by limits e (call.ListStacks ts n) = looks_by limits e ts n
events_by limits e (call.Ask t c) = (refl, tt)
events_by limits e (call.AddCaps c) = (refl, tt)
events_by limits e (call.Relinquish c) = (refl, tt)
events_by limits e call.GetCaps = (refl, tt)
events_by limits e (call.SetEnvWord n) = (refl, tt)
events_by limits e call.GetEnvWord = (refl, tt)

-- ---- a call, and many

refused_alike : (limits : Limits) (histories : List (List Entry)) (e : EnvNo) (o : Option TiError) (reply : Reply) (X Y : Type 0) → (o ≡ None → X ↔ Y) → RefusedNow o reply X ↔ RefusedOr limits histories e o reply Y
refused_alike limits histories e (Some error) reply X Y f = (λ h. h, λ h. h)
refused_alike limits histories e None reply X Y f = f refl

called_on : (limits : Limits) (e : EnvNo) (done : List Happening) (a : AccountValue) (w : Bool) (xs : List Event) (o : Option TiError) → AllBy e xs → Accounts limits e done a
    → Accounts limits e (done ++ (if is_none o then marked w xs else [])) (if is_none o then accounted_all limits a w xs else a)
called_on limits e done a w xs None by k = accounts_all limits e done a w xs by k
called_on limits e done a w xs (Some error) by k = rw append-nil k

module _ (limits : Limits) (histories : List (List Entry)) (e : EnvNo) (pages : ℕ → List Row × ℕ) (there : e.0 < limits.envs) (are : ArePages limits histories e pages) where
  call_alike : (done : List Happening) (a : AccountValue) (call : AgentCall) (reply : Reply) → Accounts limits e done a
      → CallNow limits pages a call reply ↔ CallFits limits histories e done call reply
  call_alike done a call reply k =
      let w = wants reply in
      let z = whole_is limits e done a w call k in
      let o = refused_whole limits e done w call in
      let xs = events_of limits e call in
      let same = refused_alike limits histories e o reply (IsReplyNow limits pages a w (sort_of call) xs reply) (IsReply limits histories e done (sort_of call) (done_by limits e done call reply) reply)
      (λ none.
      let d : done_by limits e done call reply ≡ marked w xs = ap (λ o. if is_none o then marked w xs else []) none in
      subst (λ hs. IsReplyNow limits pages a w (sort_of call) xs reply ↔ IsReply limits histories e done (sort_of call) hs reply) (sym d)
      (reply_alike limits histories e pages there are done a w (sort_of call) xs reply (events_by limits e call) k)) in
      subst (λ f. RefusedNow (whole_now limits a w call) reply (IsReplyNow limits pages a w (sort_of call) (events_of limits f call) reply) ↔ CallFits limits histories e done call reply) (sym k.env)
      (subst (λ p. RefusedNow p reply (IsReplyNow limits pages a w (sort_of call) xs reply) ↔ CallFits limits histories e done call reply) (sym z) same)

  accounts_called : (done : List Happening) (a : AccountValue) (call : AgentCall) (reply : Reply) → Accounts limits e done a
      → Accounts limits e (done ++ done_by limits e done call reply) (called_now limits a call reply)
  accounts_called done a call reply k =
      let w = wants reply in
      let z = whole_is limits e done a w call k in
      let o = refused_whole limits e done w call in
      let xs = events_of limits e call in
      subst (λ f. Accounts limits e (done ++ done_by limits e done call reply) (if is_none (whole_now limits a w call) then accounted_all limits a w (events_of limits f call) else a)) (sym k.env)
      (subst (λ p. Accounts limits e (done ++ done_by limits e done call reply) (if is_none p then accounted_all limits a w xs else a)) (sym z)
      (called_on limits e done a w xs o (events_by limits e call) k))

  pub calls_alike : (done : List Happening) (a : AccountValue) (calls : List AgentCall) (replies : List Reply) → Accounts limits e done a
      → CallsNow limits pages a calls replies ↔ CallsFit limits histories e done calls replies
  calls_alike done a calls [] k = (λ h. h, λ h. h)
  calls_alike done a [] (reply ∷ replies) k = (λ h. h, λ h. h)
  calls_alike done a (call ∷ calls) (reply ∷ replies) k =
      let one = call_alike done a call reply k in
      let more = calls_alike (done ++ done_by limits e done call reply) (called_now limits a call reply) calls replies (accounts_called done a call reply k) in
      (λ h. (one.0 h.0, more.0 h.1), λ h. (one.1 h.0, more.1 h.1))

  pub accounts_end : (done : List Happening) (a : AccountValue) (calls : List AgentCall) (replies : List Reply) → Accounts limits e done a
      → Accounts limits e (all_done limits e done calls replies) (all_called limits a calls replies)
  accounts_end done a [] [] k = k
  accounts_end done a (call ∷ calls) [] k = k
  accounts_end done a [] (reply ∷ replies) k = k
  accounts_end done a (call ∷ calls) (reply ∷ replies) k =
      accounts_end (done ++ done_by limits e done call reply) (called_now limits a call reply) calls replies (accounts_called done a call reply k)

-- ---- one step of a loop over calls

pub too_many : (limits : Limits) (pages : ℕ → List Row × ℕ) (a : AccountValue) (calls : List AgentCall) (replies : List Reply) → length calls < length replies → CallsNow limits pages a calls replies → ⊥
too_many limits pages a calls [] h k = absurd (omega (arith, h))
too_many limits pages a [] (reply ∷ replies) h k = k
too_many limits pages a (call ∷ calls) (reply ∷ replies) h k = too_many limits pages (called_now limits a call reply) calls replies (omega (arith, h)) k.1

-- the element at a place begins what is left
pub next_one : {X : Type 0} (xs : List X) (i : ℕ) (x : X) → i < length xs → x ≡ get_or xs i x → drop i xs ≡ x ∷ drop (i + 1) xs
next_one xs i x h is =
    let e : drop i xs ≡ get_or xs i x ∷ drop (i + 1) xs = rw add-one (drop-cons xs i x h) in
    e ∙ ap (λ y. y ∷ drop (i + 1) xs) (sym is)

pub calls_step : (limits : Limits) (pages : ℕ → List Row × ℕ) (a : AccountValue) (calls more : List AgentCall) (replies rest : List Reply) (c : AgentCall) (r : Reply) → calls ≡ c ∷ more → replies ≡ r ∷ rest
    → CallsNow limits pages a calls replies ↔ (CallNow limits pages a c r × CallsNow limits pages (called_now limits a c r) more rest)
calls_step limits pages a calls more replies rest c r h k = rw (h, k) (λ h. h, λ h. h)

pub called_step : (limits : Limits) (a : AccountValue) (calls more : List AgentCall) (replies rest : List Reply) (c : AgentCall) (r : Reply) → calls ≡ c ∷ more → replies ≡ r ∷ rest
    → all_called limits a calls replies ≡ all_called limits (called_now limits a c r) more rest
called_step limits a calls more replies rest c r h k = ap₂ (all_called limits a) h k

accounted_env : (limits : Limits) (a : AccountValue) (w : Bool) (xs : List Event) → (accounted_all limits a w xs).env ≡ a.env
accounted_env limits a w [] = refl
accounted_env limits a w (x ∷ xs) = accounted_env limits (accounted limits a w x) w xs

-- an account stays that of its agent
pub called_env : (limits : Limits) (a : AccountValue) (call : AgentCall) (reply : Reply) → (called_now limits a call reply).env ≡ a.env
called_env limits a call reply =
    elim (cases_Bool (is_none (whole_now limits a (wants reply) call))) [
      | inl yes' ↦ ap (λ b. (if b then accounted_all limits a (wants reply) (events_of limits a.env call) else a).env) yes' ∙ accounted_env limits a (wants reply) (events_of limits a.env call)
      | inr no' ↦ ap (λ b. (if b then accounted_all limits a (wants reply) (events_of limits a.env call) else a).env) no'
    ]

-- ---- a whole agent

accounts_new : (limits : Limits) (e : EnvNo) → Accounts limits e [] (new_account limits e)
accounts_new limits e = record {
  env = refl;
  caps = λ t. refl;
  word = refl;
  spent_count = length-replicate limits.threads 0;
  spent = λ t l. get_or-replicate limits.threads t.0 0 0 l;
  used_count = length-replicate limits.threads 0;
  used = λ t l. get_or-replicate limits.threads t.0 0 0 l;
}

pages_are : (limits : Limits) (histories : List (List Entry)) (e : EnvNo) (books : List Book) → e.0 < limits.envs → AreBooks limits histories books
    → ArePages limits histories e (λ t. page_in (slice_get books t) e)
pages_are limits histories e books there are t l =
    let b = are t l in
    (ap (λ o. rows_in o e) b.1 ∙ b.2.rows e there, ap (λ o. spent_in o e) b.1 ∙ b.2.spent e there)

module _ (limits : Limits) (histories : List (List Entry)) (e : EnvNo) (books : List Book) (there : e.0 < limits.envs) (are : AreBooks limits histories books) where
  pub agent_calls : (calls : List AgentCall) (replies : List Reply) → CallsNow limits (λ t. page_in (slice_get books t) e) (new_account limits e) calls replies ↔ CallsFit limits histories e [] calls replies
  agent_calls calls replies = calls_alike limits histories e (λ t. page_in (slice_get books t) e) there (pages_are limits histories e books there are) [] (new_account limits e) calls replies (accounts_new limits e)

  pub agent_used : (calls : List AgentCall) (replies : List Reply)
      → UsedUp limits (λ t. page_in (slice_get books t) e) (all_called limits (new_account limits e) calls replies)
      ↔ ((t : ThreadNo) → t.0 < limits.threads → used limits e t (all_done limits e [] calls replies) ≡ length (got limits e (history_at histories t)))
  agent_used calls replies =
      let k = accounts_end limits histories e (λ t. page_in (slice_get books t) e) there (pages_are limits histories e books there are) [] (new_account limits e) calls replies (accounts_new limits e) in
      let p = pages_are limits histories e books there are in
      (λ h t l. sym (k.used t l) ∙ h t l ∙ ap length (p t l).0, λ h t l. k.used t l ∙ h t l ∙ sym (ap length (p t l).0))

pub all_called_env : (limits : Limits) (a : AccountValue) (calls : List AgentCall) (replies : List Reply) → (all_called limits a calls replies).env ≡ a.env
all_called_env limits a [] [] = refl
all_called_env limits a (call ∷ calls) [] = refl
all_called_env limits a [] (reply ∷ replies) = refl
all_called_env limits a (call ∷ calls) (reply ∷ replies) = all_called_env limits (called_now limits a call reply) calls replies ∙ called_env limits a call reply
