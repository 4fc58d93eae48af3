-- What stays of a history as it grows, and which of its entries a seat makes.
use Rattle.std.proofs.Common.{◌<◌, ◌≡◌, ◌≢◌, ℕ, ◌*◌, ◌≤◌, ◌^◌, eqb, List, [], ◌∷◌, ◌++◌, length, take, cond, Bool, true, refl, sym, ap, ◌∙◌, append_assoc, append-nil, arith, eq-eqb, ne_eqb, length-append}
use Rattle.std.proofs.lemmas.List.{take-append-le}
use Rattle.std.proofs.lemmas.Nat.{mul-le}
use Rattle.std.proofs.lemmas.List.Elements.{filter-append}
use Rattle.ti_types.specs.declared.entry.Entry.{Entry}
use Rattle.ti_replay.specs.Legal.{is_legal, is_armed}
use Rattle.ti_replay.proofs.BoundLaws.{length_bounded}
use Rattle.ti_cell.specs.declared.look.Look.{Look}
use Rattle.ti_replay.specs.Makers.{maker, made_by, AllBy, StartsWith}
use Rattle.ti_types.specs.declared.limits.Limits.{Limits}
use Rattle.ti_cell.specs.Word.{bars, IsLook}
use Rattle.ti_cell.specs.Rule.{Each}

pub starts_same : (history seen : List Entry) → seen ≡ history → StartsWith history seen
starts_same history seen e = ([], sym e ∙ sym (append-nil seen))

pub starts_longer : (history added seen : List Entry) → StartsWith history seen → StartsWith (history ++ added) seen
starts_longer history added seen p = (p.0 ++ added, ap (λ (l : List Entry). l ++ added) p.1 ∙ append_assoc seen p.0 added)

pub starts_length : (history seen : List Entry) → StartsWith history seen → length seen ≤ length history
starts_length history seen p = omega (arith, ap (λ (l : List Entry). length l) p.1, length-append seen p.0)

pub made_by-append : (n : ℕ) (xs ys : List Entry) → made_by n (xs ++ ys) ≡ made_by n xs ++ made_by n ys
made_by-append n xs ys = filter-append (λ (e : Entry). eqb (maker e) n) xs ys

pub made_by-own : (n : ℕ) (es : List Entry) → AllBy n es → made_by n es ≡ es
made_by-own n [] h = refl
made_by-own n (e ∷ es) h = ap (λ (b : Bool). cond b (e ∷ made_by n es) (made_by n es)) (eq-eqb (maker e) n h.0) ∙ ap (λ (l : List Entry). e ∷ l) (made_by-own n es h.1)

pub made_by-other : (n k : ℕ) (es : List Entry) → n ≢ k → AllBy k es → made_by n es ≡ []
made_by-other n k [] ne h = refl
made_by-other n k (e ∷ es) ne h = ap (λ (b : Bool). cond b (e ∷ made_by n es) (made_by n es)) (ne_eqb (maker e) n (λ q. ne (sym q ∙ h.0))) ∙ made_by-other n k es ne h.1

-- a seat's own entries after a history
pub made_more : (n : ℕ) (history added : List Entry) → AllBy n added → made_by n (history ++ added) ≡ made_by n history ++ added
made_more n history added h = made_by-append n history added ∙ ap (λ (l : List Entry). made_by n history ++ l) (made_by-own n added h)

-- another seat's
pub made_same : (n k : ℕ) (history added : List Entry) → n ≢ k → AllBy k added → made_by n (history ++ added) ≡ made_by n history
made_same n k history added ne h = made_by-append n history added ∙ (ap (λ (l : List Entry). made_by n history ++ l) (made_by-other n k added ne h) ∙ append-nil (made_by n history))

pub look_longer : (limits : Limits) (history added : List Entry) (look : Look) → IsLook limits history look → IsLook limits (history ++ added) look
look_longer limits history added look h =
    let within : look.count ≤ length history = h.0 in
    let same : take look.count (history ++ added) ≡ take look.count history = take-append-le look.count history added within in (
      omega (arith, length-append history added),
      ap (is_armed limits) same ∙ h.1,
      ap (bars limits) same ∙ h.2,
    )

pub each_looks_longer : (limits : Limits) (history added : List Entry) (ls : List Look) → Each (IsLook limits history) ls → Each (IsLook limits (history ++ added)) ls
each_looks_longer limits history added [] h = tt
each_looks_longer limits history added (l ∷ ls) h = (look_longer limits history added l h.0, each_looks_longer limits history added ls h.1)

pub each_push : {A : Type 0} (P : A → Type 0) (xs : List A) (x : A) → Each P xs → P x → Each P (xs ++ x ∷ [])
each_push P [] x h p = (p, tt)
each_push P (y ∷ ys) x h p = (h.0, each_push P ys x h.1 p)

-- a legal history is short enough to be counted in the word
pub short : (limits : Limits) (history : List Entry) → is_legal limits history ≡ true → length history < 2 ^ 61
short limits history legal =
    let r = limits.in_range in
    let calls : limits.envs * limits.calls ≤ 32 * 2 ^ 52 = mul-le limits.envs limits.calls 32 (2 ^ 52) r.1.1 r.4.1 in
    omega (arith, length_bounded limits history legal, r.3.1, calls)
