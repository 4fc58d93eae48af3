-- The exchange that adds a class keeps the rule.
use Rattle.std.proofs.Common.{◌≡◌, ℕ, ◌+◌, ◌*◌, ◌^◌, ◌<◌, ◌==◌, Bool, true, false, List, [], ◌∷◌, ◌++◌, length, refl, ap, sym, subst, ◌∙◌, arith, inl, length-append, None}
use Rattle.std.proofs.lemmas.List.{append-nil}
use Rattle.std.proofs.lemmas.Bool.Decides.{nat_tests}
use mathlib.Core.List.{IsPrefix}
use prog.Atomic.{either}
use Rattle.logbook.specs.Pages.{Cell, cell, keeps, no_nib, step, Moves, Goes}
use Rattle.ti_methods.specs.declared.info.ClassInfo.{ClassInfo}
use Rattle.ti_methods.specs.Classes.{count, methods_in, HasRoom}
use Rattle.ti_methods.specs.Rules.{IsKept, IsLegal, Adds, word_of}
use Rattle.ti_methods.proofs.Lists.{prefix_whole, methods_snoc}

abbrev pub shown : List ClassInfo → List ClassInfo
shown log = []

abbrev pub moved : List ClassInfo → List ClassInfo → ℕ → Type 0
moved xs ys n = Unit {0}

-- both counts are in the word
pub counts : (c m d n : ℕ) → m < 2 ^ 32 → n < 2 ^ 32 → c * 2 ^ 32 + m ≡ d * 2 ^ 32 + n → c ≡ d
counts c m d n h k e = omega arith

pub word_snoc : (log : List ClassInfo) (e : ClassInfo) → word_of (log ++ e ∷ []) ≡ word_of log + 2 ^ 32 + count e
word_snoc log e = omega (arith, length-append log (e ∷ []), methods_snoc log e)

pub legal_snoc : (log : List ClassInfo) (e : ClassInfo) → HasRoom log e → IsLegal (log ++ e ∷ [])
legal_snoc log e room = record {
  classes = omega (arith, length-append log (e ∷ []), room.classes);
  methods = omega (arith, methods_snoc log e, room.methods);
}

module _ (log v : List ClassInfo) (e : ClassInfo) (old new : ℕ) (word : word_of v ≡ old) (next : new ≡ old + 2 ^ 32 + count e) (room : HasRoom v e) (legal : IsLegal log) (pre : IsPrefix v log) where
  pub same_log : word_of log ≡ old → v ≡ log
  same_log here = prefix_whole v log pre (omega (arith, counts (length log) (length (methods_in log)) (length v) (length (methods_in v)) legal.methods (omega (arith, room.methods)) (here ∙ sym word)))

  pub adds_goes : (b : Bool) → (word_of log == old) ≡ b
      → Goes IsKept shown moved 0 (v, (no_nib, None)) (λ n. either (n == old) new n) (Adds (step 0 old new e) (v, (no_nib, None))) ((word_of log, true) ∷ (0, true) ∷ []) log
  adds_goes true is =
      let here : word_of log ≡ old = grind (arith, nat_tests) in
      let same : v ≡ log = same_log here in
      let legal' : IsLegal (log ++ e ∷ []) = subst (λ l. IsLegal (l ++ e ∷ [])) same (legal_snoc v e room) in
      let n : either (word_of log == old) new (word_of log) ≡ word_of (log ++ e ∷ []) = rw is (omega (arith, word_snoc log e, here, next)) in (
        keeps,
        e ∷ [],
        None,
        tt,
        record { words = ap (λ (k : ℕ). (k, true) ∷ (0, true) ∷ []) n; legal = legal' },
        inl (refl, refl),
        rw is (ap (λ w. w ++ e ∷ []) (sym same), legal'),
      )
  adds_goes false is =
      let all : log ++ [] ≡ log = append-nil log in
      let legal' : IsLegal (log ++ []) = subst IsLegal (sym all) legal in
      let n : either (word_of log == old) new (word_of log) ≡ word_of (log ++ []) = rw is (ap word_of (sym all)) in (
        keeps,
        [],
        None,
        tt,
        record { words = ap (λ (k : ℕ). (k, true) ∷ (0, true) ∷ []) n; legal = legal' },
        inl (refl, refl),
        rw is (ap word_of all, legal'),
      )

-- whatever the book is, the exchange adds the class to all that was seen, or finds other counts
pub adds_moves : (v : List ClassInfo) (e : ClassInfo) (old new : ℕ) → word_of v ≡ old → new ≡ old + 2 ^ 32 + count e → HasRoom v e
    → Moves IsKept shown moved 0 (v, (no_nib, None)) (λ n. either (n == old) new n) (Adds (step 0 old new e) (v, (no_nib, None)))
adds_moves v e old new word next room cs log kept pre away =
    let P : List Cell → Type 0 = λ c. (0 < length c) × ((cell c 0).1 ≡ true) × Goes IsKept shown moved 0 (v, (no_nib, None)) (λ n. either (n == old) new n) (Adds (step 0 old new e) (v, (no_nib, None))) c log in
    subst P (sym kept.words) (omega arith, refl, adds_goes log v e old new word next room kept.legal pre (word_of log == old) refl)
