-- An environment is told of the first stop of which it was not told.
use Rattle.std.proofs.Common.{◌≡◌, ℕ, ◌+◌, ◌<◌, true, cond, List, ◌∷◌, ◌++◌, length, take, drop, get_or, sym, ap, ◌∙◌, add-one}
use Rattle.std.specs.Prelude.{slice_set}
use Rattle.std.proofs.lemmas.List.{drop_more, set_split}
use Rattle.ti_types.specs.declared.numbers.EnvNo.{EnvNo}
use Rattle.ti_stops.specs.declared.lists.Waiting.{Waiting}
use Rattle.ti_stops.specs.Lists.{is_untold, next_told}

abbrev pub told_now : Waiting → Waiting
told_now w = record { env = w.env; stop = w.stop; told = true }

first_told : (e : EnvNo) (w : Waiting) (ws : List Waiting) → is_untold e w ≡ true → next_told e (w ∷ ws) ≡ told_now w ∷ ws
first_told e w ws h = ap (λ b. cond b (told_now w ∷ ws) (w ∷ next_told e ws)) h

-- the first of the rest is that one
pub tells_here : (e : EnvNo) (ws : List Waiting) (i : ℕ) (d : Waiting) → i < length ws → is_untold e (get_or ws i d) ≡ true → slice_set ws i (told_now (get_or ws i d)) ≡ take i ws ++ next_told e (drop i ws)
tells_here e ws i d within h =
    let rest : next_told e (drop i ws) ≡ told_now (get_or ws i d) ∷ drop (i + 1) ws = ap (next_told e) (drop_more ws i d within) ∙ first_told e (get_or ws i d) (drop (i + 1) ws) h in
    set_split ws i (told_now (get_or ws i d)) within
    ∙ ap (λ n. take i ws ++ told_now (get_or ws i d) ∷ drop n ws) (sym (add-one i))
    ∙ ap (λ l. take i ws ++ l) (sym rest)
