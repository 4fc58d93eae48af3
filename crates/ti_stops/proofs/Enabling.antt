-- An environment that enables something.
use Rattle.std.proofs.Common.{◌≡◌, not, List, [], ◌∷◌, ◌++◌, filter, Option, ap, ◌∙◌}
use Rattle.ti_types.specs.declared.numbers.EnvNo.{EnvNo}
use Rattle.ti_types.specs.declared.numbers.ThreadNo.{ThreadNo}
use Rattle.ti_stops.specs.declared.kind.StopKind.{StopKind}
use Rattle.ti_stops.specs.declared.lists.Mode.{Mode}
use Rattle.ti_stops.specs.Lists.{is_mode}
use Rattle.ti_stops.specs.Stops.{StopsNow, with_env, with_mode}

pub enabled : (s now : StopsNow) (e : EnvNo) (k : StopKind) (t : Option ThreadNo) (envs : List EnvNo) (modes front : List Mode) → s ≡ now → envs ≡ with_env e s.envs → front ≡ filter (λ m. not (is_mode e k t m)) s.modes → modes ≡ front ++ record { env = e; kind = k; thread = t } ∷ [] → record { envs = envs; modes = modes; breakpoints = s.breakpoints; pops = s.pops; waiting = s.waiting } ≡ with_mode now e k t
enabled s now e k t envs modes front is put left added =
    let one : modes ≡ filter (λ m. not (is_mode e k t m)) s.modes ++ record { env = e; kind = k; thread = t } ∷ [] = added ∙ ap (λ l. l ++ record { env = e; kind = k; thread = t } ∷ []) left in
    ap (λ (l : List EnvNo). record { envs = l; modes = modes; breakpoints = s.breakpoints; pops = s.pops; waiting = s.waiting }) put
    ∙ ap (λ (l : List Mode). record { envs = with_env e s.envs; modes = l; breakpoints = s.breakpoints; pops = s.pops; waiting = s.waiting }) one
    ∙ ap (λ (x : StopsNow). with_mode x e k t) is
