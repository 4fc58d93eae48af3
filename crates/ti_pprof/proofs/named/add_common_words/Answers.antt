use Rattle.std.proofs.Common.{◌∙◌, ap}
use Rattle.std.specs.Prelude.{codes}
use Rattle.ti_pprof.specs.Strings.{with_string}
use Rattle.ti_pprof.proofs.named.add_common_words.Goals as goal

pub returns : goal.returns
returns c =
    c.in_ok-add-10.ensures.added
    ∙ ap (λ s. with_string s (codes "(unknown)")) (c.in_ok-add-9.ensures.added
    ∙ ap (λ s. with_string s (codes "(no room)")) (c.in_ok-add-8.ensures.added
    ∙ ap (λ s. with_string s (codes "(no frames)")) (c.in_ok-add-7.ensures.added
    ∙ ap (λ s. with_string s (codes "state")) (c.in_ok-add-6.ensures.added
    ∙ ap (λ s. with_string s (codes "thread")) (c.in_ok-add-5.ensures.added
    ∙ ap (λ s. with_string s (codes "nanoseconds")) (c.in_ok-add-4.ensures.added
    ∙ ap (λ s. with_string s (codes "wall")) (c.in_ok-add-3.ensures.added
    ∙ ap (λ s. with_string s (codes "count")) (c.in_ok-add-2.ensures.added
    ∙ ap (λ s. with_string s (codes "samples")) (c.in_ok-add.ensures.added)))))))))
