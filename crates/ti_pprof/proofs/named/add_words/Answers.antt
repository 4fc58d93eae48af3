use Rattle.std.proofs.Common.{◌∙◌, fold, ap, sym}
use Rattle.std.proofs.lemmas.List.Sums.{fold-append}
use Rattle.ti_pprof.specs.Profile.{common_words}
use Rattle.ti_pprof.specs.Strings.{strings_in, with_string}
use Rattle.ti_pprof.specs.Units.{unit_words}
use Rattle.ti_pprof.proofs.named.add_words.Goals as goal

pub returns : goal.returns
returns c =
    let more = unit_words c.args.unit in
    c.in_ok-add_unit_words.ensures
    ∙ ap (λ s. fold with_string s more) c.in_ok-add_common_words.ensures
    ∙ sym (fold-append with_string (strings_in c.args.texts.now) common_words more)
