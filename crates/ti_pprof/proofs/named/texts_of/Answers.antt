use Rattle.std.proofs.Common.{◌∙◌, fold, ap}
use Rattle.ti_pprof.specs.Profile.{texts_of}
use Rattle.ti_pprof.specs.Strings.{with_string}
use Rattle.ti_pprof.proofs.named.texts_of.Goals as goal

pub returns : goal.returns
returns c = c.in_ok-add_texts.ensures ∙ ap (λ s. fold with_string s (texts_of c.args.about.now c.args.names.now)) c.new-texts.ensures
