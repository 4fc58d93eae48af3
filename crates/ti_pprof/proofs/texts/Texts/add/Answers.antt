use Rattle.std.proofs.Common.{◌∙◌, ap, map}
use Rattle.std.specs.Str.{bytes_eq}
use Rattle.ti_pprof.proofs.PlaceLaws.{map-insert_key}
use Rattle.ti_pprof.proofs.texts.Texts.add.Goals as goal

pub returns-clause-added : goal.returns-clause-added
returns-clause-added c = ap (map (λ s. s.now)) c.in_ok-insert_full.ensures.keys ∙ map-insert_key bytes_eq (λ s. s.now) c.args.self.now.texts.keys c.args.text
