use Rattle.std.proofs.Common.{◌∙◌, sym}
use Rattle.std.specs.Str.{bytes_eq}
use Rattle.ti_pprof.proofs.PlaceLaws.{position_or_len-map, position_or_len-Some, position_or_len-None}
use Rattle.ti_pprof.proofs.texts.Texts.number.Goals as goal

pub returns-in-Some : goal.returns-in-Some
returns-in-Some c =
    let texts = c.args.self.now.texts.keys in
    sym (position_or_len-map (bytes_eq c.args.text.now) (λ s. s.now) texts ∙ position_or_len-Some _ texts c.in-Some.place (sym c.in-Some.ensures.index))

pub returns-in-None : goal.returns-in-None
returns-in-None c =
    let texts = c.args.self.now.texts.keys in
    c.len.ensures.len ∙ sym (position_or_len-map (bytes_eq c.args.text.now) (λ s. s.now) texts ∙ position_or_len-None _ texts (sym c.in-None.ensures.index))
