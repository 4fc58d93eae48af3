use Rattle.std.proofs.Common.{◌∙◌}
use Rattle.ti_http.proofs.Texts.{common_stand}
use Rattle.ti_http.proofs.answers.write_head.Goals as goal

pub write_common-requires : goal.write_common-requires
write_common-requires c = common_stand _ _ _ c.args.content_type c.args.length c.args.keeps c.ranges.length.fits c.value.ensures (c.as_bytes.ensures.value ∙ c.format.ensures.text) c.option.ensures
