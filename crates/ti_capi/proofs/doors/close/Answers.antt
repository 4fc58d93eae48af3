use Rattle.std.proofs.Common.{inl, refl, sym, subst, ◌∙◌}
use Rattle.ti_capi.specs.Doors.{EndsIn}
use Rattle.ti_capi.proofs.doors.close.Goals as goal

pub returns-in-Ok : goal.returns-in-Ok
returns-in-Ok c =
    inl (refl, c.take.ensures.after, subst EndsIn (sym c.in-Some.is ∙ c.take.ensures.value) (c.in-Ok.ensures.done, c.in-Ok._service, c.in-Ok.ensures.disposed))
