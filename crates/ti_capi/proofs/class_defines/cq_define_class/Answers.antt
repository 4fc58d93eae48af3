use Rattle.std.proofs.Common.{Option, Some, refl, subst}
use Rattle.ti_service.specs.Service.{Member}
use Rattle.ti_capi.specs.Classes.{ClassDefined, ClassRefused, ClassUnread, DefinesBehind}
use Rattle.ti_capi.specs.Defining.{given}
use Rattle.ti_capi.specs.Handles.{with_service}
use Rattle.ti_capi.proofs.class_defines.cq_define_class.Goals as goal

pub returns-in-Ok-define : goal.returns-in-Ok-define
returns-in-Ok-define c =
    let e = c.in-Ok-define.ensures in
    let n = c.define.new.service in
    let g = given c.args.text.now c.args.class.now c.args.methods.now c.args.lines.now in
    let d = c.in-Ok-define.defined in
    subst (λ (o : Option Member). DefinesBehind o (Some n) g c.args.class_no.now d.class.0 c.args.first_method.now d.first.0 c.args.service.now (with_service c.args.service.now n) 0) c.in-Some.ensures.value
    (refl, ClassDefined c.in-Ok.info d refl c.in-Ok.ensures.same e.sees e.defined refl refl)

pub returns-in-Err : goal.returns-in-Err
returns-in-Err c =
    let n = c.in-Some.service.now in
    let g = given c.args.text.now c.args.class.now c.args.methods.now c.args.lines.now in
    subst (λ (o : Option Member). DefinesBehind o (Some n) g c.args.class_no.now c.args.class_no.now c.args.first_method.now c.args.first_method.now c.args.service.now (with_service c.args.service.now n) c.number.result) c.in-Some.ensures.value
    (refl, ClassUnread c.in-Err.error c.number.ensures c.in-Err.ensures.refused refl refl refl)

pub returns-in-Err-define : goal.returns-in-Err-define
returns-in-Err-define c =
    let e = c.in-Err-define.ensures in
    let n = c.define.new.service in
    let g = given c.args.text.now c.args.class.now c.args.methods.now c.args.lines.now in
    subst (λ (o : Option Member). DefinesBehind o (Some n) g c.args.class_no.now c.args.class_no.now c.args.first_method.now c.args.first_method.now c.args.service.now (with_service c.args.service.now n) c.in-Err-define.code) c.in-Some.ensures.value
    (refl, ClassRefused c.in-Ok.info c.in-Ok.ensures.same e.sees e.refused refl refl)
