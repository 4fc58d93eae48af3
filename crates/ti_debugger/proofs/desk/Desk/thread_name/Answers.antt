use Rattle.std.proofs.Common.{rules, ◌≡◌, ◌∙◌, Some, length, slice_get, inl, refl, sym, ap}
use Rattle.std.proofs.lemmas.Option.{slice_get_read}
use Rattle.ti_debugger.specs.Crowds.{number_of}
use Rattle.ti_debugger.specs.Replies.{name_in}
use Rattle.ti_jdwp.specs.Fields.{text}
use Rattle.ti_debugger.proofs.desk.Desk.thread_name.Goals as goal

pub returns : goal.returns
returns c =
    let list = c.args.self.now.crowd.list.items in
    let one = c.index.result.now in
    let at : slice_get list c.in-Some.place ≡ Some one = slice_get_read list (length list) c.in-Some.place one refl c.in-Some.ensures.within c.index.ensures in
    let number : Some one.thread.0 ≡ Some c.args.thread = sym (ap number_of at) ∙ c.in-Some.ensures.found in
    let body : c.in_ok-text_body-2.field-0.items ≡ text (name_in one) = search rules in
    inl (one, record { place = c.in-Some.place; at = at; number = cc number }, body)
