use Rattle.std.proofs.Common.{rules, ◌≡◌, ◌<◌, ◌+◌, ◌++◌, ◌∷◌, [], length, take, get_or, sym, ap, subst, ◌∙◌, length-append, List, Result}
use Rattle.std.proofs.lemmas.Grind.{take_at_read}
use Rattle.ti_types.specs.declared.error.TiError.{TiError}
use Rattle.ti_types.specs.declared.numbers.ThreadNo.{ThreadNo}
use Rattle.ti_slot.specs.declared.asked.Asked.{Asked}
use Rattle.ti_agent.specs.ListTries.{TriesEach}
use Rattle.ti_agent.proofs.ListTrying.{tried, tries_more}
use Rattle.ti_agent.proofs.AtHome.{same_if_refused}
use Rattle.ti_agent.proofs.env.Env.each_now.Goals as goal

pub loop-thread-preserved : goal.loop-thread-preserved
loop-thread-preserved g c =
    let ts = c.args.threads.now in
    let i = c.loop-thread.thread-index in
    let xs = c.loop-thread.tried.items in
    let x = c.post_now.result in
    let none : ThreadNo = record { 0 = 0 } in
    let t : ThreadNo = get_or ts i none in
    let within : i < length ts = c.loop-thread-test.true in
    let more : take (i + 1) ts ≡ take i ts ++ t ∷ [] = (take_at_read ts i none within).1 in
    let items : c.push_reserved.new.self.items ≡ xs ++ x ∷ [] = c.push_reserved.ensures.items in
    let before = c.loop-thread.invariant in
    let e = c.post_now.ensures in
    let one = tried c.loop-thread.self.env c.post_now.new.self.env c.args.call t x c.requires.bare e.admitted e.posts e.out e.refused (same_if_refused _ _ x e.unchanged) in
    let tries : TriesEach c.args.self.now.env c.post_now.new.self.env c.args.call (take i ts ++ t ∷ []) (xs ++ x ∷ []) =
    tries_more c.args.self.now.env c.loop-thread.self.env c.post_now.new.self.env c.args.call (take i ts) xs t x before.tries one in
    record {
      count = ap (λ v. length v) items ∙ length-append xs (x ∷ []) ∙ ap (λ n. n + 1) before.count;
      room = search rules;
      home = c.post_now.ensures.home ∙ before.home;
      tries = subst (λ (z : List ThreadNo × List (Result Asked TiError)). TriesEach c.args.self.now.env c.post_now.new.self.env c.args.call z.0 z.1) (λ j. (sym more j, sym items j)) tries;
    }
