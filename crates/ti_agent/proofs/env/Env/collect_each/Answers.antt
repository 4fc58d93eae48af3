use Rattle.std.proofs.Common.{rules, arith, ◌≡◌, ℕ, suc, ◌<◌, ◌+◌, ◌++◌, ◌∷◌, [], length, take, drop, get_or, sym, ap, subst, ◌∙◌, length-append, List}
use Rattle.std.proofs.lemmas.Grind.{take_at_read}
use Rattle.ti_agent.specs.Lists.{CollectsEach, AreOpen}
use Rattle.ti_agent.specs.declared.lists.Posted.{Posted}
use Rattle.ti_agent.specs.declared.lists.Posted.TheVariants.{Code}
use Rattle.ti_agent.proofs.Posting.{collects_more, open_rest, drop_more}
use Rattle.ti_agent.proofs.env.Env.collect_each.Goals as goal

pub collect_at-requires : goal.collect_at-requires
collect_at-requires g c =
    let xs = c.args.posted.now in
    let i = c.loop-one.one-index in
    let one_more : i + 1 ≡ suc i = omega arith in
    let still = subst (AreOpen c.loop-one.self.env) (drop_more xs i (i + 1) (Code 0) one_more c.loop-one-test.true) c.loop-one.invariant.out in
    record { out = still.0 }

pub loop-one-preserved : goal.loop-one-preserved
loop-one-preserved g c =
    let xs = c.args.posted.now in
    let i = c.loop-one.one-index in
    let codes = c.loop-one.codes.items in
    let code = c.collect_at.result in
    let none : Posted = Code 0 in
    let x : Posted = get_or xs i none in
    let within : i < length xs = c.loop-one-test.true in
    let one_more : i + 1 ≡ suc i = omega arith in
    let more : take (i + 1) xs ≡ take i xs ++ x ∷ [] = (take_at_read xs i none within).1 in
    let items : c.push_reserved.new.self.items ≡ codes ++ code ∷ [] = c.push_reserved.ensures.items in
    let before = c.loop-one.invariant in
    let still : AreOpen c.loop-one.self.env (x ∷ drop (i + 1) xs) = subst (AreOpen c.loop-one.self.env) (drop_more xs i (i + 1) none one_more within) before.out in
    let collects : CollectsEach c.args.self.now.env c.collect_at.new.self.env (take i xs ++ x ∷ []) (codes ++ code ∷ []) =
    collects_more c.args.self.now.env c.loop-one.self.env c.collect_at.new.self.env (take i xs) codes x code before.collects c.collect_at.ensures.collected in
    record {
      count = ap (λ v. length v) items ∙ length-append codes (code ∷ []) ∙ ap (λ n. n + 1) before.count;
      room = search rules;
      home = c.collect_at.ensures.home ∙ before.home;
      collects = subst (λ (z : List Posted × List ℕ). CollectsEach c.args.self.now.env c.collect_at.new.self.env z.0 z.1) (λ j. (sym more j, sym items j)) collects;
      out = open_rest c.loop-one.self.env c.collect_at.new.self.env x code (drop (i + 1) xs) c.collect_at.ensures.collected still;
    }
