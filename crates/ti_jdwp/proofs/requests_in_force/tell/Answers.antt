use Rattle.std.proofs.Common.{◌≡◌, ◌+◌, ◌<◌, true, false, List, [], ◌∷◌, ◌++◌, length, take, map, filter, get_or, vec_len, vec_capacity, sym, ap, ◌∙◌, arith, append_assoc}
use Rattle.std.specs.Prelude.{slice_set}
use Rattle.ti_jdwp.specs.InForce.{Asked, is_told, after, stronger, strongest}
use Rattle.ti_jdwp.proofs.Telling.{told_so_far, OneMore, one_more, told_more, numbers_more, after_keeps, strongest_more, nothing_more}
use Rattle.ti_jdwp.proofs.requests_in_force.tell.Goals as goal
use Rattle.ti_jdwp.proofs.requests_in_force.tell.Goals.{then-meets, else-meets}

pub loop-i-preserved : goal.loop-i-preserved
loop-i-preserved c =
    let e = c.args.event.now in
    let xs = c.args.list.now in
    let i = c.loop-i.i in
    let r = c.index-list-i.result in
    let within : i < length xs = c.loop-i-test.true in
    let more : OneMore e xs i r = one_more e xs i r within (c.index-list-i.is ∙ ap (λ (l : List Asked). get_or l i r) c.loop-i.invariant.list) in
    let front = filter (is_told e) (take i xs) in
    let set : slice_set c.loop-i.list i c.meets.new.self ≡ told_so_far e xs (i + 1) =
    ap (λ (x : Asked). slice_set c.loop-i.list i x) c.meets.ensures.after ∙ ap (λ (x : Asked). slice_set c.loop-i.list i (after e x)) (sym c.index-list-i.is) ∙ ap (λ (l : List Asked). slice_set l i (after e r)) c.loop-i.invariant.list ∙ more.list in
    let is : c.meets.new.self ≡ after e r = c.meets.ensures.after ∙ ap (λ (x : Asked). after e x) (sym c.index-list-i.is) in
    let tells : c.meets.result ≡ is_told e r = c.meets.ensures.told ∙ ap (λ (x : Asked). is_told e x) (sym c.index-list-i.is) in
    elim c.if-meets.branch [
      | then-meets w ↦
          let told : filter (is_told e) (take (i + 1) xs) ≡ front ++ r ∷ [] =
          ap (filter (is_told e)) more.here ∙ told_more (is_told e) (take i xs) r true (sym tells ∙ w.if-meets.true) in
          record {
            list = w.list-is ∙ set;
            numbers =
                ap (λ v. v.items) w.numbers-is ∙ w.push_reserved.ensures.items
                ∙ ap (λ n. c.loop-i.numbers.items ++ n ∷ []) (w.number.ensures ∙ ap (λ (x : Asked). x.number) is ∙ (after_keeps e r).0)
                ∙ ap (λ l. l ++ r.number ∷ []) c.loop-i.invariant.numbers
                ∙ append_assoc c.args.numbers.now.items (map (λ (q : Asked). q.number) front) (r.number ∷ [])
                ∙ ap (λ l. c.args.numbers.now.items ++ l) (sym (ap (map (λ (q : Asked). q.number)) told ∙ numbers_more front r));
            policy =
                w.policy-is ∙ w.stronger-policy.ensures
                ∙ ap (λ p. stronger p w.policy.result) c.loop-i.invariant.policy
                ∙ ap (stronger (strongest front)) (w.policy.ensures ∙ ap (λ (x : Asked). x.policy) is ∙ (after_keeps e r).1)
                ∙ sym (ap strongest told ∙ strongest_more front r);
            room =
                let len = ap (λ v. vec_len v) w.numbers-is in
                let cap = ap (λ v. vec_capacity v) w.numbers-is in
                omega (arith, len, cap, w.push_reserved.ensures.len, w.push_reserved.ensures.capacity, c.loop-i.invariant.room, within);
          }
      | else-meets w ↦
          let told : filter (is_told e) (take (i + 1) xs) ≡ front =
          ap (filter (is_told e)) more.here ∙ told_more (is_told e) (take i xs) r false (sym tells ∙ w.if-meets.false) ∙ nothing_more front in
          record {
            list = w.list-is ∙ set;
            numbers = ap (λ v. v.items) w.numbers-is ∙ c.loop-i.invariant.numbers ∙ ap (λ (rs : List Asked). c.args.numbers.now.items ++ map (λ (q : Asked). q.number) rs) (sym told);
            policy = w.policy-is ∙ c.loop-i.invariant.policy ∙ ap strongest (sym told);
            room =
                let len = ap (λ v. vec_len v) w.numbers-is in
                let cap = ap (λ v. vec_capacity v) w.numbers-is in
                omega (arith, len, cap, c.loop-i.invariant.room, within);
          }
    ]
