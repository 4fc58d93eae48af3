-- An environment's share of the stops, item by item.
use Rattle.std.proofs.Common.{◌≡◌, ◌&&◌, ◌||◌, Bool, true, false, cond, List, [], ◌∷◌, refl, sym, ap, ◌∙◌, Option, Some, inl, inr}
use Rattle.std.specs.List.{fold}
use Rattle.std.proofs.lemmas.Bool.{cases_Bool}
use Rattle.ti_types.specs.declared.numbers.EnvNo.{EnvNo}
use Rattle.ti_stops.specs.declared.call.StopCall.{StopCall}
use Rattle.ti_stops.specs.Shares.{call_counts, is_envs, share}
use Rattle.ti_stops.specs.Stops.{StopsNow, after, has_news, no_stops, outcome}
use Rattle.ti_stops.proofs.ShareLaws.{item_shares, item_apart, quiet_item, disposed_shares, left_shares, other_disposed, shares_answer}
use Rattle.ti_roster.specs.declared.coming.Coming.{Coming}
use Rattle.ti_roster.specs.declared.coming.Coming.TheVariants.{Came, Started, Ended, Left, Attached, Met, GaveBack, Disposed, Stop}
use Rattle.ti_roster.specs.Stops.{stops_after, stops_of}
use Rattle.ti_laws.specs.StopShares.{is_for, items_for, StopsFollowItems, StopRepliesAgree}

and_first : (a b : Bool) → (a && b) ≡ true → a ≡ true
and_first true b h = refl
and_first false b h = cc h

-- neither the environment's own nor news
neither : (a b : Bool) → (true && (a || b)) ≡ false → (a ≡ false) × (b ≡ false)
neither true b h = cc h
neither false true h = cc h
neither false false h = (refl, refl)

-- what is about a share does to it what it does to all
mine : (e : EnvNo) (s : StopsNow) (x : Coming) → is_for e (share e s) x ≡ true → share e (stops_after s x) ≡ stops_after (share e s) x
mine e s (Came n) h = cc
mine e s (Started t) h = cc
mine e s (Ended t) h = cc
mine e s (Left t) h = left_shares e s t
mine e s (Attached f) h = cc
mine e s (Met f m) h = cc
mine e s (GaveBack f t) h = cc
mine e s (Disposed f) h = disposed_shares e s f
mine e s (Stop o call) h = item_shares e s o call (and_first (call_counts e o call) (is_envs call || has_news (outcome (share e s) o call)) h)

-- a call that is not about it
call_apart : (e : EnvNo) (s : StopsNow) (o : Option EnvNo) (call : StopCall) → is_for e (share e s) (Stop o call) ≡ false → share e (after s o call) ≡ share e s
call_apart e s o call h =
    elim (cases_Bool (call_counts e o call)) [
      | inl counts ↦
          let n = neither (is_envs call) (has_news (outcome (share e s) o call)) (ap (λ b. b && (is_envs call || has_news (outcome (share e s) o call))) (sym counts) ∙ h) in
          item_shares e s o call counts ∙ quiet_item o (share e s) call n.0 n.1
      | inr other ↦ item_apart e s o call other
    ]

-- what is not about a share leaves it
apart : (e : EnvNo) (s : StopsNow) (x : Coming) → is_for e (share e s) x ≡ false → share e (stops_after s x) ≡ share e s
apart e s (Came n) h = refl
apart e s (Started t) h = refl
apart e s (Ended t) h = refl
apart e s (Left t) h = cc
apart e s (Attached f) h = refl
apart e s (Met f m) h = refl
apart e s (GaveBack f t) h = refl
apart e s (Disposed f) h = other_disposed e s f h
apart e s (Stop o call) h = call_apart e s o call h

run : (e : EnvNo) (s u : StopsNow) (log : List Coming) → share e s ≡ u → share e (fold stops_after s log) ≡ fold stops_after u (items_for e u log)
run e s u [] same = same
run e s u (x ∷ log) same =
    let split : (b : Bool) → List Coming = λ b. cond b (x ∷ items_for e (stops_after u x) log) (items_for e u log) in
    elim (cases_Bool (is_for e u x)) [
      | inl here ↦
          let now : share e (stops_after s x) ≡ stops_after u x = mine e s x (ap (λ z. is_for e z x) same ∙ here) ∙ ap (λ z. stops_after z x) same in
          run e (stops_after s x) (stops_after u x) log now ∙ sym (ap (λ b. fold stops_after u (split b)) here)
      | inr not_here ↦
          let now : share e (stops_after s x) ≡ u = apart e s x (ap (λ z. is_for e z x) same ∙ not_here) ∙ same in
          run e (stops_after s x) u log now ∙ sym (ap (λ b. fold stops_after u (split b)) not_here)
    ]

pub stops_follow_items : StopsFollowItems
stops_follow_items e log = run e no_stops no_stops log refl

pub stop_replies_agree : StopRepliesAgree
stop_replies_agree e one other call h same =
    shares_answer (stops_of one) e call h
    ∙ ap (λ s. outcome s (Some e) call) (stops_follow_items e one ∙ ap stops_of same ∙ sym (stops_follow_items e other))
    ∙ sym (shares_answer (stops_of other) e call h)
