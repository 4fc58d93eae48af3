-- What a handle puts back of the roster.
use Rattle.std.proofs.Common.{◌≡◌, ℕ, List, [], ◌∷◌, ◌++◌, Option, Some, None, refl, sym, ap, ◌∙◌, append-nil, append_assoc, subst}
use Rattle.std.specs.Prelude.{All, OnOk, ◌<◌, ◌+◌, Bool, true, false, is_some, length, Result, Ok, Err, IfOk, IfErr, OnErr, if◌then◌else◌}
use Rattle.std.proofs.lemmas.List.Elements.{All-weaker}
use Rattle.ti_types.specs.declared.error.TiError.{TiError}
use Rattle.ti_types.specs.declared.limits.Limits.{Limits}
use Rattle.ti_types.specs.declared.numbers.EnvNo.{EnvNo}
use Rattle.ti_types.specs.declared.numbers.ThreadNo.{ThreadNo}
use Rattle.ti_agent.specs.FreeDesk.{FreeState}
use Rattle.ti_roster.specs.declared.coming.Coming.{Coming}
use Rattle.ti_roster.specs.declared.coming.Coming.TheVariants.{Attached, Came, Disposed, Ended, Left, Started, Stop}
use Rattle.ti_stops.specs.declared.call.StopCall.{StopCall}
use Rattle.ti_stops.specs.declared.call.StopReply.{StopReply}
use Rattle.ti_stops.specs.declared.error.StopError.{StopError}
use Rattle.ti_stops.specs.Stops.{is_news}
use Rattle.ti_roster.specs.declared.newcomer.Newcomer.{Newcomer}
use Rattle.ti_cell.specs.Seats.{Sitting as ThreadSitting}
use Rattle.ti_handshake.specs.Thread.{Runner}
use Rattle.ti_roster.specs.Log.{Log, is_about, live, mark_of, noted, threads_in, with_item, with_items, with_user}
use Rattle.ti_roster.specs.Stages.{is_alive, stage_of}
use Rattle.ti_roster.specs.Starting.{HasEnded, HasStarted, leaving, leaving_from, number_of}
use Rattle.ti_roster.proofs.Logs.{mark_noted, noted_same}
use Rattle.ti_roster.specs.Roster.{HasDisposedOf, HasMetOf, IsOwn, MayGoBack, meeting}
use Rattle.ti_roster.specs.Rows.{AreLeft}
use Rattle.ti_roster.specs.Rule.{Begins, Claims, Moves}
use Rattle.ti_roster.specs.Seats.{Sitting}
use Rattle.ti_roster.specs.View.{AreWithin, holding, stored}
use Rattle.ti_roster.specs.declared.view.RosterView.{RosterView}
use Rattle.ti_roster.proofs.Moving.{MayBe, may_add, may_attach, may_dispose, may_meet_any, may_stay, other_env, own_then}
use Rattle.ti_roster.proofs.Moving.{may_stop as called}
use Rattle.ti_roster.proofs.Returning.{backs_own}
use Rattle.ti_service.proofs.Homes.{own_later}
use Rattle.ti_service.specs.Service.{Base, Member, TakesDesks, member_in}

-- what a handle's seat knows is what the handle knows
pub seat_view : (cell : Base) (o : Option Sitting) (s : Sitting) (m : Member) → member_in cell o ≡ m → o ≡ Some s → s.view ≡ m.view
seat_view cell o s m e is = ap (λ (x : Option Sitting). (member_in cell x).view) (sym is) ∙ ap (λ (x : Member). x.view) e

-- an environment came, or the roster is as it was
pub may_claim : (o : Option EnvNo) (r r' : Log) (seen : List Coming) (res : Result EnvNo TiError) → o ≡ None → Claims r.items o seen → r.user ≡ o
    → IfOk res (λ e. (e.0 < r.limits.envs) × (mark_of e r.items ≡ None)) → IfOk res (λ e. r' ≡ with_user (with_item r (Attached e)) e) → OnErr res (r' ≡ r) → MayBe o r r'
may_claim o r r' seen (Ok e) nobody claims user free is same = may_attach o r r' e nobody free.1 is
may_claim o r r' seen (Err e) nobody claims user free is same = may_stay o r r' seen claims user same

pub come_moves : {V : Type 0} (newcomer_of : V → Newcomer) (o : Option EnvNo) (r r' : Log) (seen : List Coming) (res : Result V TiError) → Claims r.items o seen → r.user ≡ o
    → IfOk res (λ v. r' ≡ with_item r (Came (newcomer_of v))) → OnErr res (r' ≡ r) → Moves o r'.user r.items r'.items
come_moves newcomer_of o r r' seen (Ok v) claims user came same = (may_add o r r' seen (Came (newcomer_of v)) claims user (λ e. refl) came).moves
come_moves newcomer_of o r r' seen (Err e) claims user came same = (may_stay o r r' seen claims user same).moves

-- a call about stops was made, and is added if it changed something
pub may_stop : (call : StopCall) (o : Option EnvNo) (r r' : Log) (seen : List Coming) (res : Result StopReply StopError) → Claims r.items o seen → r.user ≡ o
    → IfOk res (λ reply. r' ≡ (if is_news reply then with_item r (Stop r.user call) else r)) → OnErr res (r' ≡ r) → MayBe o r r'
may_stop call o r r' seen (Ok reply) claims user happened same = by_news (is_news reply) happened
  where
    by_news : (b : Bool) → r' ≡ (if b then with_item r (Stop r.user call) else r) → MayBe o r r'
    by_news true is = called o r r' seen call claims user is
    by_news false is = may_stay o r r' seen claims user is
may_stop call o r r' seen (Err e) claims user happened same = may_stay o r r' seen claims user same

met_moves : (u o : Option EnvNo) (r r' : Log) (seen : List Coming) (desks : List FreeState) → Claims r.items o seen → r.user ≡ u → r.user ≡ o → HasMetOf u r r' desks → Moves o r'.user r.items r'.items
met_moves None o r r' seen desks claims is user met = absurd met
met_moves (Some e) o r r' seen desks claims is user met = (may_meet_any o r r' seen e claims (sym user ∙ is) user met.2).moves

pub meet_moves : {V : Type 0} (items : V → List FreeState) (o : Option EnvNo) (r r' : Log) (seen : List Coming) (res : Result V TiError) → Claims r.items o seen → r.user ≡ o
    → IfOk res (λ d. HasMetOf r.user r r' (items d)) → OnErr res (r' ≡ r) → Moves o r'.user r.items r'.items
meet_moves items o r r' seen (Ok d) claims user met same = met_moves r.user o r r' seen (items d) claims (λ i. r.user) user met
meet_moves items o r r' seen (Err e) claims user met same = (may_stay o r r' seen claims user same).moves

-- the roster as it is put back begins with what was found

pub come_begins : {V : Type 0} (newcomer_of : V → Newcomer) (r r' : Log) (res : Result V TiError) → IfOk res (λ v. r' ≡ with_item r (Came (newcomer_of v))) → OnErr res (r' ≡ r) → Begins r'.items r.items
come_begins newcomer_of r r' (Ok v) came same = (Came (newcomer_of v) ∷ [], ap (λ (x : Log). x.items) came)
come_begins newcomer_of r r' (Err e) came same = ([], ap (λ (x : Log). x.items) same ∙ sym (append-nil r.items))

-- one thing more was noted, which is about no environment's place
pub may_item : {V E : Type 0} (x : Coming) (o : Option EnvNo) (r r' : Log) (seen : List Coming) (res : Result V E) → ((e : EnvNo) → is_about e x ≡ false) → Claims r.items o seen → r.user ≡ o → OnOk res (r' ≡ with_item r x) → OnErr res (r' ≡ r) → MayBe o r r'
may_item x o r r' seen (Ok v) off claims user noted same = may_add o r r' seen x claims user off noted
may_item x o r r' seen (Err e) off claims user noted same = may_stay o r r' seen claims user same

-- a thread has started, or ended
pub was_started : {E : Type 0} (r r' : Log) (f : ThreadSitting) (res : Result Runner E) → IfOk res (λ v. HasStarted r r' f v) → OnOk res (r' ≡ with_item r (Started (number_of f)))
was_started r r' f (Ok v) h = h.new_is
was_started r r' f (Err e) h = h

pub was_ended : {E : Type 0} (r r' : Log) (v : Runner) (res : Result ThreadSitting E) → IfOk res (λ d. HasEnded r r' v d) → OnOk res (r' ≡ with_item r (Ended v.view.subject.thread))
was_ended r r' v (Ok d) h = h.new_is
was_ended r r' v (Err e) h = h

its_claim : (log seen : List Coming) (o : Option EnvNo) (e : EnvNo) → o ≡ Some e → Claims log o seen → is_some (mark_of e log) ≡ true
its_claim log seen o e is c = (subst (λ (x : Option EnvNo). Claims log x seen) is c).1

-- a thread was given back, and may have ended before
leaves_by : (b : Bool) (t : ThreadNo) (o : Option EnvNo) (r r' : Log) (seen : List Coming) → Claims r.items o seen → r.user ≡ o → r' ≡ with_items r (leaving_from b t) → MayBe o r r'
leaves_by false t o r r' seen claims user is = may_add o r r' seen (Left t) claims user (λ e. refl) is
leaves_by true t o r r' seen claims user is = subst (λ (y : Log). MayBe o r y) (sym is) (record {
  begins = (leaving_from true t, refl);
  moves = subst (λ (u : Option EnvNo). Moves o u r.items (r.items ++ leaving_from true t)) (sym user) (record {
    others = λ e _ _. same e;
    there = λ e mine. ap is_some (mark_noted e (r.items ++ leaving_from true t) r.items (same e)) ∙ its_claim r.items seen o e mine claims;
    free = λ e mine not. absurd (not mine);
  });
  limits = refl;
})
  where
    same : (e : EnvNo) → noted e (r.items ++ leaving_from true t) ≡ noted e r.items
    same e =
        ap (λ (l : List Coming). noted e l) (sym (append_assoc r.items (Ended t ∷ []) (Left t ∷ [])))
        ∙ (noted_same e (r.items ++ Ended t ∷ []) (Left t) refl ∙ noted_same e r.items (Ended t) refl)

pub may_leave : {V E : Type 0} (t : ThreadNo) (o : Option EnvNo) (r r' : Log) (seen : List Coming) (res : Result V E) → Claims r.items o seen → r.user ≡ o → OnOk res (r' ≡ with_items r (leaving t r.items)) → OnErr res (r' ≡ r) → MayBe o r r'
may_leave t o r r' seen (Ok v) claims user left same = leaves_by (is_alive (stage_of t r.items)) t o r r' seen claims user left
may_leave t o r r' seen (Err e) claims user left same = may_stay o r r' seen claims user same

met_begins : (u : Option EnvNo) (r r' : Log) (desks : List FreeState) → HasMetOf u r r' desks → Begins r'.items r.items
met_begins None r r' desks met = absurd met
met_begins (Some e) r r' desks met = (meeting e r.items, ap (λ (x : Log). x.items) met.2)

pub meet_begins : {V : Type 0} (items : V → List FreeState) (r r' : Log) (res : Result V TiError) → IfOk res (λ d. HasMetOf r.user r r' (items d)) → OnErr res (r' ≡ r) → Begins r'.items r.items
meet_begins items r r' (Ok d) met same = met_begins r.user r r' (items d) met
meet_begins items r r' (Err e) met same = ([], ap (λ (x : Log). x.items) same ∙ sym (append-nil r.items))

-- the desks that a handle took, in the roster as it was found
pub took_desks : (u : Option EnvNo) (v h n : RosterView) (r r' : Log) (desks : List FreeState) (next : ℕ) → r.user ≡ u → r.user ≡ v.place → r.limits ≡ v.limits → Begins r.items v.seen → Claims r.items v.place v.seen
    → AreWithin (length r.items) v.looked → h ≡ holding v r.items → HasMetOf u r r' desks → next ≡ threads_in r.items → n ≡ stored h r' → TakesDesks v n desks next
took_desks None v h n r r' desks next is placed limits b c l held met nx put = absurd met
took_desks (Some e) v h n r r' desks next is placed limits b c l held met nx put = record {
  env = e;
  place = sym placed ∙ is;
  found = r.items;
  hold = record {
    begins = b;
    claims = c;
    looked = l;
    new_is = put ∙ ((λ j. stored (held j) (met.2 j)) ∙ ap (λ (p : Option EnvNo). record { limits = v.limits; seen = r.items ++ meeting e r.items; found = r.items; looked = v.looked; taken = v.taken + 1; made = v.made; holds = false; place = p }) placed);
  };
  desks_are = subst (λ (x : Limits). AreLeft r.items x e (live r.items) desks) limits met.0;
  own = subst (λ (x : Limits). All (λ f. IsOwn r.items x e f) desks) limits met.1;
  next_is = nx;
}

-- The environment of a handle is disposed of

-- its desks may go back into the roster as it was found
pub all_back : (r : Log) (seen : List Coming) (e : EnvNo) (desks : List FreeState) → r.user ≡ Some e → Begins r.items seen → All (IsOwn seen r.limits e) desks → All (λ f. MayGoBack r f) desks
all_back r seen e desks user b own =
    All-weaker (IsOwn seen r.limits e) (λ f. MayGoBack r f) (λ f o. (let now = own_later seen r.items r.limits e f b o in record {
      served = user ∙ ap (λ (x : EnvNo). Some x) (sym o.env);
      own = subst (λ (x : EnvNo). IsOwn r.items r.limits x f) (sym o.env) now;
    })) desks own

disposed_moves : (u o : Option EnvNo) (r r' : Log) (desks : List FreeState) → r.user ≡ u → r.user ≡ o → All (λ f. MayGoBack r f) desks → HasDisposedOf u r r' desks → Moves o r'.user r.items r'.items
disposed_moves None o r r' desks is user may gone = absurd gone
disposed_moves (Some e) o r r' desks is user may gone =
    let back = backs_own e r desks is may in
    let items : r'.items ≡ r.items ++ (back.0 ++ Disposed e ∷ []) = ap (λ (x : Log). x.items) gone ∙ (ap (λ (l : List Coming). l ++ Disposed e ∷ []) back.1 ∙ append_assoc r.items back.0 (Disposed e ∷ [])) in
    let now : r' ≡ record { items = r.items ++ (back.0 ++ Disposed e ∷ []); limits = r.limits; user = None } = λ j. record { items = items j; limits = (gone j).limits; user = (gone j).user } in
    (may_dispose o r r' e (back.0 ++ Disposed e ∷ []) (sym user ∙ is) (own_then e back.0 (Disposed e) back.2 (λ f other. other_env e f other)) now).moves

pub leave_moves : {V : Type 0} (o : Option EnvNo) (r r' : Log) (seen : List Coming) (desks : List FreeState) (res : Result (Unit {0}) V) → Claims r.items o seen → r.user ≡ o → All (λ f. MayGoBack r f) desks
    → OnOk res (HasDisposedOf r.user r r' desks) → OnErr res (r' ≡ r) → Moves o r'.user r.items r'.items
leave_moves o r r' seen desks (Ok d) claims user may gone same = disposed_moves r.user o r r' desks (λ i. r.user) user may gone
leave_moves o r r' seen desks (Err e) claims user may gone same = (may_stay o r r' seen claims user same).moves

-- what went back begins with what was there
disposed_begins : (u : Option EnvNo) (r r' : Log) (desks : List FreeState) → r.user ≡ u → All (λ f. MayGoBack r f) desks → HasDisposedOf u r r' desks → Begins r'.items r.items
disposed_begins None r r' desks is may gone = absurd gone
disposed_begins (Some e) r r' desks is may gone =
    let back = backs_own e r desks is may in (
      back.0 ++ Disposed e ∷ [],
      ap (λ (x : Log). x.items) gone ∙ (ap (λ (l : List Coming). l ++ Disposed e ∷ []) back.1 ∙ append_assoc r.items back.0 (Disposed e ∷ [])),
    )

pub leave_begins : {V : Type 0} (r r' : Log) (desks : List FreeState) (res : Result (Unit {0}) V) → All (λ f. MayGoBack r f) desks → OnOk res (HasDisposedOf r.user r r' desks) → OnErr res (r' ≡ r) → Begins r'.items r.items
leave_begins r r' desks (Ok d) may gone same = disposed_begins r.user r r' desks refl may gone
leave_begins r r' desks (Err e) may gone same = ([], ap (λ (x : Log). x.items) same ∙ sym (append-nil r.items))

pub if_err : {A E : Type 0} (P : E → Type 0) (r : Result A E) (e : E) → r ≡ Err e → P e → IfErr r P
if_err P r e is p = subst (λ x. IfErr x P) (sym is) p
