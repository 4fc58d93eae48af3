-- What whoever holds the roster may do to it.
use Rattle.std.proofs.Common.{◌≡◌, ◌≢◌, Bool, ℕ, ◌==◌, true, false, is_some, if◌then◌else◌, List, [], ◌∷◌, ◌++◌, Option, Some, None, refl, sym, ap, ◌∙◌, subst, eq-eqb, ne_eqb, append-nil, append_assoc}
use Rattle.ti_types.specs.declared.numbers.EnvNo.{EnvNo}
use Rattle.ti_stops.specs.declared.call.StopCall.{StopCall}
use Rattle.ti_roster.specs.declared.coming.Coming.{Coming}
use Rattle.ti_roster.specs.declared.coming.Coming.TheVariants.{Attached, Met, Stop}
use Rattle.ti_roster.specs.Log.{Log, is_about, mark_of, noted, threads_in, with_items}
use Rattle.ti_roster.specs.Roster.{has_met_all, meeting}
use Rattle.ti_roster.specs.Rule.{Begins, Claims, Moves}
use Rattle.ti_roster.proofs.Logs.{mark_more, mark_noted, noted_same}

-- a roster may be put back in the place of another
pub record MayBe (o : Option EnvNo) (r r' : Log) : Type 0 where
  pub begins : Begins r'.items r.items
  pub moves : Moves o r'.user r.items r'.items
  pub limits : r'.limits ≡ r.limits

is_claimed : (log seen : List Coming) (o : Option EnvNo) (e : EnvNo) → o ≡ Some e → Claims log o seen → is_some (mark_of e log) ≡ true
is_claimed log seen o e is c = (subst (λ (x : Option EnvNo). Claims log x seen) is c).1

-- nothing has changed
pub may_stay : (o : Option EnvNo) (r r' : Log) (seen : List Coming) → Claims r.items o seen → r.user ≡ o → r' ≡ r → MayBe o r r'
may_stay o r r' seen claims user same = subst (λ (x : Log). MayBe o r x) (sym same) (record {
  begins = ([], sym (append-nil r.items));
  moves = subst (λ (u : Option EnvNo). Moves o u r.items r.items) (sym user) (record {
    others = λ e _ _. refl;
    there = λ e is. is_claimed r.items seen o e is claims;
    free = λ e is not. absurd (not is);
  });
  limits = refl;
})

-- a thread came or was given back
pub may_add : (o : Option EnvNo) (r r' : Log) (seen : List Coming) (x : Coming) → Claims r.items o seen → r.user ≡ o → ((e : EnvNo) → is_about e x ≡ false)
    → r' ≡ record { items = r.items ++ x ∷ []; limits = r.limits; user = r.user } → MayBe o r r'
may_add o r r' seen x claims user off is = subst (λ (y : Log). MayBe o r y) (sym is) (record {
  begins = (x ∷ [], refl);
  moves = subst (λ (u : Option EnvNo). Moves o u r.items (r.items ++ x ∷ [])) (sym user) (record {
    others = λ e _ _. noted_same e r.items x (off e);
    there = λ e mine. ap (λ (m : Option ℕ). is_some m) (mark_noted e (r.items ++ x ∷ []) r.items (noted_same e r.items x (off e))) ∙ is_claimed r.items seen o e mine claims;
    free = λ e mine not. absurd (not mine);
  });
  limits = refl;
})

here : (e f : EnvNo) (v : ℕ) (mark : Option ℕ) → e.0 ≡ f.0 → (if e.0 == f.0 then Some v else mark) ≡ Some v
here e f v mark same = ap (λ b. if b then Some v else mark) (eq-eqb e.0 f.0 same)

some_env : (e f : EnvNo) → Some e ≡ Some f → e.0 ≡ f.0
some_env e f h = cc

pub other_env : (e f : EnvNo) → Some e ≢ Some f → (e.0 == f.0) ≡ false
other_env e f other = ne_eqb e.0 f.0 (λ same. other (ap (λ (k : ℕ). Some (record { 0 = k })) same))

-- a call about stops came from the seat
may_call : (o : Option EnvNo) (r r' : Log) (seen : List Coming) (call : StopCall) → Claims r.items o seen → r.user ≡ o → r' ≡ record { items = r.items ++ Stop o call ∷ []; limits = r.limits; user = r.user } → MayBe o r r'
may_call o r r' seen call claims user is = subst (λ (y : Log). MayBe o r y) (sym is) (record {
  begins = (Stop o call ∷ [], refl);
  moves = subst (λ (u : Option EnvNo). Moves o u r.items (r.items ++ Stop o call ∷ [])) (sym user) (record {
    others = λ f not _. noted_same f r.items (Stop o call) (others_call o f not);
    there = λ e mine. ap (λ (m : Option ℕ). is_some m) (mark_more e r.items (Stop o call)) ∙ is_claimed r.items seen o e mine claims;
    free = λ e mine not. absurd (not mine);
  });
  limits = refl;
})
  where
    others_call : (u : Option EnvNo) (f : EnvNo) → u ≢ Some f → is_about f (Stop u call) ≡ false
    others_call None f not = refl
    others_call (Some e) f not = other_env e f not

pub may_stop : (o : Option EnvNo) (r r' : Log) (seen : List Coming) (call : StopCall) → Claims r.items o seen → r.user ≡ o → r' ≡ record { items = r.items ++ Stop r.user call ∷ []; limits = r.limits; user = r.user } → MayBe o r r'
may_stop o r r' seen call claims user is = may_call o r r' seen call claims user (is ∙ ap (λ (u : Option EnvNo). record { items = r.items ++ Stop u call ∷ []; limits = r.limits; user = r.user }) user)

-- the environment whose seat it is met the threads
pub may_meet : (o : Option EnvNo) (r r' : Log) (e : EnvNo) (n : ℕ) → o ≡ Some e → r.user ≡ o → r' ≡ record { items = r.items ++ Met e n ∷ []; limits = r.limits; user = r.user } → MayBe o r r'
may_meet o r r' e n mine user is = subst (λ (y : Log). MayBe o r y) (sym is) (record {
  begins = (Met e n ∷ [], refl);
  moves = subst (λ (u : Option EnvNo). Moves o u r.items (r.items ++ Met e n ∷ [])) (sym user) (record {
    others = λ f not _. noted_same f r.items (Met e n) (other_env e f (λ same. not (mine ∙ same)));
    there = λ f is_f. ap (λ (m : Option ℕ). is_some m) (mark_more f r.items (Met e n) ∙ here e f n (mark_of f r.items) (some_env e f (sym mine ∙ is_f)));
    free = λ f is_f not. absurd (not is_f);
  });
  limits = refl;
})

-- the same, whether there was somebody to meet or not
pub may_meet_any : (o : Option EnvNo) (r r' : Log) (seen : List Coming) (e : EnvNo) → Claims r.items o seen → o ≡ Some e → r.user ≡ o → r' ≡ with_items r (meeting e r.items) → MayBe o r r'
may_meet_any o r r' seen e claims mine user is = by_whether (has_met_all e r.items) is
  where
    by_whether : (b : Bool) → r' ≡ with_items r (if b then [] else Met e (threads_in r.items) ∷ []) → MayBe o r r'
    by_whether true same = may_stay o r r' seen claims user (same ∙ ap (λ (l : List Coming). record { items = l; limits = r.limits; user = r.user }) (append-nil r.items))
    by_whether false added = may_meet o r r' e (threads_in r.items) mine user added

-- an environment came, where nobody was
pub may_attach : (o : Option EnvNo) (r r' : Log) (e : EnvNo) → o ≡ None → mark_of e r.items ≡ None → r' ≡ record { items = r.items ++ Attached e ∷ []; limits = r.limits; user = Some e } → MayBe o r r'
may_attach o r r' e nobody free is = subst (λ (y : Log). MayBe o r y) (sym is) (record {
  begins = (Attached e ∷ [], refl);
  moves = record {
    others = λ f _ not. noted_same f r.items (Attached e) (other_env e f not);
    there = λ f is_f. ap (λ (m : Option ℕ). is_some m) (mark_more f r.items (Attached e) ∙ here e f 0 (mark_of f r.items) (some_env e f is_f));
    free = λ f is_f _. ap (λ (k : ℕ). mark_of (record { 0 = k }) r.items) (sym (some_env e f is_f)) ∙ free;
  };
  limits = refl;
})

-- an environment's own doings are about no other
abbrev pub AllOwn : EnvNo → List Coming → Type 0
AllOwn e [] = Unit {0}
AllOwn e (x ∷ xs) = ((f : EnvNo) → Some e ≢ Some f → is_about f x ≡ false) × AllOwn e xs

pub own_then : (e : EnvNo) (xs : List Coming) (x : Coming) → AllOwn e xs → ((f : EnvNo) → Some e ≢ Some f → is_about f x ≡ false) → AllOwn e (xs ++ x ∷ [])
own_then e [] x all one = (one, tt)
own_then e (y ∷ xs) x all one = (all.0, own_then e xs x all.1 one)

noted_own : (e f : EnvNo) (log more : List Coming) → Some e ≢ Some f → AllOwn e more → noted f (log ++ more) ≡ noted f log
noted_own e f log [] other own = ap (noted f) (append-nil log)
noted_own e f log (x ∷ xs) other own =
    ap (noted f) (sym (append_assoc log (x ∷ []) xs)) ∙ noted_own e f (log ++ x ∷ []) xs other own.1 ∙ noted_same f log x (own.0 f other)

-- the environment whose seat it is gave desks back, and is no more
pub may_dispose : (o : Option EnvNo) (r r' : Log) (e : EnvNo) (more : List Coming) → o ≡ Some e → AllOwn e more → r' ≡ record { items = r.items ++ more; limits = r.limits; user = None } → MayBe o r r'
may_dispose o r r' e more mine own is = subst (λ (y : Log). MayBe o r y) (sym is) (record {
  begins = (more, refl);
  moves = record {
    others = λ f not _. noted_own e f r.items more (λ same. not (mine ∙ same)) own;
    there = λ f is_f. absurd (nobody f is_f);
    free = λ f is_f _. absurd (nobody f is_f);
  };
  limits = refl;
})
  where
    nobody : (f : EnvNo) → None ≡ Some f → ⊥
    nobody f h = cc
