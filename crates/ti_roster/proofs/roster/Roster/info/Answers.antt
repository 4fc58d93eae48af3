use Rattle.std.proofs.Common.{◌≡◌, ◌<◌, ℕ, List, length, Bool, true, Some, if◌then◌else◌, nat_lt, ap, sym, ◌∙◌, subst, arith}
use Rattle.std.specs.Prelude.{slice_get, Result, Ok, Err, IfOk, IfErr}
use Rattle.ti_types.specs.declared.error.TiError.{TiError}
use Rattle.ti_types.specs.declared.error.TiError.TheVariants.{InvalidThread, OutOfMemory, ThreadNotAlive}
use Rattle.ti_types.specs.declared.numbers.ThreadNo.{ThreadNo}
use Rattle.ti_roster.specs.declared.info.ThreadInfo.{ThreadInfo}
use Rattle.ti_roster.specs.declared.newcomer.Newcomer.{Newcomer}
use Rattle.ti_roster.specs.declared.row.Row.{Row}
use Rattle.ti_roster.specs.Info.{IsSameInfo}
use Rattle.ti_roster.specs.Log.{Log, is_live, live, threads_in}
use Rattle.ti_roster.specs.Roster.{IsToldOf, info_refusal}
use Rattle.ti_roster.specs.Rows.{IsIndex}
use Rattle.ti_roster.proofs.Places.{get_map, get_within, is_same, read_at}
use Rattle.ti_roster.proofs.Rows.{rows_count, there_live}
use Rattle.ti_roster.proofs.roster.Roster.info.Goals as goal

told : (r : Log) (t : ThreadNo) (i : ℕ) (n : Newcomer) (at : slice_get (live r.items) i ≡ Some n) (is : n.thread.0 ≡ t.0) (x : Result ThreadInfo TiError) → IfOk x (λ a. IsSameInfo a n.info) → IfOk x (λ a. IsToldOf r t a)
told r t i n at is (Ok a) same = record { index = i; one = n; at = at; is = is; same = same }
told r t i n at is (Err e) same = same

refused : (r : Log) (t : ThreadNo) (x : Result ThreadInfo TiError) → is_live t r.items ≡ true → IfErr x (λ e. e ≡ OutOfMemory) → IfErr x (λ e. e ≡ info_refusal r t)
refused r t (Ok a) there e = e
refused r t (Err x) there e = e ∙ sym (ap (λ (b : Bool). if b then OutOfMemory else if nat_lt t.0 (threads_in r.items) then ThreadNotAlive else InvalidThread) there)

pub returns-in-Some-clause-told : goal.returns-in-Some-clause-told
returns-in-Some-clause-told c =
    let rows : List Row = c.self.inside.rows in
    let log = c.self.inside.log.items in
    let i = c.in-Some.i in
    let d : Row = c.index.result.now in
    let given : IsIndex (live c.args.self.now.items) c.args.thread i = c.in-Some.ensures.there in
    let there : IsIndex (live log) c.args.thread i = subst (λ (x : Log). IsIndex (live x.items) c.args.thread i) (sym c.self.view_is) given in
    let within : i < length rows = omega (arith, get_within (live log) i there.one there.at, rows_count rows (live log) c.self.invariant.3.live_are) in
    let here : slice_get rows i ≡ Some d = read_at rows i d within c.index.ensures in
    let at : slice_get (live log) i ≡ Some d.newcomer = ap (λ (l : List Newcomer). slice_get l i) (sym c.self.invariant.3.live_are) ∙ get_map (λ (r : Row). r.newcomer) rows i d here in
    let same : there.one ≡ d.newcomer = is_same there.one d.newcomer (sym there.at ∙ at) in
    let is : d.newcomer.thread.0 ≡ c.args.thread.0 = ap (λ (n : Newcomer). n.thread.0) (sym same) ∙ there.is in
    let at_now : slice_get (live c.args.self.now.items) i ≡ Some d.newcomer = ap (λ (r : Log). slice_get (live r.items) i) (sym c.self.view_is) ∙ at in
    told c.args.self.now c.args.thread i d.newcomer at_now is c.copy.result c.copy.ensures.same

pub returns-in-Some-clause-refused : goal.returns-in-Some-clause-refused
returns-in-Some-clause-refused c =
    let given : IsIndex (live c.args.self.now.items) c.args.thread c.in-Some.i = c.in-Some.ensures.there in
    refused c.args.self.now c.args.thread c.copy.result (there_live (live c.args.self.now.items) c.args.thread c.in-Some.i given.one given.at given.is) c.copy.ensures.memory
