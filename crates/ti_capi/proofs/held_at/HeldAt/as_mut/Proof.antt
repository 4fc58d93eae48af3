-- `as_mut` lends the value behind the pointer, and the handle follows it.
use mathlib.Core.Path.{◌≡◌, refl}
use Prim.Native.Nat.{ℕ}
use mathlib.Core.List.{List, [], ◌∷◌}
use seplogic.Ra.Ura.{Ura}
use base.Fraction.{full_share}
use mir.Syntax.{named}
use mir.Val.{Val, vptr}
use base.Logic.{SProp, ent, sep}
use base.Fml.{Lft, GName, Share, Fml, ftrue, flft, fsep, fobs, fbor, fobor, fauth}
use prog.Memory.{Memory}
use prog.Routine.{Routine}
use prog.Wp.{Env, WpFn, Tables}
use types.Logic.{Logic, sem}
use types.SemTy.{Body as Borrowed}
use contract.Monad.{Fun, fact}
use contract.Running.{tables, tables_of}
use sound.WpLaws.{WpFn-mono}
use types.Kit.{Goal, Soaks, Seq, Item, ‵, ◌⊛◌, some, at_ret, ◌$◌, ◌∵◌, !, qed, by, move, keep, use1, drop, split, join, pick, fsplit, fsplit3, fjoin, suffices, frame, done, raw, later, await, group, fpack, rewrite}
use types.Part.{whole, sub, look_in}
use types.Run.{stop, fld, load, of_opd, first, blocks, exec, returns, enter, addr}
use types.ByLocal.{alloc_all, pass_all, free_all, look_at, get, through, sets, env, sets_last}
use base.Logic.{id⊢}
use denote.RattleType.{owns}
use denote.Memory.{part_at, mem, cell_at, part_of}
use denote.RawPtr.{block_ptr}
use denote.Ref.{MutRef, mut_vals, mut_Tells}
use denote.Signature.{plain, mut_ref_to}
use denote.Steps.{nothing, heard, opens}
use denote.Triple.Spec.{triple_of}
use denote.Triple.Entry.{on_entry}
use denote.Triple.Table.{entered}
use denote.Triple.Walked.{says, Stays, stay_dropped, walk_of, ends_at, walked, walk_Meets, Goes-spent_ref}
use mir.Raw.{raw as bare}
use denote.Exit.{no}
use denote.Follow.{follows, Part, lends_Part}
use Rattle.std.specs.Prelude.{Option, Some}
use Rattle.core.proofs.alloc.Calls.{token}
use Rattle.std_alloc.proofs.VecSteps.Shapes.{after}
use Rattle.std_alloc.proofs.BoxSteps.Form.{X, R, B, D, τ, word, handle}
use Rattle.std_alloc.proofs.BoxSteps.Steps.{box_out, box_in}
use Rattle.ti_capi.specs.Owning.{held_owns}
use Rattle.ti_capi.specs.Handles.{holding}
use Rattle.ti_capi.specs.contracts.held.Held as Core
use Rattle.ti_capi.specs.contracts.held_at.HeldAt as At
use Rattle.ti_capi.proofs.AsHeld.{E}
use Rattle.ti_capi.specs.contracts.held_at.HeldAt.as_mut as F
use Rattle.ti_capi.specs.contracts.held_at.HeldAt.as_mut.Key.{name as #self}
use Rattle.ti_capi.proofs.held_at.HeldAt.as_mut.Statement as stated
use Rattle.ti_capi.proofs.held_at.HeldAt.as_mut.Code as code

abbrev stayed : Stays (F.ended).signature.params (F.ended).kept
stayed = (stay_dropped (mut_ref_to (0 ∷ []) tt (plain (λ _. At.the_row))) no, tt)

-- the borrowed handle is opened: the value, the rest of its box, the word that leads there, and the open borrow
module _ {M : Type 1} {𝓤 : Ura M} {𝓛 : Logic 𝓤} {K : Type 0} {Γ : List (Item 𝓤)} {G : Goal 𝓤 𝓛.H} where
  held_opens : K → Soaks G → {κ : Lft} {q : Share} {γ : GName} (d : At.the_row.Denot) (x : Core.the_row.Denot) → d.held ≡ Some x → (rb ro : ℕ)
      → ((b o : ℕ) (hv : Val) → d.at ≡ block_ptr b o → Seq K 𝓛 (‵ (part_at (R E) full_share x b o) ∷ ‵ (fsep (token E.al d.alloc (bare (τ E)) (block_ptr b o)) (handle E d.alloc hv)) ∷ ‵ (cell_at full_share At.the_row.mir (word E hv b o ∷ []) rb ro)
      ∷ ‵ (fobor κ q (Borrowed (mem At.the_row) rb ro γ)) ∷ ‵ (fobs γ (At.the_row.coded.code d)) ∷ ‵ (fauth γ (At.the_row.coded.code d)) ∷ Γ) G)
      → Seq K 𝓛 (‵ (fobs γ (At.the_row.coded.code d)) ∷ ‵ (fbor κ (Borrowed (mem At.the_row) rb ro γ)) ∷ ‵ (flft κ q) ∷ Γ) G
  held_opens t z d x is rb ro k =
      let v : D E = record { ptr = d.at; alloc = d.alloc; value = x } in
      opens t z At.the_row {h = d} rb ro (λ vs. move t (1 ∷ []) $ fsplit t $ move t (1 ∷ []) $ rewrite t 0 (λ (c : Option Core.the_row.Denot). ‵ (held_owns d.alloc d.at c)) is refl $
      move t (1 ∷ 0 ∷ []) $ fjoin t $ use1 𝓛 (‵ ((B E).own_val v vs)) (id⊢ 𝓤 _) $ box_out E t v vs (λ b o hv e ws fa. move t (1 ∷ 2 ∷ []) $ fjoin t $ move t (1 ∷ []) $
      rewrite t 2 (λ (us : List Val). ‵ (cell_at full_share At.the_row.mir us rb ro)) ws refl $ k b o hv e))

module _ {M : Type 1} {𝓤 : Ura M} (𝓛 : Logic 𝓤) (at_mem : Memory → SProp 𝓤) (run : Routine → Fun 𝓤) (𝓣 : Tables 𝓤 𝓛.H) (κ : Lft) (q : Share) (rb ro : ℕ) (γ : GName) (h : At.the_row.Denot) where
  open 𝓛 use {H, A}

  abbrev bound : (walk_of 𝓛 F.ended stayed (F.clauses 𝓛 at_mem run)).Ghost
  bound = (((κ, tt), (q, tt), tt, (record { ref_ptr = (rb, ro); ghost_name = γ; now = h }, tt), (vptr rb ro ∷ [], tt)), tt)

  abbrev Post : Val → SProp 𝓤
  Post = (walk_of 𝓛 F.ended stayed (F.clauses 𝓛 at_mem run)).post bound

  module _ (x : Core.the_row.Denot) (is : h.held ≡ Some x) where
    module _ (b o : ℕ) (hv : Val) where
      abbrev Rest : Fml
      Rest = fsep (fsep (token E.al h.alloc (bare (τ E)) (block_ptr b o)) (handle E h.alloc hv)) (cell_at full_share At.the_row.mir (word E hv b o ∷ []) rb ro)

      back : h.at ≡ block_ptr b o → (w : X E) → ent 𝓤 (sep 𝓤 (sem 𝓛 ((mem (R E)).own_at w b o)) (sem 𝓛 Rest)) (sem 𝓛 ((mem At.the_row).own_at (holding h w) rb ro))
      unfolding part_of
      back at_b w =
          let v : D E = record { ptr = h.at; alloc = h.alloc; value = w } in
          qed 𝓛 (‵ (part_at (R E) full_share w b o) ∷ ‵ Rest ∷ []) ∵ move ! (1 ∷ []) $ fsplit ! $ fsplit ! $ move ! (3 ∷ []) $
          box_in E ! v b o w at_b refl $ use1 𝓛 (‵ (At.the_row.own_val (holding h w) (word E hv b o ∷ []))) (id⊢ 𝓤 _) $ move ! (1 ∷ 0 ∷ []) $ fjoin ! $
          fpack ! (List Val) (λ us. fsep (cell_at full_share At.the_row.mir us rb ro) (At.the_row.own_val (holding h w) us)) (word E hv b o ∷ []) $ done !

      exits : (γ' : GName)
          → ent 𝓤 (sep 𝓤 (sem 𝓛 ((MutRef (named 0) κ (R E)).own_val (record { ref_ptr = (b, o); ghost_name = γ'; now = x }) (vptr b o ∷ []))) (sep 𝓤 (A.lft κ q) (sem 𝓛 (follows At.the_row (R E) γ γ' (holding h))))) (Post (vptr b o))
      exits γ' =
          qed 𝓛 (‵ ((MutRef (named 0) κ (R E)).own_val (record { ref_ptr = (b, o); ghost_name = γ'; now = x }) (vptr b o ∷ [])) ∷ ‵ (flft κ q) ∷ ‵ (follows At.the_row (R E) γ γ' (holding h)) ∷ []) ∵
          suffices ! _ (ends_at 𝓛 F.ended stayed (F.clauses 𝓛 at_mem run) bound (vptr b o) (record { ref_ptr = (b, o); ghost_name = γ'; now = x }) (tt, tt) (tt, tt)) $
          nothing ! $ nothing ! $ fjoin ! $ join ! $ nothing ! $ move ! (2 ∷ 0 ∷ []) $ join ! $ join ! $ frame ! $ says ! is $ done !

    walk : ent 𝓤 (on_entry 𝓛 (F.ended).signature (κ, tt) (q, tt) (record { ref_ptr = (rb, ro); ghost_name = γ; now = h }, tt) (vptr rb ro ∷ [], tt)) (WpFn 𝓤 H 𝓣.C 𝓣.Λ code.function (vptr rb ro ∷ []) Post)
    walk =
        qed 𝓛 ((‵ (flft κ q) ⊛ ‵ ftrue) ∷ ‵ (owns (MutRef (named 0) κ At.the_row ∷ []) (record { ref_ptr = (rb, ro); ghost_name = γ; now = h }, tt) (vptr rb ro ∷ [], tt)) ∷ []) ∵
        enter ! 𝓣.C 𝓣.Λ code.function (vptr rb ro ∷ []) _ $
        alloc_all ! (λ l. pass_all ! refl ((tt, tt), tt) $
        let En : Env 𝓤 H = env code.function.locals l in
        move ! (1 ∷ []) $ fsplit ! $ fsplit3 ! $ drop ! $ move ! (3 ∷ []) $ split ! $ move ! (2 ∷ 3 ∷ 0 ∷ []) $
        held_opens ! tt h x is rb ro (λ b o hv at_b.
        first ! $ blocks ! $
        sets ! (of_opd ! (load ! (through ! refl (fld ! refl (stop !))) (look_in ! 2 (sub ! 0 refl (whole !))))) refl (tt, tt) $
        sets ! (of_opd ! (get ! refl)) refl (tt, tt) $
        sets_last ! (addr ! (through ! refl (stop !))) refl (tt, tt) $
        exec ! 𝓣.C 𝓣.Λ En (after 1 code.function.body) (at_ret En Post) $
        sets ! (of_opd ! (get ! refl)) refl (tt, tt) $
        move ! (1 ∷ 2 ∷ []) $ fjoin ! $ move ! (2 ∷ 3 ∷ 4 ∷ 1 ∷ 0 ∷ []) $ group ! 5 $
        use1 𝓛 (later (some (λ (γ' : GName). raw (Part 𝓛 At.the_row (R E) (holding h) (named 0) κ q rb ro b o γ (sem 𝓛 (Rest b o hv)) (back b o hv at_b) x γ'))))
        (lends_Part 𝓛 At.the_row (R E) (holding h) (named 0) κ q rb ro b o γ (sem 𝓛 (Rest b o hv)) (back b o hv at_b) (At.the_row.coded.code h) (At.the_row.coded.code h) x) $ await ! tt $ pick ! (λ γ'.
        returns ! (look_at ! 0 refl) $ free_all ! refl $
        keep ! (0 ∷ []) $ by ! (exits b o hv γ'))))

pub as_mut_spec : {M : Type 1} → stated.statement M
unfolding tables_of
as_mut_spec 𝓤 𝓛 𝓜 𝓡 wired =
    let 𝓣 : Tables 𝓤 𝓛.H = tables_of 𝓤 𝓛.H 𝓜 (tables 𝓤 𝓛.H 𝓜 𝓡 𝓡.env) in
    entered 𝓤 𝓛.H (triple_of 𝓛 F.signature (F.spec 𝓛 𝓜.mem 𝓡.returns)) 𝓣.C 𝓣.Λ #self code.function (code.unfolded 𝓤 𝓛.H 𝓜 𝓡 wired)
    (walk_Meets 𝓛 F.ended stayed (Goes-spent_ref 𝓛 1 (0 ∷ []) tt (plain (λ _. At.the_row)), tt) (F.clauses 𝓛 𝓜.mem 𝓡.returns) (WpFn 𝓤 𝓛.H 𝓣.C 𝓣.Λ code.function) (WpFn-mono 𝓤 𝓛.H 𝓛.laws 𝓣 code.function)
    (walked 𝓛 F.ended stayed (F.clauses 𝓛 𝓜.mem 𝓡.returns) (WpFn 𝓤 𝓛.H 𝓣.C 𝓣.Λ code.function) (λ κs. (mut_vals, tt)) (λ κs. (mut_Tells (named 0) κs.0 At.the_row, tt))
    (λ κs qs bounds a g are.
    let Asked : Type 0 = (x : Core.the_row.Denot) × (a.0.now.held ≡ Some x) in
    qed 𝓛 (raw (on_entry 𝓛 (F.ended).signature κs qs a (vptr a.0.ref_ptr.0 a.0.ref_ptr.1 ∷ [], tt)) ∷ raw (fact 𝓤 Asked) ∷ []) ∵ move ! (1 ∷ []) $ heard ! Asked (λ asked.
    keep ! (0 ∷ []) $ by ! (walk 𝓛 𝓜.mem 𝓡.returns 𝓣 κs.0 qs.0 a.0.ref_ptr.0 a.0.ref_ptr.1 a.0.ghost_name a.0.now asked.0 asked.1)))))
