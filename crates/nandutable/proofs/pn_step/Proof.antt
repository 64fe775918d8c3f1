-- The port in the memory is lent for the call of `serve`, and comes back. The operation is passed on.
use Rattle.std.proofs.Common.{ℕ, List, [], ◌∷◌, refl, w32, MutBor}
use Rattle.std.proofs.raw_atomic.Walks.{proved}
use base.Fraction.{full_share}
use base.Logic.{ent, id⊢, ex, sep}
use base.Fml.{ftrue, flft, flent}
use mir.Syntax.{named}
use mir.Val.{Val, vptr}
use contract.Monad.{fact}
use contract.Running.{tables}
use prog.Wp.{WpFn}
use types.Kit.{‵, raw, ◌⊛◌, some, later, prop, at_ret, ◌$◌, ◌∵◌, !, qed, done, move, drop, use1, use2, use3, split, join, fsplit, pick, await, regoal, suffices, group, show}
use types.Run.{enter, of_opd, addr, stop, no_more, and_then, first, blocks, exec, returns}
use types.ByLocal.{alloc_all, pass_all, free_all, look_at, get, through, sets, sets_last, lands_as, env}
use types.SemTy.{Body}
use types.Tokens.{lft_new, lft_end}
use denote.Builtin.{u8, u32}
use denote.Exit.{yes}
use denote.Laws.{Is, shows}
use denote.Lend.{lends_ref, ref_back}
use denote.Memory.{mem, part_at}
use denote.Plain.{uint_Lawful}
use denote.RattleType.{owns, flat}
use denote.RawPtr.{Ptr, RawPtr, block_ptr, in_a_block, lies_at, rawptr_vals, rawptr_Tells}
use denote.Ref.{MutRef, mut_vals, mut_Tells}
use denote.Signature.{plain, shr_slice_of}
use denote.Slice.{ShrSlice, shr_slice_vals, shr_slice_Tells}
use denote.Steps.{nothing, heard, peeks}
use denote.Triple.Call.{calls_at}
use denote.Triple.Clauses.{lasts}
use denote.Triple.Spec.{triple_of}
use denote.Triple.Table.{framed}
use denote.Triple.Walked.{Stays, walk_of, says, stay_dropped, gave_ref, Goes-dropped, Goes-gave_ref, ends_at}
use Rattle.device_station.specs.port.Served.{Served}
use Rattle.device_abi.specs.Serves.{Serves, operation_of}
use Rattle.c_layout.specs.contracts.op.Op.{the_row as O}
use Rattle.device_station.specs.contracts.port.served.Port.{the_row as R}
use Rattle.device_abi.specs.contracts.serve as g
use Rattle.device_abi.proofs.serve.Met.{met}
use Rattle.nandutable.specs.contracts.pn_step as f
use Rattle.nandutable.proofs.pn_step.Statement.{statement}
use Rattle.nandutable.proofs.pn_step.Code as code

abbrev stayed : Stays f.ended.signature.params f.ended.kept
stayed = (stay_dropped _ yes, (gave_ref (0 ∷ []) tt (plain (λ _. O)), (stay_dropped _ yes, tt)))

pub pn_step_spec : {M : Type 1} → statement M
pn_step_spec 𝓤 𝓛 𝓜 𝓡 wired =
    let c = f.clauses 𝓛 𝓜.mem 𝓡.returns in let W = walk_of 𝓛 f.ended stayed c in let 𝓣 = tables 𝓤 𝓛.H 𝓜 𝓡 𝓡.env in
    proved 𝓛 f.ended stayed c 𝓜 𝓡 (Goes-dropped 𝓛 2 (plain (λ _. RawPtr)) yes (λ κs x w. refl), (Goes-gave_ref 𝓛 2 0 tt (plain (λ _. O)), (Goes-dropped 𝓛 2 (shr_slice_of (1 ∷ []) tt (plain (λ _. u8))) yes (λ κs x w. refl), tt)))
    f.Key.name code.function (code.unfolded 𝓤 𝓛.H 𝓜 𝓡 wired)
    (λ κs. (rawptr_vals, (mut_vals, (shr_slice_vals, tt)))) (λ κs. (rawptr_Tells, (mut_Tells (named 0) κs.0 O, (shr_slice_Tells (named 1) κs.1.0 u8, tt)))) (λ κs qs bounds a s are.
    let κ = κs.0 in let η = κs.1.0 in let op = a.1.0 in let given = a.1.1.0 in
    let vals : Ptr → List Val × (List Val × (List Val × Unit {0})) = λ p. (rawptr_vals p, (mut_vals op, (shr_slice_vals given, tt))) in
    let y : Ptr → W.Ghost = λ p. ((κs, qs, bounds, (p, a.1), vals p), s) in
    let Params = RawPtr ∷ MutRef (named 0) κ O ∷ ShrSlice (named 1) η u8 ∷ [] in
    let Tokens = ‵ (flft κ qs.0) ⊛ (‵ (flft η qs.1.0) ⊛ ‵ ftrue) in
    let IsServed : ℕ → Served → O.Denot → Type 0 = λ r new last. Serves (operation_of op.now.what) s op.now given.now r new last in
    let Reported = λ (b o r : ℕ) (last : O.Denot) (new : Served). sep 𝓤 (types.Logic.sem 𝓛 (lies_at R full_share (block_ptr b o) new)) (fact 𝓤 (IsServed r new last)) in
    let reported : (b o r : ℕ) (last : O.Denot) (new : Served) → IsServed r new last → ent 𝓤 (types.Logic.sem 𝓛 (lies_at R full_share (block_ptr b o) new)) (ex 𝓤 (Reported b o r last)) = λ b o r last new served.
    qed 𝓛 (‵ (lies_at R full_share (block_ptr b o) new) ∷ []) ∵ show ! (Reported b o r last) new $ says ! served $ done ! in
    qed 𝓛 ((Tokens ⊛ ‵ (owns Params a (vals a.0))) ∷ ‵ (lies_at R full_share a.0 s) ∷ []) ∵
    split ! $ move ! (1 ∷ []) $ fsplit ! $ drop ! $ fsplit ! $ move ! (1 ∷ []) $ fsplit ! $ move ! (1 ∷ []) $ drop ! $ move ! (3 ∷ 2 ∷ 1 ∷ []) $
    -- [the port in the memory; the tokens; the operation; the given octets]
    in_a_block ! a.0 (λ p. lies_at R full_share p s) (id⊢ 𝓤 _) (λ b o e.
    regoal ! (λ p. prop (WpFn 𝓤 𝓛.H 𝓣.C 𝓣.Λ code.function (flat Params (vals p)) (W.post (y p)))) e refl $
    enter ! _ _ _ _ _ $ alloc_all ! (λ l. pass_all ! refl ((tt, tt), ((tt, tt), ((tt, (tt, (record { fits = are.1.1.0.0.1.0 }, tt))), tt))) $
    first ! $ blocks ! $
    sets ! (of_opd ! (get ! refl)) refl (tt, tt) $
    sets ! (of_opd ! (get ! refl)) refl (tt, tt) $
    sets_last ! (addr ! (through ! refl (stop !))) refl (tt, tt) $
    exec ! 𝓣.C 𝓣.Λ (env code.Mir.locals l) code.Mir.t-2 (at_ret _ (W.post (y (block_ptr b o)))) $
    sets ! (of_opd ! (get ! refl)) refl (tt, tt) $
    sets ! (addr ! (through ! refl (stop !))) refl (tt, tt) $
    sets ! (of_opd ! (get ! refl)) refl (tt, (tt, (record { fits = are.1.1.0.0.1.0 }, tt))) $
    lft_new ! tt (λ α. move ! (1 ∷ []) $
    use1 𝓛 (later (some (λ (γ : ℕ). ‵ ((MutRef (named 0) (α ∷ []) R).own_val (record { ref_ptr = (b, o); ghost_name = γ; now = s }) (vptr b o ∷ [])) ⊛ ‵ (flent (α ∷ []) (Body (mem R) b o γ)))))
    (lends_ref 𝓛 R (named 0) (α ∷ []) s b o) $ await ! tt $ pick ! (λ γ. split ! $
    -- [the loan; what the lender keeps; its token; the tokens; the operation; the given octets]
    let G = triple_of 𝓛 g.signature (g.spec 𝓛 𝓜.mem 𝓡.returns) in
    let loan : MutBor Served = record { ref_ptr = (b, o); ghost_name = γ; now = s } in
    let z : G.Ghost = (((α ∷ [], (κ, (η, tt))), (full_share, (qs.0, (qs.1.0, tt))), tt, (loan, a.1), (mut_vals loan, (mut_vals op, (shr_slice_vals given, tt)))), tt) in
    nothing ! $ move ! (6 ∷ 0 ∷ []) $ join ! $ move ! (5 ∷ 0 ∷ []) $ join ! $ move ! (1 ∷ 0 ∷ []) $ join ! $
    move ! (2 ∷ 3 ∷ []) $ join ! $ join ! $ nothing ! $ move ! (1 ∷ 0 ∷ []) $ use2 𝓛 (raw (G.pre z)) (id⊢ 𝓤 _) $
    calls_at ! (framed 𝓤 𝓛.H 𝓜 𝓣) G (met 𝓤 𝓛 𝓜 𝓡 (code.calls-device_abi::serve 𝓡.env wired)) z (and_then ! (get ! refl) (and_then ! (get ! refl) (and_then ! (get ! refl) (no_more !)))) (λ v.
    use1 𝓛 (later (some (λ (r : ℕ). ((‵ (flft (α ∷ []) full_share) ⊛ Tokens) ⊛ ‵ (u32.own_val r (v ∷ []))) ⊛
    some (λ (ws : Served × (O.Denot × (Unit {0} × Unit {0}))). ‵ (lasts g.ended z.0.0 z.0.3 ws) ⊛ raw (fact 𝓤 (IsServed r ws.0 ws.1.0)))))) (id⊢ 𝓤 _) $
    await ! tt $ pick ! (λ r. split ! $ split ! $ split ! $ lft_end ! tt $
    -- [that its lifetime is over; the tokens; the result; the last values; what the lender keeps]
    move ! (2 ∷ []) $ peeks ! u32 (Is u32) (shows 𝓛 u32) r (v ∷ []) (λ is. lands_as ! refl refl ((uint_Lawful 𝓛 w32).typed r _ is).0 $
    move ! (3 ∷ []) $ pick ! (λ ws. split ! $ move ! (1 ∷ []) $ heard ! _ (λ served. fsplit ! $ fsplit ! $
    -- [the port's last value; its borrow; the last value of the operation; the result; the lifetime is over; the
    -- tokens; what the lender keeps]
    move ! (4 ∷ 6 ∷ 0 ∷ []) $ use3 𝓛 (later (‵ (part_at R full_share ws.0 b o))) (ref_back 𝓛 R (α ∷ []) γ ws.0 b o) $ await ! tt $
    returns ! (look_at ! 0 refl) $ free_all ! refl $
    -- [the port in the memory; its borrow; the last value of the operation; the result; the tokens]
    use1 𝓛 (raw (ex 𝓤 (Reported b o r ws.1.0))) (reported b o r ws.1.0 ws.0 served) $ move ! (1 ∷ []) $ drop ! $ move ! (1 ∷ []) $ fsplit ! $ move ! (1 ∷ []) $ drop ! $
    -- [the last value of the operation; the facts of the memory; the result; the tokens]
    suffices ! _ (ends_at 𝓛 f.ended stayed c (y (block_ptr b o)) v r (tt, (ws.1.0, (tt, tt))) (tt, (tt, (tt, tt)))) $
    nothing ! $ nothing ! $ join ! $ move ! (1 ∷ 0 ∷ []) $ join ! $ nothing ! $ join ! $ move ! (3 ∷ 0 ∷ 2 ∷ 1 ∷ []) $ group ! 3 $ done !))))))))))
