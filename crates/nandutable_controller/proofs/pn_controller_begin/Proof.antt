-- The port in the memory is lent for the call of `start`, and comes back.
use Rattle.std.proofs.Common.{◌≡◌, ℕ, List, [], ◌∷◌, refl, ap, MutBor}
use Rattle.std.proofs.raw_atomic.Walks.{proved}
use base.Fraction.{full_share}
use base.Logic.{ent, id⊢, ex, sep}
use base.Fml.{ftrue, feq, flft, flent}
use mir.Syntax.{named}
use mir.Val.{Val, vunit, vptr}
use contract.Monad.{fact}
use contract.Running.{tables}
use prog.Wp.{WpFn}
use types.Kit.{‵, raw, ◌⊛◌, some, later, prop, at_ret, ◌$◌, ◌∵◌, !, qed, done, move, drop, use1, use2, use3, split, join, fsplit, feq_i, feq_l, pick, await, regoal, suffices, group, show}
use types.Run.{enter, of_opd, addr, stop, unit_lit, no_more, and_then, first, blocks, exec, returns}
use types.ByLocal.{alloc_all, pass_all, free_all, look_at, get, through, sets, sets_last, lands_as, env}
use types.SemTy.{Body}
use types.Tokens.{lft_new, lft_end}
use denote.Exit.{yes}
use denote.Lend.{lends_ref, ref_back}
use denote.Memory.{mem, part_at}
use denote.RattleType.{owns, flat}
use denote.RawPtr.{Ptr, RawPtr, block_ptr, in_a_block, lies_at, rawptr_vals, rawptr_Tells}
use denote.Ref.{MutRef, mut_vals}
use denote.Signature.{plain}
use denote.Steps.{nothing, heard, only}
use denote.Triple.Call.{calls_at}
use denote.Triple.Clauses.{lasts}
use denote.Triple.Spec.{triple_of}
use denote.Triple.Table.{framed}
use denote.Triple.Walked.{Stays, walk_of, says, stay_dropped, Goes-dropped, ends_at}
use Rattle.controller_station.specs.Served.{begun}
use Rattle.controller_abi.specs.State.{State, opened}
use Rattle.controller_abi.specs.contracts.port.Port.{the_row as R}
use Rattle.controller_abi.specs.contracts.start as g
use Rattle.controller_abi.proofs.start.Met.{met}
use Rattle.nandutable_controller.specs.contracts.pn_controller_begin as f
use Rattle.nandutable_controller.proofs.pn_controller_begin.Statement.{statement}
use Rattle.nandutable_controller.proofs.pn_controller_begin.Code as code

abbrev stayed : Stays f.ended.signature.params f.ended.kept
stayed = (stay_dropped _ yes, tt)

pub pn_controller_begin_spec : {M : Type 1} → statement M
pn_controller_begin_spec 𝓤 𝓛 𝓜 𝓡 wired =
    let c = f.clauses 𝓛 𝓜.mem 𝓡.returns in let W = walk_of 𝓛 f.ended stayed c in let 𝓣 = tables 𝓤 𝓛.H 𝓜 𝓡 𝓡.env in
    proved 𝓛 f.ended stayed c 𝓜 𝓡 (Goes-dropped 𝓛 0 (plain (λ _. RawPtr)) yes (λ κs x w. refl), tt)
    f.Key.name code.function (code.unfolded 𝓤 𝓛.H 𝓜 𝓡 wired)
    (λ κs. (rawptr_vals, tt)) (λ κs. (rawptr_Tells, tt)) (λ κs qs bounds a s are.
    let vals : Ptr → List Val × Unit {0} = λ p. (rawptr_vals p, tt) in
    let y : Ptr → W.Ghost = λ p. ((κs, qs, bounds, (p, a.1), vals p), s) in
    let Params = RawPtr ∷ [] in
    let IsStarted : State → Type 0 = λ new. new ≡ opened (begun s.controller.setup) in
    let Reported = λ (b o : ℕ) (new : State). sep 𝓤 (types.Logic.sem 𝓛 (lies_at R full_share (block_ptr b o) new)) (fact 𝓤 (IsStarted new)) in
    let reported : (b o : ℕ) (new : State) → IsStarted new → ent 𝓤 (types.Logic.sem 𝓛 (lies_at R full_share (block_ptr b o) new)) (ex 𝓤 (Reported b o)) = λ b o new started.
    qed 𝓛 (‵ (lies_at R full_share (block_ptr b o) new) ∷ []) ∵ show ! (Reported b o) new $ says ! started $ done ! in
    qed 𝓛 ((‵ ftrue ⊛ ‵ (owns Params a (vals a.0))) ∷ ‵ (lies_at R full_share a.0 s) ∷ []) ∵
    split ! $ move ! (1 ∷ []) $ fsplit ! $ drop ! $ drop ! $ move ! (1 ∷ []) $
    -- [the port in the memory; true]
    in_a_block ! a.0 (λ p. lies_at R full_share p s) (id⊢ 𝓤 _) (λ b o e.
    regoal ! (λ p. prop (WpFn 𝓤 𝓛.H 𝓣.C 𝓣.Λ code.function (flat Params (vals p)) (W.post (y p)))) e refl $
    enter ! _ _ _ _ _ $ alloc_all ! (λ l. pass_all ! refl ((tt, tt), tt) $
    first ! $ blocks ! $
    sets ! (of_opd ! (get ! refl)) refl (tt, tt) $
    sets ! (of_opd ! (get ! refl)) refl (tt, tt) $
    sets_last ! (addr ! (through ! refl (stop !))) refl (tt, tt) $
    exec ! 𝓣.C 𝓣.Λ (env code.Mir.locals l) code.Mir.t-2 (at_ret _ (W.post (y (block_ptr b o)))) $
    sets ! (of_opd ! (get ! refl)) refl (tt, tt) $
    lft_new ! tt (λ α. move ! (1 ∷ []) $
    use1 𝓛 (later (some (λ (γ : ℕ). ‵ ((MutRef (named 0) (α ∷ []) R).own_val (record { ref_ptr = (b, o); ghost_name = γ; now = s }) (vptr b o ∷ [])) ⊛ ‵ (flent (α ∷ []) (Body (mem R) b o γ)))))
    (lends_ref 𝓛 R (named 0) (α ∷ []) s b o) $ await ! tt $ pick ! (λ γ. split ! $
    -- [the loan; what the lender keeps; its token; true]
    let G = triple_of 𝓛 g.signature (g.spec 𝓛 𝓜.mem 𝓡.returns) in
    let loan : MutBor State = record { ref_ptr = (b, o); ghost_name = γ; now = s } in
    let z : G.Ghost = (((α ∷ [], tt), (full_share, tt), tt, (loan, tt), (mut_vals loan, tt)), tt) in
    nothing ! $ move ! (1 ∷ 0 ∷ []) $ join ! $ nothing ! $ move ! (3 ∷ 0 ∷ []) $ join ! $ join ! $ nothing ! $ move ! (1 ∷ 0 ∷ []) $ use2 𝓛 (raw (G.pre z)) (id⊢ 𝓤 _) $
    calls_at ! (framed 𝓤 𝓛.H 𝓜 𝓣) G (met 𝓤 𝓛 𝓜 𝓡 (code.calls-controller_abi::start 𝓡.env wired)) z (and_then ! (get ! refl) (no_more !)) (λ u.
    use1 𝓛 (later (some (λ (r : Unit {0}). ((‵ (flft (α ∷ []) full_share) ⊛ ‵ ftrue) ⊛ ‵ (feq (List Val) (u ∷ []) (vunit ∷ []))) ⊛
    some (λ (now : State × Unit {0}). ‵ (lasts g.ended z.0.0 z.0.3 now) ⊛ raw (fact 𝓤 (IsStarted now.0)))))) (id⊢ 𝓤 _) $
    await ! tt $ pick ! (λ r. split ! $ split ! $ split ! $ lft_end ! tt $
    -- [that its lifetime is over; true; the result; the last value; what the lender keeps; true]
    move ! (1 ∷ []) $ drop ! $ move ! (1 ∷ []) $ feq_l ! (λ unit. lands_as ! (ap only unit) refl (tt, tt) $
    move ! (1 ∷ []) $ pick ! (λ now. split ! $ move ! (1 ∷ []) $ heard ! _ (λ started. fsplit ! $ fsplit ! $
    -- [the last value; its borrow; true; the lifetime is over; what the lender keeps; true]
    move ! (3 ∷ 4 ∷ 0 ∷ []) $ use3 𝓛 (later (‵ (part_at R full_share now.0 b o))) (ref_back 𝓛 R (α ∷ []) γ now.0 b o) $ await ! tt $
    move ! (1 ∷ []) $ drop ! $ move ! (1 ∷ []) $ drop ! $
    -- [the port in the memory; true]
    sets ! (of_opd ! (unit_lit !)) refl (tt, tt) $
    returns ! (look_at ! 0 refl) $ free_all ! refl $
    use1 𝓛 (raw (ex 𝓤 (Reported b o))) (reported b o now.0 started) $
    -- [the facts of the memory; true]
    suffices ! _ (ends_at 𝓛 f.ended stayed c (y (block_ptr b o)) vunit tt (tt, tt) (tt, tt)) $
    feq_i ! _ (vunit ∷ []) _ refl $ nothing ! $ nothing ! $ join ! $ move ! (3 ∷ 0 ∷ 1 ∷ 2 ∷ []) $ group ! 3 $ done !))))))))))
