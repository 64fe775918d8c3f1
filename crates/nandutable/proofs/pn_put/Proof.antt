-- The port of the station is made by a call, and then written into the memory.
use Rattle.std.proofs.Common.{◌≡◌, ℕ, List, [], ◌∷◌, true, refl}
use Rattle.std.proofs.raw_atomic.Walks.{proved}
use base.Fraction.{full_share}
use base.Logic.{ent, id⊢, ex, sep}
use base.Fml.{ftrue, flft}
use mir.Syntax.{named}
use mir.Val.{Val, vunit}
use contract.Monad.{fact, fact_i}
use contract.Running.{tables}
use prog.Wp.{WpFn}
use types.Kit.{‵, raw, ◌⊛◌, some, later, prop, at_ret, ◌$◌, ◌∵◌, !, qed, done, move, drop, use0, use1, use2, split, join, fsplit, feq_i, pick, await, regoal, suffices, group, show}
use types.Run.{enter, of_opd, stop, unit_lit, init, no_more, and_then, assigns_last, first, blocks, exec, returns}
use types.ByLocal.{alloc_all, pass_all, free_all, look_at, get, through, sets, lands_as, env}
use denote.Exit.{yes}
use denote.Laws.{shows}
use denote.Memory.{part_at}
use denote.RattleType.{owns, flat}
use denote.RawPtr.{Ptr, RawPtr, block_ptr, in_a_block, lies_at, room_at, rawptr_vals, rawptr_Tells}
use denote.Ref.{ShrRef, shr_vals, shr_Tells}
use denote.Signature.{plain, shr_ref_to}
use denote.Steps.{nothing, heard, peeks}
use denote.Triple.Call.{calls_at}
use denote.Triple.Clauses.{lasts}
use denote.Triple.Spec.{triple_of}
use denote.Triple.Table.{framed}
use denote.Triple.Walked.{Stays, walk_of, says, stay_dropped, Goes-dropped, ends_at}
use borrow.Table.OneValue.{part_in}
use Rattle.device_station.specs.port.Served.{Served}
use Rattle.device_station.specs.contracts.port.served.Port.{the_row as R}
use Rattle.device_station.proofs.port.served.Port.TheLaws.{the_row_laws as port_laws}
use Rattle.device_abi.specs.Made.{IsMade}
use Rattle.device_abi.specs.Stations.{is_station}
use Rattle.device_abi.specs.contracts.c_station.Station.{the_row as S}
use Rattle.device_abi.specs.contracts.port_of as g
use Rattle.device_abi.proofs.port_of.Met.{met}
use Rattle.nandutable.specs.contracts.pn_put as f
use Rattle.nandutable.proofs.pn_put.Statement.{statement}
use Rattle.nandutable.proofs.pn_put.Code as code

abbrev stayed : Stays f.ended.signature.params f.ended.kept
stayed = (stay_dropped _ yes, (stay_dropped _ yes, tt))

pub pn_put_spec : {M : Type 1} → statement M
pn_put_spec 𝓤 𝓛 𝓜 𝓡 wired =
    let c = f.clauses 𝓛 𝓜.mem 𝓡.returns in let W = walk_of 𝓛 f.ended stayed c in let 𝓣 = tables 𝓤 𝓛.H 𝓜 𝓡 𝓡.env in
    proved 𝓛 f.ended stayed c 𝓜 𝓡 (Goes-dropped 𝓛 1 (plain (λ _. RawPtr)) yes (λ κs x w. refl), (Goes-dropped 𝓛 1 (shr_ref_to (0 ∷ []) tt (plain (λ _. S))) yes (λ κs x w. refl), tt))
    f.Key.name code.function (code.unfolded 𝓤 𝓛.H 𝓜 𝓡 wired)
    (λ κs. (rawptr_vals, (shr_vals, tt))) (λ κs. (rawptr_Tells, (shr_Tells (named 0) κs.0 S, tt))) (λ κs qs bounds a _ are.
    let κ = κs.0 in let station = a.1.0 in
    let vals : Ptr → List Val × (List Val × Unit {0}) = λ p. (rawptr_vals p, (shr_vals station, tt)) in
    let y : Ptr → W.Ghost = λ p. ((κs, qs, bounds, (p, a.1), vals p), tt) in
    let Params = RawPtr ∷ ShrRef (named 0) κ S ∷ [] in
    let Tokens = ‵ (flft κ qs.0) ⊛ ‵ ftrue in
    let Reported = λ (b o : ℕ) (port : Served). sep 𝓤 (types.Logic.sem 𝓛 (lies_at R full_share (block_ptr b o) port)) (fact 𝓤 (IsMade station.now port)) in
    let reported : (b o : ℕ) (port : Served) → IsMade station.now port → ent 𝓤 (types.Logic.sem 𝓛 (lies_at R full_share (block_ptr b o) port)) (ex 𝓤 (Reported b o)) = λ b o port made.
    qed 𝓛 (‵ (lies_at R full_share (block_ptr b o) port) ∷ []) ∵ show ! (Reported b o) port $ says ! made $ done ! in
    qed 𝓛 ((Tokens ⊛ ‵ (owns Params a (vals a.0))) ∷ (‵ (room_at R a.0) ⊛ raw (fact 𝓤 (is_station station.now ≡ true))) ∷ []) ∵
    split ! $ move ! (1 ∷ []) $ fsplit ! $ drop ! $ fsplit ! $ move ! (1 ∷ []) $ drop ! $ move ! (2 ∷ []) $ split ! $ move ! (1 ∷ []) $ heard ! _ (λ fits.
    -- [the memory; the station; the tokens]
    in_a_block ! a.0 (λ p. room_at R p) (id⊢ 𝓤 _) (λ b o e.
    regoal ! (λ p. prop (WpFn 𝓤 𝓛.H 𝓣.C 𝓣.Λ code.function (flat Params (vals p)) (W.post (y p)))) e refl $
    enter ! _ _ _ _ _ $ alloc_all ! (λ l. pass_all ! refl ((tt, tt), ((tt, tt), tt)) $
    first ! $ blocks ! $
    sets ! (of_opd ! (get ! refl)) refl (tt, tt) $
    let G = triple_of 𝓛 g.signature (g.spec 𝓛 𝓜.mem 𝓡.returns) in
    let z : G.Ghost = (((κ, tt), (qs.0, tt), tt, (station, tt), (shr_vals station, tt)), tt) in
    nothing ! $ move ! (2 ∷ 0 ∷ []) $ join ! $ move ! (2 ∷ 0 ∷ []) $ join ! $
    use0 𝓛 (raw (fact 𝓤 (is_station station.now ≡ true))) (fact_i 𝓤 _ _ fits) $ move ! (1 ∷ 0 ∷ []) $ use2 𝓛 (raw (G.pre z)) (id⊢ 𝓤 _) $
    calls_at ! (framed 𝓤 𝓛.H 𝓜 𝓣) G (met 𝓤 𝓛 𝓜 𝓡 (code.calls-device_abi::port_of 𝓡.env wired)) z (and_then ! (get ! refl) (no_more !)) (λ v.
    use1 𝓛 (later (some (λ (port : Served). (Tokens ⊛ ‵ (R.own_val port (v ∷ []))) ⊛
    some (λ (ws : Unit {0} × Unit {0}). ‵ (lasts g.ended z.0.0 z.0.3 ws) ⊛ raw (fact 𝓤 (IsMade station.now port)))))) (id⊢ 𝓤 _) $
    await ! tt $ pick ! (λ port. split ! $ split ! $
    -- [the tokens; the port; its facts; the memory]
    move ! (1 ∷ []) $ peeks ! R _ (shows 𝓛 R) port (v ∷ []) (λ is.
    let typed = ((port_laws.lawful 𝓛).typed port _ is).0 in
    lands_as ! refl refl typed $ move ! (2 ∷ []) $ pick ! (λ ws. split ! $ drop ! $ heard ! _ (λ made.
    -- [the port; the tokens; the memory]
    assigns_last ! (of_opd ! (get ! refl)) (through ! refl (stop !)) (init ! 2 refl typed) $
    exec ! 𝓣.C 𝓣.Λ (env code.Mir.locals l) code.Mir.t-2 (at_ret _ (W.post (y (block_ptr b o)))) $
    sets ! (of_opd ! (unit_lit !)) refl (tt, tt) $
    returns ! (look_at ! 0 refl) $ free_all ! refl $
    move ! (2 ∷ 0 ∷ []) $ use2 𝓛 (‵ (part_at R full_share port b o)) (part_in 𝓛 R refl full_share port b o v) $
    use1 𝓛 (raw (ex 𝓤 (Reported b o))) (reported b o port made) $
    -- [the facts of the memory; the tokens]
    suffices ! _ (ends_at 𝓛 f.ended stayed c (y (block_ptr b o)) vunit tt (tt, (tt, tt)) (tt, (tt, tt))) $
    feq_i ! _ (vunit ∷ []) _ refl $ nothing ! $ nothing ! $ join ! $ nothing ! $ join ! $ move ! (3 ∷ 0 ∷ 1 ∷ 2 ∷ []) $ group ! 3 $ done !)))))))))
