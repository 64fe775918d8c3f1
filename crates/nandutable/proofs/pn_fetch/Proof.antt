-- The port in the memory is lent for a lifetime that has not ended, and the operation and the answer are passed on.
use Rattle.std.proofs.Common.{ℕ, List, [], ◌∷◌, length, refl, ap, MutBor, Bor}
use Rattle.std.specs.Prelude.{⊤}
use Rattle.std.proofs.raw_atomic.Walks.{proved}
use mathlib.Core.Option.{none}
use base.Fraction.{full_share}
use base.Logic.{ent, id⊢, ex, sep, wand}
use base.Fml.{Lft, ftrue, fdead, flft, flent, fres, fsep, feq}
use mir.Syntax.{named}
use mir.Val.{Val, vptr, vunit}
use contract.Monad.{fact}
use contract.Running.{tables}
use prog.Wp.{WpFn}
use types.Kit.{‵, raw, ◌⊛◌, some, later, prop, at_ret, ◌$◌, ◌∵◌, !, qed, done, move, drop, use1, use2, use3, split, join, fsplit, fsplit3, fjoin, fjoin3, fpack, feq_i, feq_l, pick, await, rewrite, regoal, suffices, frame, group, show, assume, by}
use types.Run.{enter, of_opd, addr, unit_lit, store, stop, fld, hop, from, no_more, and_then, assigns, first, blocks, exec, returns}
use types.ByLocal.{alloc_all, pass_all, free_all, look_at, look_in_at, get, through, sets, sets_last, lands_as, env}
use types.Part.{whole, sub}
use types.SemTy.{Body}
use types.Tokens.{lft_new}
use denote.Builtin.{u8, u32}
use denote.Exit.{yes}
use denote.Follow.{follows_so}
use denote.Laws.{Is, shows}
use denote.Lend.{lends_ref, ref_back}
use denote.Memory.{mem, cell_at}
use denote.RattleType.{owns, flat}
use denote.RawPtr.{Ptr, RawPtr, block_ptr, ptr_val, in_a_block, lies_at, rawptr_vals, rawptr_Tells}
use denote.Ref.{MutRef, mut_vals, mut_Tells}
use denote.Signature.{plain}
use denote.Slice.{ShrSlice, slice_val, shr_slice_vals}
use denote.Steps.{nothing, only, opens, closes, heard, peeks}
use denote.Triple.Call.{calls_at}
use denote.Triple.Clauses.{lasts}
use denote.Triple.Spec.{triple_of}
use denote.Triple.Table.{framed}
use denote.Triple.Walked.{Stays, walk_of, says, stay_dropped, stay_ref, gave_ref, Goes-dropped, Goes-gave_ref, Goes-ref, ends_at}
use Rattle.device_station.specs.port.State.{closed}
use Rattle.device_station.specs.port.Served.{Served}
use Rattle.device_abi.specs.Serves.{HandsOut}
use Rattle.c_layout.specs.contracts.op.Op.{the_row as O}
use Rattle.device_station.specs.contracts.port.served.Port.{the_row as R}
use Rattle.device_abi.specs.contracts.hand_out as g
use Rattle.device_abi.proofs.hand_out.Met.{met}
use Rattle.nandutable.specs.Handed.{lie_for, Lends}
use Rattle.nandutable.proofs.Said.{said}
use Rattle.nandutable.specs.contracts.pn_fetch as f
use Rattle.nandutable.proofs.pn_fetch.Statement.{statement}
use Rattle.nandutable.proofs.pn_fetch.Code as code

abbrev stayed : Stays f.ended.signature.params f.ended.kept
stayed = (stay_dropped _ yes, (gave_ref (0 ∷ []) tt (plain (λ _. O)), (gave_ref (1 ∷ []) tt (plain (λ _. u32)), (stay_ref (2 ∷ []) tt (plain (λ _. RawPtr)), tt))))

pub pn_fetch_spec : {M : Type 1} → statement M
pn_fetch_spec 𝓤 𝓛 𝓜 𝓡 wired =
    let c = f.clauses 𝓛 𝓜.mem 𝓡.returns in let W = walk_of 𝓛 f.ended stayed c in let 𝓣 = tables 𝓤 𝓛.H 𝓜 𝓡 𝓡.env in
    proved 𝓛 f.ended stayed c 𝓜 𝓡 (Goes-dropped 𝓛 3 (plain (λ _. RawPtr)) yes (λ κs x w. refl), (Goes-gave_ref 𝓛 3 0 tt (plain (λ _. O)), (Goes-gave_ref 𝓛 3 1 tt (plain (λ _. u32)), (Goes-ref 𝓛 3 2 tt (plain (λ _. RawPtr)), tt))))
    f.Key.name code.function (code.unfolded 𝓤 𝓛.H 𝓜 𝓡 wired)
    (λ κs. (rawptr_vals, (mut_vals, (mut_vals, (mut_vals, tt))))) (λ κs. (rawptr_Tells, (mut_Tells (named 0) κs.0 O, (mut_Tells (named 1) κs.1.0 u32, (mut_Tells (named 2) κs.1.1.0 RawPtr, tt))))) (λ κs qs bounds a s are.
    let κ = κs.0 in let η = κs.1.0 in let ζ = κs.1.1.0 in let op = a.1.0 in let answer = a.1.1.0 in let place = a.1.1.1.0 in
    let pb = place.ref_ptr.0 in let po = place.ref_ptr.1 in
    let vals : Ptr → List Val × (List Val × (List Val × (List Val × Unit {0}))) = λ p. (rawptr_vals p, (mut_vals op, (mut_vals answer, (mut_vals place, tt)))) in
    let y : Ptr → W.Ghost = λ p. ((κs, qs, bounds, (p, a.1), vals p), s) in
    let Params = RawPtr ∷ MutRef (named 0) κ O ∷ MutRef (named 1) η u32 ∷ MutRef (named 2) ζ RawPtr ∷ [] in
    let Passed = ‵ (flft κ qs.0) ⊛ (‵ (flft η qs.1.0) ⊛ ‵ ftrue) in
    let Tokens = ‵ (flft κ qs.0) ⊛ (‵ (flft η qs.1.0) ⊛ (‵ (flft ζ qs.1.1.0) ⊛ ‵ ftrue)) in
    let IsHanded : O.Denot → ℕ → List ℕ → Served → Type 0 = λ last r octets new. HandsOut (closed s.port.stage) s op.now r octets new last in
    let Octets : Lft → Bor (List ℕ) → List Val → types.Kit.Item 𝓤 = λ α r vs. ‵ ((ShrSlice (named 0) α u8).own_val r vs) in
    let ToldFor = λ (p at : Ptr) (last : O.Denot) (r : ℕ) (new : Served) (octets : List ℕ). sep 𝓤 (Lends 𝓛 R p new at octets) (fact 𝓤 (IsHanded last r octets new)) in
    let Told = λ (p at : Ptr) (last : O.Denot) (r : ℕ) (new : Served). ex 𝓤 (ToldFor p at last r new) in
    let told : (b o : ℕ) (last : O.Denot) (r : ℕ) (new : Served) (γ α : ℕ) (x : Bor (List ℕ)) → IsHanded last r x.now new
    → ent 𝓤 (sep 𝓤 (types.Logic.sem 𝓛 (flft (α ∷ []) full_share)) (sep 𝓤 (types.Logic.sem 𝓛 ((ShrSlice (named 0) (α ∷ []) u8).own_val x (shr_slice_vals x)))
    (sep 𝓤 (types.Logic.sem 𝓛 (flent (α ∷ []) (Body (mem R) b o γ))) (types.Logic.sem 𝓛 (fres γ (R.coded.code new))))))
    (ex 𝓤 (Told (block_ptr b o) (block_ptr x.ref_ptr.0 x.ref_ptr.1) last r)) = λ b o last r new γ α x handed.
    let at = block_ptr x.ref_ptr.0 x.ref_ptr.1 in
    let Of = λ (k : Lft). sep 𝓤 (types.Logic.sem 𝓛 (flft k full_share)) (sep 𝓤 (types.Logic.sem 𝓛 (lie_for k at x.now)) (wand 𝓤 (𝓛.A.dead k) (𝓛.H.⇛ (types.Logic.sem 𝓛 (lies_at R full_share (block_ptr b o) new))))) in
    let Placed = λ (p : ℕ × ℕ). fsep (feq Ptr at (block_ptr p.0 p.1)) ((ShrSlice (named 0) (α ∷ []) u8).own_val (record { ref_ptr = p; now = x.now }) (slice_val p (length x.now) ∷ [])) in
    let Later = wand 𝓤 (𝓛.A.dead (α ∷ [])) (𝓛.H.⇛ (types.Logic.sem 𝓛 (lies_at R full_share (block_ptr b o) new))) in
    let back : ent 𝓤 (sep 𝓤 (types.Logic.sem 𝓛 (flent (α ∷ []) (Body (mem R) b o γ))) (types.Logic.sem 𝓛 (fres γ (R.coded.code new)))) Later =
    qed 𝓛 (‵ (flent (α ∷ []) (Body (mem R) b o γ)) ∷ ‵ (fres γ (R.coded.code new)) ∷ []) ∵ assume ! (‵ (fdead (α ∷ []))) $ by ! (ref_back 𝓛 R (α ∷ []) γ new b o) in
    qed 𝓛 (‵ (flft (α ∷ []) full_share) ∷ Octets (α ∷ []) x (shr_slice_vals x) ∷ ‵ (flent (α ∷ []) (Body (mem R) b o γ)) ∷ ‵ (fres γ (R.coded.code new)) ∷ []) ∵
    move ! (2 ∷ 3 ∷ []) $ use2 𝓛 (raw Later) back $ move ! (2 ∷ []) $ feq_i ! Ptr at at refl $ fjoin ! $ fpack ! (ℕ × ℕ) Placed x.ref_ptr $
    move ! (2 ∷ 0 ∷ 1 ∷ []) $ show ! (Told (block_ptr b o) at last r) new $ show ! (ToldFor (block_ptr b o) at last r new) x.now $ says ! handed $ show ! Of (α ∷ []) $ done ! in
    qed 𝓛 ((Tokens ⊛ ‵ (owns Params a (vals a.0))) ∷ ‵ (lies_at R full_share a.0 s) ∷ []) ∵
    split ! $ move ! (1 ∷ []) $ fsplit ! $ drop ! $ fsplit ! $ move ! (1 ∷ []) $ fsplit ! $ move ! (1 ∷ []) $ fsplit ! $ move ! (1 ∷ []) $ drop ! $ move ! (4 ∷ 3 ∷ 2 ∷ 1 ∷ []) $
    -- [the port in the memory; the tokens; the operation; the answer; the place]
    in_a_block ! a.0 (λ p. lies_at R full_share p s) (id⊢ 𝓤 _) (λ b o e.
    regoal ! (λ p. prop (WpFn 𝓤 𝓛.H 𝓣.C 𝓣.Λ code.function (flat Params (vals p)) (W.post (y p)))) e refl $
    enter ! _ _ _ _ _ $ alloc_all ! (λ l. pass_all ! refl ((tt, tt), ((tt, tt), ((tt, tt), ((tt, tt), tt)))) $
    first ! $ blocks ! $
    sets ! (of_opd ! (get ! refl)) refl (tt, tt) $
    sets ! (of_opd ! (get ! refl)) refl (tt, tt) $
    sets_last ! (addr ! (through ! refl (stop !))) refl (tt, tt) $
    exec ! 𝓣.C 𝓣.Λ (env code.Mir.locals l) code.Mir.t-2 (at_ret _ (W.post (y (block_ptr b o)))) $
    sets ! (of_opd ! (get ! refl)) refl (tt, tt) $
    sets ! (addr ! (through ! refl (stop !))) refl (tt, tt) $
    sets ! (addr ! (through ! refl (stop !))) refl (tt, tt) $
    lft_new ! tt (λ α. move ! (1 ∷ []) $
    use1 𝓛 (later (some (λ (γ : ℕ). ‵ ((MutRef (named 0) (α ∷ []) R).own_val (record { ref_ptr = (b, o); ghost_name = γ; now = s }) (vptr b o ∷ [])) ⊛ ‵ (flent (α ∷ []) (Body (mem R) b o γ)))))
    (lends_ref 𝓛 R (named 0) (α ∷ []) s b o) $ await ! tt $ pick ! (λ γ. split ! $
    -- [the loan; what the lender keeps; its token; the tokens; the operation; the answer; the place]
    let G = triple_of 𝓛 g.signature (g.spec 𝓛 𝓜.mem 𝓡.returns) in
    let loan : MutBor Served = record { ref_ptr = (b, o); ghost_name = γ; now = s } in
    let z : G.Ghost = (((α ∷ [], (κ, (η, tt))), (full_share, (qs.0, (qs.1.0, tt))), tt, (loan, (op, (answer, tt))), (mut_vals loan, (mut_vals op, (mut_vals answer, tt)))), tt) in
    move ! (3 ∷ []) $ split ! $ move ! (1 ∷ []) $ split ! $ move ! (1 ∷ []) $ split ! $ move ! (1 ∷ []) $ drop ! $
    -- [the place's token; the answer's; the operation's; the loan; what the lender keeps; its token; the operation; the answer; the place]
    nothing ! $ move ! (8 ∷ 0 ∷ []) $ join ! $ move ! (7 ∷ 0 ∷ []) $ join ! $ move ! (4 ∷ 0 ∷ []) $ join ! $
    nothing ! $ move ! (3 ∷ 0 ∷ []) $ join ! $ move ! (3 ∷ 0 ∷ []) $ join ! $ move ! (4 ∷ 0 ∷ []) $ join ! $ join ! $
    nothing ! $ move ! (1 ∷ 0 ∷ []) $ use2 𝓛 (raw (G.pre z)) (id⊢ 𝓤 _) $
    calls_at ! (framed 𝓤 𝓛.H 𝓜 𝓣) G (met 𝓤 𝓛 𝓜 𝓡 (code.calls-device_abi::hand_out 𝓡.env wired)) z (and_then ! (get ! refl) (and_then ! (get ! refl) (and_then ! (get ! refl) (no_more !)))) (λ v.
    use1 𝓛 (later (some (λ (r : Bor (List ℕ)). ((‵ (flft (α ∷ []) full_share) ⊛ Passed) ⊛ Octets (α ∷ []) r (v ∷ [])) ⊛
    some (λ (ws : Unit {0} × (O.Denot × (ℕ × Unit {0}))). ‵ (lasts g.ended z.0.0 z.0.3 ws) ⊛ ‵ (follows_so R R γ none (λ _ _. ⊤) (λ new. IsHanded ws.1.0 ws.1.1.0 r.now new)))))) (id⊢ 𝓤 _) $
    await ! tt $ pick ! (λ r. split ! $ split ! $ split ! $
    -- [its token; the tokens; the octets; the last values; the place's token; what the lender keeps; the place]
    move ! (2 ∷ []) $ peeks ! (ShrSlice (named 0) (α ∷ []) u8) (Is (ShrSlice (named 0) (α ∷ []) u8)) (shows 𝓛 (ShrSlice (named 0) (α ∷ []) u8)) r (v ∷ []) (λ is.
    rewrite ! 0 (λ (vs : List Val). Octets (α ∷ []) r vs) is.0.0 refl $
    lands_as ! (ap only is.0.0) refl (tt, (tt, (record { fits = is.0.1.0 }, tt))) $
    sets ! (addr ! (from ! (fld ! refl (hop ! (look_in_at ! 5 (sub ! 0 refl (whole !))) (stop !))))) refl (tt, tt) $
    -- [the octets; its token; the tokens; the last values; the place's token; what the lender keeps; the place]
    move ! (6 ∷ []) $ fsplit3 ! $ move ! (1 ∷ 2 ∷ 7 ∷ []) $ opens ! tt RawPtr pb po (λ us.
    move ! (1 ∷ []) $ feq_l ! (λ is_ptr. rewrite ! 0 (λ (vs : List Val). ‵ (cell_at full_share RawPtr.mir vs pb po)) is_ptr refl $
    assigns ! (of_opd ! (get ! refl)) (through ! refl (stop !)) (store ! 0 refl (tt, tt)) $
    let at = block_ptr r.ref_ptr.0 r.ref_ptr.1 in
    feq_i ! (List Val) (ptr_val at ∷ []) (ptr_val at ∷ []) refl $ move ! (1 ∷ 0 ∷ []) $ closes ! tt RawPtr at (ptr_val at ∷ []) pb po $
    sets ! (of_opd ! (unit_lit !)) refl (tt, tt) $
    -- [the place, in two parts; its token; its first part; the octets; their token; the tokens; the last values; what the lender keeps]
    move ! (7 ∷ []) $ pick ! (λ ws. split ! $ fsplit ! $ drop ! $ fsplit ! $ move ! (1 ∷ []) $ fsplit ! $ move ! (1 ∷ []) $ drop ! $
    -- [the answer's last value; the operation's; the port's; the place, in two parts; its token; its first part; the octets; their token; the tokens; what the lender keeps]
    move ! (2 ∷ []) $ use1 𝓛 (some (λ (new : Served). ‵ (fres γ (R.coded.code new)) ⊛ raw (fact 𝓤 (IsHanded ws.1.0 ws.1.1.0 r.now new)))) (said 𝓛 R γ (λ _ _. ⊤) (λ new. IsHanded ws.1.0 ws.1.1.0 r.now new)) $
    pick ! (λ new. split ! $ move ! (1 ∷ []) $ heard ! _ (λ handed.
    returns ! (look_at ! 0 refl) $ free_all ! refl $
    move ! (8 ∷ 7 ∷ 10 ∷ 0 ∷ []) $ group ! 4 $ use1 𝓛 (raw (ex 𝓤 (Told (block_ptr b o) at ws.1.0 ws.1.1.0))) (told b o ws.1.0 ws.1.1.0 new γ α r handed) $
    -- [what is reported; the answer's last value; the operation's; the place, in two parts; its token; its first part; the tokens]
    move ! (6 ∷ 3 ∷ 4 ∷ []) $ fjoin3 ! $
    suffices ! _ (ends_at 𝓛 f.ended stayed c (y (block_ptr b o)) vunit tt (tt, (ws.1.0, (ws.1.1.0, (at, tt)))) (tt, (tt, (tt, (tt, tt))))) $
    nothing ! $ move ! (1 ∷ 0 ∷ []) $ join ! $ move ! (2 ∷ 0 ∷ []) $ join ! $ move ! (2 ∷ 0 ∷ []) $ join ! $ nothing ! $ join ! $
    feq_i ! _ (vunit ∷ []) _ refl $ move ! (4 ∷ []) $ split ! $ move ! (1 ∷ []) $ split ! $ move ! (6 ∷ 1 ∷ []) $ join ! $ move ! (1 ∷ 0 ∷ []) $ join ! $ move ! (1 ∷ 0 ∷ []) $ join ! $
    move ! (0 ∷ 2 ∷ 1 ∷ 3 ∷ []) $ group ! 3 $ done !)))))))))))))
