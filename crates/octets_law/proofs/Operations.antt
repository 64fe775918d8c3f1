-- Which answers are stored, by the number of an operation; and a call that is asked has the operation of its request.
use Rattle.std.proofs.Common.{◌≡◌, ◌==◌, ◌&&◌, ℕ, Bool, true, false, not, nat_eq, List, [], ◌∷◌, flat_map, map, take, Option, Some, None, Result, Ok, Err, refl, sym, ap, subst, ◌∙◌, if◌then◌else◌}
use Rattle.std.proofs.lemmas.Bool.{and_parts, cond_both}
use Rattle.std.proofs.lemmas.List.{append-nil}
use Rattle.std.specs.Cmp.Lexicographic.{pointwise}
use Rattle.std.specs.Option.{option_map}
use Rattle.wire.specs.Codec.{◌>>=◌}
use Rattle.pn_values.specs.IpSuite.{is_zero}
use Rattle.pn_values.specs.declared.identity.Identity.{Identity}
use Rattle.pn_values.specs.declared.real.Real.{Real}
use Rattle.frame_codec.specs.declared.udp.Caller.{Caller}
use Rattle.record_blocks.specs.declared.read_record.IodReadReq.{IodReadReq}
use Rattle.record_blocks.specs.declared.write_record.IodWriteReq.{IodWriteReq}
use Rattle.rpc_core.specs.declared.header.CallHeader.{CallHeader}
use Rattle.rpc_core.specs.Cache.{Kept}
use Rattle.rpc_core.specs.Call.{Asked as Called}
use Rattle.records.specs.declared.status.call_fault.CallFault.{CallFault}
use Rattle.records.specs.declared.status.operation.Operation.{Operation}
use Rattle.records.specs.declared.status.operation.Operation.TheVariants as operation
use Rattle.records.specs.reads.Handled.{request_of}
use Rattle.records.specs.reads.Within.{request_within}
use Rattle.records.specs.status.Operation.{operation_of}
use Rattle.relations.specs.declared.options.DeviceOptions.{DeviceOptions}
use Rattle.asked_records.specs.Asked.{AskedState, Standing, displaced_by, gives_way, goes_before, is_repeat, question_in, repeats}
use Rattle.asked_records.specs.Judging.{asked_read, asked_write}
use Rattle.asked_records.specs.Questions.{is_implicit, operation_of as operation_asked}
use Rattle.asked_records.specs.declared.names.RecordName.{RecordName}
use Rattle.asked_records.specs.declared.question.Question.{Question}
use Rattle.asked_records.specs.declared.question.Request.{Request}
use Rattle.asked_records.specs.declared.question.Request.TheVariants as request
use Rattle.asked_records.specs.declared.status.Unanswered.{Unanswered}
use Rattle.device_frames.specs.Relation.{where_due}
use Rattle.device_frames.specs.Sendable.{AreSendable}
use Rattle.device_frames.specs.Sent.{Sent, bytes_of}
use Rattle.device_core.specs.Asking.{Asking, asking_of, asking_read, asking_write, is_kept, is_new, looked_if, question_of, question_replies, refused_reply, refused_sent, write_within}
use Rattle.octets_law.specs.Octets.{called, statuses}
use Rattle.octets_law.proofs.AnswerPlaces.{other_statuses}
use Rattle.octets_law.proofs.CallReads.{tested}
use Rattle.octets_law.proofs.Questions.{IsOwn, asking_own}

-- ---- the operation of a call

is_five : (n : ℕ) → operation_of n ≡ Some operation.ReadImplicit → (n == 5) ≡ true
unfolding operation_of
is_five n =
    cond_both (n == 0) _ _ P (λ _ e. absurd cc) (λ _. cond_both (n == 1) _ _ P (λ _ e. absurd cc) (λ _. cond_both (n == 2) _ _ P (λ _ e. absurd cc)
    (λ _. cond_both (n == 3) _ _ P (λ _ e. absurd cc) (λ _. cond_both (n == 4) _ _ P (λ _ e. absurd cc) (λ _. cond_both (n == 5) _ _ P (λ is _. is) (λ _ e. absurd cc))))))
  where
    P : Option Operation → Type 0
    P r = r ≡ Some operation.ReadImplicit → (n == 5) ≡ true

five_is : (n : ℕ) (which : Operation) → (n == 5) ≡ true → operation_of n ≡ Some which → which ≡ operation.ReadImplicit
unfolding operation_of
five_is n which five is =
    let e : Some operation.ReadImplicit ≡ Some which = ap operation_of (sym (tested n 5 five)) ∙ is in
    sym (same operation.ReadImplicit which e)
  where
    same : (one other : Operation) → Some one ≡ Some other → one ≡ other
    same one other e = cc

not_five : (b : Bool) → not (b && false) ≡ true
not_five true = refl
not_five false = refl

only_five : (b : Bool) → not (b && true) ≡ not b
only_five true = refl
only_five false = refl

-- The answer to a call is stored by the number of its operation as it is by its operation.
pub kept_is : (options : DeviceOptions) (n : ℕ) (which : Operation) → operation_of n ≡ Some which
    → not (options.reads_not_kept && n == 5) ≡ is_kept options which
kept_is options n which is = by_five (n == 5) refl
  where
    by_other : (which : Operation) → operation_of n ≡ Some which → (n == 5) ≡ false → not (options.reads_not_kept && false) ≡ is_kept options which
    by_other operation.Connect is other = not_five options.reads_not_kept
    by_other operation.Release is other = not_five options.reads_not_kept
    by_other operation.Read is other = not_five options.reads_not_kept
    by_other operation.Write is other = not_five options.reads_not_kept
    by_other operation.Control is other = not_five options.reads_not_kept
    by_other operation.ReadImplicit is other = absurd (let e : true ≡ false = sym (is_five n is) ∙ other in cc)

    by_five : (b : Bool) → (n == 5) ≡ b → not (options.reads_not_kept && n == 5) ≡ is_kept options which
    by_five true five =
        ap (λ b. not (options.reads_not_kept && b)) five ∙ only_five options.reads_not_kept ∙ ap (is_kept options) (sym (five_is n which five is))
    by_five false other = ap (λ b. not (options.reads_not_kept && b)) other ∙ by_other which is other

-- ---- the operation of a call that is asked

-- It is that of its request.
abbrev pub IsOfKind : Question → Type 0
IsOfKind question = operation_of question.header.operation ≡ Some (operation_asked question.request)

module _ (real : Real) (named : List RecordName) (standing : Option (List ℕ)) (caller : Caller) (call : Called) where
  -- What is asked has this operation.
  abbrev pub IsOfOperation : Operation → Result (Option Asking) CallFault → Type 0
  IsOfOperation which (Ok (Some asking)) = operation_asked asking.0.request ≡ which
  IsOfOperation which (Ok None) = Unit {0}
  IsOfOperation which (Err why) = Unit {0}

  read_has : (which : Operation) (wanted : IodReadReq → Request) → ((read : IodReadReq) → operation_asked (wanted read) ≡ which)
      → (read : Result IodReadReq CallFault) → IsOfOperation which (asking_read real named wanted caller call read)
  read_has which wanted is (Err why) = tt
  read_has which wanted is (Ok read) = by_found (asked_read real named read)
    where
      by_found : (found : Result (Option RecordName) CallFault)
          → IsOfOperation which (found >>= λ found. Ok (option_map (λ name. (question_of caller call (wanted read) name, [])) found))
      by_found (Ok (Some name)) = is read
      by_found (Ok None) = tt
      by_found (Err why) = tt

  write_has : (read : Result (IodWriteReq × List ℕ) CallFault) → IsOfOperation operation.Write (asking_write real named caller call read)
  write_has (Err why) = tt
  write_has (Ok x) = by_found (asked_write real named x.0 x.1)
    where
      by_found : (found : Result (Option RecordName) CallFault) → IsOfOperation operation.Write (found >>= λ found. Ok (option_map
          (λ name. (question_of caller call (request.Write x.0) name, take x.0.header.record_data_length x.1)) found))
      by_found (Ok (Some name)) = refl
      by_found (Ok None) = tt
      by_found (Err why) = tt

  pub asking_has : (blocks : List ℕ) (which : Operation) → IsOfOperation which (asking_of real named standing caller call blocks which)
  asking_has blocks operation.Connect = tt
  asking_has blocks operation.Release = tt
  asking_has blocks operation.Read = read_has operation.Read request.Read (λ read. refl) (request_within standing blocks)
  asking_has blocks operation.Write = write_has (write_within standing blocks)
  asking_has blocks operation.Control = tt
  asking_has blocks operation.ReadImplicit = read_has operation.ReadImplicit request.ReadImplicit (λ read. refl) (request_of blocks)

  -- What a call asks has its operation.
  pub asking_kind : (blocks : List ℕ) (which : Operation) (asking : Asking) → operation_of call.header.operation ≡ Some which
      → asking_of real named standing caller call blocks which ≡ Ok (Some asking) → IsOfKind asking.0
  asking_kind blocks which asking is asks =
      let own : asking.0.header ≡ call.header = subst (IsOwn real named standing caller call) asks (asking_own real named standing caller call blocks which) in
      let kind : operation_asked asking.0.request ≡ which = subst (IsOfOperation which) asks (asking_has blocks which) in
      ap (λ (h : CallHeader). operation_of h.operation) own ∙ is ∙ ap Some (sym kind)

-- ---- a call that gives way

-- The call that is displaced is the one that is asked, and a Read Implicit.
pub record GivesWay (own_first : Bool) (state : AskedState) (other : Question) : Type 0 where
  pub option : own_first ≡ true
  pub was : question_in state ≡ Some other
  pub implicit : is_implicit other.request ≡ true

pub displaced_is : (own_first : Bool) (question other : Question) (state : AskedState) → displaced_by own_first question state ≡ Some other
    → GivesWay own_first state other
displaced_is true question other state is = by_standing state.standing refl is
  where
    same : (one two : Question) → Some one ≡ Some two → one ≡ two
    same one two e = cc

    by_standing : (standing : Option Standing) → state.standing ≡ standing → gives_way question standing ≡ Some other → GivesWay true state other
    by_standing None there = λ is. absurd cc
    by_standing (Some standing) there =
        cond_both (goes_before question standing.question) _ _ (λ (r : Option Question). r ≡ Some other → GivesWay true state other)
        (λ before is.
        record {
          option = refl;
          was = ap (λ (s : Option Standing). option_map (λ (one : Standing). one.question) s) there ∙ is;
          implicit = subst (λ (q : Question). is_implicit q.request ≡ true) (same standing.question other is) (and_parts _ _ before).1;
        })
        (λ _ is. absurd cc)
displaced_is false question other state is = absurd cc

-- A call that is not repeated has another name than the one that is asked.
pub other_name : (activity : List ℕ) (sequence : ℕ) (other : Question) (state : AskedState)
    → question_in state ≡ Some other → is_repeat activity sequence state ≡ false
    → pointwise nat_eq (other.header.sequence ∷ other.header.activity) (sequence ∷ activity) ≡ false
other_name activity sequence other state is once = by_standing state.standing is once
  where
    turned : (a b : Bool) → (a && b) ≡ false → (b && a) ≡ false
    turned true true e = e
    turned true false e = refl
    turned false true e = refl
    turned false false e = refl

    same : (one two : Question) → Some one ≡ Some two → one ≡ two
    same one two e = cc

    by_standing : (standing : Option Standing) → option_map (λ (s : Standing). s.question) standing ≡ Some other → repeats activity sequence standing ≡ false
        → pointwise nat_eq (other.header.sequence ∷ other.header.activity) (sequence ∷ activity) ≡ false
    by_standing None is once = absurd cc
    by_standing (Some standing) is once =
        subst (λ (q : Question). pointwise nat_eq (q.header.sequence ∷ q.header.activity) (sequence ∷ activity) ≡ false) (same standing.question other is)
        (turned (pointwise nat_eq standing.question.header.activity activity) (standing.question.header.sequence == sequence) once)

-- The answer to the call that is displaced, if it is sent, does not answer the call that displaces it.
pub refused_statuses : (options : DeviceOptions) (identity : Identity) (address octets : List ℕ) (reason : Unanswered) (displaced : Option Question)
    (calls : List Kept)
    → ((other : Question) → displaced ≡ Some other → pointwise nat_eq (other.header.sequence ∷ other.header.activity) (called octets) ≡ false)
    → AreSendable identity (refused_sent options address reason displaced calls)
    → flat_map (statuses octets) (map (bytes_of identity) (refused_sent options address reason displaced calls)) ≡ []
refused_statuses options identity address octets reason None calls other can = refl
refused_statuses options identity address octets reason (Some question) calls other can = by_address (is_zero address) can
  where
    kept : Bool
    kept = is_kept options (operation_asked question.request)

    answer : Sent
    answer = refused_reply address reason question

    by_due : (due : Bool) → AreSendable identity (where_due due (answer ∷ []))
        → flat_map (statuses octets) (map (bytes_of identity) (where_due due (answer ∷ []))) ≡ []
    by_due true can = append-nil _ ∙ other_statuses identity question.caller address _ octets can.0 (other question refl)
    by_due false can = refl

    by_address : (none : Bool) → AreSendable identity (if none then [] else question_replies kept question answer calls)
        → flat_map (statuses octets) (map (bytes_of identity) (if none then [] else question_replies kept question answer calls)) ≡ []
    by_address true can = refl
    by_address false can = by_due (is_new (looked_if kept question.header.activity question.header.sequence calls)) can
