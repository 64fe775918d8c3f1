-- Turns, one more at a time.
use Rattle.std.proofs.Common.{◌≡◌, ◌⊎◌, inl, inr, ℕ, Bool, true, false, List, [], ◌∷◌, ◌++◌, flat_map, drop, if◌then◌else◌, refl, sym, ap, subst, ◌∙◌, append_assoc}
use Rattle.std.proofs.lemmas.List.{append-nil}
use Rattle.pn_values.specs.declared.mac.Mac.{Mac}
use Rattle.startup_octets.specs.StartUp.{AreTaken, Grants, IsIn, IsStartUp, Turn, Written, asking_at, confirmed_by, is_of, names_at, names_in, repeats, sent_by}

-- ---- frames among others

pub in_front : (frame : List ℕ) (some more : List (List ℕ)) → IsIn frame some → IsIn frame (some ++ more)
in_front frame [] more there = absurd there
in_front frame (one ∷ others) more (inl is) = inl is
in_front frame (one ∷ others) more (inr there) = inr (in_front frame others more there)

pub in_behind : (frame : List ℕ) (some more : List (List ℕ)) → IsIn frame more → IsIn frame (some ++ more)
in_behind frame [] more there = there
in_behind frame (one ∷ others) more there = inr (in_behind frame others more there)

flat_append : {A B : Type 0} (f : A → List B) (some more : List A) → flat_map f (some ++ more) ≡ flat_map f some ++ flat_map f more
flat_append f [] more = refl
flat_append f (one ∷ others) more = ap (λ l. f one ++ l) (flat_append f others more) ∙ sym (append_assoc (f one) (flat_map f others) (flat_map f more))

pub sent_more : (by : Bool) (turns more : List Turn) → sent_by by (turns ++ more) ≡ sent_by by turns ++ sent_by by more
sent_more true turns more = flat_append _ turns more
sent_more false turns more = flat_append _ turns more

pub sent_front : (by : Bool) (frame : List ℕ) (turns more : List Turn) → IsIn frame (sent_by by turns) → IsIn frame (sent_by by (turns ++ more))
sent_front by frame turns more there = subst (IsIn frame) (sym (sent_more by turns more)) (in_front frame (sent_by by turns) (sent_by by more) there)

pub sent_behind : (by : Bool) (frame : List ℕ) (turns more : List Turn) → IsIn frame (sent_by by more) → IsIn frame (sent_by by (turns ++ more))
sent_behind by frame turns more there = subst (IsIn frame) (sym (sent_more by turns more)) (in_behind frame (sent_by by turns) (sent_by by more) there)

-- What is sent in one turn.
pub sent_at : (by : Bool) (frame : List ℕ) (turn : Turn) → turn.at_device ≡ by → IsIn frame turn.sent → IsIn frame (sent_by by (turn ∷ []))
sent_at true frame turn at there = in_front frame _ [] (subst (λ (b : Bool). IsIn frame (if b then turn.sent else [])) (sym at) there)
sent_at false frame turn at there = in_front frame _ [] (subst (λ (b : Bool). IsIn frame (if b then [] else turn.sent)) (sym at) there)

-- The name of the call that came to the device in a turn.
abbrev pub named_at : Mac → Turn → List (List ℕ)
named_at mac turn = if turn.at_device then names_in (asking_at mac turn) else []

pub names_more : (mac : Mac) (turns : List Turn) (turn : Turn) → names_at mac (turns ++ turn ∷ []) ≡ names_at mac turns ++ named_at mac turn
names_more mac turns turn = flat_append (named_at mac) turns (turn ∷ []) ∙ ap (λ l. names_at mac turns ++ l) (append-nil (named_at mac turn))

-- ---- records that are accepted

module _ (mac : Mac) (relation : List ℕ) where
  -- What one more turn accepts.
  abbrev pub IsTakenAt : List Turn → Turn → List Written → Type 0
  IsTakenAt earlier turn now =
      (now ≡ confirmed_by relation (asking_at mac turn) (if turn.at_device then turn.sent else []))
      ⊎ ((repeats (asking_at mac turn) (names_at mac earlier) ≡ true) × (now ≡ []))

  taken_more : (earlier turns : List Turn) (taken : List Written) (turn : Turn) (now : List Written) → AreTaken mac relation earlier turns taken
      → IsTakenAt (earlier ++ turns) turn now → AreTaken mac relation earlier (turns ++ turn ∷ []) (taken ++ now)
  taken_more earlier [] taken turn now none at =
      (now, [], ap (λ l. l ++ now) none ∙ sym (append-nil now), subst (λ e. IsTakenAt e turn now) (append-nil earlier) at, refl)
  taken_more earlier (first ∷ turns) taken turn now are at = (
    are.0,
    are.1 ++ now,
    ap (λ l. l ++ now) are.2 ∙ append_assoc are.0 are.1 now,
    are.3,
    taken_more (earlier ++ first ∷ []) turns are.1 turn now are.4 (subst (λ e. IsTakenAt e turn now) (sym (append_assoc earlier (first ∷ []) turns)) at),
  )

  -- The Connect was granted, and these records were accepted since.
  pub record IsBegun (turns : List Turn) (taken : List Written) : Type 0 where
    pub before : List Turn
    pub connect : Turn
    pub between : List Turn
    pub parts : turns ≡ before ++ connect ∷ between
    pub connects : Grants mac 0 0x0101 relation connect
    pub asked : IsIn connect.came (sent_by false before)
    pub takes : AreTaken mac relation (before ++ connect ∷ []) between taken

  -- And PrmEnd was granted.
  pub record IsParameterized (turns : List Turn) (taken : List Written) : Type 0 where
    pub before : List Turn
    pub connect : Turn
    pub between : List Turn
    pub prm_end : Turn
    pub behind : List Turn
    pub parts : turns ≡ (before ++ connect ∷ between) ++ prm_end ∷ behind
    pub connects : Grants mac 0 0x0101 relation connect
    pub asked : IsIn connect.came (sent_by false before)
    pub takes : AreTaken mac relation (before ++ connect ∷ []) between taken
    pub ends : Grants mac 4 0x0110 relation prm_end

  pub begun_now : (turns : List Turn) (turn : Turn) → Grants mac 0 0x0101 relation turn → IsIn turn.came (sent_by false turns) → IsBegun (turns ++ turn ∷ []) []
  begun_now turns turn grants asked = record { before = turns; connect = turn; between = []; parts = refl; connects = grants; asked = asked; takes = refl }

  pub begun_more : (turns : List Turn) (turn : Turn) (taken now : List Written) → IsBegun turns taken → IsTakenAt turns turn now → IsBegun (turns ++ turn ∷ []) (taken ++ now)
  begun_more turns turn taken now it at = record {
    before = it.before;
    connect = it.connect;
    between = it.between ++ turn ∷ [];
    parts = ap (λ l. l ++ turn ∷ []) it.parts ∙ append_assoc it.before (it.connect ∷ it.between) (turn ∷ []);
    connects = it.connects;
    asked = it.asked;
    takes = taken_more (it.before ++ it.connect ∷ []) it.between taken turn now it.takes
        (subst (λ e. IsTakenAt e turn now) (it.parts ∙ sym (append_assoc it.before (it.connect ∷ []) it.between)) at);
  }

  abbrev pub parameterized_now : (turns : List Turn) (turn : Turn) (taken : List Written) → IsBegun turns taken → Grants mac 4 0x0110 relation turn → IsParameterized (turns ++ turn ∷ []) taken
  parameterized_now turns turn taken it grants = record {
    before = it.before;
    connect = it.connect;
    between = it.between;
    prm_end = turn;
    behind = [];
    parts = ap (λ l. l ++ turn ∷ []) it.parts;
    connects = it.connects;
    asked = it.asked;
    takes = it.takes;
    ends = grants;
  }

  abbrev pub parameterized_more : (turns : List Turn) (turn : Turn) (taken : List Written) → IsParameterized turns taken → IsParameterized (turns ++ turn ∷ []) taken
  parameterized_more turns turn taken it = record {
    before = it.before;
    connect = it.connect;
    between = it.between;
    prm_end = it.prm_end;
    behind = it.behind ++ turn ∷ [];
    parts = ap (λ l. l ++ turn ∷ []) it.parts ∙ append_assoc (it.before ++ it.connect ∷ it.between) (it.prm_end ∷ it.behind) (turn ∷ []);
    connects = it.connects;
    asked = it.asked;
    takes = it.takes;
    ends = it.ends;
  }

  -- A frame that the device sent since then, which is an ApplicationReady.
  abbrev pub IsReadySince : (turns : List Turn) (taken : List Written) → IsParameterized turns taken → List ℕ → Type 0
  IsReadySince turns taken it frame = IsIn frame (sent_by true (it.prm_end ∷ it.behind)) × (is_of 4 0x0112 relation (drop 42 frame) ≡ true)

  pub ready_more : (turns : List Turn) (turn : Turn) (taken : List Written) (it : IsParameterized turns taken) (frame : List ℕ) → IsReadySince turns taken it frame
      → IsReadySince (turns ++ turn ∷ []) taken (parameterized_more turns turn taken it) frame
  ready_more turns turn taken it frame ready = (sent_front true frame (it.prm_end ∷ it.behind) (turn ∷ []) ready.0, ready.1)

  pub ready_now : (turns : List Turn) (turn : Turn) (taken : List Written) (it : IsParameterized turns taken) (frame : List ℕ) → turn.at_device ≡ true → IsIn frame turn.sent
      → is_of 4 0x0112 relation (drop 42 frame) ≡ true → IsReadySince (turns ++ turn ∷ []) taken (parameterized_more turns turn taken it) frame
  ready_now turns turn taken it frame at there is = (sent_behind true frame (it.prm_end ∷ it.behind) (turn ∷ []) (sent_at true frame turn at there), is)

  pub ready_first : (turns : List Turn) (turn : Turn) (taken : List Written) (it : IsBegun turns taken) (grants : Grants mac 4 0x0110 relation turn) (frame : List ℕ) → turn.at_device ≡ true
      → IsIn frame turn.sent → is_of 4 0x0112 relation (drop 42 frame) ≡ true
      → IsReadySince (turns ++ turn ∷ []) taken (parameterized_now turns turn taken it grants) frame
  ready_first turns turn taken it grants frame at there is = (sent_at true frame turn at there, is)

  pub start_up : (turns : List Turn) (taken records : List Written) (it : IsParameterized turns taken) (frame : List ℕ) → IsReadySince turns taken it frame → taken ≡ records
      → IsStartUp mac relation records turns frame
  start_up turns taken records it frame ready same = record {
    before = it.before;
    connect = it.connect;
    between = it.between;
    prm_end = it.prm_end;
    behind = it.behind;
    parts = it.parts;
    connects = it.connects;
    asked = it.asked;
    takes = subst (λ (l : List Written). AreTaken mac relation (it.before ++ it.connect ∷ []) it.between l) same it.takes;
    ends = it.ends;
    sent = ready.0;
    is = ready.1;
  }
