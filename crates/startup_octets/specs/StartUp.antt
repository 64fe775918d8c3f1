-- A start-up, said of the octets that came to the two ends and of those that they sent.
use Rattle.std.specs.Prelude.{◌≡◌, ◌⊎◌, ◌+◌, ◌*◌, ◌/◌, ◌==◌, ◌&&◌, ℕ, zero, suc, Bool, true, false, nat_lt, nat_eq, List, [], ◌∷◌, ◌++◌, take, drop, zip, flat_map, filter_map, Option, Some, None, if◌then◌else◌}
use Rattle.std.specs.Cmp.Lexicographic.{pointwise}
use Rattle.pn_values.specs.declared.mac.Mac.{Mac}
use Rattle.std.specs.List.{list_any}
use Rattle.octets_law.specs.Octets.{Asking, Set, Call, Nothing, args_of, asking_in, called, in_order, number, part, statuses, untagged}

-- A turn of an end: the frame that came to it, or no octets, and the frames that it then sent.
pub record Turn : Type 0 where
  pub at_device : Bool
  pub came : List ℕ
  pub sent : List (List ℕ)

-- The frames that the device sent, and those that the controller sent.
abbrev pub sent_by : Bool → List Turn → List (List ℕ)
sent_by true turns = flat_map (λ (turn : Turn). if turn.at_device then turn.sent else []) turns
sent_by false turns = flat_map (λ (turn : Turn). if turn.at_device then [] else turn.sent) turns

-- A frame is one of these.
abbrev pub IsIn : List ℕ → List (List ℕ) → Type 0
IsIn frame [] = ⊥
IsIn frame (one ∷ others) = (frame ≡ one) ⊎ IsIn frame others

-- ---- records (IEC 61158-6-10, 5.2.3)

-- A parameter record.
pub record Written : Type 0 where
  pub slot : ℕ
  pub subslot : ℕ
  pub index : ℕ
  pub octets : List ℕ

-- The parameter record after a header of 64 octets: slot 28, subslot 30, index 34, RecordDataLength 36.
abbrev pub parameter_in : List ℕ → Option Written
parameter_in header = if nat_lt (number 34 2 header) 0x8000 then Some (record {
  slot = number 28 2 header;
  subslot = number 30 2 header;
  index = number 34 2 header;
  octets = part 64 (number 36 4 header) header;
}) else None

-- Records one after another, each at a place that is a multiple of 4.
abbrev pub parameters_in : ℕ → List ℕ → List (Option Written)
parameters_in zero octets = []
parameters_in (suc most) [] = []
parameters_in (suc most) (first ∷ behind) =
    let octets = first ∷ behind in
    parameter_in octets ∷ parameters_in most (drop (64 + (number 36 4 octets + 3) / 4 * 4) octets)

-- What the blocks of a Write carry: one record, or the header of a list (index 0xE040) and the records of the list.
abbrev pub parameters_by : List ℕ → List (Option Written)
parameters_by blocks = if number 34 2 blocks == 0xE040 then None ∷ parameters_in 16 (drop 64 blocks) else parameter_in blocks ∷ []

-- ---- calls

-- The call has this operation, and its first block has this type and this ARUUID.
abbrev pub is_of : ℕ → ℕ → List ℕ → List ℕ → Bool
is_of operation type relation call =
    in_order 68 2 call == operation && (number 0 2 (args_of call) == type && pointwise nat_eq (part 8 16 (args_of call)) relation)

-- One frame answers the call, with PNIOStatus 0.
abbrev pub is_granted : List ℕ → List (List ℕ) → Bool
is_granted call sent = pointwise nat_eq (flat_map (λ frame. take 1 (statuses call frame)) sent) (0 ∷ [])

-- The call or the Set that came to the device.
abbrev pub asking_at : Mac → Turn → Asking
asking_at mac turn = asking_in mac (untagged turn.came)

-- Whether what came is a call of this operation, type of block and relation, which these frames answer positively.
abbrev pub is_granted_of : ℕ → ℕ → List ℕ → Asking → List (List ℕ) → Bool
is_granted_of operation type relation (Call call) sent = is_of operation type relation call && is_granted call sent
is_granted_of operation type relation (Set frame) sent = false
is_granted_of operation type relation Nothing sent = false

-- The device grants a call of this operation, with this type of block, in this relation.
abbrev pub Grants : Mac → ℕ → ℕ → List ℕ → Turn → Type 0
Grants mac operation type relation turn =
    (turn.at_device ≡ true) × (is_granted_of operation type relation (asking_at mac turn) turn.sent ≡ true)

-- The records of this relation that the device confirms.
abbrev pub confirmed_by : List ℕ → Asking → List (List ℕ) → List Written
confirmed_by relation (Call call) sent =
    if is_of 3 0x0008 relation call
    then filter_map (λ (one : Option Written × ℕ). if one.1 == 0 then one.0 else None) (zip (parameters_by (args_of call)) (flat_map (statuses call) sent))
    else []
confirmed_by relation (Set frame) sent = []
confirmed_by relation Nothing sent = []

-- The name of a call: its activity and its sequence number. The names of all calls that came to the device.
abbrev pub names_in : Asking → List (List ℕ)
names_in (Call call) = called call ∷ []
names_in (Set frame) = []
names_in Nothing = []

-- The names (activity and sequence number) of the calls that came to the device in these turns.
abbrev pub names_at : Mac → List Turn → List (List ℕ)
names_at mac turns = flat_map (λ (turn : Turn). if turn.at_device then names_in (asking_at mac turn) else []) turns

-- Whether a call has one of these names.
abbrev pub repeats : Asking → List (List ℕ) → Bool
repeats asking names = list_any (λ name. list_any (pointwise nat_eq name) names) (names_in asking)

-- The records that the device accepts in these turns, in order. A call that repeats an earlier one can be answered again
-- without being carried out again.
abbrev pub AreTaken : Mac → List ℕ → List Turn → List Turn → List Written → Type 0
AreTaken mac relation earlier [] taken = taken ≡ []
AreTaken mac relation earlier (turn ∷ turns) taken =
    let asking = asking_at mac turn in
    (now : List Written) × (later : List Written) × (taken ≡ now ++ later)
    × ((now ≡ confirmed_by relation asking (if turn.at_device then turn.sent else [])) ⊎ ((repeats asking (names_at mac earlier) ≡ true) × (now ≡ [])))
    × AreTaken mac relation (earlier ++ turn ∷ []) turns later

-- ---- the law

-- The controller answers the call in a frame that came, with PNIOStatus 0.
pub record Answers (turn : Turn) : Type 0 where
  pub at_controller : turn.at_device ≡ false
  pub granted : is_granted (drop 42 turn.came) turn.sent ≡ true

-- Before: the device granted the Connect (operation 0) that the controller had sent; accepted the records in order, each
-- once; granted PrmEnd (operation 4); and then sent the call that the controller answered, an ApplicationReady
-- (operation 4) of this relation.
pub record IsStartUp (mac : Mac) (relation : List ℕ) (records : List Written) (turns : List Turn) (ready : List ℕ) : Type 0 where
  pub before : List Turn
  pub connect : Turn
  pub between : List Turn
  pub prm_end : Turn
  pub behind : List Turn
  pub parts : turns ≡ (before ++ connect ∷ between) ++ prm_end ∷ behind
  pub connects : Grants mac 0 0x0101 relation connect
  pub asked : IsIn connect.came (sent_by false before)
  pub takes : AreTaken mac relation (before ++ connect ∷ []) between records
  pub ends : Grants mac 4 0x0110 relation prm_end
  pub sent : IsIn ready (sent_by true (prm_end ∷ behind))
  pub is : is_of 4 0x0112 relation (drop 42 ready) ≡ true

-- The call is the ApplicationReady of a plug in this relation (operation 4), after such a start-up.
pub record IsPlugReady (mac : Mac) (relation : List ℕ) (records : List Written) (turns : List Turn) (call : List ℕ) : Type 0 where
  pub ready : List ℕ
  pub started : IsStartUp mac relation records turns ready
  pub is : is_of 4 0x0113 relation (drop 42 (untagged call)) ≡ true

-- The call is an ApplicationReady: of the relation, or of a plug in it.
abbrev pub IsReadyCall : Mac → List ℕ → List Written → List Turn → List ℕ → Type 0
IsReadyCall mac relation records turns call = IsStartUp mac relation records turns call ⊎ IsPlugReady mac relation records turns call

-- Each frame that came was sent before.
abbrev pub AreDelivered : List (List ℕ) → List Turn → Type 0
AreDelivered sent [] = Unit {0}
AreDelivered sent (turn ∷ turns) = ((turn.came ≡ []) ⊎ IsIn turn.came sent) × AreDelivered (sent ++ turn.sent) turns

-- Each call that the controller answers positively is an ApplicationReady after such a start-up.
abbrev pub AreStartUps : Mac → List ℕ → List Written → List Turn → Type 0
AreStartUps mac relation records turns =
    (front : List Turn) (turn : Turn) (behind : List Turn) → turns ≡ front ++ turn ∷ behind → Answers turn
    → IsReadyCall mac relation records front turn.came
