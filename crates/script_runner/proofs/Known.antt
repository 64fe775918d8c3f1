-- The bytes that a writer got and a reader gave, if they are known.
use Rattle.std.proofs.Common.{◌≡◌, ◌≢◌, ℕ, ◌+◌, ◌<◌, List, [], ◌∷◌, ◌++◌, take, subst, Option, Some, None, IfSome, length, append_assoc, append-nil, arith, refl, ap, sym, ◌∙◌, length-append}
use Rattle.std.specs.Io.KnownBytes.{Appends, Keeps, Consumes, IsAtEnd}
use Rattle.script_runner.specs.Output.{AppendsFront, AppendsLess}

-- The writer got a prefix of the whole text, and this is the rest.
pub record IsSoFar (old new : Option (List ℕ)) (rest whole : List ℕ) : Type 0 where
  pub front : List ℕ
  pub parts : whole ≡ front ++ rest
  pub appended : Appends old new front

pub appends_none : (old : Option (List ℕ)) → Appends old old []
appends_none None = tt
appends_none (Some xs) = sym (append-nil xs)

pub appends_on : (old mid new : Option (List ℕ)) (a b : List ℕ) → Appends old mid a → Appends mid new b → Appends old new (a ++ b)
appends_on None mid new a b f g = tt
appends_on (Some xs) None new a b f g = absurd f
appends_on (Some xs) (Some ys) None a b f g = absurd g
appends_on (Some xs) (Some ys) (Some zs) a b f g = g ∙ ap (λ t. t ++ b) f ∙ append_assoc xs a b

pub same_keeps : (old : Option (List ℕ)) → Keeps old old
same_keeps None = tt
same_keeps (Some xs) = refl

keeps_appends : (old new : Option (List ℕ)) → Keeps old new → Appends old new []
keeps_appends None new k = tt
keeps_appends (Some xs) None k = absurd k
keeps_appends (Some xs) (Some ys) k = k ∙ sym (append-nil xs)

-- Nothing was written yet.
pub so_far_none : (old : Option (List ℕ)) (whole : List ℕ) → IsSoFar old old whole whole
so_far_none old whole = record { front = []; parts = refl; appended = appends_none old }

-- More was written.
pub so_far_on : (old mid new : Option (List ℕ)) (rest later whole text : List ℕ) → IsSoFar old mid rest whole → rest ≡ text ++ later → Appends mid new text → IsSoFar old new later whole
so_far_on old mid new rest later whole text so e f = record {
  front = so.front ++ text;
  parts = so.parts ∙ ap (λ t. so.front ++ t) e ∙ sym (append_assoc so.front text later);
  appended = appends_on old mid new so.front text so.appended f;
}

-- All was written.
pub so_far_all : (old new : Option (List ℕ)) (rest whole : List ℕ) → IsSoFar old new rest whole → rest ≡ [] → Appends old new whole
so_far_all old new rest whole so e =
    let same : whole ≡ so.front = so.parts ∙ ap (λ t. so.front ++ t) e ∙ append-nil so.front in
    rw same so.appended

-- A prefix of the rest was written after it.
pub so_far_front : (old mid new : Option (List ℕ)) (rest whole : List ℕ) → IsSoFar old mid rest whole → AppendsFront mid new rest → AppendsFront old new whole
so_far_front old mid new rest whole so more = record {
  front = so.front ++ more.front;
  behind = more.behind;
  parts = so.parts ∙ ap (λ t. so.front ++ t) more.parts ∙ sym (append_assoc so.front more.front more.behind);
  appended = appends_on old mid new so.front more.front so.appended more.appended;
}

-- A writer that got nothing got a prefix of any text.
pub keeps_front : (old new : Option (List ℕ)) (text : List ℕ) → Keeps old new → AppendsFront old new text
keeps_front old new text k = record { front = []; behind = text; parts = refl; appended = keeps_appends old new k }

-- The empty text is a prefix of any text.
pub none_front : (old : Option (List ℕ)) (text : List ℕ) → AppendsFront old old text
none_front old text = record { front = []; behind = text; parts = refl; appended = appends_none old }

-- A text is a prefix of itself.
pub all_front : (old new : Option (List ℕ)) (text : List ℕ) → Appends old new text → AppendsFront old new text
all_front old new text all = record { front = text; behind = []; parts = sym (append-nil text); appended = all }

-- A prefix of a text is a prefix of a longer one.
pub front_longer : (old new : Option (List ℕ)) (text more : List ℕ) → AppendsFront old new text → AppendsFront old new (text ++ more)
front_longer old new text more f = record {
  front = f.front;
  behind = f.behind ++ more;
  parts = ap (λ t. t ++ more) f.parts ∙ append_assoc f.front f.behind more;
  appended = f.appended;
}

-- ---- less than a text

not_nil : (octets more : List ℕ) → octets ≢ [] → octets ++ more ≢ []
not_nil [] more some e = some refl
not_nil (octet ∷ octets) more some e = cc

pub some_left : (octets : List ℕ) → 0 < length octets → octets ≢ []
some_left [] less e = absurd (omega (arith, less))
some_left (octet ∷ octets) less e = cc

-- Less than the whole was written so far, and a write failed.
pub so_far_less : (old mid new : Option (List ℕ)) (rest whole : List ℕ) → IsSoFar old mid rest whole → Keeps mid new → 0 < length rest → AppendsLess old new whole
unfolding keeps_front so_far_front
so_far_less old mid new rest whole so k some = (so_far_front old mid new rest whole so (keeps_front mid new rest k), some_left rest some)

-- Less than the whole was written so far, and a write wrote nothing.
pub so_far_still : (old mid new : Option (List ℕ)) (rest whole : List ℕ) (taken : ℕ) → IsSoFar old mid rest whole → Appends mid new (take taken rest) → taken ≡ 0 → 0 < length rest → AppendsLess old new whole
unfolding so_far_front
so_far_still old mid new rest whole taken so f none some =
    (so_far_front old mid new rest whole so (record { front = []; behind = rest; parts = refl; appended = subst (λ n. Appends mid new (take n rest)) none f }), some_left rest some)

-- Less than the rest is less than the whole.
pub so_far_lacking : (old mid new : Option (List ℕ)) (rest whole : List ℕ) → IsSoFar old mid rest whole → AppendsLess mid new rest → AppendsLess old new whole
unfolding so_far_front
so_far_lacking old mid new rest whole so less = (so_far_front old mid new rest whole so less.0, less.1)

-- Less than a text is less than a longer one.
pub lacking_longer : (old new : Option (List ℕ)) (text more : List ℕ) → AppendsLess old new text → AppendsLess old new (text ++ more)
unfolding front_longer
lacking_longer old new text more less = (front_longer old new text more less.0, not_nil less.0.behind more less.1)

-- ---- readers

pub consumes_none : (old : Option (List ℕ)) → Consumes old old []
consumes_none None = tt
consumes_none (Some xs) = refl

pub consumes_on : (old mid new : Option (List ℕ)) (a b : List ℕ) → Consumes old mid a → Consumes mid new b → Consumes old new (a ++ b)
consumes_on None mid new a b f g = tt
consumes_on (Some xs) None new a b f g = absurd f
consumes_on (Some xs) (Some ys) None a b f g = absurd g
consumes_on (Some xs) (Some ys) (Some zs) a b f g = f ∙ ap (λ t. a ++ t) g ∙ sym (append_assoc a b zs)

-- At its end a reader gave all its bytes.
pub consumed_all : (old mid new : Option (List ℕ)) (input : List ℕ) → Consumes old mid input → Consumes mid new [] → IsAtEnd new → IfSome old (λ bytes. input ≡ bytes)
consumed_all None mid new input f g e = tt
consumed_all (Some xs) None new input f g e = absurd f
consumed_all (Some xs) (Some ys) None input f g e = absurd g
consumed_all (Some xs) (Some ys) (Some zs) input f g e = sym (f ∙ ap (λ t. input ++ t) (g ∙ e) ∙ append-nil input)

-- A reader gave more than the limit.
pub consumed_more : (old mid new : Option (List ℕ)) (input more : List ℕ) (limit : ℕ) → Consumes old mid input → Consumes mid new more → limit < length input + length more → IfSome old (λ bytes. limit < length bytes)
consumed_more None mid new input more limit f g h = tt
consumed_more (Some xs) None new input more limit f g h = absurd f
consumed_more (Some xs) (Some ys) None input more limit f g h = absurd g
consumed_more (Some xs) (Some ys) (Some zs) input more limit f g h =
    let e : length xs ≡ length (input ++ (more ++ zs)) = ap length (f ∙ ap (λ t. input ++ t) g) in
    let e2 = simp length-append at e in
    omega arith
