-- Formats: which bytes spell a value, what is written, and what is read.
use Rattle.std.specs.Prelude.{◌≡◌, ◌+◌, ℕ, List, [], ◌++◌, length, Result, Ok, Err}

-- A format that more bytes may follow: of values of A, with faults of F.
pub record Codec (F A : Type 0) : Type 1 where
  -- the first bytes spell this value, followed by the last bytes
  pub Spells : List ℕ → A → List ℕ → Type 0
  -- the spelling that is written, with what follows it
  pub write : A → List ℕ → List ℕ
  -- how many bytes are written
  pub size : A → ℕ
  -- what can be written
  pub Fits : A → Type 0
  -- the value at the front and the bytes after it, or the first fault
  pub read : List ℕ → Result (A × List ℕ) F

-- A format of all the bytes given.
pub record Whole (F A : Type 0) : Type 1 where
  -- all of these bytes together spell this value
  pub Spells : List ℕ → A → Type 0
  -- the spelling that is written
  pub write : A → List ℕ
  -- how many bytes are written
  pub size : A → ℕ
  -- what can be written
  pub Fits : A → Type 0
  -- the value, or the first fault
  pub read : List ℕ → Result A F

-- The laws of a format that the combinators make.
pub record IsSound {F A : Type 0} (codec : Codec F A) : Type 0 where
  -- what is read is spelled by the bytes
  pub takes : (bytes : List ℕ) (value : A) (rest : List ℕ) → codec.read bytes ≡ Ok (value, rest) → codec.Spells bytes value rest
  -- what is spelled is read
  pub again : (bytes : List ℕ) (value : A) (rest : List ℕ) → codec.Spells bytes value rest → codec.read bytes ≡ Ok (value, rest)
  -- what is written is spelled
  pub written : (value : A) (rest : List ℕ) → codec.Fits value → codec.Spells (codec.write value rest) value rest
  -- what is written does not depend on what follows
  pub local : (value : A) (rest : List ℕ) → codec.write value rest ≡ codec.write value [] ++ rest
  -- the number of bytes written is the size
  pub sized : (value : A) (rest : List ℕ) → length (codec.write value rest) ≡ codec.size value + length rest

-- Bytes that spell a value still spell it with more bytes after them.
pub record IsOnward {F A : Type 0} (codec : Codec F A) : Type 0 where
  pub onward : (bytes : List ℕ) (value : A) (rest more : List ℕ) → codec.Spells bytes value rest → codec.Spells (bytes ++ more) value (rest ++ more)

-- The laws of a format of all the bytes, as the combinators make it.
pub record IsSoundWhole {F A : Type 0} (whole : Whole F A) : Type 0 where
  -- what is read is spelled by the bytes
  pub takes : (bytes : List ℕ) (value : A) → whole.read bytes ≡ Ok value → whole.Spells bytes value
  -- what is spelled is read
  pub again : (bytes : List ℕ) (value : A) → whole.Spells bytes value → whole.read bytes ≡ Ok value
  -- what is written is spelled
  pub written : (value : A) → whole.Fits value → whole.Spells (whole.write value) value
  -- the number of bytes written is the size
  pub sized : (value : A) → length (whole.write value) ≡ whole.size value

-- A function of the code returned what reading gives, seen through `view`.
abbrev pub Gives : {X Y F : Type 0} → (X → Y) → Result X F → Result Y F → Type 0
Gives view (Ok x) read = read ≡ Ok (view x)
Gives view (Err fault) read = read ≡ Err fault

-- One reading step after another: the first fault is the fault of both.
infixl 10 ◌>>=◌
abbrev pub ◌>>=◌ : {F A B : Type 0} → Result A F → (A → Result B F) → Result B F
(Ok value) >>= next = next value
(Err fault) >>= next = Err fault
