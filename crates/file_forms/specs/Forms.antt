-- Forms of files: which values have a spelling, what it is, how bytes are read from the left, and when reading meets a field
-- that breaks its rule. A form is made of smaller ones, so each row of a format is one definition (rule of this project).
use Rattle.std.specs.Prelude.{◌≡◌, ℕ, zero, suc, ◌+◌, ◌*◌, ◌^◌, ◌<◌, ◌⊎◌, Bool, true, false, List, [], ◌∷◌, ◌++◌, length, take, drop, get_or, Option, Some, None, Result, Ok, Err, nat_lt, nat_le, ◌&&◌, IsTrue, IsSomeAnd, if◌then◌else◌}
use Rattle.std.specs.Int.{bytes_high_first}
use Rattle.mesa_base.specs.declared.file_fault.Field.{Field}
use Rattle.mesa_base.specs.declared.file_fault.Field.TheVariants.{Length}
use Rattle.file_forms.specs.declared.stopped.Stopped.{Stopped}
use Rattle.file_forms.specs.declared.stopped.Stopped.TheVariants.{Cut, Bad}

-- what was read with the bytes behind it, or why reading stopped
abbrev pub Reading : Type 0 → Type 0
Reading A = Result (A × List ℕ) Stopped

infixl 10 ◌>>=◌
abbrev pub ◌>>=◌ : {A B : Type 0} → Result A Stopped → (A → Result B Stopped) → Result B Stopped
(Ok x) >>= f = f x
(Err why) >>= f = Err why

pub record Form (A : Type 0) : Type 1 where
  -- the values that have a spelling
  pub fits : A → Type 0
  pub spell : A → List ℕ
  -- the value that the bytes begin with, and the bytes behind it
  pub read : List ℕ → Reading A
  -- the first field that breaks its rule, all before it meeting theirs
  pub breaks : List ℕ → Stopped → Type 0

-- the bytes begin with the spelling of the value, and the rest follows
pub record Spells {A : Type 0} (f : Form A) (a : A) (bytes rest : List ℕ) : Type 0 where
  pub fits : f.fits a
  pub text : bytes ≡ f.spell a ++ rest

-- behind what the bytes begin with
abbrev pub Past : {A : Type 0} → Form A → List ℕ → (A → List ℕ → Type 0) → Type 0
Past {A} f bytes P = (a : A) × (rest : List ℕ) × Spells f a bytes rest × P a rest

abbrev pub AreBytes : List ℕ → Type 0
AreBytes bytes = (i : ℕ) → get_or bytes i 0 < 256

-- the bytes are fewer than the field has
abbrev pub IsShort : ℕ → List ℕ → Stopped → Type 0
IsShort n bytes why = (length bytes < n) × (why ≡ Cut)

-- the number of bytes, of which the highest stands first
abbrev pub number_in : List ℕ → ℕ
number_in [] = 0
number_in (b ∷ bytes) = b * 256 ^ length bytes + number_in bytes

-- a number of so many bytes
abbrev pub number : ℕ → Form ℕ
number size = record {
  fits = λ n. n < 256 ^ size;
  spell = λ n. bytes_high_first size n;
  read = λ bytes. if nat_lt (length bytes) size then Err Cut else Ok (number_in (take size bytes), drop size bytes);
  breaks = IsShort size;
}

-- so many bytes as they are
abbrev pub raw : ℕ → Form (List ℕ)
raw size = record {
  fits = λ text. (length text ≡ size) × AreBytes text;
  spell = λ text. text;
  read = λ bytes. if nat_lt (length bytes) size then Err Cut else Ok (take size bytes, drop size bytes);
  breaks = IsShort size;
}

-- this value, which takes no bytes
abbrev pub always : {A : Type 0} → A → Form A
always x = record {
  fits = λ a. a ≡ x;
  spell = λ a. [];
  read = λ bytes. Ok (x, bytes);
  breaks = λ bytes why. ⊥;
}

-- one behind the other; the first may say in what form the second is
abbrev pub pair : {A B : Type 0} → Form A → (A → Form B) → Form (A × B)
pair f g = record {
  fits = λ p. f.fits p.0 × (g p.0).fits p.1;
  spell = λ p. f.spell p.0 ++ (g p.0).spell p.1;
  read = λ bytes. f.read bytes >>= λ x. (g x.0).read x.1 >>= λ y. Ok ((x.0, y.0), y.1);
  breaks = λ bytes why. f.breaks bytes why ⊎ Past f bytes (λ a rest. (g a).breaks rest why);
}

-- first what tells the form of the value, as a tag or a count, and then the value in that form
abbrev pub led : {A B : Type 0} → (B → A) → Form A → (A → Form B) → Form B
led tells f g = record {
  fits = λ b. f.fits (tells b) × (g (tells b)).fits b;
  spell = λ b. f.spell (tells b) ++ (g (tells b)).spell b;
  read = λ bytes. f.read bytes >>= λ x. (g x.0).read x.1;
  breaks = λ bytes why. f.breaks bytes why ⊎ Past f bytes (λ a rest. (g a).breaks rest why);
}

-- with a rule on the whole, whose fault is at its first byte
abbrev pub ruled : {A : Type 0} → Form A → (A → Bool) → Field → Form A
ruled f test field = record {
  fits = λ a. f.fits a × IsTrue (test a);
  spell = f.spell;
  read = λ bytes. f.read bytes >>= λ x. if test x.0 then Ok x else Err (Bad field (length bytes));
  breaks = λ bytes why. f.breaks bytes why ⊎ Past f bytes (λ a rest. (test a ≡ false) × (why ≡ Bad field (length bytes)));
}

-- the value that is made of these parts
abbrev pub built : {A B : Type 0} → (A → B) → (B → A) → Form A → Form B
built make parts f = record {
  fits = λ b. f.fits (parts b);
  spell = λ b. f.spell (parts b);
  read = λ bytes. f.read bytes >>= λ x. Ok (make x.0, x.1);
  breaks = f.breaks;
}

abbrev pub spell_some : {A : Type 0} → Form A → Option A → List ℕ
spell_some f None = []
spell_some f (Some a) = f.spell a

-- the same of a value that may be made of other parts
abbrev pub variant : {A B : Type 0} → (A → B) → (B → Option A) → Form A → Form B
variant make parts f = record {
  fits = λ b. IsSomeAnd (parts b) f.fits;
  spell = λ b. spell_some f (parts b);
  read = λ bytes. f.read bytes >>= λ x. Ok (make x.0, x.1);
  breaks = f.breaks;
}

-- values one behind the other, each in a form that those before it may narrow
unfoldable pub FitEach : {A : Type 0} → (List A → Form A) → List A → List A → Type 0
FitEach each before [] = Unit {0}
FitEach each before (a ∷ more) = (each before).fits a × FitEach each (before ++ a ∷ []) more

unfoldable pub spell_each : {A : Type 0} → (List A → Form A) → List A → List A → List ℕ
spell_each each before [] = []
spell_each each before (a ∷ more) = (each before).spell a ++ spell_each each (before ++ a ∷ []) more

-- so many more, behind those before
unfoldable pub read_each : {A : Type 0} → (List A → Form A) → ℕ → List A → List ℕ → Reading (List A)
read_each each zero before bytes = Ok (before, bytes)
read_each each (suc n) before bytes = (each before).read bytes >>= λ x. read_each each n (before ++ x.0 ∷ []) x.1

unfoldable pub BreakEach : {A : Type 0} → (List A → Form A) → ℕ → List A → List ℕ → Stopped → Type 0
BreakEach each zero before bytes why = ⊥
BreakEach each (suc n) before bytes why =
    (each before).breaks bytes why ⊎ Past (each before) bytes (λ a rest. BreakEach each n (before ++ a ∷ []) rest why)

abbrev pub several : {A : Type 0} → ℕ → (List A → Form A) → Form (List A)
several n each = record {
  fits = λ all. (length all ≡ n) × FitEach each [] all;
  spell = λ all. spell_each each [] all;
  read = λ bytes. read_each each n [] bytes;
  breaks = λ bytes why. BreakEach each n [] bytes why;
}

-- a count, and so many
abbrev pub list : {A : Type 0} → (ℕ → Bool) → (List A → Form A) → Form (List A)
list test each = led length (ruled (number 4) test Length) (λ n. several n each)

-- one of two, by a test
abbrev pub choose : {A : Type 0} → Bool → Form A → Form A → Form A
choose true f g = f
choose false f g = g

-- counts
abbrev pub at_least : ℕ → ℕ → Bool
at_least least n = nat_le least n

abbrev pub between : ℕ → ℕ → ℕ → Bool
between least most n = nat_le least n && nat_le n most
