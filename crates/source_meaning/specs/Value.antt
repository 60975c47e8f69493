-- Values (Language Manual, chapters 2 and 3), and how parts of them are found, changed and put in order.
use Rattle.std.specs.Prelude.{ℕ, zero, suc, List, [], ◌∷◌, nat_eq, if◌then◌else◌}
use Rattle.mesa_types.specs.Typed.{Kind, Ordinal, Longs, Texts, Array, Record, Kinds, NoKinds, AndKind}

-- a word, a number of a LONG type as its two words spell it, the bytes of a string, or the elements of an array or the fields of
-- a record
mutual
  pub data Value : Type 0 where
    Word : ℕ → Value
    Long : ℕ → Value
    Text : List ℕ → Value
    Many : Values → Value

  pub data Values : Type 0 where
    NoValues : Values
    AndValue : Value → Values → Values

unfoldable pub word : Value → ℕ
word (Word n) = n
word _ = 0

unfoldable pub long : Value → ℕ
long (Long n) = n
long _ = 0

unfoldable pub bytes : Value → List ℕ
bytes (Text t) = t
bytes _ = []

unfoldable pub parts : Value → Values
parts (Many vs) = vs
parts _ = NoValues

unfoldable pub nth : Values → ℕ → Value
nth NoValues _ = Word 0
nth (AndValue v vs) zero = v
nth (AndValue v vs) (suc n) = nth vs n

-- past the end zeros are put in, so that any place can be written
unfoldable pub with_nth : Values → ℕ → Value → Values
with_nth NoValues zero x = AndValue x NoValues
with_nth NoValues (suc n) x = AndValue (Word 0) (with_nth NoValues n x)
with_nth (AndValue v vs) zero x = AndValue x vs
with_nth (AndValue v vs) (suc n) x = AndValue v (with_nth vs n x)

unfoldable pub one : Value → Values
one v = AndValue v NoValues

unfoldable pub join : Values → Values → Values
join NoValues ws = ws
join (AndValue v vs) ws = AndValue v (join vs ws)

unfoldable pub how_many : Values → ℕ
how_many NoValues = 0
how_many (AndValue v vs) = suc (how_many vs)

-- from this place on, these values
unfoldable pub with_from : Values → ℕ → Values → Values
with_from vs n NoValues = vs
with_from vs n (AndValue w ws) = with_from (with_nth vs n w) (suc n) ws

-- so many values, from this place on
unfoldable pub some_from : Values → ℕ → ℕ → Values
some_from vs n zero = NoValues
some_from vs n (suc count) = AndValue (nth vs n) (some_from vs (suc n) count)

-- the value that is for this place
unfoldable pub find_place : List ℕ → Values → ℕ → Value
find_place [] vs n = Word 0
find_place (p ∷ ps) NoValues n = Word 0
find_place (p ∷ ps) (AndValue v vs) n = if nat_eq p n then v else find_place ps vs n

-- one value for each of these, from place n on
unfoldable pub arranged_from : ℕ → List ℕ → List ℕ → Values → Values
arranged_from n [] places vs = NoValues
arranged_from n (q ∷ qs) places vs = AndValue (find_place places vs n) (arranged_from (suc n) qs places vs)

-- the values in the order of their places; where no places are said they stand in order
unfoldable pub arrange : List ℕ → Values → Values
arrange [] vs = vs
arrange (p ∷ ps) vs = arranged_from 0 (p ∷ ps) (p ∷ ps) vs

unfoldable pub copies : ℕ → Value → Values
copies zero v = NoValues
copies (suc n) v = AndValue v (copies n v)

-- what a variable of a kind holds before anything is given to it
unfoldable mutual
  pub zero_of : Kind → Value
  zero_of Ordinal = Word 0
  zero_of Longs = Long 0
  zero_of Texts = Text []
  zero_of (Array n k) = Many (copies n (zero_of k))
  zero_of (Record ks) = Many (zeros ks)

  pub zeros : Kinds → Values
  zeros NoKinds = NoValues
  zeros (AndKind k ks) = AndValue (zero_of k) (zeros ks)

-- the part of a value along a path of places, and the value with another part there
unfoldable pub part_at : List ℕ → Value → Value
part_at [] v = v
part_at (p ∷ ps) v = part_at ps (nth (parts v) p)

unfoldable pub with_part : List ℕ → Value → Value → Value
with_part [] v x = x
with_part (p ∷ ps) v x = Many (with_nth (parts v) p (with_part ps (nth (parts v) p) x))

-- values that are places, as a path
unfoldable pub path_of : Values → List ℕ
path_of NoValues = []
path_of (AndValue v vs) = word v ∷ path_of vs
