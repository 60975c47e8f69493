-- The law of operators. For each leaf, check, conversion, index, and operator but AND and OR of an expression: where its own code stands for
-- it, its operands' left out, the machine takes the words of the operands' values to the words of the value that it means, or raises there the
-- predeclared signal that is raised there; up to there it spends no turn and changes no variable. The word of an ordinal value is that
-- value's; a LONG number has two, the more significant one first.
use Rattle.std.specs.Prelude.{◌≡◌, ℕ, suc, ◌+◌, ◌*◌, ◌<◌, List, [], ◌∷◌, ◌++◌, length, Bool, not}
use Rattle.mesa_types.specs.declared.typed_parts.Base.{Base}
use Rattle.mesa_types.specs.declared.typed_parts.Bases.{Bases}
use Rattle.mesa_types.specs.declared.typed_parts.Conversion.{Conversion}
use Rattle.mesa_types.specs.declared.typed_parts.Conversion.TheVariants.{Kept, Widened, Narrowed, InCommon}
use Rattle.mesa_types.specs.declared.typed_parts.Home.{Home}
use Rattle.mesa_types.specs.declared.typed_parts.Home.TheVariants.{Global, Local}
use Rattle.mesa_types.specs.declared.typed_parts.Operator.{Operator}
use Rattle.mesa_types.specs.declared.typed_parts.Range.{Range}
use Rattle.mesa_base.specs.declared.relation.Relation.{Relation}
use Rattle.mesa_types.specs.Operators.{Tried, Fine, Faulty, wrap, opposite, related, lies_in, truth, is_true, checked, tried, indexed, byte_at}
use Rattle.mesa_types.specs.Longs.{two_words, opposite_long, related_long, lies_in_long, tried_long, converted}
use Rattle.mesa_types.specs.Typed.{Kind, Ordinal, Longs, Texts, Array, Record, Kinds, NoKinds, AndKind}
use Rattle.mesa_types.specs.Shapes.{one, words_in, words_in_all, KindAt, words_before}
use Rattle.mesa_types.specs.Sound.{Arranged}
use Rattle.source_meaning.specs.Value.{Value, Values, Text, nth, part_at, arrange}
use Rattle.source_meaning.specs.Value as value
use Rattle.code_forms.specs.declared.instruction.Instruction.TheVariants as i
use Rattle.code_forms.specs.declared.instruction.Instruction.{Instruction}
use Rattle.object_files.specs.declared.image.Image.{Image}
use Rattle.machine_rules.specs.LookUps.{text_of}
use Rattle.code_rules.specs.OwnCode.{long_code, check_code, conversion_code, field_code, index_code, relation_code, long_relation_code, operator_code, long_operator_code, within_code, long_within_code, arrange_code}
use Rattle.code_rules.specs.Reading.{Coded, scratch}
use Rattle.code_rules.specs.Slots.{load, load_within}
use Rattle.agreement_rules.specs.Layout.{Strings, slots_of, values_at, Show}
use Rattle.agreement_rules.specs.Own.{Outcome, Given, Raised, outcome, long_outcome, Does}
use Rattle.agreement_rules.specs.Reaches.{Takes}

-- the words of each of some kinds
abbrev pub sizes_of : Kinds → List ℕ
sizes_of NoKinds = []
sizes_of (AndKind k ks) = words_in k ∷ sizes_of ks

-- from a value of kind j the path of fields and elements leads to a part of kind k, so many words from its beginning
unfoldable pub PathAt : List ℕ → Kind → Kind → (offset : ℕ) → Type 0
PathAt [] j k d = (j ≡ k) × (d ≡ 0)
PathAt (n ∷ path) Ordinal k d = ⊥
PathAt (n ∷ path) Longs k d = ⊥
PathAt (n ∷ path) Texts k d = ⊥
PathAt (n ∷ path) (Record ks) k d = (part : Kind) × (e : ℕ) × KindAt ks n part × PathAt path part k e × (d ≡ words_before ks n + e)
PathAt (n ∷ path) (Array count part) k d = (e : ℕ) × (n < count) × PathAt path part k e × (d ≡ n * words_in part + e)

-- the variable is of this kind, and its value is among those of the frame or of the instance
abbrev pub VariableOf : Coded → Home → Kind → Type 0
VariableOf P (Local n) k = KindAt P.locals n k
VariableOf P (Global n) k = KindAt P.globals n k

abbrev pub value_of : (frame instance : Values) → Home → Value
value_of frame instance (Local n) = nth frame n
value_of frame instance (Global n) = nth instance n

-- variables lie in their slots; of what lies behind them nothing is said
pub record Lies (texts : Strings) (ks : Kinds) (vs : Values) (words : List ℕ) : Type 0 where
  pub worth : vs ≡ values_at texts (slots_of words) 0 ks
  pub small : (n : ℕ) → n < words_in_all ks → slots_of words n < 65536

-- the words that a conversion takes, and what it comes to
unfoldable pub words_for : Conversion → ℕ → List ℕ
words_for Kept n = two_words n
words_for (Widened from to) n = n ∷ []
words_for (Narrowed from to r) n = two_words n
words_for InCommon n = two_words n

unfoldable pub outcome_by : Conversion → Tried → Outcome
outcome_by Kept t = long_outcome t
outcome_by (Widened from to) t = long_outcome t
outcome_by (Narrowed from to r) t = outcome t
outcome_by InCommon t = long_outcome t

-- what a conversion takes is a word, or two
unfoldable pub IsTakenBy : Conversion → ℕ → Type 0
IsTakenBy Kept n = n < 4294967296
IsTakenBy (Widened from to) n = n < 65536
IsTakenBy (Narrowed from to r) n = n < 4294967296
IsTakenBy InCommon n = n < 4294967296

-- an element, as the offset of its first word; or the fault
unfoldable pub offset_of : (offset words : ℕ) → Tried → Outcome
offset_of o z (Fine e) = Given (wrap (o + e * z) ∷ [])
offset_of o z (Faulty fault) = Raised fault

-- Own code in P, in a module of this number, with these words of variables and globals. `Takes` says of instructions, operands and an
-- outcome that the one leads to the other.
pub record OwnCodeAgrees (texts : Strings) (number : ℕ) (P : Coded) (variables globals : List ℕ)
    (Takes : List Instruction → List ℕ → Outcome → Type 0) : Type 0 where
  pub number_leaf : (n : ℕ) → Takes (i.Lit n ∷ []) [] (Given (n ∷ []))
  pub long_leaf : (n : ℕ) → Takes (long_code n) [] (Given (two_words n))
  pub literal : (k : ℕ) → suc number < 65536 → suc k < 65536
      → (ws : List ℕ) × Show texts (one Texts) (value.one (Text (texts (suc number) (suc k)))) ws × Takes (i.Str (suc k) ∷ []) [] (Given ws)
  -- of a variable, the part along a path: where there is an index in it, the part's offset is on the operand stack
  pub part : (frame instance : Values) (h : Home) (j k : Kind) (path : List ℕ) (d : ℕ) → Lies texts P.locals frame variables
      → Lies texts P.globals instance globals → VariableOf P h j → PathAt path j k d → (ws : List ℕ)
      × Show texts (one k) (value.one (part_at path (value_of frame instance h))) ws
      × Takes (load P h d (words_in k) ∷ []) [] (Given ws) × Takes (load_within P h (words_in k) ∷ []) (d ∷ []) (Given ws)
  pub field_of : (v : Value) (j k : Kind) (path : List ℕ) (d after : ℕ) (ws : List ℕ) → Show texts (one j) (value.one v) ws → PathAt path j k d
      → d + words_in k + after ≡ words_in j → (us : List ℕ) × Show texts (one k) (value.one (part_at path v)) us
      × Takes (field_code d (words_in k) after) ws (Given us)
  pub length_of : (m k : ℕ) → Takes (i.StrLen ∷ []) (m ∷ k ∷ []) (Given (length (texts m k) ∷ []))
  pub byte_of : (m k n : ℕ) → Takes (i.StrAt ∷ []) (m ∷ k ∷ n ∷ []) (outcome (byte_at (texts m k) n))
  pub check : (r : Range) (x : ℕ) → Takes (check_code r) (x ∷ []) (outcome (checked r x))
  pub conversion : (c : Conversion) (x : ℕ) → IsTakenBy c x → Takes (conversion_code c) (words_for c x) (outcome_by c (converted c x))
  pub index : (r : Range) (first n words o x : ℕ) → x < 65536
      → Takes (index_code r first n words) (o ∷ x ∷ []) (offset_of o words (indexed r first n x))
  pub operator : (o : Operator) (x y : ℕ) → x < 65536 → y < 65536
      → Takes (operator_code (scratch P) o) (x ∷ y ∷ []) (outcome (tried o x y))
  pub long_operator : (o : Operator) (x y : ℕ) → x < 4294967296 → y < 4294967296
      → Takes (long_operator_code o) (two_words x ++ two_words y) (long_outcome (tried_long o x y))
  pub negation : (x : ℕ) → Takes (i.Neg ∷ []) (x ∷ []) (Given (opposite x ∷ []))
  pub relation : (b : Base) (o : Relation) (x y : ℕ) → Takes (relation_code b o) (x ∷ y ∷ []) (Given (truth (related o b x y) ∷ []))
  pub long_negation : (x : ℕ) → x < 4294967296 → Takes (i.NegD ∷ []) (two_words x) (Given (two_words (opposite_long x)))
  pub long_relation : (b : Base) (o : Relation) (x y : ℕ) → x < 4294967296 → y < 4294967296
      → Takes (long_relation_code b o) (two_words x ++ two_words y) (Given (truth (related_long o b x y) ∷ []))
  pub within : (b : Bases) (p q : Bool) (x y z : ℕ) → x < 65536 → y < 65536 → z < 65536
      → Takes (within_code (scratch P) b p q) (x ∷ y ∷ z ∷ []) (Given (truth (lies_in b x p y q z) ∷ []))
  pub long_within : (b : Bases) (p q : Bool) (x y z : ℕ) → x < 4294967296 → y < 4294967296 → z < 4294967296
      → Takes (long_within_code (scratch P) b p q) (two_words x ++ (two_words y ++ two_words z)) (Given (truth (lies_in_long b x p y q z) ∷ []))
  pub complement : (x : ℕ) → Takes (i.Not ∷ []) (x ∷ []) (Given (truth (not (is_true x)) ∷ []))

-- of the instructions by themselves
abbrev pub OwnCodeDoes : Type 0
OwnCodeDoes = (texts : Strings) (number : ℕ) (P : Coded) (variables globals : List ℕ)
    → OwnCodeAgrees texts number P variables globals (Does texts number (scratch P) variables globals)

-- of the machine
abbrev pub OperatorsAgree : Type 0
OperatorsAgree = (image : Image) (number : ℕ) (P : Coded) (variables globals : List ℕ)
    → OwnCodeAgrees (text_of image) number P variables globals (Takes image P number variables globals)

-- The values of a constructor, a call or a raise, in the order of the text, come into the order of their places.
abbrev pub ValuesAreArranged : Type 0
ValuesAreArranged = (texts : Strings) (number t : ℕ) (variables globals places : List ℕ) (js all : Kinds) (vs : Values) (ws : List ℕ)
    → Arranged places js all → Show texts js vs ws
    → (us : List ℕ) × Show texts all (arrange places vs) us × Does texts number t variables globals (arrange_code places (sizes_of js)) ws (Given us)
