-- Words of parameters and results.
use Rattle.std.proofs.Common.{◌≡◌, sym, ap, ◌∙◌, subst, ℕ, ◌+◌, ◌<◌, ◌≤◌, List, length, All, get_or, drop, arith}
use Rattle.std.proofs.lemmas.List.{drop_all, get_or-map, length-map}
use Rattle.std.specs.Prelude.{min}
use Rattle.mesa_base.specs.declared.limits.TheConstants.{TYPE_WORDS}
use Rattle.mesa_types.specs.declared.faces.Item.{Item}
use Rattle.mesa_types.specs.declared.types.FieldType.{FieldType}
use Rattle.mesa_types.specs.declared.types.TypeTree.{TypeTree}
use Rattle.mesa_types.specs.Plain.{kinds_of}
use Rattle.mesa_types.specs.Shapes.{words_in_all}
use Rattle.mesa_types.specs.Sound.{FieldsWithin, HeadIn, SignalIn}
use Rattle.mesa_types.specs.Types as types
use Rattle.mesa_types.specs.Types.{IsWithinLimits, types_in}
use Rattle.mesa_types.proofs.KindWords.{shapes_take_their_words}
use Rattle.code_rules.specs.Modules.{words_of_fields}
use Rattle.code_bodies.specs.code_trees.proofs.VariableStarts.{from_field, words_with}

-- those that the shapes take are those that the types take
pub fields_have : (fields : List FieldType) → words_of_fields fields ≡ types.words_of_fields fields
fields_have fields = shapes_take_their_words.of_fields fields

-- what is within the limits

pub signal_takes_few : (i : Item) → SignalIn i → words_of_fields i.takes ≤ 65535
unfolding SignalIn
signal_takes_few i h = omega (arith, h.2)

pub signal_gives_few : (i : Item) → SignalIn i → words_of_fields i.gives ≤ 65535
unfolding SignalIn
signal_gives_few i h = omega (arith, h.2)

pub head_takes_within : (i : Item) → HeadIn i → All IsWithinLimits (types_in i.takes)
unfolding HeadIn FieldsWithin
head_takes_within i h = (h.0).0

pub head_gives_within : (i : Item) → HeadIn i → All IsWithinLimits (types_in i.gives)
unfolding HeadIn FieldsWithin
head_gives_within i h = (h.1).0

-- one field more

type_small : (fs : List FieldType) (i : ℕ) (f : FieldType) → All IsWithinLimits (types_in fs) → i < length fs → f ≡ get_or fs i f
    → types.words_of f.kind ≤ TYPE_WORDS
type_small fs i f h less is =
    let kind_of : FieldType → TypeTree = λ (x : FieldType). x.kind in
    let here : IsWithinLimits (get_or (types_in fs) i f.kind) = h i f.kind (omega (arith, length-map fs kind_of, less)) in
    let same : get_or (types_in fs) i f.kind ≡ f.kind = get_or-map kind_of fs i f f.kind less ∙ ap kind_of (sym is) in
    (subst IsWithinLimits same here).0

pub one_more : (fs : List FieldType) (i : ℕ) (f : FieldType) (whole words w now : ℕ) → All IsWithinLimits (types_in fs) → i < length fs → f ≡ get_or fs i f
    → words + words_in_all (kinds_of (drop i fs)) ≡ whole → w ≡ min (types.words_of f.kind) 4294967295 → now ≡ words + w
    → now + words_in_all (kinds_of (drop (i + 1) fs)) ≡ whole
one_more fs i f whole words w now h less is before size sum =
    let split : words_in_all (kinds_of (drop i fs)) ≡ types.words_of f.kind + words_in_all (kinds_of (drop (i + 1) fs))
    = ap (λ l. words_in_all (kinds_of l)) (from_field fs i f less is) ∙ words_with f (drop (i + 1) fs) in
    omega (arith, split, type_small fs i f h less is, before, size, sum)

pub all_counted : (fs : List FieldType) (i words : ℕ) → length fs ≤ i → words + words_in_all (kinds_of (drop i fs)) ≡ words_of_fields fs
    → words ≡ words_of_fields fs
unfolding words_in_all
all_counted fs i words le h =
    let none : words_in_all (kinds_of (drop i fs)) ≡ 0 = ap (λ (l : List FieldType). words_in_all (kinds_of l)) (drop_all i fs le) in
    omega (arith, none, h)
