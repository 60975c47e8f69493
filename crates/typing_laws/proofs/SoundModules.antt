-- From what is shown of a body and of a head to what Sound says of the parts of a module.
use Rattle.std.proofs.Common.{◌≡◌, ℕ, zero, suc, ◌+◌, List, [], ◌∷◌, length, map, refl, sym, ◌∙◌, ap, subst, arith, inl, inr}
use Rattle.std.specs.Prelude.{◌≤◌, ◌<◌, Bool, true, false, Some, None, nat_le, bytes_eq, take, if◌then◌else◌}
use Rattle.std.proofs.lemmas.Bool.{leb-true}
use Rattle.check_rules.specs.Values.{number_in}
use Rattle.mesa_base.specs.declared.limits.TheConstants.{SIGNAL_WORDS, DISTINCT_STRINGS}
use Rattle.mesa_types.specs.declared.faces.Item.{Item}
use Rattle.mesa_types.specs.declared.faces.ItemKind.{ItemKind}
use Rattle.mesa_types.specs.declared.faces.ItemKind.TheVariants as item
use Rattle.mesa_types.specs.Sound as sound
use Rattle.mesa_types.specs.Shapes.{join, words_in_all}
use Rattle.check_rules.specs.Typed as t
use Rattle.interface_records.specs.PlainTypes.{PlainField, PlainItem, kinds_of, field_of, item_of, words_of_fields}
use Rattle.check_rules.proofs.SoundTypes.{field_words_agree, none_is_no}
use Rattle.typing_laws.proofs.SoundTrees.{tree_kinds, fields_within}
use Rattle.typing_laws.proofs.SoundSteps.{World, at, ItemIn, SignalKind}
use Rattle.typing_laws.proofs.SoundProcedures.{at_start, with_body, SoundBody}

-- a module with what it has in the end
abbrev pub world_of : t.Module → World
world_of m = record {
  globals = m.globals;
  locals = t.NoKinds;
  takes = [];
  gives = [];
  procedures = map (λ (p : t.Procedure). p.head) m.procedures;
  signals = m.signals;
  imports = m.imports;
  strings = length m.strings;
}

length_of_map : {A B : Type 0} (f : A → B) (xs : List A) → length (map f xs) ≡ length xs
length_of_map f [] = refl
length_of_map f (x ∷ xs) = ap suc (length_of_map f xs)

pub is_body_scope : (m : t.Module) (takes gives : List PlainField) (body : t.Body)
    → sound.scope_of m (map field_of takes) (map field_of gives) body ≡ at (with_body (world_of m) takes gives body.variables) at_start
unfolding sound.scope_of at_start
is_body_scope m takes gives body = rw (tree_kinds takes, tree_kinds gives, length_of_map field_of takes) refl

words_joined : (a b : t.Kinds) → words_in_all (join a b) ≡ words_in_all a + words_in_all b
unfolding join words_in_all
words_joined t.NoKinds b = omega arith
words_joined (t.AndKind k a) b = omega (arith, words_joined a b)

pub body_in : (m : t.Module) (takes gives : List PlainField) (body : t.Body) → SoundBody (world_of m) takes gives body
    → sound.BodyIn m (map field_of takes) (map field_of gives) body
body_in m takes gives body h =
    let e = is_body_scope m takes gives body in
    let locals : (sound.scope_of m (map field_of takes) (map field_of gives) body).locals ≡ join (kinds_of takes) (join (kinds_of gives) body.variables) = ap
    (λ (Γ : sound.Scope). Γ.locals) e in
    record {
      variables = h.variables;
      does = subst (λ Γ. sound.StmtIn Γ body.does) (sym e) h.does;
      small = omega (
        arith,
        ap words_in_all locals,
        words_joined (kinds_of takes) (join (kinds_of gives) body.variables),
        words_joined (kinds_of gives)
            body.variables,
        h.small,
      );
    }

pub head_in : (i : PlainItem) → ItemIn i → (i.kind ≡ item.Error → i.gives ≡ []) → sound.HeadIn (item_of i)
unfolding sound.HeadIn
head_in i h error = (fields_within i.takes h.takes, fields_within i.gives h.gives, λ e. ap (map field_of) (error e))

no_error : {A : Type 0} (k : ItemKind) → k ≡ item.Procedure → k ≡ item.Error → A
no_error k e d = absurd (apart (sym e ∙ d))
  where
    apart : item.Procedure ≡ item.Error → ⊥
    apart e = cc

-- a procedure whose head is in order and whose body is sound
pub procedure_is : (m : t.Module) (i : PlainItem) (p : t.Procedure) → ItemIn i → i.kind ≡ item.Procedure → p.head ≡ item_of i
    → SoundBody (world_of m) i.takes i.gives p.body → sound.ProcedureIn m p
unfolding sound.ProcedureIn
procedure_is m i p h kind e body = (
  ap (λ (x : Item). x.kind) e ∙ kind,
  subst sound.HeadIn (sym e) (head_in i h (λ d. no_error i.kind kind d)),
  subst (λ (x : Item). sound.BodyIn m x.takes x.gives p.body) (sym e) (body_in m i.takes i.gives p.body body),
)

signal_of : (k : ItemKind) (i : Item) → i.kind ≡ k → SignalKind k → sound.IsSignal i
unfolding SignalKind sound.IsSignal
signal_of item.Signal i e h = inl e
signal_of item.Error i e h = inr e
signal_of item.Procedure i e h = absurd h

-- a signal or error whose types are in order and within the limit of words
pub signal_is : (i : PlainItem) → ItemIn i → SignalKind i.kind → (i.kind ≡ item.Error → i.gives ≡ [])
    → words_of_fields i.takes + words_of_fields i.gives ≤ SIGNAL_WORDS → sound.SignalIn (item_of i)
unfolding sound.SignalIn
signal_is i h k error small = (
  signal_of i.kind (item_of i) refl k,
  head_in i h error,
  omega (arith, small, field_words_agree i.takes, field_words_agree i.gives, ap words_in_all (tree_kinds i.takes), ap words_in_all (tree_kinds i.gives)),
)

-- the number of a string literal is one of those that the module has
number_small : (bytes : List ℕ) (n : ℕ) (xs : List (List ℕ)) (k : ℕ) → number_in bytes n xs ≡ Some k → (k < n + length xs) × (k < DISTINCT_STRINGS)
unfolding number_in
number_small bytes n [] k e = none_is_no k e
number_small bytes n (x ∷ xs) k e = by (bytes_eq bytes x) e (number_small bytes (suc n) xs k)
  where
    same_number : (a b : ℕ) → Some a ≡ Some b → a ≡ b
    same_number a b e = cc

    here : (b : Bool) → nat_le (suc n) DISTINCT_STRINGS ≡ b → (if b then Some n else None) ≡ Some k → (k < n + suc (length xs)) × (k < DISTINCT_STRINGS)
    here true d e = let s = same_number n k e in let small : suc n ≤ DISTINCT_STRINGS = leb-true (suc n) DISTINCT_STRINGS d in
        (omega (arith, s), omega (arith, s, small))
    here false d e = none_is_no k e

    by : (b : Bool) → (if b then (if nat_le (suc n) DISTINCT_STRINGS then Some n else None) else number_in bytes (suc n) xs) ≡ Some k
        → (number_in bytes (suc n) xs ≡ Some k → (k < suc n + length xs) × (k < DISTINCT_STRINGS)) → (k < n + suc (length xs)) × (k < DISTINCT_STRINGS)
    by true e rest = here (nat_le (suc n) DISTINCT_STRINGS) refl e
    by false e rest = let r = rest e in (omega (arith, r.0), r.1)

length_of_take : {A : Type 0} (n : ℕ) (xs : List A) (k : ℕ) → k < n → k < length xs → k < length (take n xs)
length_of_take zero xs k h i = absurd (omega (arith, h))
length_of_take (suc n) [] k h i = absurd (omega (arith, i))
length_of_take (suc n) (x ∷ xs) zero h i = omega arith
length_of_take (suc n) (x ∷ xs) (suc k) h i = let r = length_of_take n xs k (omega (arith, h)) (omega (arith, i)) in omega (arith, r)

pub literal_number : (bytes : List ℕ) (xs : List (List ℕ)) (k : ℕ) → number_in bytes 0 xs ≡ Some k → k < length (take DISTINCT_STRINGS xs)
literal_number bytes xs k e = let r = number_small bytes 0 xs k e in length_of_take DISTINCT_STRINGS xs k r.1 (omega (arith, r.0))
