-- The heads among names that are taken out one after the other.
use Rattle.std.proofs.Common.{◌≡◌, ℕ, Bool, true, false, List, Option, Some, None, refl, sym, ap, subst, ◌∙◌}
use Rattle.std.proofs.lemmas.Bool.{cases_Bool, cond-true, cond-false}
use Rattle.std.specs.Cmp.Lexicographic.{bytes_decides}
use Rattle.std.specs.Option.{option_map, option_or}
use Rattle.std.specs.Prelude.{bytes_eq, cond}
use Rattle.std.specs.declared.alloc.Global.{Global}
use Rattle.std.specs.declared.rc.Rc.{Rc}
use Rattle.check_scopes.specs.Counts.{without}
use Rattle.check_scopes.specs.Scopes.{Scope, nothing, over}
use Rattle.check_scopes.specs.Shows.{listed, means, valued}
use Rattle.check_scopes.specs.declared.index.Index.{Index}
use Rattle.check_scopes.specs.declared.names.Names.{Names}
use Rattle.check_rules.specs.Meanings as m
use Rattle.check_rules.specs.Programs.{head_alone}
use Rattle.check_state.specs.Views.{meaning, names, seen_as}
use Rattle.check_state.specs.declared.meaning.Meaning.{Meaning}
use Rattle.check_heads.specs.Again.{and_head, heads_among}
use mathlib.Core.Logic.{⊎_elim}

-- what the names mean that are still to come
unfoldable pub to_come : Index (Rc Meaning Global) → Scope m.Meaning
to_come rest = seen_as meaning (valued rest)

-- the heads among them, over those that are taken already
unfoldable pub heads_over : Index (Rc Meaning Global) → Scope m.Meaning → Scope m.Meaning
heads_over rest heads = over (heads_among (to_come rest)) heads

either_way : {X : Type 0} (b : Bool) (x : X) → x ≡ cond b x x
either_way true x = refl
either_way false x = refl

head_at : (x y : List ℕ) (k : m.Meaning) (heads : Scope m.Meaning) → and_head x k heads y ≡ cond (bytes_eq x y) (option_or (head_alone (Some k)) (heads y)) (heads y)
head_at x y (m.Procedure c i) heads = refl
head_at x y (m.Signal r i) heads = refl
head_at x y k heads = either_way (bytes_eq x y) (heads y)

one_taken : (rest heads : Scope m.Meaning) (x : List ℕ) (k : m.Meaning) → rest x ≡ Some k
    → over (heads_among (without x rest)) (and_head x k heads) ≡ over (heads_among rest) heads
one_taken rest heads x k is_it = λ i y. ⊎_elim
    (λ same. let here : rest y ≡ Some k = subst (λ z. rest z ≡ Some k) ((bytes_decides x y).0 same) is_it in
    ap (λ o. option_or (head_alone o) (and_head x k heads y)) (cond-true (bytes_eq x y) None (rest y) same)
    ∙ head_at x y k heads
    ∙ cond-true (bytes_eq x y) (option_or (head_alone (Some k)) (heads y)) (heads y) same
    ∙ sym (ap (λ o. option_or (head_alone o) (heads y)) here))
    (λ differ.
    ap (λ o. option_or (head_alone o) (and_head x k heads y)) (cond-false (bytes_eq x y) None (rest y) differ)
    ∙ ap (option_or (head_alone (rest y))) (head_at x y k heads ∙ cond-false (bytes_eq x y) (option_or (head_alone (Some k)) (heads y)) (heads y) differ))
    (cases_Bool (bytes_eq x y)) i

of_none : {X Y : Type 0} (f : X → Y) (b : Bool) (o : Option X) → option_map f (cond b None o) ≡ cond b None (option_map f o)
of_none f true o = refl
of_none f false o = refl

abbrev value : Rc Meaning Global → Meaning
value r = r.value

without_one : (old new : Index (Rc Meaning Global)) (x : List ℕ) → listed new ≡ without x (listed old) → to_come new ≡ without x (to_come old)
unfolding to_come valued
without_one old new x left =
    ap (λ s y. option_map meaning (option_map value (s y))) left
    ∙ (λ i y. (ap (option_map meaning) (of_none value (bytes_eq x y) (listed old y)) ∙ of_none meaning (bytes_eq x y) (option_map value (listed old y))) i)

means_it : (old : Index (Rc Meaning Global)) (x : List ℕ) (r : Rc Meaning Global) → listed old x ≡ Some r → to_come old x ≡ Some (meaning r.value)
unfolding to_come valued
means_it old x r here = ap (λ o. option_map meaning (option_map value o)) here

taken : (old new : Index (Rc Meaning Global)) (x : List ℕ) (r : Rc Meaning Global) (heads : Scope m.Meaning)
    → listed old x ≡ Some r → listed new ≡ without x (listed old)
    → heads_over new (and_head x (meaning r.value) heads) ≡ heads_over old heads
unfolding heads_over
taken old new x r heads here left =
    ap (λ s. over (heads_among s) (and_head x (meaning r.value) heads)) (without_one old new x left)
    ∙ one_taken (to_come old) heads x (meaning r.value) (means_it old x r here)

-- one turn, with what is known of its steps
pub one_more : (old new : Index (Rc Meaning Global)) (x y : List ℕ) (r : Rc Meaning Global) (k : Meaning) (heads more all : Scope m.Meaning)
    → listed old x ≡ Some r → listed new ≡ without x (listed old) → y ≡ x → k ≡ r.value → more ≡ and_head y (meaning k) heads → heads_over old heads ≡ all
    → heads_over new more ≡ all
one_more old new x y r k heads more all here left same value_is put so_far =
    ap (heads_over new) (put ∙ ap (λ z. and_head z (meaning k) heads) same ∙ ap (λ k. and_head x (meaning k) heads) value_is)
    ∙ taken old new x r heads here left ∙ so_far

pub all_taken : (rest : Index (Rc Meaning Global)) (heads : Scope m.Meaning) → listed rest ≡ nothing → heads_over rest heads ≡ heads
unfolding heads_over to_come valued
all_taken rest heads none = ap (λ s. over (heads_among (λ y. option_map meaning (option_map value (s y)))) heads) none

or_none : {X : Type 0} (o : Option X) → option_or o None ≡ o
or_none None = refl
or_none (Some x) = refl

pub none_taken : (rest : Index (Rc Meaning Global)) (all heads : Names Meaning) → valued rest ≡ means all → means heads ≡ nothing
    → heads_over rest (names heads) ≡ heads_among (names all)
unfolding heads_over to_come names
none_taken rest all heads same none =
    ap (λ s. over (heads_among (seen_as meaning s)) (seen_as meaning (means heads))) same
    ∙ ap (λ s. over (heads_among (seen_as meaning (means all))) (seen_as meaning s)) none
    ∙ (λ i y. or_none (heads_among (seen_as meaning (means all)) y) i)
