-- The meaning leaves what stands as it was found, and takes the input from its front.
use Rattle.std.specs.Prelude.{◌≡◌, refl, ℕ, zero, suc, ◌-◌, List, [], ◌∷◌, ◌++◌, Bool, true, false}
use Rattle.std.proofs.Common.{arith, append_assoc}
use mathlib.Core.Path.{◌∙◌, ap, sym, subst}
use Rattle.mesa_types.specs.Typed.{Stmt, Phrase}
use Rattle.source_meaning.specs.Program.{Program}
use Rattle.source_meaning.specs.State.{Store, State, Ending, End, Fault, Answer, Run, give, carry, after, look, change, spend_of, spend, leave, enter_if, enter, put, read_of, read, peek_of, peek}
use Rattle.source_meaning.specs.Variables.{Where}
use Rattle.source_meaning.specs.Signals.{through_of, through}
use Rattle.source_meaning.specs.Meaning.{meaning}
use Rattle.source_meaning.specs.Laws.{LeftOf, AsFound, NothingIsLeftStanding, PhrasesArePassedAsFound}
use Rattle.source_meaning.proofs.Mild.{same_store, further}
use Rattle.source_meaning.proofs.Kept.{Keeps, Kept, Mild, always_kept}
use Rattle.source_meaning.proofs.Through.{value_kept, call_kept, start_kept, raise_kept, through_kept, does_kept}

pub record Leaves (m m' : Run) : Type 0 where
  pub found : (σ : State) → AsFound σ (m σ).state
  pub taken : (σ : State) → LeftOf σ.input (m σ).state.input

same_state : (σ : State) → AsFound σ σ
same_state σ = record { activations = refl; store = same_store σ.store }

then_found : {σ τ υ : State} → AsFound σ τ → AsFound τ υ → AsFound σ υ
then_found h g = record { activations = g.activations ∙ h.activations; store = further h.store g.store }

nothing_taken : (xs : List ℕ) → LeftOf xs xs
nothing_taken xs = record { taken = []; whole = refl }

then_taken : {xs ys zs : List ℕ} → LeftOf xs ys → LeftOf ys zs → LeftOf xs zs
then_taken {xs} {ys} {zs} h g = record {
  taken = h.taken ++ g.taken;
  whole = h.whole ∙ (ap (λ l. h.taken ++ l) g.whole ∙ sym (append_assoc h.taken g.taken zs));
}

give_leaves : (a : Answer) → Leaves (give a) (give a)
unfolding give
give_leaves a = record { found = λ σ. same_state σ; taken = λ σ. nothing_taken _ }

after_leaves : {m m' : Run} {k k' : Answer → Run} → Leaves m m' → ((a : Answer) → Leaves (k a) (k' a)) → Leaves (after m k) (after m' k')
unfolding after carry
after_leaves h g = record { found = λ σ. then_found (h.found σ) ((g _).found _); taken = λ σ. then_taken (h.taken σ) ((g _).taken _) }

look_leaves : {k k' : Store → Run} → ((s : Store) → Leaves (k s) (k' s)) → Leaves (look k) (look k')
unfolding look
look_leaves g = record { found = λ σ. (g _).found σ; taken = λ σ. (g _).taken σ }

change_leaves : {m m' : Run} → (f : Store → Store) → Mild f → Leaves m m' → Leaves (change f m) (change f m')
unfolding change
change_leaves f c h = record {
  found = λ σ. then_found (record { activations = refl; store = c.its σ.store }) (h.found _);
  taken = λ σ. h.taken _;
}

spend_of_leaves : {m m' : Run} → Leaves m m' → (n : ℕ) (σ : State) → AsFound σ (spend_of n m σ).state × LeftOf σ.input (spend_of n m σ).state.input
unfolding spend_of give
spend_of_leaves h zero σ = (same_state σ, nothing_taken _)
spend_of_leaves h (suc n) σ = (then_found (record { activations = refl; store = same_store σ.store }) (h.found _), h.taken _)

spend_leaves : {m m' : Run} → Leaves m m' → Leaves (spend m) (spend m')
unfolding spend
spend_leaves h = record { found = λ σ. (spend_of_leaves h σ.turns σ).0; taken = λ σ. (spend_of_leaves h σ.turns σ).1 }

enter_if_leaves : {m m' : Run} → Leaves m m' → (b : Bool) (σ : State) → AsFound σ (enter_if b m σ).state × LeftOf σ.input (enter_if b m σ).state.input
unfolding enter_if give leave
enter_if_leaves h false σ = (same_state σ, nothing_taken _)
enter_if_leaves h true σ = (
  record {
    activations = ap (λ n. n - 1) (h.found _).activations ∙ omega arith;
    store = (h.found _).store;
  },
  h.taken _,
)

enter_leaves : {m m' : Run} → Leaves m m' → Leaves (enter m) (enter m')
unfolding enter
enter_leaves h = record { found = λ σ. (enter_if_leaves h _ σ).0; taken = λ σ. (enter_if_leaves h _ σ).1 }

put_leaves : {m m' : Run} → (text : List ℕ) → Leaves m m' → Leaves (put text m) (put text m')
unfolding put
put_leaves text h = record {
  found = λ σ. then_found (record { activations = refl; store = same_store σ.store }) (h.found _);
  taken = λ σ. h.taken _;
}

read_of_leaves : {k k' : ℕ → Run} {m m' : Run} → ((b : ℕ) → Leaves (k b) (k' b)) → Leaves m m' → (bs : List ℕ) (e : Ending) (σ : State) →
    AsFound σ (read_of bs e k m σ).state × (σ.input ≡ bs → LeftOf bs (read_of bs e k m σ).state.input)
unfolding read_of give
read_of_leaves g h (b ∷ bs) e σ = (
  then_found (record { activations = refl; store = same_store σ.store }) ((g b).found _),
  λ i. then_taken (record { taken = b ∷ []; whole = refl }) ((g b).taken _),
)
read_of_leaves {k} {k'} {m} g h [] End σ = (h.found σ, λ i. subst (λ l. LeftOf l (m σ).state.input) i (h.taken σ))
read_of_leaves g h [] Fault σ = (same_state σ, λ i. subst (λ l. LeftOf l σ.input) i (nothing_taken σ.input))

read_leaves : {k k' : ℕ → Run} {m m' : Run} → ((b : ℕ) → Leaves (k b) (k' b)) → Leaves m m' → Leaves (read k m) (read k' m')
unfolding read
read_leaves g h = record { found = λ σ. (read_of_leaves g h _ _ σ).0; taken = λ σ. (read_of_leaves g h σ.input _ σ).1 refl }

peek_of_leaves : {k k' : Bool → Run} → ((b : Bool) → Leaves (k b) (k' b)) → (bs : List ℕ) (e : Ending) (σ : State) →
    AsFound σ (peek_of bs e k σ).state × LeftOf σ.input (peek_of bs e k σ).state.input
unfolding peek_of give
peek_of_leaves g (b ∷ bs) e σ = ((g _).found σ, (g _).taken σ)
peek_of_leaves g [] End σ = ((g _).found σ, (g _).taken σ)
peek_of_leaves g [] Fault σ = (same_state σ, nothing_taken _)

peek_leaves : {k k' : Bool → Run} → ((b : Bool) → Leaves (k b) (k' b)) → Leaves (peek k) (peek k')
unfolding peek
peek_leaves g = record { found = λ σ. (peek_of_leaves g _ _ σ).0; taken = λ σ. (peek_of_leaves g _ _ σ).1 }

leaves_keep : Keeps Leaves
leaves_keep = record {
  its_give = give_leaves;
  its_after = λ h p g. after_leaves h g;
  its_look = look_leaves;
  its_change = change_leaves;
  its_spend = spend_leaves;
  its_enter = enter_leaves;
  its_put = put_leaves;
  its_read = read_leaves;
  its_peek = peek_leaves;
}

pub leaves_kept : Kept Leaves Leaves
leaves_kept = always_kept Leaves leaves_keep

pub meaning_leaves : (P : Program) (n : ℕ) (s : Stmt) (w : Where) → Leaves (meaning P n s w) (meaning P n s w)
unfolding meaning
meaning_leaves P zero s w = give_leaves _
meaning_leaves P (suc n) s w = does_kept Leaves Leaves leaves_kept P (meaning P n) (meaning P n) (meaning_leaves P n) s w

pub nothing_is_left_standing : NothingIsLeftStanding
nothing_is_left_standing P n w σ = record {
  by_statement = λ s. (meaning_leaves P n s w).found σ;
  by_expression = λ e. (value_kept Leaves Leaves leaves_kept P (meaning P n) (meaning P n) (meaning_leaves P n) e w).found σ;
  by_call = λ t vs. (call_kept Leaves Leaves leaves_kept P (meaning P n) (meaning P n) (meaning_leaves P n) w t vs).found σ;
  by_start = λ j. (start_kept Leaves Leaves leaves_kept P (meaning P n) (meaning P n) (meaning_leaves P n) j w.chain).found σ;
  by_raise = λ sig vs. (raise_kept Leaves Leaves leaves_kept P (meaning P n) (meaning P n) (meaning_leaves P n) w sig vs).found σ;
}

-- an answer is what a run gives that does nothing else
passed : (P : Program) (n : ℕ) (w : Where) (phrase : Phrase) (a : Answer) → Leaves (through (meaning P n) w phrase (give a)) (through (meaning P n) w phrase (give a))
passed P n w phrase a = through_kept Leaves Leaves leaves_kept P (meaning P n) (meaning P n) (meaning_leaves P n) w phrase (give_leaves a)

answer_found : (P : Program) (n : ℕ) (w : Where) (phrase : Phrase) (a : Answer) (σ : State) → AsFound σ (through_of (meaning P n) w phrase a σ).state
unfolding through after carry give
answer_found P n w phrase a σ = (passed P n w phrase a).found σ

run_found : (P : Program) (n : ℕ) (w : Where) (phrase : Phrase) (m : Run) → ((σ : State) → AsFound σ (m σ).state) → (σ : State)
    → AsFound σ (through (meaning P n) w phrase m σ).state
unfolding through after carry
run_found P n w phrase m found σ = then_found (found σ) (answer_found P n w phrase (m σ).answer (m σ).state)

pub phrases_are_passed_as_found : PhrasesArePassedAsFound
phrases_are_passed_as_found P n w phrase = record { by_answer = answer_found P n w phrase; by_run = run_found P n w phrase }
