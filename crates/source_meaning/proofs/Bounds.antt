-- With more turns: the output begins with the one before, and an end other than Spent is the same, with as many turns
-- more left.
use Rattle.std.specs.Prelude.{◌≡◌, ◌≢◌, refl, ℕ, zero, suc, ◌+◌, ◌≤◌, List, [], ◌∷◌, ◌++◌, Bool, true, false}
use Rattle.std.proofs.lemmas.List.{append-nil, append_assoc}
use mathlib.Core.Path.{◌∙◌, ap, sym, subst}
use Rattle.std.proofs.Common.{arith}
use Rattle.mesa_types.specs.Typed.{Stmt}
use Rattle.source_meaning.specs.Program.{Program}
use Rattle.source_meaning.specs.State.{State, Store, Ending, End, Fault, Answer, Go, Normal, Gives, Resumed, Rejected, Retried, Continued, Uncaught, Spent, FrameLimit, Broken, Result, Run, give, carry, after, look, change, spend_of, spend, leave, enter_if, enter, put, read_of, read, peek_of, peek}
use Rattle.source_meaning.specs.Variables.{Where}
use Rattle.source_meaning.specs.Meaning.{meaning}
use Rattle.source_meaning.specs.Means.{outcome, control, first_state}
use Rattle.source_meaning.specs.Laws.{Begins, BoundsAreCuts}
use Rattle.source_meaning.proofs.Kept.{Keeps, Kept, Passes, always_kept}
use Rattle.source_meaning.proofs.Through.{does_kept, control_kept}

pub begins_same : (xs : List ℕ) → Begins xs xs
begins_same xs = record { rest = []; whole = sym (append-nil xs) }

pub begins_further : {xs ys zs : List ℕ} → Begins xs ys → Begins ys zs → Begins xs zs
begins_further {xs} h g = record { rest = h.rest ++ g.rest; whole = g.whole ∙ (ap (λ l. l ++ g.rest) h.whole ∙ append_assoc xs h.rest g.rest) }

-- the state with so many turns more
unfoldable pub more : ℕ → State → State
more d σ = record σ { turns = σ.turns + d }

abbrev pub Agrees : ℕ → Answer → State → Result → Type 0
Agrees d Spent σ r = Begins σ.output r.state.output
Agrees d a σ r = r ≡ record { answer = a; state = more d σ }

pub record Upto (m m' : Run) : Type 0 where
  pub grows : (σ : State) → Begins σ.output (m' σ).state.output
  pub agrees : (σ : State) (d : ℕ) → Agrees d (m σ).answer (m σ).state (m' (more d σ))

agrees_same : (d : ℕ) (a : Answer) (σ : State) → Agrees d a σ (record { answer = a; state = more d σ })
unfolding more
agrees_same d Spent σ = begins_same _
agrees_same d Normal σ = refl
agrees_same d (Gives vs) σ = refl
agrees_same d (Go f p) σ = refl
agrees_same d (Resumed vs) σ = refl
agrees_same d Rejected σ = refl
agrees_same d (Retried n) σ = refl
agrees_same d (Continued n) σ = refl
agrees_same d (Uncaught s) σ = refl
agrees_same d FrameLimit σ = refl
agrees_same d Broken σ = refl

give_upto : (a : Answer) → Upto (give a) (give a)
unfolding give
give_upto a = record { grows = λ σ. begins_same _; agrees = λ σ d. agrees_same d a σ }

-- what comes of an answer
spent_agrees : (d : ℕ) {k k' : Answer → Run} → Passes k → ((a : Answer) → Upto (k a) (k' a)) → (σ : State) (r : Result) → Begins σ.output r.state.output →
    Agrees d (k Spent σ).answer (k Spent σ).state (carry r k')
unfolding carry
spent_agrees d {k} {k'} p g σ r b =
    subst (λ a. Agrees d a (k Spent σ).state (k' r.answer r.state)) (sym (p.spent.its_answer σ))
    (subst (λ o. Begins o (k' r.answer r.state).state.output) (sym (p.spent.its_output σ))
    (begins_further b ((g r.answer).grows r.state)))

same_agrees : (d : ℕ) (k k' : Answer → Run) (a : Answer) → Upto (k a) (k' a) → (σ : State) (r : Result) → r ≡ record { answer = a; state = more d σ } →
    Agrees d (k a σ).answer (k a σ).state (carry r k')
unfolding carry
same_agrees d k k' a g σ r e = subst (λ x. Agrees d (k a σ).answer (k a σ).state (carry x k')) (sym e) (g.agrees σ d)

then_agrees : (d : ℕ) {k k' : Answer → Run} → Passes k → ((a : Answer) → Upto (k a) (k' a)) → (a : Answer) (σ : State) (r : Result) → Agrees d a σ r →
    Agrees d (k a σ).answer (k a σ).state (carry r k')
then_agrees d p g Spent σ r h = spent_agrees d p g σ r h
then_agrees d {k} {k'} p g Normal σ r h = same_agrees d k k' Normal (g Normal) σ r h
then_agrees d {k} {k'} p g (Gives vs) σ r h = same_agrees d k k' (Gives vs) (g (Gives vs)) σ r h
then_agrees d {k} {k'} p g (Go f q) σ r h = same_agrees d k k' (Go f q) (g (Go f q)) σ r h
then_agrees d {k} {k'} p g (Resumed vs) σ r h = same_agrees d k k' (Resumed vs) (g (Resumed vs)) σ r h
then_agrees d {k} {k'} p g Rejected σ r h = same_agrees d k k' Rejected (g Rejected) σ r h
then_agrees d {k} {k'} p g (Retried n) σ r h = same_agrees d k k' (Retried n) (g (Retried n)) σ r h
then_agrees d {k} {k'} p g (Continued n) σ r h = same_agrees d k k' (Continued n) (g (Continued n)) σ r h
then_agrees d {k} {k'} p g (Uncaught s) σ r h = same_agrees d k k' (Uncaught s) (g (Uncaught s)) σ r h
then_agrees d {k} {k'} p g FrameLimit σ r h = same_agrees d k k' FrameLimit (g FrameLimit) σ r h
then_agrees d {k} {k'} p g Broken σ r h = same_agrees d k k' Broken (g Broken) σ r h

after_upto : {m m' : Run} {k k' : Answer → Run} → Upto m m' → Passes k → ((a : Answer) → Upto (k a) (k' a)) → Upto (after m k) (after m' k')
unfolding after carry
after_upto {m} {m'} {k} {k'} h p g = record {
  grows = λ σ. begins_further (h.grows σ) ((g _).grows _);
  agrees = λ σ d. then_agrees d {k = k} {k' = k'} p g (m σ).answer (m σ).state (m' (more d σ)) (h.agrees σ d);
}

look_upto : {k k' : Store → Run} → ((s : Store) → Upto (k s) (k' s)) → Upto (look k) (look k')
unfolding look more
look_upto g = record { grows = λ σ. (g _).grows σ; agrees = λ σ d. (g _).agrees σ d }

change_upto : {m m' : Run} → (f : Store → Store) → Upto m m' → Upto (change f m) (change f m')
unfolding change more
change_upto f h = record { grows = λ σ. h.grows _; agrees = λ σ d. h.agrees (record σ { store = f σ.store }) d }

spend_grows : {m m' : Run} → Upto m m' → (t : ℕ) (σ : State) → Begins σ.output (spend_of t m' σ).state.output
unfolding spend_of give
spend_grows h zero σ = begins_same _
spend_grows h (suc j) σ = h.grows _

spend_agrees : {m m' : Run} → Upto m m' → (t d : ℕ) (σ : State) → Agrees d (spend_of t m σ).answer (spend_of t m σ).state (spend_of (t + d) m' (more d σ))
unfolding spend_of give more
spend_agrees h zero d σ = spend_grows h (0 + d) (more d σ)
spend_agrees {m} {m'} h (suc j) d σ =
    let e : suc j + d ≡ suc (j + d) = omega arith in
    rw e (h.agrees (record σ { turns = j }) d)

spend_upto : {m m' : Run} → Upto m m' → Upto (spend m) (spend m')
unfolding spend more
spend_upto h = record { grows = λ σ. spend_grows h σ.turns σ; agrees = λ σ d. spend_agrees h σ.turns d σ }

leave_agrees : (d : ℕ) (a : Answer) (σ : State) (r : Result) → Agrees d a σ r →
    Agrees d (leave (record { answer = a; state = σ })).answer (leave (record { answer = a; state = σ })).state (leave r)
unfolding leave more
leave_agrees d Spent σ r h = h
leave_agrees d Normal σ r h = ap leave h
leave_agrees d (Gives vs) σ r h = ap leave h
leave_agrees d (Go f p) σ r h = ap leave h
leave_agrees d (Resumed vs) σ r h = ap leave h
leave_agrees d Rejected σ r h = ap leave h
leave_agrees d (Retried n) σ r h = ap leave h
leave_agrees d (Continued n) σ r h = ap leave h
leave_agrees d (Uncaught s) σ r h = ap leave h
leave_agrees d FrameLimit σ r h = ap leave h
leave_agrees d Broken σ r h = ap leave h

enter_if_grows : {m m' : Run} → Upto m m' → (b : Bool) (σ : State) → Begins σ.output (enter_if b m' σ).state.output
unfolding enter_if give leave
enter_if_grows h false σ = begins_same _
enter_if_grows h true σ = h.grows _

enter_if_agrees : {m m' : Run} → Upto m m' → (b : Bool) (σ : State) (d : ℕ) → Agrees d (enter_if b m σ).answer (enter_if b m σ).state (enter_if b m' (more d σ))
unfolding enter_if give more leave
enter_if_agrees h false σ d = refl
enter_if_agrees {m} {m'} h true σ d =
    let s : State = record σ { standing = σ.standing + 1 } in
    leave_agrees d (m s).answer (m s).state (m' (more d s)) (h.agrees s d)

enter_upto : {m m' : Run} → Upto m m' → Upto (enter m) (enter m')
unfolding enter more
enter_upto h = record { grows = λ σ. enter_if_grows h _ σ; agrees = λ σ d. enter_if_agrees h _ σ d }

put_upto : {m m' : Run} → (text : List ℕ) → Upto m m' → Upto (put text m) (put text m')
unfolding put more
put_upto text h = record {
  grows = λ σ. begins_further (record { rest = text; whole = refl }) (h.grows _);
  agrees = λ σ d. h.agrees (record σ { output = σ.output ++ text }) d;
}

read_grows : {k k' : ℕ → Run} {m m' : Run} → ((b : ℕ) → Upto (k b) (k' b)) → Upto m m' → (bs : List ℕ) (e : Ending) (σ : State) → Begins σ.output (read_of bs e k' m' σ).state.output
unfolding read_of give
read_grows g h (b ∷ bs) e σ = (g b).grows _
read_grows g h [] End σ = h.grows σ
read_grows g h [] Fault σ = begins_same _

read_agrees : {k k' : ℕ → Run} {m m' : Run} → ((b : ℕ) → Upto (k b) (k' b)) → Upto m m' → (bs : List ℕ) (e : Ending) (σ : State) (d : ℕ) →
    Agrees d (read_of bs e k m σ).answer (read_of bs e k m σ).state (read_of bs e k' m' (more d σ))
unfolding read_of give more
read_agrees g h (b ∷ bs) e σ d = (g b).agrees (record σ { input = bs }) d
read_agrees g h [] End σ d = h.agrees σ d
read_agrees g h [] Fault σ d = refl

read_upto : {k k' : ℕ → Run} {m m' : Run} → ((b : ℕ) → Upto (k b) (k' b)) → Upto m m' → Upto (read k m) (read k' m')
unfolding read more
read_upto g h = record { grows = λ σ. read_grows g h _ _ σ; agrees = λ σ d. read_agrees g h _ _ σ d }

peek_grows : {k k' : Bool → Run} → ((b : Bool) → Upto (k b) (k' b)) → (bs : List ℕ) (e : Ending) (σ : State) → Begins σ.output (peek_of bs e k' σ).state.output
unfolding peek_of give
peek_grows g (b ∷ bs) e σ = (g _).grows σ
peek_grows g [] End σ = (g _).grows σ
peek_grows g [] Fault σ = begins_same _

peek_agrees : {k k' : Bool → Run} → ((b : Bool) → Upto (k b) (k' b)) → (bs : List ℕ) (e : Ending) (σ : State) (d : ℕ) →
    Agrees d (peek_of bs e k σ).answer (peek_of bs e k σ).state (peek_of bs e k' (more d σ))
unfolding peek_of give more
peek_agrees g (b ∷ bs) e σ d = (g _).agrees σ d
peek_agrees g [] End σ d = (g _).agrees σ d
peek_agrees g [] Fault σ d = refl

peek_upto : {k k' : Bool → Run} → ((b : Bool) → Upto (k b) (k' b)) → Upto (peek k) (peek k')
unfolding peek more
peek_upto g = record { grows = λ σ. peek_grows g _ _ σ; agrees = λ σ d. peek_agrees g _ _ σ d }

upto_keeps : Keeps Upto
upto_keeps = record {
  its_give = give_upto;
  its_after = after_upto;
  its_look = look_upto;
  its_change = λ f c h. change_upto f h;
  its_spend = spend_upto;
  its_enter = enter_upto;
  its_put = put_upto;
  its_read = read_upto;
  its_peek = peek_upto;
}

pub upto_kept : Kept Upto Upto
upto_kept = always_kept Upto upto_keeps

-- what is out of fuel is cut off too
no_fuel : (m' : Run) → ((σ : State) → Begins σ.output (m' σ).state.output) → Upto (λ σ. give Spent σ) m'
unfolding give more
no_fuel m' g = record { grows = g; agrees = λ σ d. g (more d σ) }

meaning_grows : (P : Program) (n : ℕ) (s : Stmt) (w : Where) → Upto (meaning P n s w) (meaning P n s w)
unfolding meaning
meaning_grows P zero s w = give_upto _
meaning_grows P (suc n) s w = does_kept Upto Upto upto_kept P (meaning P n) (meaning P n) (meaning_grows P n) s w

pub meaning_upto : (P : Program) (n k : ℕ) → n ≤ k → (s : Stmt) (w : Where) → Upto (meaning P n s w) (meaning P k s w)
unfolding meaning
meaning_upto P zero k le s w = no_fuel (meaning P k s w) (meaning_grows P k s w).grows
meaning_upto P (suc n) zero le s w = absurd (omega arith)
meaning_upto P (suc n) (suc k) le s w = does_kept Upto Upto upto_kept P (meaning P n) (meaning P k) (meaning_upto P n k (omega arith)) s w

-- whole programs

begins_of : (d : ℕ) (a : Answer) (σ : State) (r : Result) → Agrees d a σ r → Begins σ.output r.state.output
unfolding more
begins_of d Spent σ r h = h
begins_of d Normal σ r h = rw h (begins_same σ.output)
begins_of d (Gives vs) σ r h = rw h (begins_same σ.output)
begins_of d (Go f p) σ r h = rw h (begins_same σ.output)
begins_of d (Resumed vs) σ r h = rw h (begins_same σ.output)
begins_of d Rejected σ r h = rw h (begins_same σ.output)
begins_of d (Retried n) σ r h = rw h (begins_same σ.output)
begins_of d (Continued n) σ r h = rw h (begins_same σ.output)
begins_of d (Uncaught s) σ r h = rw h (begins_same σ.output)
begins_of d FrameLimit σ r h = rw h (begins_same σ.output)
begins_of d Broken σ r h = rw h (begins_same σ.output)

ends_of : (d : ℕ) (a : Answer) (σ : State) (r : Result) → Agrees d a σ r → a ≢ Spent → r ≡ record { answer = a; state = record σ { turns = σ.turns + d } }
unfolding more
ends_of d Spent σ r h n = absurd (n refl)
ends_of d Normal σ r h n = h
ends_of d (Gives vs) σ r h n = h
ends_of d (Go f p) σ r h n = h
ends_of d (Resumed vs) σ r h n = h
ends_of d Rejected σ r h n = h
ends_of d (Retried k) σ r h n = h
ends_of d (Continued k) σ r h n = h
ends_of d (Uncaught s) σ r h n = h
ends_of d FrameLimit σ r h n = h
ends_of d Broken σ r h n = h

pub bounds_are_cuts : BoundsAreCuts
unfolding outcome first_state more
bounds_are_cuts P input e turns d =
    let u : Upto (control P (meaning P (suc turns)) P.control) (control P (meaning P (suc (turns + d))) P.control) =
    control_kept Upto Upto upto_kept P (meaning P (suc turns)) (meaning P (suc (turns + d))) (meaning_upto P (suc turns) (suc (turns + d)) (omega arith)) P.control in
    record {
      begins = begins_of d _ _ _ (u.agrees (first_state P input e turns) d);
      ends = ends_of d _ _ _ (u.agrees (first_state P input e turns) d);
    }
