-- With a fault after the input: over any input that begins with these bytes the output begins with this one, and an end
-- other than Broken is the same.
use Rattle.std.specs.Prelude.{◌≡◌, ◌≢◌, refl, ℕ, zero, suc, ◌+◌, List, [], ◌∷◌, ◌++◌, Bool, true, false}
use mathlib.Core.Path.{◌∙◌, ap, sym, subst}
use Rattle.mesa_types.specs.Typed.{Stmt}
use Rattle.source_meaning.specs.Program.{Program}
use Rattle.source_meaning.specs.State.{State, Store, Ending, End, Fault, Answer, Go, Normal, Gives, Resumed, Rejected, Retried, Continued, Uncaught, Spent, FrameLimit, Broken, Result, Run, give, carry, after, look, change, spend_of, spend, leave, enter_if, enter, put, read_of, read, peek_of, peek}
use Rattle.source_meaning.specs.Variables.{Where}
use Rattle.source_meaning.specs.Meaning.{meaning}
use Rattle.source_meaning.specs.Means.{outcome, control, first_state}
use Rattle.source_meaning.specs.Laws.{Begins, FaultsAreCuts}
use Rattle.source_meaning.proofs.Kept.{Keeps, Kept, Passes, always_kept}
use Rattle.source_meaning.proofs.Through.{does_kept, control_kept}
use Rattle.source_meaning.proofs.Bounds.{begins_same, begins_further}

-- the state with more input, and what follows that
unfoldable pub fed : List ℕ → Ending → State → State
fed xs e σ = record σ { input = σ.input ++ xs; ending = e }

abbrev pub Agrees : List ℕ → Ending → Answer → State → Result → Type 0
Agrees xs e Broken σ r = Begins σ.output r.state.output
Agrees xs e a σ r = r ≡ record { answer = a; state = fed xs e σ }

pub record Fed (m m' : Run) : Type 0 where
  pub grows : (σ : State) → Begins σ.output (m' σ).state.output
  pub stays : (σ : State) → (m σ).state.ending ≡ σ.ending
  pub agrees : (xs : List ℕ) (e : Ending) (σ : State) → σ.ending ≡ Fault → Agrees xs e (m σ).answer (m σ).state (m' (fed xs e σ))

agrees_same : (xs : List ℕ) (e : Ending) (a : Answer) (σ : State) → Agrees xs e a σ (record { answer = a; state = fed xs e σ })
unfolding fed
agrees_same xs e Broken σ = begins_same _
agrees_same xs e Normal σ = refl
agrees_same xs e (Gives vs) σ = refl
agrees_same xs e (Go f p) σ = refl
agrees_same xs e (Resumed vs) σ = refl
agrees_same xs e Rejected σ = refl
agrees_same xs e (Retried n) σ = refl
agrees_same xs e (Continued n) σ = refl
agrees_same xs e (Uncaught s) σ = refl
agrees_same xs e FrameLimit σ = refl
agrees_same xs e Spent σ = refl

give_fed : (a : Answer) → Fed (give a) (give a)
unfolding give
give_fed a = record { grows = λ σ. begins_same _; stays = λ σ. refl; agrees = λ xs e σ f. agrees_same xs e a σ }

same_agrees : (xs : List ℕ) (e : Ending) (k k' : Answer → Run) (a : Answer) → Fed (k a) (k' a) → (σ : State) → σ.ending ≡ Fault → (r : Result) →
    r ≡ record { answer = a; state = fed xs e σ } → Agrees xs e (k a σ).answer (k a σ).state (carry r k')
unfolding carry
same_agrees xs e k k' a g σ f r q = subst (λ x. Agrees xs e (k a σ).answer (k a σ).state (carry x k')) (sym q) (g.agrees xs e σ f)

then_agrees : (xs : List ℕ) (e : Ending) (k k' : Answer → Run) → Passes k → ((a : Answer) → Fed (k a) (k' a)) → (a : Answer) (σ : State) → σ.ending ≡ Fault → (r : Result) →
    Agrees xs e a σ r → Agrees xs e (k a σ).answer (k a σ).state (carry r k')
unfolding carry
then_agrees xs e k k' p g Broken σ f r h =
    subst (λ a. Agrees xs e a (k Broken σ).state (k' r.answer r.state)) (sym (p.broken.its_answer σ))
    (subst (λ o. Begins o (k' r.answer r.state).state.output) (sym (p.broken.its_output σ))
    (begins_further h ((g r.answer).grows r.state)))
then_agrees xs e k k' p g Normal σ f r h = same_agrees xs e k k' Normal (g Normal) σ f r h
then_agrees xs e k k' p g (Gives vs) σ f r h = same_agrees xs e k k' (Gives vs) (g (Gives vs)) σ f r h
then_agrees xs e k k' p g (Go x q) σ f r h = same_agrees xs e k k' (Go x q) (g (Go x q)) σ f r h
then_agrees xs e k k' p g (Resumed vs) σ f r h = same_agrees xs e k k' (Resumed vs) (g (Resumed vs)) σ f r h
then_agrees xs e k k' p g Rejected σ f r h = same_agrees xs e k k' Rejected (g Rejected) σ f r h
then_agrees xs e k k' p g (Retried n) σ f r h = same_agrees xs e k k' (Retried n) (g (Retried n)) σ f r h
then_agrees xs e k k' p g (Continued n) σ f r h = same_agrees xs e k k' (Continued n) (g (Continued n)) σ f r h
then_agrees xs e k k' p g (Uncaught s) σ f r h = same_agrees xs e k k' (Uncaught s) (g (Uncaught s)) σ f r h
then_agrees xs e k k' p g FrameLimit σ f r h = same_agrees xs e k k' FrameLimit (g FrameLimit) σ f r h
then_agrees xs e k k' p g Spent σ f r h = same_agrees xs e k k' Spent (g Spent) σ f r h

after_fed : {m m' : Run} {k k' : Answer → Run} → Fed m m' → Passes k → ((a : Answer) → Fed (k a) (k' a)) → Fed (after m k) (after m' k')
unfolding after carry
after_fed {m} {m'} {k} {k'} h p g = record {
  grows = λ σ. begins_further (h.grows σ) ((g _).grows _);
  stays = λ σ. (g _).stays _ ∙ h.stays σ;
  agrees = λ xs e σ f. then_agrees xs e k k' p g (m σ).answer (m σ).state (h.stays σ ∙ f) (m' (fed xs e σ)) (h.agrees xs e σ f);
}

look_fed : {k k' : Store → Run} → ((s : Store) → Fed (k s) (k' s)) → Fed (look k) (look k')
unfolding look fed
look_fed g = record { grows = λ σ. (g _).grows σ; stays = λ σ. (g _).stays σ; agrees = λ xs e σ f. (g _).agrees xs e σ f }

change_fed : {m m' : Run} → (c : Store → Store) → Fed m m' → Fed (change c m) (change c m')
unfolding change fed
change_fed c h = record { grows = λ σ. h.grows _; stays = λ σ. h.stays _; agrees = λ xs e σ f. h.agrees xs e (record σ { store = c σ.store }) f }

spend_grows : {m m' : Run} → Fed m m' → (t : ℕ) (σ : State) → Begins σ.output (spend_of t m' σ).state.output
unfolding spend_of give
spend_grows h zero σ = begins_same _
spend_grows h (suc j) σ = h.grows _

spend_stays : {m m' : Run} → Fed m m' → (t : ℕ) (σ : State) → (spend_of t m σ).state.ending ≡ σ.ending
unfolding spend_of give
spend_stays h zero σ = refl
spend_stays h (suc j) σ = h.stays _

spend_agrees : {m m' : Run} → Fed m m' → (t : ℕ) (xs : List ℕ) (e : Ending) (σ : State) → σ.ending ≡ Fault →
    Agrees xs e (spend_of t m σ).answer (spend_of t m σ).state (spend_of t m' (fed xs e σ))
unfolding spend_of give fed
spend_agrees h zero xs e σ f = refl
spend_agrees h (suc j) xs e σ f = h.agrees xs e (record σ { turns = j }) f

spend_fed : {m m' : Run} → Fed m m' → Fed (spend m) (spend m')
unfolding spend fed
spend_fed h = record { grows = λ σ. spend_grows h σ.turns σ; stays = λ σ. spend_stays h σ.turns σ; agrees = λ xs e σ f. spend_agrees h σ.turns xs e σ f }

leave_agrees : (xs : List ℕ) (e : Ending) (a : Answer) (σ : State) (r : Result) → Agrees xs e a σ r →
    Agrees xs e (leave (record { answer = a; state = σ })).answer (leave (record { answer = a; state = σ })).state (leave r)
unfolding leave fed
leave_agrees xs e Broken σ r h = h
leave_agrees xs e Normal σ r h = ap leave h
leave_agrees xs e (Gives vs) σ r h = ap leave h
leave_agrees xs e (Go f p) σ r h = ap leave h
leave_agrees xs e (Resumed vs) σ r h = ap leave h
leave_agrees xs e Rejected σ r h = ap leave h
leave_agrees xs e (Retried n) σ r h = ap leave h
leave_agrees xs e (Continued n) σ r h = ap leave h
leave_agrees xs e (Uncaught s) σ r h = ap leave h
leave_agrees xs e FrameLimit σ r h = ap leave h
leave_agrees xs e Spent σ r h = ap leave h

enter_grows : {m m' : Run} → Fed m m' → (b : Bool) (σ : State) → Begins σ.output (enter_if b m' σ).state.output
unfolding enter_if give leave
enter_grows h false σ = begins_same _
enter_grows h true σ = h.grows _

enter_stays : {m m' : Run} → Fed m m' → (b : Bool) (σ : State) → (enter_if b m σ).state.ending ≡ σ.ending
unfolding enter_if give leave
enter_stays h false σ = refl
enter_stays h true σ = h.stays _

enter_agrees : {m m' : Run} → Fed m m' → (b : Bool) (xs : List ℕ) (e : Ending) (σ : State) → σ.ending ≡ Fault →
    Agrees xs e (enter_if b m σ).answer (enter_if b m σ).state (enter_if b m' (fed xs e σ))
unfolding enter_if give fed leave
enter_agrees h false xs e σ f = refl
enter_agrees {m} {m'} h true xs e σ f =
    let s : State = record σ { standing = σ.standing + 1 } in
    leave_agrees xs e (m s).answer (m s).state (m' (fed xs e s)) (h.agrees xs e s f)

enter_fed : {m m' : Run} → Fed m m' → Fed (enter m) (enter m')
unfolding enter fed
enter_fed h = record { grows = λ σ. enter_grows h _ σ; stays = λ σ. enter_stays h _ σ; agrees = λ xs e σ f. enter_agrees h _ xs e σ f }

put_fed : {m m' : Run} → (text : List ℕ) → Fed m m' → Fed (put text m) (put text m')
unfolding put fed
put_fed text h = record {
  grows = λ σ. begins_further (record { rest = text; whole = refl }) (h.grows _);
  stays = λ σ. h.stays _;
  agrees = λ xs e σ f. h.agrees xs e (record σ { output = σ.output ++ text }) f;
}

read_grows : {k k' : ℕ → Run} {m m' : Run} → ((b : ℕ) → Fed (k b) (k' b)) → Fed m m' → (bs : List ℕ) (e : Ending) (σ : State) → Begins σ.output (read_of bs e k' m' σ).state.output
unfolding read_of give
read_grows g h (b ∷ bs) e σ = (g b).grows _
read_grows g h [] End σ = h.grows σ
read_grows g h [] Fault σ = begins_same _

read_stays : {k k' : ℕ → Run} {m m' : Run} → ((b : ℕ) → Fed (k b) (k' b)) → Fed m m' → (bs : List ℕ) (e : Ending) (σ : State) → (read_of bs e k m σ).state.ending ≡ σ.ending
unfolding read_of give
read_stays g h (b ∷ bs) e σ = (g b).stays _
read_stays g h [] End σ = h.stays σ
read_stays g h [] Fault σ = refl

read_agrees : {k k' : ℕ → Run} {m m' : Run} → ((b : ℕ) → Fed (k b) (k' b)) → Fed m m' → (bs : List ℕ) (xs : List ℕ) (e : Ending) (σ : State) → σ.ending ≡ Fault →
    Agrees xs e (read_of bs Fault k m σ).answer (read_of bs Fault k m σ).state (read_of (bs ++ xs) e k' m' (fed xs e σ))
unfolding read_of give fed
read_agrees g h (b ∷ bs) xs e σ f = (g b).agrees xs e (record σ { input = bs }) f
read_agrees g h [] xs e σ f = read_grows g h xs e _

read_fed : {k k' : ℕ → Run} {m m' : Run} → ((b : ℕ) → Fed (k b) (k' b)) → Fed m m' → Fed (read k m) (read k' m')
unfolding read fed
read_fed {k} {k'} {m} {m'} g h = record {
  grows = λ σ. read_grows g h _ _ σ;
  stays = λ σ. read_stays g h _ _ σ;
  agrees = λ xs e σ f. subst (λ x. Agrees xs e (read_of σ.input x k m σ).answer (read_of σ.input x k m σ).state (read_of (σ.input ++ xs) e k' m' (fed xs e σ))) (sym f) (read_agrees g h σ.input xs e σ f);
}

peek_grows : {k k' : Bool → Run} → ((b : Bool) → Fed (k b) (k' b)) → (bs : List ℕ) (e : Ending) (σ : State) → Begins σ.output (peek_of bs e k' σ).state.output
unfolding peek_of give
peek_grows g (b ∷ bs) e σ = (g _).grows σ
peek_grows g [] End σ = (g _).grows σ
peek_grows g [] Fault σ = begins_same _

peek_stays : {k k' : Bool → Run} → ((b : Bool) → Fed (k b) (k' b)) → (bs : List ℕ) (e : Ending) (σ : State) → (peek_of bs e k σ).state.ending ≡ σ.ending
unfolding peek_of give
peek_stays g (b ∷ bs) e σ = (g _).stays σ
peek_stays g [] End σ = (g _).stays σ
peek_stays g [] Fault σ = refl

peek_agrees : {k k' : Bool → Run} → ((b : Bool) → Fed (k b) (k' b)) → (bs : List ℕ) (xs : List ℕ) (e : Ending) (σ : State) → σ.ending ≡ Fault →
    Agrees xs e (peek_of bs Fault k σ).answer (peek_of bs Fault k σ).state (peek_of (bs ++ xs) e k' (fed xs e σ))
unfolding peek_of give fed
peek_agrees g (b ∷ bs) xs e σ f = (g _).agrees xs e σ f
peek_agrees g [] xs e σ f = peek_grows g xs e _

peek_fed : {k k' : Bool → Run} → ((b : Bool) → Fed (k b) (k' b)) → Fed (peek k) (peek k')
unfolding peek fed
peek_fed {k} {k'} g = record {
  grows = λ σ. peek_grows g _ _ σ;
  stays = λ σ. peek_stays g _ _ σ;
  agrees = λ xs e σ f. subst (λ x. Agrees xs e (peek_of σ.input x k σ).answer (peek_of σ.input x k σ).state (peek_of (σ.input ++ xs) e k' (fed xs e σ))) (sym f) (peek_agrees g σ.input xs e σ f);
}

fed_keeps : Keeps Fed
fed_keeps = record {
  its_give = give_fed;
  its_after = after_fed;
  its_look = look_fed;
  its_change = λ f c h. change_fed f h;
  its_spend = spend_fed;
  its_enter = enter_fed;
  its_put = put_fed;
  its_read = read_fed;
  its_peek = peek_fed;
}

pub fed_kept : Kept Fed Fed
fed_kept = always_kept Fed fed_keeps

pub meaning_fed : (P : Program) (n : ℕ) (s : Stmt) (w : Where) → Fed (meaning P n s w) (meaning P n s w)
unfolding meaning
meaning_fed P zero s w = give_fed _
meaning_fed P (suc n) s w = does_kept Fed Fed fed_kept P (meaning P n) (meaning P n) (meaning_fed P n) s w

-- whole programs

fed_begins_of : (xs : List ℕ) (e : Ending) (a : Answer) (σ : State) (r : Result) → Agrees xs e a σ r → Begins σ.output r.state.output
unfolding fed
fed_begins_of xs e Broken σ r h = h
fed_begins_of xs e Normal σ r h = rw h (begins_same σ.output)
fed_begins_of xs e (Gives vs) σ r h = rw h (begins_same σ.output)
fed_begins_of xs e (Go f p) σ r h = rw h (begins_same σ.output)
fed_begins_of xs e (Resumed vs) σ r h = rw h (begins_same σ.output)
fed_begins_of xs e Rejected σ r h = rw h (begins_same σ.output)
fed_begins_of xs e (Retried n) σ r h = rw h (begins_same σ.output)
fed_begins_of xs e (Continued n) σ r h = rw h (begins_same σ.output)
fed_begins_of xs e (Uncaught s) σ r h = rw h (begins_same σ.output)
fed_begins_of xs e FrameLimit σ r h = rw h (begins_same σ.output)
fed_begins_of xs e Spent σ r h = rw h (begins_same σ.output)

fed_ends_of : (xs : List ℕ) (e : Ending) (a : Answer) (σ : State) (r : Result) → Agrees xs e a σ r → a ≢ Broken →
    r ≡ record { answer = a; state = record σ { input = σ.input ++ xs; ending = e } }
unfolding fed
fed_ends_of xs e Broken σ r h n = absurd (n refl)
fed_ends_of xs e Normal σ r h n = h
fed_ends_of xs e (Gives vs) σ r h n = h
fed_ends_of xs e (Go f p) σ r h n = h
fed_ends_of xs e (Resumed vs) σ r h n = h
fed_ends_of xs e Rejected σ r h n = h
fed_ends_of xs e (Retried k) σ r h n = h
fed_ends_of xs e (Continued k) σ r h n = h
fed_ends_of xs e (Uncaught s) σ r h n = h
fed_ends_of xs e FrameLimit σ r h n = h
fed_ends_of xs e Spent σ r h n = h

pub faults_are_cuts : FaultsAreCuts
unfolding outcome first_state fed
faults_are_cuts P input xs e turns =
    let u : Fed (control P (meaning P (suc turns)) P.control) (control P (meaning P (suc turns)) P.control) =
    control_kept Fed Fed fed_kept P (meaning P (suc turns)) (meaning P (suc turns)) (meaning_fed P (suc turns)) P.control in
    record {
      begins = fed_begins_of xs e _ _ _ (u.agrees xs e (first_state P input Fault turns) refl);
      ends = fed_ends_of xs e _ _ _ (u.agrees xs e (first_state P input Fault turns) refl);
    }
