-- With more fuel than turns the fuel changes nothing.
use Rattle.std.specs.Prelude.{◌≡◌, refl, ℕ, zero, suc, ◌<◌, ◌≤◌, List, [], ◌∷◌, Bool, true, false}
use mathlib.Core.Path.{◌∙◌, ap}
use Rattle.std.proofs.Common.{arith}
use Rattle.mesa_types.specs.Typed.{Stmt, Start, After, At, Leave}
use Rattle.source_meaning.specs.Program.{Program}
use Rattle.source_meaning.specs.State.{State, Store, Ending, End, Fault, Answer, Go, Normal, Run, give, carry, after, look, change, spend_of, spend, leave, enter_if, enter, put, read_of, read, peek_of, peek}
use Rattle.source_meaning.specs.Variables.{Where}
use Rattle.source_meaning.specs.Meaning.{meaning}
use Rattle.source_meaning.specs.Laws.{FuelNeverShows}
use Rattle.source_meaning.proofs.Kept.{Keeps, Kept, IsCalm, Follows}
use Rattle.source_meaning.proofs.Through.{does_kept}

-- below so many turns the two runs are the same, and give no turns
pub record Loose (n : ℕ) (m m' : Run) : Type 0 where
  pub same : (σ : State) → σ.turns < n → m σ ≡ m' σ
  pub fewer : (σ : State) → (m σ).state.turns ≤ σ.turns

-- a jump to a start has spent a turn
abbrev pub Spends : Answer → ℕ → ℕ → Type 0
Spends (Go f (Start k)) before left = left < before
Spends _ before left = left ≤ before

pub record Tight (n : ℕ) (m m' : Run) : Type 0 where
  pub same : (σ : State) → σ.turns < suc n → m σ ≡ m' σ
  pub spends : (σ : State) → Spends (m σ).answer σ.turns (m σ).state.turns

fewer_of_spends : (a : Answer) {x y : ℕ} → Spends a x y → y ≤ x
fewer_of_spends (Go f (Start k)) h = omega arith
fewer_of_spends (Go f (After k)) h = h
fewer_of_spends (Go f (At k)) h = h
fewer_of_spends (Go f Leave) h = h
fewer_of_spends Normal h = h
fewer_of_spends _ h = h

spends_of_less : (a : Answer) {x y : ℕ} → y < x → Spends a x y
spends_of_less (Go f (Start k)) h = h
spends_of_less (Go f (After k)) h = omega arith
spends_of_less (Go f (At k)) h = omega arith
spends_of_less (Go f Leave) h = omega arith
spends_of_less Normal h = omega arith
spends_of_less _ h = omega arith

spends_of_calm : (a : Answer) (x : ℕ) → IsCalm a → Spends a x x
spends_of_calm (Go f (Start k)) x c = absurd c
spends_of_calm (Go f (After k)) x c = omega arith
spends_of_calm (Go f (At k)) x c = omega arith
spends_of_calm (Go f Leave) x c = omega arith
spends_of_calm Normal x c = omega arith
spends_of_calm _ x c = omega arith

spends_more : (a : Answer) {x y : ℕ} (z : ℕ) → y ≤ x → Spends a y z → Spends a x z
spends_more (Go f (Start k)) z h g = omega arith
spends_more (Go f (After k)) z h g = omega arith
spends_more (Go f (At k)) z h g = omega arith
spends_more (Go f Leave) z h g = omega arith
spends_more Normal z h g = omega arith
spends_more _ z h g = omega arith

module _ (n : ℕ) where
  give_loose : (a : Answer) → Loose n (give a) (give a)
  unfolding give
  give_loose a = record { same = λ σ h. refl; fewer = λ σ. omega arith }

  give_tight : (a : Answer) → IsCalm a → Tight n (give a) (give a)
  unfolding give
  give_tight a c = record { same = λ σ h. refl; spends = λ σ. spends_of_calm a σ.turns c }

  after_loose : {m m' : Run} {k k' : Answer → Run} → Loose n m m' → ((a : Answer) → Loose n (k a) (k' a)) → Loose n (after m k) (after m' k')
  unfolding after carry
  after_loose {m} {m'} {k} {k'} h g = record {
    same = λ σ lt. (g _).same _ (omega (arith, h.fewer σ)) ∙ ap (λ r. carry r k') (h.same σ lt);
    fewer = λ σ. omega (arith, h.fewer σ, (g (m σ).answer).fewer (m σ).state);
  }

  -- what comes of an answer
  follows_same : (r r' : Run) (a : Answer) (σ : State) (x : ℕ) → x < suc n → Spends a x σ.turns → Follows (Loose n) (Tight n) a r r' → r σ ≡ r' σ
  follows_same r r' (Go f (Start k)) σ x lt g h = h.same σ (omega arith)
  follows_same r r' (Go f (After k)) σ x lt g h = h.same σ (omega arith)
  follows_same r r' (Go f (At k)) σ x lt g h = h.same σ (omega arith)
  follows_same r r' (Go f Leave) σ x lt g h = h.same σ (omega arith)
  follows_same r r' Normal σ x lt g h = h.same σ (omega arith)
  follows_same r r' _ σ x lt g h = h.same σ (omega arith)

  follows_spends : (r r' : Run) (a : Answer) (σ : State) (x : ℕ) → Spends a x σ.turns → Follows (Loose n) (Tight n) a r r' →
      Spends (r σ).answer x (r σ).state.turns
  follows_spends r r' (Go f (Start k)) σ x g h = spends_of_less (r σ).answer (omega (arith, h.fewer σ))
  follows_spends r r' (Go f (After k)) σ x g h = spends_more (r σ).answer (r σ).state.turns g (h.spends σ)
  follows_spends r r' (Go f (At k)) σ x g h = spends_more (r σ).answer (r σ).state.turns g (h.spends σ)
  follows_spends r r' (Go f Leave) σ x g h = spends_more (r σ).answer (r σ).state.turns g (h.spends σ)
  follows_spends r r' Normal σ x g h = spends_more (r σ).answer (r σ).state.turns g (h.spends σ)
  follows_spends r r' _ σ x g h = spends_more (r σ).answer (r σ).state.turns g (h.spends σ)

  after_tight : {m m' : Run} {k k' : Answer → Run} → Tight n m m' → ((a : Answer) → Follows (Loose n) (Tight n) a (k a) (k' a)) → Tight n (after m k) (after m' k')
  unfolding after carry
  after_tight {m} {m'} {k} {k'} h g = record {
    same = λ σ lt. follows_same (k (m σ).answer) (k' (m σ).answer) (m σ).answer (m σ).state σ.turns lt (h.spends σ) (g (m σ).answer) ∙ ap (λ r. carry r k') (h.same σ lt);
    spends = λ σ. follows_spends (k (m σ).answer) (k' (m σ).answer) (m σ).answer (m σ).state σ.turns (h.spends σ) (g (m σ).answer);
  }

  look_loose : {k k' : Store → Run} → ((s : Store) → Loose n (k s) (k' s)) → Loose n (look k) (look k')
  unfolding look
  look_loose g = record { same = λ σ lt. (g _).same σ lt; fewer = λ σ. (g _).fewer σ }

  look_tight : {k k' : Store → Run} → ((s : Store) → Tight n (k s) (k' s)) → Tight n (look k) (look k')
  unfolding look
  look_tight g = record { same = λ σ lt. (g _).same σ lt; spends = λ σ. (g _).spends σ }

  change_loose : {m m' : Run} → (f : Store → Store) → Loose n m m' → Loose n (change f m) (change f m')
  unfolding change
  change_loose f h = record { same = λ σ lt. h.same _ lt; fewer = λ σ. h.fewer _ }

  change_tight : {m m' : Run} → (f : Store → Store) → Tight n m m' → Tight n (change f m) (change f m')
  unfolding change
  change_tight f h = record { same = λ σ lt. h.same _ lt; spends = λ σ. h.spends _ }

  spend_same : {m m' : Run} → Loose n m m' → (t : ℕ) (σ : State) → t < suc n → spend_of t m σ ≡ spend_of t m' σ
  unfolding spend_of
  spend_same h zero σ lt = refl
  spend_same h (suc j) σ lt = h.same _ (omega arith)

  spend_spends : {m m' : Run} → Loose n m m' → (t : ℕ) (σ : State) → σ.turns ≡ t → Spends (spend_of t m σ).answer σ.turns (spend_of t m σ).state.turns
  unfolding spend_of give
  spend_spends h zero σ e = omega arith
  spend_spends {m} h (suc j) σ e = spends_of_less (m (record σ { turns = j })).answer (omega (arith, h.fewer (record σ { turns = j })))

  spend_tight : {m m' : Run} → Loose n m m' → Tight n (spend m) (spend m')
  unfolding spend
  spend_tight h = record { same = λ σ lt. spend_same h σ.turns σ lt; spends = λ σ. spend_spends h σ.turns σ refl }

  loosen : {m m' : Run} → Tight n m m' → Loose n m m'
  loosen {m} h = record { same = λ σ lt. h.same σ (omega arith); fewer = λ σ. fewer_of_spends (m σ).answer (h.spends σ) }

  enter_if_same : {m m' : Run} → Loose n m m' → (b : Bool) (σ : State) → σ.turns < n → enter_if b m σ ≡ enter_if b m' σ
  unfolding enter_if
  enter_if_same h false σ lt = refl
  enter_if_same h true σ lt = ap leave (h.same _ lt)

  enter_if_fewer : {m m' : Run} → Loose n m m' → (b : Bool) (σ : State) → (enter_if b m σ).state.turns ≤ σ.turns
  unfolding enter_if leave give
  enter_if_fewer h false σ = omega arith
  enter_if_fewer h true σ = h.fewer _

  enter_loose : {m m' : Run} → Loose n m m' → Loose n (enter m) (enter m')
  unfolding enter
  enter_loose h = record { same = λ σ lt. enter_if_same h _ σ lt; fewer = λ σ. enter_if_fewer h _ σ }

  put_loose : {m m' : Run} → (text : List ℕ) → Loose n m m' → Loose n (put text m) (put text m')
  unfolding put
  put_loose text h = record { same = λ σ lt. h.same _ lt; fewer = λ σ. h.fewer _ }

  read_same : {k k' : ℕ → Run} {m m' : Run} → ((b : ℕ) → Loose n (k b) (k' b)) → Loose n m m' →
      (bs : List ℕ) (e : Ending) (σ : State) → σ.turns < n → read_of bs e k m σ ≡ read_of bs e k' m' σ
  unfolding read_of
  read_same g h (b ∷ bs) e σ lt = (g b).same _ lt
  read_same g h [] End σ lt = h.same σ lt
  read_same g h [] Fault σ lt = refl

  read_fewer : {k k' : ℕ → Run} {m m' : Run} → ((b : ℕ) → Loose n (k b) (k' b)) → Loose n m m' →
      (bs : List ℕ) (e : Ending) (σ : State) → (read_of bs e k m σ).state.turns ≤ σ.turns
  unfolding read_of give
  read_fewer g h (b ∷ bs) e σ = (g b).fewer _
  read_fewer g h [] End σ = h.fewer σ
  read_fewer g h [] Fault σ = omega arith

  read_loose : {k k' : ℕ → Run} {m m' : Run} → ((b : ℕ) → Loose n (k b) (k' b)) → Loose n m m' → Loose n (read k m) (read k' m')
  unfolding read
  read_loose g h = record { same = λ σ lt. read_same g h _ _ σ lt; fewer = λ σ. read_fewer g h _ _ σ }

  peek_same : {k k' : Bool → Run} → ((b : Bool) → Loose n (k b) (k' b)) →
      (bs : List ℕ) (e : Ending) (σ : State) → σ.turns < n → peek_of bs e k σ ≡ peek_of bs e k' σ
  unfolding peek_of
  peek_same g (b ∷ bs) e σ lt = (g _).same σ lt
  peek_same g [] End σ lt = (g _).same σ lt
  peek_same g [] Fault σ lt = refl

  peek_fewer : {k k' : Bool → Run} → ((b : Bool) → Loose n (k b) (k' b)) →
      (bs : List ℕ) (e : Ending) (σ : State) → (peek_of bs e k σ).state.turns ≤ σ.turns
  unfolding peek_of give
  peek_fewer g (b ∷ bs) e σ = (g _).fewer σ
  peek_fewer g [] End σ = (g _).fewer σ
  peek_fewer g [] Fault σ = omega arith

  peek_loose : {k k' : Bool → Run} → ((b : Bool) → Loose n (k b) (k' b)) → Loose n (peek k) (peek k')
  unfolding peek
  peek_loose g = record { same = λ σ lt. peek_same g _ _ σ lt; fewer = λ σ. peek_fewer g _ _ σ }

  loose_keeps : Keeps (Loose n)
  loose_keeps = record {
    its_give = give_loose;
    its_after = λ h p g. after_loose h g;
    its_look = look_loose;
    its_change = λ f c h. change_loose f h;
    its_spend = λ h. loosen (spend_tight h);
    its_enter = enter_loose;
    its_put = put_loose;
    its_read = read_loose;
    its_peek = peek_loose;
  }

  pub fuel_kept : Kept (Loose n) (Tight n)
  fuel_kept = record {
    loose = loose_keeps;
    tight_give = give_tight;
    tight_after = λ h p g. after_tight h g;
    tight_look = look_tight;
    tight_change = λ f c h. change_tight f h;
    tight_spend = spend_tight;
  }

one_more : (n : ℕ) {m m' : Run} → Tight n m m' → Loose (suc n) m m'
one_more n {m} h = record { same = h.same; fewer = λ σ. fewer_of_spends (m σ).answer (h.spends σ) }

pub meaning_loose : (P : Program) (n k : ℕ) → n ≤ k → (s : Stmt) (w : Where) → Loose n (meaning P n s w) (meaning P k s w)
unfolding meaning give
meaning_loose P zero k le s w = record { same = λ σ lt. absurd (omega arith); fewer = λ σ. omega arith }
meaning_loose P (suc n) zero le s w = absurd (omega arith)
meaning_loose P (suc n) (suc k) le s w =
    one_more n (does_kept (Loose n) (Tight n) (fuel_kept n) P (meaning P n) (meaning P k) (meaning_loose P n k (omega arith)) s w)

pub fuel_never_shows : FuelNeverShows
fuel_never_shows P n k s w σ lt le = (meaning_loose P n k le s w).same σ lt
