-- What is put before the rest of a list, part by part.
use Rattle.std.proofs.Common.{◌≡◌, List, [], ◌∷◌, ◌++◌, Ok, Err, refl, ap}
use Rattle.mesa_types.specs.Plain.{chain}
use Rattle.check_rules.specs.Steps.{Checked, State, and_then}

-- what is still to come, behind what is there
abbrev pub onto : {T : Type 0} → List (T → T) → Checked (T × State) → Checked (T × State)
onto done p = and_then p (λ q. Ok (chain done q.0, q.1))

-- a part, and then the rest
abbrev pub before_rest : {T : Type 0} → (T → T) → Checked (T × State) → Checked (T × State)
before_rest put p = and_then p (λ q. Ok (put q.0, q.1))

pub onto_none : {T : Type 0} (p : Checked (T × State)) → p ≡ onto [] p
onto_none (Ok r) = refl
onto_none (Err e) = refl

pub chain_more : {T : Type 0} (done : List (T → T)) (put : T → T) (rest : T) → chain done (put rest) ≡ chain (done ++ put ∷ []) rest
chain_more [] put rest = refl
chain_more (f ∷ done) put rest = ap f (chain_more done put rest)

onto_rest : {T : Type 0} (done : List (T → T)) (put : T → T) (p : Checked (T × State)) → onto done (before_rest put p) ≡ onto (done ++ put ∷ []) p
onto_rest done put (Ok q) = ap (λ x. Ok (x, q.1)) (chain_more done put q.0)
onto_rest done put (Err e) = refl

pub onto_one : {T : Type 0} (done : List (T → T)) (p : Checked ((T → T) × State)) (rest : State → Checked (T × State))
    → onto done (and_then p (λ r. before_rest r.0 (rest r.1))) ≡ and_then p (λ r. onto (done ++ r.0 ∷ []) (rest r.1))
onto_one done (Ok r) rest = onto_rest done r.0 (rest r.1)
onto_one done (Err e) rest = refl

-- with what is handed on to the rest
pub onto_next : {T N : Type 0} (done : List (T → T)) (p : Checked (((T → T) × N) × State)) (rest : N → State → Checked (T × State))
    → onto done (and_then p (λ r. before_rest r.0.0 (rest r.0.1 r.1))) ≡ and_then p (λ r. onto (done ++ r.0.0 ∷ []) (rest r.0.1 r.1))
onto_next done (Ok r) rest = onto_rest done r.0.0 (rest r.0.1 r.1)
onto_next done (Err e) rest = refl
