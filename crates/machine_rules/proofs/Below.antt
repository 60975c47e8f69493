-- What each way of going on makes of the turns and the activations: fewer turns are left, or as many and the activations weigh less.
use Rattle.std.proofs.Common.{◌≡◌, ℕ, zero, suc, ◌+◌, ◌<◌, ◌≤◌, List, [], ◌∷◌, length, Bool, true, false, Option, Some, None, refl, sym, subst, arith}
use Rattle.std.specs.Prelude.{nat_lt, if◌then◌else◌}
use Rattle.code_forms.specs.declared.instruction.Instruction.{Instruction}
use Rattle.code_forms.specs.declared.instruction.Instruction.TheVariants.{CallLink}
use Rattle.code_forms.specs.declared.module_code.CodeProcedure.{CodeProcedure}
use Rattle.object_files.specs.declared.image.Image.{Image}
use Rattle.object_files.specs.declared.image.Link.{Link}
use Rattle.object_files.specs.declared.image.Link.TheVariants.{Wanted, To}
use Rattle.signaller.specs.declared.signal_id.SignalId.{SignalId}
use Rattle.signaller.specs.declared.signal_id.SignalId.TheVariants.{NoInput}
use Rattle.machine_rules.specs.Words.{on_top}
use Rattle.machine_rules.specs.State.{Target, Why, ForRaise, ForJump, Role, Frame, InArm, Active, Activations, Store, State, Runs, Seeks, Leaves, Stepped, Goes, Stops}
use Rattle.machine_rules.specs.LookUps.{procedure_of, called, bound_to, Host, WriteChar, WriteString, WriteDecimal, ReadChar, EndOfInput, host_of, procedure_under, instruction_under, arm_under}
use Rattle.machine_rules.specs.Activations.{owner}
use Rattle.machine_rules.specs.Moves.{with, spend_of, spend, limit, enter, onward, give}
use Rattle.machine_rules.specs.Signals.{put_at, enter_arm, raise, reject, can_resume, resumed, resume}
use Rattle.machine_rules.specs.Calls.{enter_frame, start, call, host_write, read_char, end_of_input, host, call_in, call_bound, pending, returned, return_of, return_from}
use Rattle.machine_rules.specs.Leaving.{dropped, leave}
use Rattle.machine_rules.proofs.Measure.{Owned, weight_of, weight, weight_some, set_alike}

abbrev pub turns_of : State → ℕ
turns_of (Runs S m) = m.turns
turns_of (Seeks signal args q search S m) = m.turns
turns_of (Leaves t search S m) = m.turns

abbrev pub acts_of : State → Activations
acts_of (Runs S m) = S
acts_of (Seeks signal args q search S m) = S
acts_of (Leaves t search S m) = S

-- fewer turns than so many, or as many and less weight
pub data Down (T W : ℕ) (t : State) : Type 0 where
  fewer : turns_of t < T → Down T W t
  lighter : turns_of t ≡ T → weight (acts_of t) < W → Down T W t

abbrev pub Below : ℕ → ℕ → Stepped → Type 0
Below T W (Goes t) = Owned (acts_of t) × Down T W t
Below T W (Stops end m) = Unit {0}

down_sooner : (T T' W W' : ℕ) (t : State) → T' < T → Down T' W' t → Down T W t
down_sooner T T' W W' t l (fewer f) = fewer (omega (arith, l, f))
down_sooner T T' W W' t l (lighter e w) = fewer (omega (arith, l, e))

pub sooner : (T T' W W' : ℕ) (x : Stepped) → T' < T → Below T' W' x → Below T W x
sooner T T' W W' (Goes t) l b = (b.0, down_sooner T T' W W' t l b.1)
sooner T T' W W' (Stops end m) l b = tt

down_wider : (T W W' : ℕ) (t : State) → W ≤ W' → Down T W t → Down T W' t
down_wider T W W' t l (fewer f) = fewer f
down_wider T W W' t l (lighter e w) = lighter e (omega (arith, l, w))

pub wider : (T W W' : ℕ) (x : Stepped) → W ≤ W' → Below T W x → Below T W' x
wider T W W' (Goes t) l b = (b.0, down_wider T W W' t l b.1)
wider T W W' (Stops end m) l b = tt

pub below_with : {A : Type 0} (T W : ℕ) (o : Option A) (m : Store) (k : A → Stepped) → ((x : A) → o ≡ Some x → Below T W (k x)) → Below T W (with o m k)
unfolding with
below_with T W None m k h = tt
below_with T W (Some x) m k h = h x refl

spent_of : (W W' : ℕ) (n : ℕ) (m : Store) (k : Store → Stepped) → ((m1 : Store) → m1.turns < n → Below m1.turns W' (k m1)) → Below n W (spend_of n m k)
unfolding spend_of
spent_of W W' zero m k h = tt
spent_of W W' (suc n) m k h =
    let m1 : Store = record m { turns = n } in
    sooner (suc n) n W W' (k m1) (omega arith) (h m1 (omega arith))

-- a turn is spent, whatever follows
pub below_spend : (W W' : ℕ) (m : Store) (k : Store → Stepped) → ((m1 : Store) → m1.turns < m.turns → Below m1.turns W' (k m1)) → Below m.turns W (spend m k)
unfolding spend
below_spend W W' m k h = spent_of W W' m.turns m k h

below_if : (T W : ℕ) (b : Bool) (x y : Stepped) → Below T W x → Below T W y → Below T W (if b then x else y)
below_if T W true x y p q = p
below_if T W false x y p q = q

pub below_enter : (a : Active) (S : Activations) (m : Store) → Owned (a ∷ S) → Below m.turns (suc (weight (a ∷ S))) (enter a S m)
unfolding enter
below_enter a S m o = below_if m.turns (suc (weight (a ∷ S))) (nat_lt (length S) limit) _ _ (o, lighter refl (omega arith)) tt

pub below_give : (image : Image) (n : ℕ) (words : List ℕ) (S : Activations) (m : Store) → Owned S → Below m.turns (suc (weight S)) (give image n words S m)
unfolding give onward
below_give image n words [] m o = tt
below_give image n words (a ∷ S) m o =
    below_with m.turns (suc (weight (a ∷ S))) (instruction_under image a) m _ (λ i e. (o, lighter refl (omega arith)))

-- Calls.

below_frame : (j number : ℕ) (p : CodeProcedure) (args : List ℕ) (S : Activations) (m : Store) → Owned S
    → Below m.turns (3 + weight S) (enter_frame j number p args S m)
unfolding enter_frame
below_frame j zero p args S m o = wider m.turns _ _ _ (omega arith) (below_enter _ S m (tt, o))
below_frame j (suc number) p args S m o = wider m.turns _ _ _ (omega arith) (below_enter _ S m (tt, o))

below_called : (j number : ℕ) (p : CodeProcedure) (args : List ℕ) (S : Activations) (m : Store) → Owned S
    → Below m.turns (2 + weight S) (enter_frame j (suc number) p args S m)
unfolding enter_frame
below_called j number p args S m o = wider m.turns _ _ _ (omega arith) (below_enter _ S m (tt, o))

pub below_start : (image : Image) (j : ℕ) (W : ℕ) (S : Activations) (m : Store) → Owned S → Below m.turns W (start image j S m)
unfolding start
below_start image j W S m o =
    below_with m.turns W (procedure_of image j 0) m _ (λ p e. below_spend W (3 + weight S) _ _ (λ m1 l. below_frame j 0 p [] S m1 o))

pub below_call : (j number : ℕ) (p : CodeProcedure) (a : Active) (S : Activations) (m : Store) → Owned (a ∷ S)
    → Below m.turns (2 + weight (a ∷ S)) (call j (suc number) p a S m)
unfolding call
below_call j number p a S m o = below_called j number p _ _ m o

pub below_raise : (image : Image) (signal : SignalId) (args : List ℕ) (W : ℕ) (a : Active) (S : Activations) (m : Store) → Owned (a ∷ S)
    → Below m.turns W (raise image signal args a S m)
unfolding raise
below_raise image signal args W a S m o = below_spend W (suc (weight (a ∷ S))) m _ (λ m1 l. (o, lighter refl (omega arith)))

below_write : (image : Image) (n : ℕ) (text : List ℕ) (S : Activations) (m : Store) → Owned S → Below m.turns (suc (weight S)) (host_write image n text S m)
unfolding host_write
below_write image n text S m o = below_give image n [] S _ o

below_read : (image : Image) (input : List ℕ) (a : Active) (S : Activations) (m : Store) → Owned (a ∷ S)
    → Below m.turns (suc (weight (a ∷ S))) (read_char image input a S m)
unfolding read_char
below_read image (byte ∷ rest) a S m o = below_give image 0 _ (a ∷ S) _ o
below_read image [] a S m o = below_if m.turns _ m.faulty _ _ tt (below_raise image NoInput [] _ a S m o)

below_peek : (image : Image) (input : List ℕ) (a : Active) (S : Activations) (m : Store) → Owned (a ∷ S)
    → Below m.turns (suc (weight (a ∷ S))) (end_of_input image input a S m)
unfolding end_of_input
below_peek image (byte ∷ rest) a S m o = below_give image 0 _ (a ∷ S) m o
below_peek image [] a S m o = below_if m.turns _ m.faulty _ _ tt (below_give image 0 _ (a ∷ S) m o)

pub below_on_top : (T W : ℕ) (operands : List ℕ) (k : ℕ → List ℕ → Stepped) → ((x : ℕ) (rest : List ℕ) → Below T W (k x rest)) → Below T W (on_top operands k)
below_on_top T W [] k h = h 0 []
below_on_top T W (x ∷ rest) k h = h x rest

below_host : (image : Image) (h : Host) (a : Active) (S : Activations) (m : Store) → Owned (a ∷ S) → Below m.turns (suc (weight (a ∷ S))) (host image h a S m)
unfolding host
below_host image WriteChar a S m o = below_on_top m.turns _ a.operands _ (λ c rest. below_write image 1 _ (a ∷ S) m o)
below_host image WriteString a S m o =
    below_on_top m.turns _ a.operands _ (λ k rest. below_on_top m.turns _ rest _ (λ n more. below_write image 2 _ (a ∷ S) m o))
below_host image WriteDecimal a S m o = below_on_top m.turns _ a.operands _ (λ n rest. below_write image 1 _ (a ∷ S) m o)
below_host image ReadChar a S m o = below_read image m.input a S m o
below_host image EndOfInput a S m o = below_peek image m.input a S m o

pub below_call_of : (image : Image) (j number : ℕ) (a : Active) (S : Activations) (m : Store) → Owned (a ∷ S)
    → Below m.turns (2 + weight (a ∷ S)) (with (called image j number) m (λ p. call_in image j number p a S m))
unfolding with called call_in
below_call_of image j zero a S m o = tt
below_call_of image j (suc number) a S m o =
    below_with m.turns _ (called image j (suc number)) m _ (λ p e.
    below_if m.turns _ _ _ _ (below_call j number p a S m o) (below_start image j _ (a ∷ S) m o))

pub below_bound : (image : Image) (l : Link) (a : Active) (S : Activations) (m : Store) → Owned (a ∷ S)
    → Below m.turns (2 + weight (a ∷ S)) (call_bound image l a S m)
unfolding call_bound
below_bound image (Wanted n) a S m o =
    below_with m.turns _ (host_of image n) m _ (λ h e. wider m.turns _ _ _ (omega arith) (below_host image h a S m o))
below_bound image (To j number) a S m o = below_call_of image j number a S m o

-- Returns.

below_pending : (image : Image) (i : Instruction) (a : Active) (S : Activations) (m : Store) → Owned (a ∷ S)
    → Below m.turns (2 + weight (a ∷ S)) (pending image i a S m)
unfolding pending
below_pending image (CallLink k) a S m o =
    below_with m.turns _ (bound_to image a.instance k) m _ (λ l e. below_bound image l a S m o)
below_pending image _ a S m o = tt

-- of a frame that is given up
below_returned : (image : Image) (number : ℕ) (variables results : List ℕ) (S : Activations) (m : Store) → Owned S
    → Below m.turns (weight_of (Frame variables) number + weight S) (returned image number results S m)
unfolding returned
below_returned image zero variables results [] m o = (tt, lighter refl (omega arith))
below_returned image (suc number) variables results [] m o = (tt, lighter refl (omega arith))
below_returned image zero variables results (a ∷ S) m o =
    below_with m.turns _ (instruction_under image a) m _ (λ i e. below_pending image i a S m o)
below_returned image (suc number) variables results (a ∷ S) m o = wider m.turns _ _ _ (omega arith) (below_give image 0 results (a ∷ S) m o)

below_return_of : (image : Image) (p : CodeProcedure) (a : Active) (role : Role (List ℕ)) (S : Activations) (m : Store) → Owned S
    → Below m.turns (weight_of role a.procedure + weight S) (return_of image p a role S m)
unfolding return_of
below_return_of image p a (Frame variables) S m o = below_returned image a.procedure variables _ S m o
below_return_of image p a (InArm own arm why) S m o = tt

pub below_return : (image : Image) (a : Active) (S : Activations) (m : Store) → Owned (a ∷ S) → Below m.turns (weight (a ∷ S)) (return_from image a S m)
unfolding return_from
below_return image a S m o = below_with m.turns _ (procedure_under image a) m _ (λ p e. below_return_of image p a a.role S m o.1)

-- Arms.

pub below_arm : (image : Image) (n : ℕ) (b : Active) (q : ℕ) (why : Why) (words : List ℕ) (W : ℕ) (S : Activations) (m : Store) → Owned S
    → owner b.role q ≤ q → q < length S → Below m.turns W (enter_arm image n b q why words S m)
unfolding enter_arm put_at
below_arm image n b q why words W S m o low inside =
    below_with m.turns W (arm_under image b n) m _ (λ arm e.
    below_spend W _ m _ (λ m1 l.
    let same = set_alike S (owner b.role q) _ in
    below_enter _ _ m1 (subst (λ k. owner b.role q < k) (sym same.long) (omega (arith, low, inside)), same.owned o)))

pub below_reject : (role : Role (List ℕ)) (number : ℕ) (S : Activations) (m : Store) → Owned S → Below m.turns (weight_of role number + weight S) (reject role S m)
unfolding reject
below_reject (Frame variables) number S m o = tt
below_reject (InArm own arm (ForRaise signal args beyond)) number S m o = (o, lighter refl (omega arith))
below_reject (InArm own arm (ForJump target beyond)) number S m o = (o, lighter refl (omega arith))

below_resumed : (b : Bool) (image : Image) (words : List ℕ) (role : Role (List ℕ)) (number : ℕ) (S : Activations) (m : Store) → Owned S
    → Below m.turns (weight_of role number + weight S) (resumed b image words role S m)
unfolding resumed
below_resumed true image words role number S m o =
    let w = weight_some role number in wider m.turns _ _ _ (omega (arith, w)) (below_give image 0 words S m o)
below_resumed false image words role number S m o = below_reject role number S m o

pub below_resume : (image : Image) (n : ℕ) (words : List ℕ) (role : Role (List ℕ)) (number : ℕ) (S : Activations) (m : Store) → Owned S
    → Below m.turns (weight_of role number + weight S) (resume image n words role S m)
unfolding resume
below_resume image n words role number S m o = below_resumed (can_resume image role n) image words role number S m o

-- Jumps.

pub below_dropped : (image : Image) (t : Target) (role : Role (List ℕ)) (number : ℕ) (S : Activations) (m : Store) → Owned S
    → Below m.turns (weight_of role number + weight S) (dropped image t role S m)
unfolding dropped
below_dropped image t role number [] m o = tt
below_dropped image t role number (b ∷ S) m o = let w = weight_some role number in (o, lighter refl (omega (arith, w)))

pub below_leave : (image : Image) (goal : Option ℕ) (role : Role (List ℕ)) (number : ℕ) (S : Activations) (m : Store) → Owned S
    → Below m.turns (weight_of role number + weight S) (leave image goal role S m)
unfolding leave
below_leave image goal (Frame variables) number S m o = tt
below_leave image goal (InArm own arm why) number S m o = below_dropped image _ (InArm own arm why) number S m o
