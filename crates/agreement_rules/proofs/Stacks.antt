-- The topmost activation and the variables of its frame, apart from what else stands.
use Rattle.std.proofs.Common.{◌≡◌, ℕ, suc, List, [], ◌∷◌, length, Bool, true, false, Some, refl, sym, ap, ◌∙◌}
use Rattle.std.specs.Prelude.{nat_eq, if◌then◌else◌}
use Rattle.std.proofs.lemmas.Option.{none-some, same_Some}
use Rattle.machine_rules.specs.State.{Role, Frame, InArm, Active, Activations}
use Rattle.machine_rules.specs.Activations.{activation_at, owner, own_frame, variables_in, variables_of, with_variables, set_variables}
use Rattle.agreement_rules.specs.Reaches.{placed}

long_if : (b : Bool) (a c : Active) (S S' : Activations) → length S' ≡ length S → length (if b then c ∷ S else a ∷ S') ≡ suc (length S)
long_if true a c S S' e = refl
long_if false a c S S' e = ap suc e

pub set_long : (S : Activations) (q : ℕ) (new : List ℕ) → length (set_variables S q new) ≡ length S
unfolding set_variables
set_long [] q new = refl
set_long (a ∷ S) q new = long_if (nat_eq q (length S)) a (record a { role = with_variables a.role new }) S (set_variables S q new) (set_long S q new)

pub owner_same : (r : Role (List ℕ)) (new : List ℕ) (n : ℕ) → owner (with_variables r new) n ≡ owner r n
unfolding owner with_variables
owner_same (Frame old) new n = refl
owner_same (InArm own arm why) new n = refl

with_twice : (r : Role (List ℕ)) (one two : List ℕ) → with_variables (with_variables r one) two ≡ with_variables r two
unfolding with_variables
with_twice (Frame old) one two = refl
with_twice (InArm own arm why) one two = refl

twice_if : (b : Bool) (a : Active) (S : Activations) (q : ℕ) (one two : List ℕ) → nat_eq q (length S) ≡ b
    → set_variables (set_variables S q one) q two ≡ set_variables S q two
    → set_variables (if b then record a { role = with_variables a.role one } ∷ S else a ∷ set_variables S q one) q two
    ≡ (if b then record a { role = with_variables a.role two } ∷ S else a ∷ set_variables S q two)
unfolding set_variables
twice_if true a S q one two e h =
    ap (λ (b : Bool). if b then record a { role = with_variables (with_variables a.role one) two } ∷ S else record a { role = with_variables a.role one } ∷ set_variables S q two) e
    ∙ ap (λ r. record a { role = r } ∷ S) (with_twice a.role one two)
twice_if false a S q one two e h =
    let d : nat_eq q (length (set_variables S q one)) ≡ false = ap (λ n. nat_eq q n) (set_long S q one) ∙ e in
    ap (λ (b : Bool). if b then record a { role = with_variables a.role two } ∷ set_variables S q one else a ∷ set_variables (set_variables S q one) q two) d
    ∙ ap (λ T. a ∷ T) h

pub set_twice : (S : Activations) (q : ℕ) (one two : List ℕ) → set_variables (set_variables S q one) q two ≡ set_variables S q two
unfolding set_variables
set_twice [] q one two = refl
set_twice (a ∷ S) q one two = twice_if (nat_eq q (length S)) a S q one two refl (set_twice S q one two)

-- of a frame that stands, the variables are those that were set; and what they are already changes nothing

found_if : (b : Bool) (a f : Active) (S : Activations) (q : ℕ) (old new : List ℕ) → nat_eq q (length S) ≡ b → (if b then Some a else activation_at S q) ≡ Some f
    → f.role ≡ Frame old → (activation_at S q ≡ Some f → variables_of (activation_at (set_variables S q new) q) ≡ new)
    → variables_of (activation_at (if b then record a { role = with_variables a.role new } ∷ S else a ∷ set_variables S q new) q) ≡ new
unfolding activation_at variables_of variables_in with_variables
found_if true a f S q old new e at is h =
    ap (λ (b : Bool). variables_of (if b then Some (record a { role = with_variables a.role new }) else activation_at S q)) e
    ∙ ap (λ r. variables_in (with_variables r new)) (ap (λ (x : Active). x.role) (same_Some a f at) ∙ is)
found_if false a f S q old new e at is h =
    let d : nat_eq q (length (set_variables S q new)) ≡ false = ap (λ n. nat_eq q n) (set_long S q new) ∙ e in
    ap (λ (b : Bool). variables_of (if b then Some a else activation_at (set_variables S q new) q)) d ∙ h at

pub set_found : (S : Activations) (q : ℕ) (f : Active) (old new : List ℕ) → activation_at S q ≡ Some f → f.role ≡ Frame old
    → variables_of (activation_at (set_variables S q new) q) ≡ new
unfolding activation_at set_variables
set_found [] q f old new at is = absurd (none-some f at)
set_found (a ∷ S) q f old new at is = found_if (nat_eq q (length S)) a f S q old new refl at is (λ e. set_found S q f old new e is)

same_if : (b : Bool) (a f : Active) (S S' : Activations) (q : ℕ) (old : List ℕ) → (if b then Some a else activation_at S q) ≡ Some f → f.role ≡ Frame old
    → (activation_at S q ≡ Some f → S' ≡ S) → (if b then record a { role = with_variables a.role old } ∷ S else a ∷ S') ≡ a ∷ S
unfolding with_variables
same_if true a f S S' q old at is h =
    let e : a.role ≡ Frame old = ap (λ (x : Active). x.role) (same_Some a f at) ∙ is in
    ap (λ r. record a { role = r } ∷ S) (ap (λ r. with_variables r old) e ∙ sym e)
same_if false a f S S' q old at is h = ap (λ T. a ∷ T) (h at)

pub set_same : (S : Activations) (q : ℕ) (f : Active) (old : List ℕ) → activation_at S q ≡ Some f → f.role ≡ Frame old → set_variables S q old ≡ S
unfolding activation_at set_variables
set_same [] q f old at is = refl
set_same (a ∷ S) q f old at is = same_if (nat_eq q (length S)) a f S (set_variables S q old) q old at is (λ e. set_same S q f old e is)

-- the frame is there whatever the offset and the operands of the topmost activation are

there_if : (b : Bool) (a c f : Active) (S : Activations) (q : ℕ) (old : List ℕ) → c.role ≡ a.role → (if b then Some a else activation_at S q) ≡ Some f → f.role ≡ Frame old
    → (g : Active) × ((if b then Some c else activation_at S q) ≡ Some g) × (g.role ≡ Frame old)
there_if true a c f S q old r at is = (c, refl, r ∙ ap (λ (x : Active). x.role) (same_Some a f at) ∙ is)
there_if false a c f S q old r at is = (f, at, is)

pub placed_there : (a : Active) (S : Activations) (q offset : ℕ) (operands : List ℕ) (f : Active) (old : List ℕ) → activation_at (a ∷ S) q ≡ Some f → f.role ≡ Frame old
    → (g : Active) × (activation_at (placed a offset operands ∷ S) q ≡ Some g) × (g.role ≡ Frame old)
unfolding activation_at
placed_there a S q offset operands f old at is = there_if (nat_eq q (length S)) a (placed a offset operands) f S q old refl at is

-- the topmost activation with the others, when variables have been set
pub record Top (b : Active) (S : Activations) (q : ℕ) (now : List ℕ) : Type 0 where
  pub top : Active
  pub others : Activations
  pub is : set_variables (b ∷ S) q now ≡ top ∷ others
  pub own : own_frame top others ≡ q
  pub instance : top.instance ≡ b.instance
  pub procedure : top.procedure ≡ b.procedure
  pub offset : top.offset ≡ b.offset
  pub operands : top.operands ≡ b.operands
  pub further : (o : ℕ) (ops new : List ℕ) → set_variables (placed top o ops ∷ others) q new ≡ set_variables (placed b o ops ∷ S) q new

top_if : (t : Bool) (b : Active) (S : Activations) (q : ℕ) (now : List ℕ) → nat_eq q (length S) ≡ t → own_frame b S ≡ q → Top b S q now
unfolding set_variables own_frame
top_if true b S q now e own = record {
  top = record b { role = with_variables b.role now };
  others = S;
  is = ap (λ (t : Bool). if t then record b { role = with_variables b.role now } ∷ S else b ∷ set_variables S q now) e;
  own = owner_same b.role now (length S) ∙ own;
  instance = refl;
  procedure = refl;
  offset = refl;
  operands = refl;
  further = λ o ops new.
      ap (λ r. if nat_eq q (length S) then record (placed b o ops) { role = r } ∷ S else record (placed b o ops) { role = with_variables b.role now } ∷ set_variables S q new) (with_twice b.role now new)
      ∙ ap (λ (t : Bool). if t then record (placed b o ops) { role = with_variables b.role new } ∷ S else record (placed b o ops) { role = with_variables b.role now } ∷ set_variables S q new) e
      ∙ sym (ap (λ (t : Bool). if t then record (placed b o ops) { role = with_variables b.role new } ∷ S else placed b o ops ∷ set_variables S q new) e);
}
top_if false b S q now e own = record {
  top = b;
  others = set_variables S q now;
  is = ap (λ (t : Bool). if t then record b { role = with_variables b.role now } ∷ S else b ∷ set_variables S q now) e;
  own = ap (λ n. owner b.role n) (set_long S q now) ∙ own;
  instance = refl;
  procedure = refl;
  offset = refl;
  operands = refl;
  further = λ o ops new.
      let d : nat_eq q (length (set_variables S q now)) ≡ false = ap (λ n. nat_eq q n) (set_long S q now) ∙ e in
      ap (λ (t : Bool). if t then record (placed b o ops) { role = with_variables b.role new } ∷ set_variables S q now else placed b o ops ∷ set_variables (set_variables S q now) q new) d
      ∙ ap (λ T. placed b o ops ∷ T) (set_twice S q now new)
      ∙ sym (ap (λ (t : Bool). if t then record (placed b o ops) { role = with_variables b.role new } ∷ S else placed b o ops ∷ set_variables S q new) e);
}

pub top_of : (b : Active) (S : Activations) (now : List ℕ) → Top b S (own_frame b S) now
top_of b S now = top_if (nat_eq (own_frame b S) (length S)) b S (own_frame b S) now refl refl
