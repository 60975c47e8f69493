-- How far a state is from its end: the turns left come first, then the activations that stand, a start's frame counting twice, and last
-- how much code or how many activations lie ahead.
use Rattle.std.proofs.Common.{◌≡◌, ℕ, zero, suc, ◌+◌, ◌<◌, ◌≤◌, List, [], ◌∷◌, length, Bool, true, false, Some, refl, sym, ap, subst, arith}
use Rattle.std.specs.Prelude.{nat_eq, nat_le, if◌then◌else◌}
use Rattle.std.proofs.lemmas.Bool.{eqb-true, leb-true, le-leb, lt-leb}
use Rattle.std.proofs.lemmas.Option.{none-some, same_Some}
use Rattle.code_forms.specs.declared.instruction.Instruction.{Instruction}
use Rattle.code_forms.specs.declared.module_code.CodeEntry.{CodeEntry}
use Rattle.machine_rules.specs.State.{Role, Frame, InArm, Active, Activations}
use Rattle.machine_rules.specs.LookUps.{instruction_at}
use Rattle.machine_rules.specs.Activations.{activation_at, owner, with_variables, set_variables}

-- Each arm stands above its frame.

abbrev pub OwnedRole : Role (List ℕ) → ℕ → Type 0
OwnedRole (Frame variables) q = Unit {0}
OwnedRole (InArm own arm why) q = own < q

abbrev pub Owned : Activations → Type 0
Owned [] = Unit {0}
Owned (a ∷ S) = OwnedRole a.role (length S) × Owned S

pub owner_within : (role : Role (List ℕ)) (q : ℕ) → OwnedRole role q → owner role q ≤ q
unfolding owner
owner_within (Frame variables) q o = omega arith
owner_within (InArm own arm why) q o = omega (arith, o)

-- the activation at a place, and its frame's place
pub record Stands (S : Activations) (q : ℕ) (b : Active) : Type 0 where
  pub inside : q < length S
  pub owned : owner b.role q ≤ q

stands_if : (a : Active) (S : Activations) (q : ℕ) (b : Active) → OwnedRole a.role (length S)
    → (activation_at S q ≡ Some b → Stands S q b)
    → (t : Bool) → nat_eq q (length S) ≡ t → (if t then Some a else activation_at S q) ≡ Some b → Stands (a ∷ S) q b
stands_if a S q b o further true t e =
    let p : q ≡ length S = eqb-true q (length S) t in
    subst (λ c. Stands (a ∷ S) q c) (same_Some a b e) (record {
      inside = omega (arith, p);
      owned = let w = owner_within a.role (length S) o in rw p w;
    })
stands_if a S q b o further false t e = let s = further e in record { inside = let i = s.inside in omega (arith, i); owned = s.owned }

pub stands : (S : Activations) (q : ℕ) (b : Active) → Owned S → activation_at S q ≡ Some b → Stands S q b
unfolding activation_at
stands [] q b o e = absurd (none-some b e)
stands (a ∷ S) q b o e = stands_if a S q b o.0 (stands S q b o.1) (nat_eq q (length S)) refl e

-- Weights.

abbrev pub weight_of : Role (List ℕ) → (procedure : ℕ) → ℕ
weight_of (Frame variables) zero = 2
weight_of (Frame variables) (suc p) = 1
weight_of (InArm own arm why) p = 1

abbrev pub weight : Activations → ℕ
weight [] = 0
weight (a ∷ S) = weight_of a.role a.procedure + weight S

pub weight_some : (role : Role (List ℕ)) (p : ℕ) → 1 ≤ weight_of role p
weight_some (Frame variables) zero = omega arith
weight_some (Frame variables) (suc p) = omega arith
weight_some (InArm own arm why) p = omega arith

-- Setting variables changes none of this.

same_weight : (role : Role (List ℕ)) (new : List ℕ) (p : ℕ) → weight_of (with_variables role new) p ≡ weight_of role p
unfolding with_variables
same_weight (Frame old) new zero = refl
same_weight (Frame old) new (suc p) = refl
same_weight (InArm own arm why) new p = refl

same_owned : (role : Role (List ℕ)) (new : List ℕ) (q : ℕ) → OwnedRole role q → OwnedRole (with_variables role new) q
unfolding with_variables
same_owned (Frame old) new q o = tt
same_owned (InArm own arm why) new q o = o

pub record Alike (S S' : Activations) : Type 0 where
  pub long : length S' ≡ length S
  pub heavy : weight S' ≡ weight S
  pub owned : Owned S → Owned S'

alike_if : (b : Bool) (a : Active) (S S' : Activations) (new : List ℕ) → Alike S S'
    → Alike (a ∷ S) (if b then record a { role = with_variables a.role new } ∷ S else a ∷ S')
alike_if true a S S' new h = record {
  long = refl;
  heavy = ap (λ w. w + weight S) (same_weight a.role new a.procedure);
  owned = λ o. (same_owned a.role new (length S) o.0, o.1);
}
alike_if false a S S' new h = record {
  long = ap suc h.long;
  heavy = ap (λ w. weight_of a.role a.procedure + w) h.heavy;
  owned = λ o. (subst (λ n. OwnedRole a.role n) (sym h.long) o.0, h.owned o.1);
}

pub set_alike : (S : Activations) (q : ℕ) (new : List ℕ) → Alike S (set_variables S q new)
unfolding set_variables
set_alike [] q new = record { long = refl; heavy = refl; owned = λ o. o }
set_alike (a ∷ S) q new = alike_if (nat_eq q (length S)) a S (set_variables S q new) new (set_alike S q new)

-- Code that lies ahead.

abbrev pub one_if : Bool → ℕ
one_if true = 1
one_if false = 0

-- the instructions from an offset on
abbrev pub ahead : List CodeEntry → ℕ → ℕ
ahead [] offset = 0
ahead (e ∷ code) offset = one_if (nat_le offset e.at) + ahead code offset

fewer_if : (at o o' : ℕ) → o ≤ o' → (b : Bool) → nat_le o' at ≡ b → one_if b ≤ one_if (nat_le o at)
fewer_if at o o' l true e = let h : o ≤ at = (let k = leb-true o' at e in omega (arith, k, l)) in rw (le-leb o at h) (omega arith)
fewer_if at o o' l false e = omega arith

fewer_here : (at o o' : ℕ) → o ≤ o' → one_if (nat_le o' at) ≤ one_if (nat_le o at)
fewer_here at o o' l = fewer_if at o o' l (nat_le o' at) refl

pub ahead_fewer : (code : List CodeEntry) (o o' : ℕ) → o ≤ o' → ahead code o' ≤ ahead code o
ahead_fewer [] o o' l = omega arith
ahead_fewer (e ∷ code) o o' l = let h = fewer_here e.at o o' l in let r = ahead_fewer code o o' l in omega (arith, h, r)

gone_here : (at o o' : ℕ) → at ≡ o → o < o' → one_if (nat_le o' at) + 1 ≤ one_if (nat_le o at)
gone_here at o o' e l = rw (le-leb o at (omega (arith, e)), lt-leb o' at (omega (arith, e, l))) (omega arith)

ahead_if : (e : CodeEntry) (code : List CodeEntry) (o o' : ℕ) (i : Instruction) → o < o'
    → (instruction_at code o ≡ Some i → ahead code o' < ahead code o)
    → (b : Bool) → nat_eq e.at o ≡ b → (if b then Some e.instruction else instruction_at code o) ≡ Some i → ahead (e ∷ code) o' < ahead (e ∷ code) o
ahead_if e code o o' i l further true b is =
    let g = gone_here e.at o o' (eqb-true e.at o b) l in let r = ahead_fewer code o o' (omega (arith, l)) in omega (arith, g, r)
ahead_if e code o o' i l further false b is = let f = further is in let h = fewer_here e.at o o' (omega (arith, l)) in omega (arith, f, h)

-- past an instruction there is less
pub ahead_less : (code : List CodeEntry) (o o' : ℕ) (i : Instruction) → o < o' → instruction_at code o ≡ Some i → ahead code o' < ahead code o
unfolding instruction_at
ahead_less [] o o' i l e = absurd (none-some i e)
ahead_less (e ∷ code) o o' i l is = ahead_if e code o o' i l (ahead_less code o o' i l) (nat_eq e.at o) refl is

one_most : (b : Bool) → one_if b ≤ 1
one_most true = omega arith
one_most false = omega arith

pub ahead_most : (code : List CodeEntry) (o : ℕ) → ahead code o ≤ length code
ahead_most [] o = omega arith
ahead_most (e ∷ code) o = let r = ahead_most code o in let h = one_most (nat_le o e.at) in omega (arith, r, h)
