-- What follows for each form that has the laws: one value, one fault, never both.
use Rattle.std.proofs.Common.{◌≡◌, ℕ, List, sym, ap, ◌∙◌}
use Rattle.file_forms.specs.declared.stopped.Stopped.{Stopped}
use Rattle.file_forms.specs.Forms.{Form, Spells}
use Rattle.file_forms.specs.Lawful.{Lawful}
use Rattle.file_forms.proofs.Steps.{ok_is, err_is, never, read_spelled}

-- two values that bytes begin with are one, with one rest: so two values of one spelling are equal, and no spelling begins another
pub one_value : {A : Type 0} (f : Form A) → Lawful f → (a b : A) (bytes rest more : List ℕ) → Spells f a bytes rest → Spells f b bytes more → (a ≡ b) × (rest ≡ more)
one_value f law a b bytes rest more s t =
    let same = ok_is (a, rest) (b, more) (sym (read_spelled f law a bytes rest s) ∙ read_spelled f law b bytes more t) in
    (ap (λ p. p.0) same, ap (λ p. p.1) same)

-- there is one first fault
pub one_fault : {A : Type 0} (f : Form A) → Lawful f → (bytes : List ℕ) (a b : Stopped) → f.breaks bytes a → f.breaks bytes b → a ≡ b
one_fault {A} f law bytes a b s t = err_is {A = A × List ℕ} a b (sym (law.broken bytes a s) ∙ law.broken bytes b t)

-- no bytes that begin with a spelling have a fault
pub no_fault : {A : Type 0} (f : Form A) → Lawful f → (a : A) (bytes rest : List ℕ) (why : Stopped) → Spells f a bytes rest → f.breaks bytes why → ⊥
no_fault f law a bytes rest why s t = never (a, rest) why (sym (read_spelled f law a bytes rest s) ∙ law.broken bytes why t)
