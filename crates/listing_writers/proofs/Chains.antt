-- Texts that are written one behind the other: what the last call gives, whatever it answers.
use Rattle.std.proofs.Common.{◌≡◌, ℕ, List, ◌++◌, Result, ap, ◌∙◌, append_assoc}
use Rattle.std.specs.Prelude.{OnOk}
use Rattle.std.proofs.lemmas.Result.{on_ok_weaker}

pub both : (o0 o1 o2 : List ℕ) (a b : List ℕ) → o1 ≡ o0 ++ a → o2 ≡ o1 ++ b → o2 ≡ o0 ++ (a ++ b)
both o0 o1 o2 a b p q = q ∙ ap (λ (t : List ℕ). t ++ b) p ∙ append_assoc o0 a b

pub three : (o0 o1 o2 o3 : List ℕ) (a b c : List ℕ) → o1 ≡ o0 ++ a → o2 ≡ o1 ++ b → o3 ≡ o2 ++ c → o3 ≡ o0 ++ (a ++ (b ++ c))
three o0 o1 o2 o3 a b c p q r = both o0 o1 o3 a (b ++ c) p (both o1 o2 o3 b c q r)

four : (o0 o1 o2 o3 o4 : List ℕ) (a b c d : List ℕ) → o1 ≡ o0 ++ a → o2 ≡ o1 ++ b → o3 ≡ o2 ++ c → o4 ≡ o3 ++ d → o4 ≡ o0 ++ (a ++ (b ++ (c ++ d)))
four o0 o1 o2 o3 o4 a b c d p q r s = both o0 o1 o4 a (b ++ (c ++ d)) p (three o1 o2 o3 o4 b c d q r s)

pub then_two : {T E : Type 0} (result : Result T E) (o0 o1 o2 : List ℕ) (a b : List ℕ) → o1 ≡ o0 ++ a → OnOk result (o2 ≡ o1 ++ b) → OnOk result (o2 ≡ o0 ++ (a ++ b))
then_two result o0 o1 o2 a b p last = on_ok_weaker {P = o2 ≡ o1 ++ b} result (λ q. both o0 o1 o2 a b p q) last

pub then_three : {T E : Type 0} (result : Result T E) (o0 o1 o2 o3 : List ℕ) (a b c : List ℕ) → o1 ≡ o0 ++ a → o2 ≡ o1 ++ b → OnOk result (o3 ≡ o2 ++ c)
    → OnOk result (o3 ≡ o0 ++ (a ++ (b ++ c)))
then_three result o0 o1 o2 o3 a b c p q last = on_ok_weaker {P = o3 ≡ o2 ++ c} result (λ r. three o0 o1 o2 o3 a b c p q r) last

pub then_four : {T E : Type 0} (result : Result T E) (o0 o1 o2 o3 o4 : List ℕ) (a b c d : List ℕ) → o1 ≡ o0 ++ a → o2 ≡ o1 ++ b → o3 ≡ o2 ++ c → OnOk result (o4 ≡ o3 ++ d)
    → OnOk result (o4 ≡ o0 ++ (a ++ (b ++ (c ++ d))))
then_four result o0 o1 o2 o3 o4 a b c d p q r last = on_ok_weaker {P = o4 ≡ o3 ++ d} result (λ s. four o0 o1 o2 o3 o4 a b c d p q r s) last

pub then_five : {T E : Type 0} (result : Result T E) (o0 o1 o2 o3 o4 o5 : List ℕ) (a b c d e : List ℕ) → o1 ≡ o0 ++ a → o2 ≡ o1 ++ b → o3 ≡ o2 ++ c → o4 ≡ o3 ++ d
    → OnOk result (o5 ≡ o4 ++ e) → OnOk result (o5 ≡ o0 ++ (a ++ (b ++ (c ++ (d ++ e)))))
then_five result o0 o1 o2 o3 o4 o5 a b c d e p q r s last =
    on_ok_weaker {P = o5 ≡ o4 ++ e} result (λ t. both o0 o1 o5 a (b ++ (c ++ (d ++ e))) p (four o1 o2 o3 o4 o5 b c d e q r s t)) last

-- ---- the same text under another name

pub same_text : {T E : Type 0} (r : Result T E) (old new : List ℕ) (a b : List ℕ) → a ≡ b → OnOk r (new ≡ old ++ a) → OnOk r (new ≡ old ++ b)
same_text r old new a b e h = on_ok_weaker {P = new ≡ old ++ a} r (λ k. k ∙ ap (λ (t : List ℕ). old ++ t) e) h

-- the text of a value, given that of another one
pub of_value : {A : Type 0} (f : A → List ℕ) (old new : List ℕ) (x y : A) → x ≡ y → new ≡ old ++ f x → new ≡ old ++ f y
of_value {A = A} f old new x y e h = h ∙ ap (λ (z : A). old ++ f z) e

pub of_last : {T E A : Type 0} (r : Result T E) (f : A → List ℕ) (old new : List ℕ) (x y : A) → x ≡ y → OnOk r (new ≡ old ++ f x) → OnOk r (new ≡ old ++ f y)
of_last {A = A} r f old new x y e h = on_ok_weaker {P = new ≡ old ++ f x} r (λ k. of_value f old new x y e k) h
