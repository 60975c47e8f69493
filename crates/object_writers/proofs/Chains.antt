-- Parts that are written one behind the other: what the last call gives, whatever it answers.
use Rattle.std.proofs.Common.{◌≡◌, ℕ, List, ◌++◌, Result, ap, subst, ◌∙◌}
use Rattle.std.specs.Prelude.{OnOk}
use Rattle.std.proofs.lemmas.Result.{on_ok_weaker}
use Rattle.file_forms.specs.Written.{Written, appended}
use Rattle.file_forms.proofs.WrittenLaws.{appended_both}
use Rattle.object_writers.specs.Spelling.{spell_all, spell_list}

-- ---- the same list under another name

pub of_list : {A : Type 0} (s : A → List ℕ) (old new : Written) (xs ys : List A) → xs ≡ ys → new ≡ appended old (spell_list s xs) → new ≡ appended old (spell_list s ys)
of_list s old new xs ys e h = h ∙ ap (λ zs. appended old (spell_list s zs)) e

pub of_each : {A : Type 0} (s : A → List ℕ) (old new : Written) (xs ys : List A) → xs ≡ ys → new ≡ appended old (spell_all s xs) → new ≡ appended old (spell_all s ys)
of_each s old new xs ys e h = h ∙ ap (λ zs. appended old (spell_all s zs)) e

pub of_last : {T E A : Type 0} (r : Result T E) (s : A → List ℕ) (old new : Written) (xs ys : List A) → xs ≡ ys → OnOk r (new ≡ appended old (spell_list s xs)) → OnOk r (new ≡ appended old (spell_list s ys))
of_last r s old new xs ys e h = subst (λ zs. OnOk r (new ≡ appended old (spell_list s zs))) e h

-- ---- so many parts

three : (o0 o1 o2 o3 : Written) (a b c : List ℕ) → o1 ≡ appended o0 a → o2 ≡ appended o1 b → o3 ≡ appended o2 c → o3 ≡ appended o0 (a ++ (b ++ c))
three o0 o1 o2 o3 a b c p q r = appended_both o0 o1 o3 a (b ++ c) p (appended_both o1 o2 o3 b c q r)

five : (o0 o1 o2 o3 o4 o5 : Written) (a b c d e : List ℕ) → o1 ≡ appended o0 a → o2 ≡ appended o1 b → o3 ≡ appended o2 c → o4 ≡ appended o3 d → o5 ≡ appended o4 e
    → o5 ≡ appended o0 (a ++ (b ++ (c ++ (d ++ e))))
five o0 o1 o2 o3 o4 o5 a b c d e p q r s t =
    appended_both o0 o1 o5 a (b ++ (c ++ (d ++ e))) p (appended_both o1 o2 o5 b (c ++ (d ++ e)) q (three o2 o3 o4 o5 c d e r s t))

pub then_three : {T E : Type 0} (result : Result T E) (o0 o1 o2 o3 : Written) (a b c : List ℕ) → o1 ≡ appended o0 a → o2 ≡ appended o1 b → OnOk result (o3 ≡ appended o2 c)
    → OnOk result (o3 ≡ appended o0 (a ++ (b ++ c)))
then_three result o0 o1 o2 o3 a b c p q last = on_ok_weaker {P = o3 ≡ appended o2 c} result (λ r. three o0 o1 o2 o3 a b c p q r) last

pub then_five : {T E : Type 0} (result : Result T E) (o0 o1 o2 o3 o4 o5 : Written) (a b c d e : List ℕ) → o1 ≡ appended o0 a → o2 ≡ appended o1 b → o3 ≡ appended o2 c → o4 ≡ appended o3 d
    → OnOk result (o5 ≡ appended o4 e) → OnOk result (o5 ≡ appended o0 (a ++ (b ++ (c ++ (d ++ e)))))
then_five result o0 o1 o2 o3 o4 o5 a b c d e p q r s last = on_ok_weaker {P = o5 ≡ appended o4 e} result (λ t. five o0 o1 o2 o3 o4 o5 a b c d e p q r s t) last

pub then_six : {T E : Type 0} (result : Result T E) (o0 o1 o2 o3 o4 o5 o6 : Written) (a b c d e f : List ℕ) → o1 ≡ appended o0 a → o2 ≡ appended o1 b → o3 ≡ appended o2 c → o4 ≡ appended o3 d
    → o5 ≡ appended o4 e → OnOk result (o6 ≡ appended o5 f) → OnOk result (o6 ≡ appended o0 (a ++ (b ++ (c ++ (d ++ (e ++ f))))))
then_six result o0 o1 o2 o3 o4 o5 o6 a b c d e f p q r s t last =
    on_ok_weaker {P = o6 ≡ appended o5 f} result (λ u. appended_both o0 o1 o6 a (b ++ (c ++ (d ++ (e ++ f)))) p (five o1 o2 o3 o4 o5 o6 b c d e f q r s t u)) last

pub then_seven : {T E : Type 0} (result : Result T E) (o0 o1 o2 o3 o4 o5 o6 o7 : Written) (a b c d e f g : List ℕ) → o1 ≡ appended o0 a → o2 ≡ appended o1 b → o3 ≡ appended o2 c → o4 ≡ appended o3 d
    → o5 ≡ appended o4 e → o6 ≡ appended o5 f → OnOk result (o7 ≡ appended o6 g) → OnOk result (o7 ≡ appended o0 (a ++ (b ++ (c ++ (d ++ (e ++ (f ++ g)))))))
then_seven result o0 o1 o2 o3 o4 o5 o6 o7 a b c d e f g p q r s t u last =
    on_ok_weaker {P = o7 ≡ appended o6 g} result
    (λ v. appended_both o0 o1 o7 a (b ++ (c ++ (d ++ (e ++ (f ++ g))))) p (appended_both o1 o2 o7 b (c ++ (d ++ (e ++ (f ++ g)))) q (five o2 o3 o4 o5 o6 o7 c d e f g r s t u v))) last
