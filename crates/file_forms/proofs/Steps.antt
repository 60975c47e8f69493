-- The steps of which readings are made, taken apart.
use Rattle.std.proofs.Common.{◌≡◌, ℕ, ◌≤◌, ◌⊎◌, inl, inr, Bool, true, false, cond, List, length, Result, Ok, Err, refl, ap, subst, ◌∙◌, arith}
use Rattle.std.proofs.lemmas.List.{length-append}
use Rattle.file_forms.specs.declared.stopped.Stopped.{Stopped}
use Rattle.file_forms.specs.Forms.{◌>>=◌, Form, Spells, AreBytes}
use Rattle.file_forms.specs.Lawful.{Lawful}
use Rattle.file_forms.proofs.Numbers.{bytes-behind}

pub bind_ok : {A B : Type 0} (r : Result A Stopped) (f : A → Result B Stopped) (y : B) → (r >>= f) ≡ Ok y → (x : A) × (r ≡ Ok x) × (f x ≡ Ok y)
bind_ok (Ok x) f y e = (x, refl, e)
bind_ok (Err d) f y e = absurd cc

pub bind_err : {A B : Type 0} (r : Result A Stopped) (f : A → Result B Stopped) (why : Stopped) → (r >>= f) ≡ Err why → (r ≡ Err why) ⊎ ((x : A) × (r ≡ Ok x) × (f x ≡ Err why))
bind_err (Ok x) f why e = inr (x, refl, e)
bind_err (Err d) f why e = inl cc

pub tested : {A : Type 0} (b : Bool) (x y z : A) → cond b x y ≡ z → ((b ≡ true) × (x ≡ z)) ⊎ ((b ≡ false) × (y ≡ z))
tested true x y z e = inl (refl, e)
tested false x y z e = inr (refl, e)

pub ok_is : {A : Type 0} (x y : A) → (let r : Result A Stopped = Ok x in r) ≡ Ok y → x ≡ y
ok_is x y e = cc

pub err_is : {A : Type 0} (x y : Stopped) → (let r : Result A Stopped = Err x in r) ≡ Err y → x ≡ y
err_is x y e = cc

pub never : {A P : Type 0} (x : A) (y : Stopped) → (let r : Result A Stopped = Ok x in r) ≡ Err y → P
never x y e = absurd cc

pub never_err : {A P : Type 0} (x : Stopped) (y : A) → (let r : Result A Stopped = Err x in r) ≡ Ok y → P
never_err x y e = absurd cc

pub spelled_behind : {A : Type 0} (f : Form A) (a : A) (bytes rest : List ℕ) → Spells f a bytes rest → AreBytes bytes → AreBytes rest
spelled_behind f a bytes rest s h = bytes-behind (f.spell a) rest (subst AreBytes s.text h)

pub shorter : {A : Type 0} (f : Form A) (a : A) (bytes rest : List ℕ) → Spells f a bytes rest → length rest ≤ length bytes
shorter f a bytes rest s = omega (arith, ap length s.text, length-append (f.spell a) rest)

pub read_spelled : {A : Type 0} (f : Form A) → Lawful f → (a : A) (bytes rest : List ℕ) → Spells f a bytes rest → f.read bytes ≡ Ok (a, rest)
read_spelled f law a bytes rest s = ap f.read s.text ∙ law.again a rest s.fits
