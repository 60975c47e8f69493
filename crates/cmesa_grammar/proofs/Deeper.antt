-- The parser of a level where something may nest, and of the one where nothing may.
use Rattle.std.proofs.Common.{◌≡◌, ℕ, suc, ◌-◌, ◌<◌, Bool, true, false, if◌then◌else◌, List, ap, sym, ◌∙◌, arith}
use Rattle.mesa_lexer.specs.declared.token.Token.{Token}
use Rattle.mesa_lexer.specs.declared.token.Kind.{Kind}
use Rattle.token_cursor.specs.Parsing.{Stop, TooDeep, refuse, too_deep}
use Rattle.token_cursor.specs.declared.fault.Stopped.{Stopped}
use Rattle.token_cursor.specs.declared.fault.Stopped.TheVariants as f
use Rattle.token_cursor.specs.Running.{next_is, why_of}
use Rattle.token_cursor.proofs.Choosing.{when_true, when_false}

pub deeper : {X : Type 0} (f : ℕ → X) (n : ℕ) → 0 < n → f n ≡ f (suc (n - 1))
deeper f n some = let e : n ≡ suc (n - 1) = omega arith in ap f e

stops : {A : Type 0} (begins : Kind → Bool) (ts : List Token) (b : Bool) → b ≡ next_is begins ts → too_deep {A = A} begins ts ≡ Stop (why_of (if b then f.TooDeep else f.Unexpected)) ts
unfolding too_deep
stops begins ts true e = when_true begins (λ ts. Stop TooDeep ts) refuse ts (sym e)
stops begins ts false e = when_false begins (λ ts. Stop TooDeep ts) refuse ts (sym e)

pub too_deep_by : {A : Type 0} (begins : Kind → Bool) (ts : List Token) (b : Bool) (why : Stopped) → b ≡ next_is begins ts → why ≡ (if b then f.TooDeep else f.Unexpected) → too_deep {A = A} begins ts ≡ Stop (why_of why) ts
too_deep_by begins ts b why e is = stops begins ts b e ∙ ap (λ why. Stop (why_of why) ts) (sym is)
