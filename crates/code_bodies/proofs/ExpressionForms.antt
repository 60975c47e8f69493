-- What variables, calls and raises of the code are in the plain twin.
use Rattle.std.proofs.Common.{◌≡◌, refl, sym, ap, ◌∙◌, ℕ, List, map}
use Rattle.mesa_base.specs.Chain.{chain}
use Rattle.mesa_types.specs.Plain.{expr, exprs, phrase, suffix}
use Rattle.mesa_types.specs.Typed as t
use Rattle.mesa_types.specs.declared.typed_parts.Callee.{Callee}
use Rattle.mesa_types.specs.declared.typed_parts.Home.{Home}
use Rattle.mesa_types.specs.declared.typed_parts.Raised.{Raised}
use Rattle.mesa_types.specs.declared.typed_tree.Phrase.{Phrase}
use Rattle.mesa_types.specs.declared.typed_tree.Suffix.{Suffix}
use Rattle.mesa_types.specs.declared.typed_tree.TypedExpr.{TypedExpr}
use Rattle.mesa_types.specs.declared.typed_tree.TypedExpr.TheVariants as v
use Rattle.mesa_types.specs.declared.typed_tree.Condition.TheFolds.{fold-roll-TypedExpr}

pub variable_is : (h : Home) (s : List Suffix) (words : ℕ) → expr (v.Variable h s words) ≡ t.Variable h (chain (map suffix s) t.NoSuffix) words
variable_is h s words = ap expr (sym (v.rolls-Variable h s words)) ∙ rw fold-roll-TypedExpr refl

pub call_is : (c : Callee) (places : List ℕ) (es : List TypedExpr) (words : ℕ) (p : Phrase)
    → expr (v.Call c places es words p) ≡ t.Call c places (exprs (map expr es)) words (phrase p)
call_is c places es words p = ap expr (sym (v.rolls-Call c places es words p)) ∙ rw fold-roll-TypedExpr refl

pub raise_is : (r : Raised) (places : List ℕ) (es : List TypedExpr) (words : ℕ) (p : Phrase)
    → expr (v.Raise r places es words p) ≡ t.Raise r places (exprs (map expr es)) words (phrase p)
raise_is r places es words p = ap expr (sym (v.rolls-Raise r places es words p)) ∙ rw fold-roll-TypedExpr refl
