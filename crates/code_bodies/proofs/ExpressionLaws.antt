-- The blocks of variables, calls and raises by those of their parts, where each part begins with its hidden words behind those before it.
use Rattle.std.proofs.Common.{◌≡◌, refl, sym, ap, ◌∙◌, ℕ, ◌+◌, List, map}
use Rattle.mesa_base.specs.Chain.{chain}
use Rattle.mesa_types.specs.Counts.{hidden_expr, hidden_exprs, hidden_suffixes, words_given, words_of}
use Rattle.mesa_types.specs.Plain.{expr, exprs, phrase, suffix}
use Rattle.mesa_types.specs.Typed as t
use Rattle.mesa_types.specs.declared.typed_parts.Callee.{Callee}
use Rattle.mesa_types.specs.declared.typed_parts.Home.{Home}
use Rattle.mesa_types.specs.declared.typed_parts.Raised.{Raised}
use Rattle.mesa_types.specs.declared.typed_tree.Phrase.{Phrase}
use Rattle.mesa_types.specs.declared.typed_tree.Suffix.{Suffix}
use Rattle.mesa_types.specs.declared.typed_tree.TypedExpr.{TypedExpr}
use Rattle.mesa_types.specs.declared.typed_tree.TypedExpr.TheVariants as v
use Rattle.code_forms.specs.declared.instruction.Instruction.{Instruction}
use Rattle.code_rules.specs.Links.{call_code, raise_code}
use Rattle.code_rules.specs.OwnCode.{arrange_code, total}
use Rattle.code_rules.specs.Reading.{Coded}
use Rattle.code_rules.specs.Slots.{sizes}
use Rattle.code_blocks.specs.Blocks.{ArmBlocks, Block, Both, Calls, Does}
use Rattle.code_blocks.specs.Translation as spec
use Rattle.code_bodies.proofs.ExpressionForms.{call_is, raise_is, variable_is}

abbrev value_of : Coded → (z : ℕ) → t.Expr → Block
value_of P z e = (spec.forms P z e).value

-- a variable

module _ (P : Coded) (z : ℕ) (x : TypedExpr) (h : Home) (s read : List Suffix) (words : ℕ) (is : x ≡ v.Variable h s words) (is_s : read ≡ s) where
  read_variable : expr x ≡ t.Variable h (chain (map suffix read) t.NoSuffix) words
  read_variable = ap expr is ∙ variable_is h s words ∙ ap (λ l. t.Variable h (chain (map suffix l) t.NoSuffix) words) (sym is_s)

  pub variable_form : value_of P z (expr x) ≡ value_of P z (t.Variable h (chain (map suffix read) t.NoSuffix) words)
  variable_form = ap (value_of P z) read_variable

  pub variable_hidden : hidden_expr (expr x) ≡ hidden_suffixes (chain (map suffix read) t.NoSuffix)
  unfolding hidden_expr
  variable_hidden = ap hidden_expr read_variable

-- lists of values

given_words : (es : t.Exprs) → total (sizes es) ≡ words_given es
unfolding words_given
given_words t.NoExprs = refl
given_words (t.AndExpr e es) = ap (λ n. words_of e + n) (given_words es)

-- a call or a raise of so many words behind the values that it takes
abbrev called_of : Coded → (z : ℕ) → t.Exprs → (places given : List ℕ) → Instruction → (puts : ℕ) → ArmBlocks → Block
called_of P z es places given call puts arms = Both (spec.values P z es) (Both (Does (arrange_code places given))
    (Calls call (total given) puts arms))

called_is : (P : Coded) (z after : ℕ) (es : t.Exprs) (places given : List ℕ) (call made : Instruction) (puts : ℕ) (ph : t.Phrase)
    → made ≡ call → given ≡ sizes es → after ≡ z + hidden_exprs es
    → Both (spec.values P z es) (Both (Does (arrange_code places (sizes es)))
    (Calls call (words_given es) puts (spec.caught_by P (z + hidden_exprs es) ph)))
    ≡ called_of P z es places given made puts (spec.caught_by P after ph)
called_is P z after es places given call made puts ph is_call is_given is_after =
    ap (λ n. Both (spec.values P z es) (Both (Does (arrange_code places (sizes es))) (Calls call n puts (spec.caught_by P (z + hidden_exprs es) ph))))
    (sym (given_words es))
    ∙ ap (λ l. called_of P z es places l call puts (spec.caught_by P (z + hidden_exprs es) ph)) (sym is_given)
    ∙ ap (λ c. called_of P z es places given c puts (spec.caught_by P (z + hidden_exprs es) ph)) (sym is_call)
    ∙ ap (λ n. called_of P z es places given made puts (spec.caught_by P n ph)) (sym is_after)

module _ (P : Coded) (z : ℕ) (x : TypedExpr) (places read_places : List ℕ) (es read : List TypedExpr) (words : ℕ) (p read_p : Phrase)
    (is_places : read_places ≡ places) (is_es : read ≡ es) (is_p : read_p ≡ p) where
  module _ (c : Callee) (is : x ≡ v.Call c places es words p) where
    read_call : expr x ≡ t.Call c read_places (exprs (map expr read)) words (phrase read_p)
    read_call =
        ap expr is ∙ call_is c places es words p
        ∙ ap (λ l. t.Call c l (exprs (map expr es)) words (phrase p)) (sym is_places)
        ∙ ap (λ l. t.Call c read_places (exprs (map expr l)) words (phrase p)) (sym is_es)
        ∙ ap (λ y. t.Call c read_places (exprs (map expr read)) words (phrase y)) (sym is_p)

    pub call_form : (given : List ℕ) (made : Instruction) (after : ℕ) → made ≡ call_code P.imports c → given ≡ sizes (exprs (map expr read))
        → after ≡ z + hidden_exprs (exprs (map expr read)) → value_of P z (expr x)
        ≡ Both (spec.values P z (exprs (map expr read))) (Both (Does (arrange_code read_places given))
        (Calls made (total given) words (spec.caught_by P after (phrase read_p))))
    call_form given made after is_call is_given is_after =
        ap (value_of P z) read_call ∙ called_is P z after (exprs (map expr read)) read_places given (call_code P.imports c) made words (phrase read_p)
        is_call is_given is_after

  module _ (c : Raised) (is : x ≡ v.Raise c places es words p) where
    read_raise : expr x ≡ t.Raise c read_places (exprs (map expr read)) words (phrase read_p)
    read_raise =
        ap expr is ∙ raise_is c places es words p
        ∙ ap (λ l. t.Raise c l (exprs (map expr es)) words (phrase p)) (sym is_places)
        ∙ ap (λ l. t.Raise c read_places (exprs (map expr l)) words (phrase p)) (sym is_es)
        ∙ ap (λ y. t.Raise c read_places (exprs (map expr read)) words (phrase y)) (sym is_p)

    pub raise_form : (given : List ℕ) (made : Instruction) (after : ℕ) → made ≡ raise_code P.imports c → given ≡ sizes (exprs (map expr read))
        → after ≡ z + hidden_exprs (exprs (map expr read)) → value_of P z (expr x)
        ≡ Both (spec.values P z (exprs (map expr read))) (Both (Does (arrange_code read_places given))
        (Calls made (total given) words (spec.caught_by P after (phrase read_p))))
    raise_form given made after is_call is_given is_after =
        ap (value_of P z) read_raise ∙ called_is P z after (exprs (map expr read)) read_places given (raise_code P.imports c) made words
        (phrase read_p) is_call is_given is_after
